-- What the finding of cycles leaves in the lent rows.
use Rattle.std.specs.Prelude.{ℕ, zero, suc, ◌+◌, ◌<◌, ◌≤◌, ◌≡◌, List, [], ◌∷◌, eqb, get_or}
use Rattle.keep_record.specs.Lines.{elem}
use Rattle.entry_order.specs.Plan.{Untouched}
use Rattle.cycles.specs.Search.{finished}
use Rattle.cycles.specs.Cycles.{cycled}

-- the first c of a row, the last of them first
unfoldable pub last_first : ℕ → List ℕ → List ℕ
last_first zero xs = []
last_first (suc c) xs = get_or xs c 0 ∷ last_first c xs

-- `order` has the nodes as they were completed; the word of a module, from `at` on, is 1 if it is on a cycle, and no other word was written
pub record Found (g : ℕ → List ℕ) (n : ℕ) (roots : List ℕ) (at : ℕ) (plan₀ order plan : List ℕ) (count : ℕ) : Type 0 where
  pub count_few : count ≤ n
  pub completed : last_first count order ≡ finished g n roots
  pub cycles : (m : ℕ) → m < n → eqb (get_or plan (at + m) 0) 1 ≡ elem m (cycled g n roots)
  pub others : Untouched at (at + n) plan₀ plan
