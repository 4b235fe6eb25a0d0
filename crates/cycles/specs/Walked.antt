-- How lent rows hold a walk, and what the parts of the search leave.
use Rattle.std.specs.Prelude.{ℕ, zero, suc, ◌+◌, ◌*◌, ◌-◌, ◌<◌, ◌≤◌, ◌≡◌, Bool, true, false, ◌||◌, List, [], eqb, ltb, length, get_or}
use Rattle.bit_row.specs.Row.{bit_at}
use Rattle.graph_access.specs.Words.{tabulate}
use Rattle.keep_record.specs.Lines.{elem}
use Rattle.entry_order.specs.Order.{those}
use Rattle.entry_order.specs.Plan.{Untouched}
use Rattle.cycles.specs.Search.{Search}
use Rattle.cycles.specs.Memory.{last_first}

-- the rows of successors (of `Stored`, what a walk needs)
pub record Forward (modules cap : ℕ) (outs succs : List ℕ) : Type 0 where
  pub few : modules ≤ 1024
  pub cap_few : cap ≤ 1024
  pub outs_long : modules ≤ length outs
  pub succs_long : modules * cap ≤ length succs
  pub rows_fit : (u : ℕ) → u < modules → get_or outs u 0 ≤ cap + 1
  pub succ_below : (u k : ℕ) → u < modules → k < get_or outs u 0 - 1 → get_or succs (u * cap + k) 0 < modules

-- the predecessors of a node, by the bits of the edges
unfoldable pub preds_in : ℕ → List ℕ → ℕ → List ℕ
preds_in modules edges v =
    elim (ltb v modules) [ true ↦ those (λ u. bit_at edges (v * modules + u)) (tabulate (λ u. u) 0 modules) | false ↦ [] ]

-- the first of them from `from` on, or `modules`
pub record NextSource (modules : ℕ) (edges : List ℕ) (t from r : ℕ) : Type 0 where
  pub after : from ≤ r
  pub inside : r ≤ modules
  pub passed : (u : ℕ) → from ≤ u → u < r → bit_at edges (t * modules + u) ≡ false
  pub found : r < modules → bit_at edges (t * modules + r) ≡ true

-- a bit for each node that was entered; the first c words of `order` are the completed ones
unfoldable pub search_of : List ℕ → List ℕ → ℕ → Search
search_of seen order c = record { seen = bit_at seen; done = last_first c order }

-- how many numbers below k are not in the set
unfoldable pub fresh : ℕ → (ℕ → Bool) → ℕ
fresh zero f = 0
fresh (suc k) f = elim (f k) [ true ↦ fresh k f | false ↦ suc (fresh k f) ]

-- the rows have room for each node that was not entered
pub record Room (modules : ℕ) (seen order : List ℕ) (c : ℕ) : Type 0 where
  pub wide : modules ≤ 8 * length seen
  pub long : modules ≤ length order
  pub left : c + fresh modules (bit_at seen) ≤ modules

-- the rows hold what a walk leads to, and no more was completed than newly entered
pub record Walked (out : Search) (modules : ℕ) (seen₀ : List ℕ) (c₀ : ℕ) (seen order : List ℕ) (c : ℕ) : Type 0 where
  pub is : search_of seen order c ≡ out
  pub left : c + fresh modules (bit_at seen) ≤ c₀ + fresh modules (bit_at seen₀)

-- the words from `at` on of the listed modules became 1, and nothing else was written
pub record Marked (xs : List ℕ) (modules at : ℕ) (plan₀ plan : List ℕ) : Type 0 where
  pub set : (m : ℕ) → m < modules → eqb (get_or plan (at + m) 0) 1 ≡ (elem m xs || eqb (get_or plan₀ (at + m) 0) 1)
  pub others : Untouched at (at + modules) plan₀ plan
