-- The loop that settles which modules' side effects are included on demand, and how many entries there are.
use Prim.Native.Nat.{ℕ, ◌+◌, ◌<◌, ◌≤◌}
use mathlib.Core.Path.{◌≡◌, ap, ◌∙◌}
use mathlib.Core.List.{List}
use native.Mathlib.Decide.{ℕ_discrete}
use native.Mathlib.Omega.{arith}
use borrow.Author.Tests.{eq-eqb, ne_eqb}
use lib.ListN.{length, get_or, set}
use Rattle.determine_side_effects.proofs.rows_crate.Items.{many-length}
use Rattle.determine_side_effects.specs.graph_format_crate.Format.{entries_at}
use Rattle.determine_side_effects.specs.graph_tables_crate.Tables.{header_in, entries_read}
use Rattle.determine_side_effects.specs.graph_tables_crate.Places.{EntryTable}
use Rattle.determine_side_effects.specs.graph_crate.Check.{Graph, graph_in}
use Rattle.determine_side_effects.proofs.facts_crate.Folds.{set_here, set_there}
use Rattle.on_demand.specs.Demand.{user_entry, on_demand}
use Rattle.on_demand.specs.Tabled.{one}

pub entries_long : (numbers table : List ℕ) → EntryTable numbers table → length (graph_in numbers).entries ≡ (header_in numbers).entries
unfolding entries_read entries_at graph_in
entries_long numbers table t = many-length _ _ _ _ _ t.read

-- the first m modules are settled, the others still have the mark of their entry
pub record Halfway (g : Graph) (v : List ℕ) (m : ℕ) (j x : ℕ) : Type 0 where
  pub done : j < m → x ≡ one (on_demand g v j)
  pub still : m ≤ j → x ≡ one (user_entry g j)

pub half_start : (g : Graph) (v : List ℕ) (j x : ℕ) → x ≡ one (user_entry g j) → Halfway g v 0 j x
half_start g v j x e = record { done = λ l. absurd (omega arith); still = λ l. e }

pub half_step : (g : Graph) (v : List ℕ) (m j r : ℕ) (table : List ℕ) → m < length table → r ≡ one (on_demand g v m) → Halfway g v m j (get_or table j 0) → Halfway g v (m + 1) j (get_or (set table m r) j 0)
half_step g v m j r table l e u = go (ℕ_discrete m j)
  where
    go : Dec (m ≡ j) → Halfway g v (m + 1) j (get_or (set table m r) j 0)
    go (yes i) = record { done = λ k. set_here table m r j l (eq-eqb m j i) ∙ e ∙ ap (λ n. one (on_demand g v n)) i; still = λ k. absurd (omega (arith, i, k)) }
    go (no d) =
        let s = set_there table m r j (ne_eqb m j d) in
        record { done = λ k. s ∙ u.done (omega (arith, d, k)); still = λ k. s ∙ u.still (omega (arith, k)) }
