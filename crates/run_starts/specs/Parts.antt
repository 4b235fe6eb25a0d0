-- What the parts of the operation take and leave.
use Rattle.std.specs.Prelude.{ℕ, ◌*◌, ◌<◌, ◌≤◌, ◌≡◌, List, ◌++◌, length, drop}
use Rattle.facts.specs.graph_crate.Check.{Graph}
use Rattle.facts.specs.Facts.{Good}
use Rattle.keep_record.specs.Held.{line_at, lines_of}
use Rattle.tree_shaking.specs.declared.Reached.{Reached}
use Rattle.run_rows.specs.Run.{run_of}
use Rattle.run_parts.specs.Parts.{Leaves}
use Rattle.own_starts.specs.Once.{triples}
use Rattle.run_starts.specs.Operation.{own_starts_once}
use Rattle.std.specs.Prelude.{Result, Ok, Err}
use Rattle.facts.specs.refusal_crate.declared.Refusal.{Refusal}
use Rattle.facts.specs.refusal_crate.declared.Refusal.TheVariants.{NoRoom}

-- what the main part leaves in record and plan, and what it has reached
pub record MainReached (g : Graph) (row plan : List ℕ) (x : Reached) : Type 0 where
  pub leaves : Leaves g plan x.users
  pub main_lines : lines_of x.main row ≡ (run_of g).main
  pub taken_are : x.taken ≡ (run_of g).taken
  pub taken_inside : x.taken ≤ x.main
  pub room : 6 * x.main ≤ length row
  pub good : (k : ℕ) → k < x.main → Good g (line_at row k).fact

-- the starts are given, or there is no room for them and nothing is written
pub record Given (g : Graph) (out₀ out : List ℕ) (r : Result ℕ Refusal) : Type 0 where
  pub given : (n : ℕ) → r ≡ Ok n → (n ≡ 3 * length (own_starts_once g)) × (n ≤ length out₀) × (out ≡ triples (own_starts_once g) ++ drop n out₀)
  pub refused : (why : Refusal) → r ≡ Err why → (why ≡ NoRoom) × (length out₀ < 3 * length (own_starts_once g)) × (out ≡ out₀)
