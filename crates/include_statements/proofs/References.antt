-- The references of a statement, one after another: where each stands, and the lines of those from reference j on.
use Prim.Native.Nat.{ℕ, suc, ◌+◌, ◌<◌, ◌≤◌}
use mathlib.Core.Path.{◌≡◌, subst}
use mathlib.Core.List.{List, [], ◌∷◌, map}
use native.Mathlib.Numerals.{add-one}
use native.Mathlib.Omega.{arith}
use lib.Seq.{drop-cons}
use lib.ListN.{length, get_or, drop, drop_of_length-le}
use Rattle.determine_side_effects.specs.graph_tables_crate.Tables.{header_in}
use Rattle.determine_side_effects.specs.graph_crate.Check.{Graph, graph_in}
use Rattle.determine_side_effects.specs.graph_access_crate.Names.{references}
use Rattle.determine_side_effects.specs.graph_access_crate.Words.{statement_list, statement_of}
use Rattle.determine_side_effects.specs.graph_access_crate.References.{reference_width, ReferenceAt, ReferencesAt}
use Rattle.include_statement.specs.Here.{Here}
use Rattle.keep_rules.specs.Rules.{reference_segment}
use Rattle.keep_record.specs.declared.Line.{Line}
use Rattle.keep_record.specs.Lines.{adds}
use Rattle.keep_record.specs.Held.{lines_of, Grown}
use Rattle.include_statements.specs.Following.{lines_by}
use Rattle.include_statements.proofs.Going.{Going, go_done}
use Rattle.include_statements.proofs.Segments.{segments_next, segments_full, no_lines}
use Rattle.std.specs.Prelude.{Result, Ok}
use Rattle.keep_record.specs.declared.Full.{Full}
use Rattle.keep_record.specs.Held.{no_room}

module _ (numbers : List ℕ) (m i j n place : ℕ) (size : n ≡ length (references (statement_of (graph_in numbers) m i))) (l : j < n)
    (r : ReferencesAt numbers place (drop j (references (statement_of (graph_in numbers) m i)))) where
  inside : j < length (references (statement_of (graph_in numbers) m i))
  inside = omega (arith, size, l)

  stand : ReferenceAt numbers place (get_or (references (statement_of (graph_in numbers) m i)) j []) × ReferencesAt numbers (place + reference_width numbers place) (drop (suc j) (references (statement_of (graph_in numbers) m i)))
  stand = subst (λ x. ReferencesAt numbers place x) (drop-cons (references (statement_of (graph_in numbers) m i)) j [] inside) r

  pub stands_here : m < (header_in numbers).modules → i < length (statement_list (graph_in numbers) m) → Here numbers m i j place
  unfolding graph_in
  stands_here h g = record { module_inside = h; statement_inside = g; reference_inside = inside; stands = stand.0 }

  pub width_inside : place + reference_width numbers place ≤ length numbers
  width_inside = stand.0.inside

  pub stand_next : (w : ℕ) → w ≡ reference_width numbers place → ReferencesAt numbers (place + w) (drop (j + 1) (references (statement_of (graph_in numbers) m i)))
  stand_next w e = rw (add-one j, e) stand.1

-- the turns of the loop over references
module _ (g : Graph) (base k x : ℕ) (rows : List (List ℕ)) (out : List Line) (count : ℕ) (marks row : List ℕ) (t j n : ℕ) (size : n ≡ length rows)
    (go : Going g base out (lines_by k (map (reference_segment g x) (drop j rows))) count marks row t) where
  module _ (l : j < n) (marks' row' : List ℕ) where
    opened : Going g base out (lines_by k (reference_segment g x (get_or rows j []) ∷ map (reference_segment g x) (drop (suc j) rows))) count marks row t
    opened = let b : j < length rows = omega (arith, size, l) in rw (drop-cons rows j [] b) at go

    pub references-next : (d : ℕ) (r : Result ℕ Full) → r ≡ Ok d → Grown g base (adds g base (lines_of t row) (lines_by k (reference_segment g x (get_or rows j []) ∷ []))) marks' row' r
        → Going g base out (lines_by k (map (reference_segment g x) (drop (j + 1) rows))) count marks' row' d
    references-next d r told w = rw (add-one j) (segments_next g base k _ _ out count marks row t opened marks' row' d r told w)

    pub references-full : (r : Result ℕ Full) → r ≡ no_room → Grown g base (adds g base (lines_of t row) (lines_by k (reference_segment g x (get_or rows j []) ∷ []))) marks' row' r → Grown g base out marks' row' no_room
    references-full r told w = segments_full g base k _ _ out count marks row t opened marks' row' r told w

  pub references_done : n ≤ j → Grown g base out marks row (Ok t)
  references_done l = let b : length rows ≤ j = omega (arith, size, l) in go_done g base out count marks row t (rw (drop_of_length-le rows b, no_lines k) at go)
