-- Whether a run may begin, by the ends.
use Prim.Native.Nat.{ℕ, ◌<◌, ◌≤◌}
use mathlib.Core.Path.{◌≡◌, ap, ◌∙◌, sym}
use mathlib.Core.Bool.{Bool, true, false}
use mathlib.Core.List.{List}
use native.Mathlib.Omega.{arith}
use borrow.Author.Tests.{lt-leb, le-leb}
use lib.Dec.{leb}
use Rattle.bit_row.specs.Row.{bytes_for}
use Rattle.determine_side_effects.specs.graph_crate.Check.{Graph, graph_in, check_of, answer_of}
use Rattle.determine_side_effects.proofs.graph_crate.Checking.{once_refused}
use Rattle.determine_side_effects.specs.facts_crate.Facts.{mark_count}
use Rattle.keep_rules.specs.Prepared.{Prepared}
use Rattle.answer_rows.specs.declared.Lengths.{Lengths as SixLengths}
use Rattle.answer_rows.specs.Shown.{rows_enough}
use Rattle.answer_rows.specs.Tabled.{FirstBytes}
use Rattle.rule_tables.proofs.Readying.{by_refusal, by_graph}
use Rattle.dead_records.specs.Dead.{record_count}
use Rattle.run_rows.specs.Run.{run_of}
use Rattle.run_parts.specs.declared.Lengths.{Lengths}
use Rattle.run_parts.specs.Operation.{Rooms, before, worked, enough, outcome_in, outcome_of}
use Rattle.run_parts.specs.Parts.{room_for, MayBegin}
use Rattle.std.specs.Prelude.{Ok, Err}
use Rattle.determine_side_effects.specs.refusal_crate.declared.Refusal.{Refusal}
use Rattle.determine_side_effects.specs.refusal_crate.declared.Refusal.TheVariants.{NoRoom}

-- the lengths of the six rows that a drain has too
abbrev six_of : Lengths → SixLengths
six_of l = record { modules = l.modules; statements = l.statements; used = l.used; external = l.external; json = l.json; reason = l.reason }

-- the lengths are enough, or one of them is not, in the order in which they are compared
module _ (g : Graph) (l : Lengths) {k b : ℕ} (i : k ≡ mark_count g) (j : b ≡ bytes_for k) where
  bytes_are : b ≡ bytes_for (mark_count g)
  bytes_are = j ∙ ap bytes_for i

  pub marks_short : l.marks < b → (lines : ℕ) → false ≡ enough g (room_for lines l)
  unfolding enough
  marks_short h lines = let e : l.marks < bytes_for (mark_count g) = omega (arith, h, bytes_are) in rw (lt-leb (bytes_for (mark_count g)) l.marks e)

  module _ (h : b ≤ l.marks) {r : Bool} (o : r ≡ rows_enough g (six_of l)) where
    marks_fit : leb (bytes_for (mark_count g)) l.marks ≡ true
    marks_fit = le-leb (bytes_for (mark_count g)) l.marks (omega (arith, h, bytes_are))

    pub rows_short : r ≡ false → (lines : ℕ) → false ≡ enough g (room_for lines l)
    unfolding enough
    rows_short e lines = rw (marks_fit, sym o ∙ e)

    module _ (t : r ≡ true) {w d : ℕ} (p : w ≡ record_count g) (q : d ≡ bytes_for w) where
      dead_are : d ≡ bytes_for (record_count g)
      dead_are = q ∙ ap bytes_for p

      pub dead-short : l.dead < d → (lines : ℕ) → false ≡ enough g (room_for lines l)
      unfolding enough
      dead-short h lines =
          let e : l.dead < bytes_for (record_count g) = omega (arith, h, dead_are) in
          rw (marks_fit, sym o ∙ t, lt-leb (bytes_for (record_count g)) l.dead e)

      module _ (f : d ≤ l.dead) {m n : ℕ} (m-is : m ≡ g.header.modules) (n-is : n ≡ g.header.entries) where
        dead_fit : leb (bytes_for (record_count g)) l.dead ≡ true
        dead_fit = le-leb (bytes_for (record_count g)) l.dead (omega (arith, f, dead_are))

        pub helpers-short : l.helpers < m → (lines : ℕ) → false ≡ enough g (room_for lines l)
        unfolding enough
        helpers-short h lines =
            let e : l.helpers < g.header.modules = omega (arith, h, m-is) in
            rw (marks_fit, sym o ∙ t, dead_fit, lt-leb g.header.modules l.helpers e)

        pub entries-left : m ≤ l.helpers → (lines : ℕ) → leb n l.entries ≡ enough g (room_for lines l)
        unfolding enough
        entries-left h lines =
            let e : g.header.modules ≤ l.helpers = omega (arith, h, m-is) in
            rw (marks_fit, sym o ∙ t, dead_fit, le-leb g.header.modules l.helpers e, n-is)

-- the outcome over an accepted graph
module _ (g : Graph) (room : Rooms) where
  pub outcome_short : enough g room ≡ false → outcome_in g room ≡ before NoRoom
  unfolding outcome_in
  outcome_short e = rw (e, outcome_in)

  pub outcome_work : enough g room ≡ true → outcome_in g room ≡ worked g (run_of g) room.lines
  unfolding outcome_in
  outcome_work e = rw (e, outcome_in)

-- the outcome by the check's answer
module _ (numbers : List ℕ) (room : Rooms) where
  pub outcome_refused : {why : Refusal} → answer_of (check_of numbers) ≡ Err why → outcome_of numbers room ≡ before why
  unfolding outcome_of
  outcome_refused e = by_refusal numbers (λ g. outcome_in g room) before e

  pub outcome_accepted : answer_of (check_of numbers) ≡ Ok tt → outcome_of numbers room ≡ outcome_in (graph_in numbers) room
  unfolding outcome_of
  outcome_accepted e = by_graph numbers (λ g. outcome_in g room) before e

module _ (numbers : List ℕ) (lengths : Lengths) (tables : List ℕ) where
  begins_refused : (why : Refusal) → ((lines : ℕ) → outcome_of numbers (room_for lines lengths) ≡ before why) → MayBegin numbers lengths tables (Err why)
  begins_refused why e =
      record {
        refused = λ w q lines. let b : before why ≡ before w = cc in e lines ∙ b;
        good = λ q. (once_refused _).known q;
        fits = λ q lines. absurd ((once_refused ⊥).known q);
        goes = λ q lines. absurd ((once_refused ⊥).known q);
      }

  pub begins_rejected : {why : Refusal} → answer_of (check_of numbers) ≡ Err why → MayBegin numbers lengths tables (Err why)
  begins_rejected {why} e = begins_refused why (λ lines. outcome_refused numbers (room_for lines lengths) e)

  module _ (a : answer_of (check_of numbers) ≡ Ok tt) {r : Bool} (o : (lines : ℕ) → r ≡ enough (graph_in numbers) (room_for lines lengths)) where
    pub begins-short : r ≡ false → MayBegin numbers lengths tables (Err NoRoom)
    begins-short e = begins_refused NoRoom (λ lines. outcome_accepted numbers (room_for lines lengths) a ∙ outcome_short (graph_in numbers) (room_for lines lengths) (sym (o lines) ∙ e))

    pub begins-good : r ≡ true → Prepared numbers tables × FirstBytes numbers tables → MayBegin numbers lengths tables (Ok tt)
    begins-good e p =
        record {
          refused = λ w k lines. absurd ((once_refused ⊥).known (sym k));
          good = λ k. p;
          fits = λ k lines. sym (o lines) ∙ e;
          goes = λ k lines. outcome_accepted numbers (room_for lines lengths) a ∙ outcome_work (graph_in numbers) (room_for lines lengths) (sym (o lines) ∙ e);
        }
