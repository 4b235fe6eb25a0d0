-- Options bit 6 (docs/RULES.md, Dead records): which import records are dead with it, and that they are fewer; without it those that were marked.
use Prim.Native.Nat.{ℕ, ◌+◌, ◌<◌}
use mathlib.Core.Path.{◌≡◌, refl, ap, ◌∙◌, sym, subst}
use mathlib.Core.Bool.{Bool, true, false, not, ◌||◌, ◌&&◌, not-eq-not}
use mathlib.Core.List.{List, []}
use native.Mathlib.Omega.{arith}
use borrow.Author.Tests.{eq-eqb, eqb-true}
use lib.Dec.{eqb}
use lib.ListN.{get_or, drop}
use Rattle.bit_row.specs.Row.{bit_at, bytes_for}
use Rattle.bit_row.proofs.Size.{bytes_hold}
use Rattle.determine_side_effects.specs.graph_tables_crate.Tables.{header_in}
use Rattle.determine_side_effects.specs.graph_crate.Check.{Graph, graph_in, check_of, answer_of}
use Rattle.determine_side_effects.specs.graph_access_crate.Names.{related, related_module, related_statement, unreachable}
use Rattle.determine_side_effects.specs.graph_access_crate.Words.{some, tabulate, option, entry_of}
use Rattle.determine_side_effects.proofs.graph_access_crate.Indexes.{related_here}
use Rattle.determine_side_effects.specs.facts_crate.declared.Fact.{Fact}
use Rattle.determine_side_effects.specs.facts_crate.Facts.{statement_fact, Good}
use Rattle.determine_side_effects.specs.Effects.{last_verdicts}
use Rattle.determine_side_effects.proofs.Lists.{both, some_found, some_holds, length-tabulate, get_d_tabulate}
use Rattle.keep_record.specs.declared.Line.{Line}
use Rattle.keep_record.specs.Lines.{has, elem, marks_from}
use Rattle.entry_order.specs.Order.{module_of_entry, is_dynamic}
use Rattle.entry_starts.specs.Starts.{module_starts}
use Rattle.cycles.proofs.Members.{never_both}
use Rattle.dynamic_entries.specs.Sorted.{on_cycle}
use Rattle.dynamic_entries.specs.Alive.{is_alive, dead_of}
use Rattle.dynamic_entries.specs.Tries.{Progress, lives, now_dead, tried}
use Rattle.dead_records.specs.Dead.{record_count, is_dead_record, dead_now, record_number, exempts, exempted_by, exempted, dead_at_end, dead_record, dead_row}
use Rattle.dead_records.proofs.Numbering.{record_inside}
use Rattle.run_rows.specs.Run.{Run, with_runtime, run_of}
use Rattle.run_parts.specs.Operation.{done, dead_after}
use Rattle.closed_choices.proofs.Accepting.{Tabled, accepted_tabled}
use Rattle.closed_choices.proofs.Every.{Every}
use Rattle.closed_choices.proofs.Smallest.{line_marked, has_line}
use Rattle.run_choices.specs.DeadAtEnd.{related_row, RelatesLive, after_rounds, MarksInTheEnd, DeadAtEnd, EveryDeadAtEnd, DeadAsMarked}
use Rattle.run_choices.proofs.Sparing.{bit_in_front, with_bit, without_bit}
use Rattle.run_choices.proofs.Growing.{main_whole}
use Rattle.run_choices.proofs.Done.{run_done}
use Rattle.run_choices.proofs.Further.{try_live, try_dead}
use Rattle.run_choices.proofs.EachTried.{live_after, was_dead}
use Rattle.std.specs.Prelude.{Ok}

all : (a b : Bool) → a ≡ true → b ≡ true → (a && b) ≡ true
all true b e f = f
all false b e f = absurd (never_both e refl)

is_not : (a : Bool) → not a ≡ true → a ≡ false
is_not true e = absurd (never_both e refl)
is_not false e = refl

not_is : (a : Bool) → a ≡ false → not a ≡ true
not_is true e = absurd (never_both refl e)
not_is false e = refl

without : (a b : Bool) → b ≡ true → (a && not b) ≡ false
without true true e = refl
without true false e = absurd (never_both e refl)
without false b e = refl

-- a test over all entries
module _ (test : ℕ → Bool) (n : ℕ) where
  place : (k : ℕ) → k < n → get_or (tabulate (λ e. e) 0 n) k 0 ≡ k
  place k h = let z : 0 + k ≡ k = omega arith in get_d_tabulate (λ (e : ℕ). e) 0 n k 0 h ∙ z

  entry_found : some test (tabulate (λ e. e) 0 n) ≡ true → (e : ℕ) × (e < n) × (test e ≡ true)
  entry_found h =
      let f = some_found test 0 (tabulate (λ e. e) 0 n) h in
      let l : f.0 < n = omega (arith, f.1, length-tabulate (λ (e : ℕ). e) 0 n) in
      (f.0, l, subst (λ x. test x ≡ true) (place f.0 l) f.2)

  entry_holds : (e : ℕ) → e < n → test e ≡ true → some test (tabulate (λ x. x) 0 n) ≡ true
  entry_holds e h t =
      some_holds test 0 (tabulate (λ x. x) 0 n) e (omega (arith, h, length-tabulate (λ (x : ℕ). x) 0 n))
      (subst (λ x. test x ≡ true) (sym (place e h)) t)

-- the bit of a record
pub dead_shown : (g : Graph) (main : List Line) (live dead : ℕ → Bool) (lent : List ℕ) (j : ℕ) → j < record_count g
    → bit_at (dead_row g main live dead lent) j ≡ dead_record g main live dead j
unfolding dead_row
dead_shown g main live dead lent j l =
    let n = bytes_for (record_count g) in bit_in_front (dead_record g main live dead) n (drop n lent) j (omega (arith, l, bytes_hold (record_count g)))

bit_is : (g : Graph) (r : Run) (lent : List ℕ) (j : ℕ) → j < record_count g → bit_at (dead_after (done g r) lent) j ≡ dead_record g r.main r.live r.dead j
unfolding dead_after
bit_is g r lent j l = dead_shown g r.main r.live r.dead lent j l

pub dead_as_marked : DeadAsMarked
dead_as_marked g r off lent j l = bit_is g r lent j l ∙ without_bit g r.main r.live r.dead j off

-- dead records by an entry that marks them
module _ (g : Graph) (dead : ℕ → Bool) (j : ℕ) where
  marked_by : is_dead_record g dead j ≡ true → (e : ℕ) × (e < g.header.entries) × (dead e ≡ true) × (elem j (dead_of g (last_verdicts g) (related (entry_of g e))) ≡ true)
  unfolding is_dead_record
  marked_by h =
      let f = entry_found (λ e. dead e && elem j (dead_of g (last_verdicts g) (related (entry_of g e)))) g.header.entries h in
      let b = both (dead f.0) (elem j (dead_of g (last_verdicts g) (related (entry_of g f.0)))) f.2 in
      (f.0, f.1, b.0, b.1)

  marks_it : (e : ℕ) → e < g.header.entries → dead e ≡ true → elem j (dead_of g (last_verdicts g) (related (entry_of g e))) ≡ true → is_dead_record g dead j ≡ true
  unfolding is_dead_record
  marks_it e h d m =
      entry_holds (λ x. dead x && elem j (dead_of g (last_verdicts g) (related (entry_of g x)))) g.header.entries e h
      (all (dead e) (elem j (dead_of g (last_verdicts g) (related (entry_of g e)))) d m)

-- an entry that is dead now is one that a try finds dead
module _ (g : Graph) (r : Run) where
  abbrev kept : Fact → Bool
  kept = has g 0 r.main

  lives_is : (e : ℕ) → lives g (last_verdicts g) (after_rounds r) e ≡ (on_cycle g (module_of_entry g e) || is_alive g (last_verdicts g) kept e)
  unfolding lives
  lives_is e = refl

  found_dead : (j e : ℕ) → e < g.header.entries → dead_now g kept r.live e ≡ true → elem j (dead_of g (last_verdicts g) (related (entry_of g e))) ≡ true → MarksInTheEnd g r j e
  unfolding dead_now
  found_dead j e h d m =
      let a = both (is_dynamic g e) _ d in
      let b = both (not (r.live (module_of_entry g e))) _ a.1 in
      let off = is_not (r.live (module_of_entry g e)) b.0 in
      record {
        entry = h;
        dynamic = a.0;
        not_live = off;
        found_dead = try_dead g (last_verdicts g) e (after_rounds r) off (lives_is e ∙ is_not _ b.1);
        marks = m;
      }

  -- a try that finds an entry dead found that it does not live
  not_live_then : (e : ℕ) → r.live (module_of_entry g e) ≡ false → tried g (last_verdicts g) e (after_rounds r) ≡ now_dead e (after_rounds r) → lives g (last_verdicts g) (after_rounds r) e ≡ false
  unfolding now_dead
  not_live_then e off q = (not-eq-not {b = false}).0 (λ z. never_both (live_after g v starts e p) (ap (λ (x : Progress). x.live m) (sym (try_live g v e p off z) ∙ q) ∙ off))
    where
      v : List ℕ
      v = last_verdicts g

      p : Progress
      p = after_rounds r

      m : ℕ
      m = module_of_entry g e

      starts : List Fact
      starts = module_starts g m

  dead_now_lem : (j e : ℕ) → MarksInTheEnd g r j e → dead_now g kept r.live e ≡ true
  unfolding dead_now
  dead_now_lem j e m =
      all (is_dynamic g e) _ m.dynamic
      (all (not (r.live (module_of_entry g e))) _ (not_is (r.live (module_of_entry g e)) m.not_live)
      (not_is _ (sym (lives_is e) ∙ not_live_then e m.not_live m.found_dead)))

-- with the bit
module _ (g : Graph) (r : Run) (on : option g 6 ≡ true) where
  abbrev dead : ℕ → Bool
  dead = dead_record g r.main r.live r.dead

  parts : (j : ℕ) → dead j ≡ true → (is_dead_record g (dead_now g (kept g r) r.live) j ≡ true) × (exempted g (kept g r) r.live j ≡ false)
  unfolding dead_at_end
  parts j h =
      let b = both (is_dead_record g (dead_now g (kept g r) r.live) j) (not (exempted g (kept g r) r.live j)) (sym (with_bit g r.main r.live r.dead j on) ∙ h) in
      (b.0, is_not (exempted g (kept g r) r.live j) b.1)

  of_parts : (j : ℕ) → is_dead_record g (dead_now g (kept g r) r.live) j ≡ true → exempted g (kept g r) r.live j ≡ false → dead j ≡ true
  unfolding dead_at_end
  of_parts j a b =
      with_bit g r.main r.live r.dead j on
      ∙ all (is_dead_record g (dead_now g (kept g r) r.live) j) (not (exempted g (kept g r) r.live j)) a (not_is (exempted g (kept g r) r.live j) b)

  marked : (j : ℕ) → dead j ≡ true → (e : ℕ) × MarksInTheEnd g r j e
  marked j h =
      let m = marked_by g (dead_now g (kept g r) r.live) j (parts j h).0 in
      (m.0, found_dead g r j m.0 m.1 m.2 m.3)

  marking : (j e : ℕ) → MarksInTheEnd g r j e → is_dead_record g (dead_now g (kept g r) r.live) j ≡ true
  marking j e m = marks_it g (dead_now g (kept g r) r.live) j e m.entry (dead_now_lem g r j e m) m.marks

-- a record that a dynamic entry of a live module relates through a kept, reachable statement
module _ (g : Graph) (r : Run) (e k : ℕ) (s : RelatesLive g r e k) where
  abbrev row : List ℕ
  row = related_row g e k

  row_exempts : exempts g (kept g r) (record_number g row) row ≡ true
  unfolding exempts has marks_from
  row_exempts =
      all (eqb (unreachable row) 0) _ (eq-eqb (unreachable row) 0 s.reachable)
      (all (kept g r (statement_fact (related_module row) (related_statement row))) _ (line_marked g r.main (statement_fact (related_module row) (related_statement row)) s.kept)
      (eq-eqb (record_number g row) (record_number g row) refl))

  is_exempted : exempted g (kept g r) r.live (record_number g row) ≡ true
  unfolding exempted exempted_by
  is_exempted =
      entry_holds (exempted_by g (kept g r) r.live (record_number g row)) g.header.entries e s.entry
      (all (is_dynamic g e) _ s.dynamic
      (all (r.live (module_of_entry g e)) _ s.live (some_holds (exempts g (kept g r) (record_number g row)) [] (related (entry_of g e)) k s.row row_exempts)))

-- over accepted numbers
module _ (numbers : List ℕ) (accepted : answer_of (check_of numbers) ≡ Ok tt) (on : option (graph_in numbers) 6 ≡ true) where
  abbrev G : Graph
  G = graph_in numbers

  abbrev R : Run
  R = run_of (graph_in numbers)

  tables : Tabled numbers
  tables = accepted_tabled numbers accepted

  main_good : Every (λ l. Good G l.fact) R.main
  unfolding run_of with_runtime
  main_good = (main_whole tables.holds).sound.good

  entries_of : G.header.entries ≡ (header_in numbers).entries
  unfolding graph_in
  entries_of = refl

  -- a record that is exempted is related so
  relates : (j : ℕ) → exempted G (kept G R) R.live j ≡ true → (e k : ℕ) × RelatesLive G R e k × (record_number G (related_row G e k) ≡ j)
  unfolding exempted exempted_by exempts
  relates j h =
      let f = entry_found (exempted_by G (kept G R) R.live j) G.header.entries h in
      let a = both (is_dynamic G f.0) _ f.2 in
      let b = both (R.live (module_of_entry G f.0)) _ a.1 in
      let q = some_found (exempts G (kept G R) j) [] (related (entry_of G f.0)) b.1 in
      let row = related_row G f.0 q.0 in
      let u = both (eqb (unreachable row) 0) _ q.2 in
      let w = both (kept G R (statement_fact (related_module row) (related_statement row))) _ u.1 in
      let here = related_here tables.holds f.0 q.0 (omega (arith, f.1, entries_of)) q.1 in (
        f.0,
        q.0,
        record {
          entry = f.1;
          row = q.1;
          dynamic = a.0;
          live = b.0;
          reachable = eqb-true (unreachable row) 0 u.0;
          kept = has_line tables.holds R.main (statement_fact (related_module row) (related_statement row)) main_good (here.inside, here.statement_inside) w.0;
        },
        sym (eqb-true j (record_number G row) w.1),
      )

  inside : (e k : ℕ) → RelatesLive G R e k → record_number G (related_row G e k) < record_count G
  unfolding record_number
  inside e k s =
      let here = related_here tables.holds e k (omega (arith, s.entry, entries_of)) s.row in
      record_inside G _ _ here.inside here.import_record_inside

  -- an entry of a module that is not live in the end was found dead in the rounds
  marked_before : (j e : ℕ) → MarksInTheEnd G R j e → is_dead_record G R.dead j ≡ true
  unfolding run_of with_runtime
  marked_before j e m =
      marks_it G R.dead j e m.entry
      (was_dead tables.holds (last_verdicts G) e m.entry m.dynamic m.not_live)
      m.marks

  module _ (lent : List ℕ) where
    abbrev bit : ℕ → Bool
    bit j = bit_at (dead_after (done G R) lent) j

    there : (j : ℕ) → j < record_count G → bit j ≡ true → ((e : ℕ) × MarksInTheEnd G R j e) × ((e k : ℕ) → RelatesLive G R e k → record_number G (related_row G e k) ≡ j → ⊥)
    there j l h =
        let d : dead_record G R.main R.live R.dead j ≡ true = sym (bit_is G R lent j l) ∙ h in
        (marked G R on j d, λ e k s q. never_both (subst (λ i. exempted G (kept G R) R.live i ≡ true) q (is_exempted G R e k s)) (parts G R on j d).1)

    back : (j : ℕ) → j < record_count G → ((e : ℕ) × MarksInTheEnd G R j e) × ((e k : ℕ) → RelatesLive G R e k → record_number G (related_row G e k) ≡ j → ⊥) → bit j ≡ true
    back j l h =
        bit_is G R lent j l
        ∙ of_parts G R on j (marking G R on j h.0.0 h.0.1) ((not-eq-not {b = false}).0 (λ z. let x = relates j z in h.1 x.0 x.1 x.2 x.3))

    pub dead-at-end : DeadAtEnd G R (dead_after (done G R) lent)
    dead-at-end =
        record {
          live_not_dead = λ e k s.
              bit_is G R lent (record_number G (related_row G e k)) (inside e k s)
              ∙ (not-eq-not {b = false}).0 (λ h. never_both (is_exempted G R e k s) (parts G R on (record_number G (related_row G e k)) h).1);
          dead_fewer = λ j l h. let m = marked G R on j (sym (bit_is G R lent j l) ∙ h) in marked_before j m.0 m.1;
          dead_exactly = λ j l. (λ h. there j l h, λ h. back j l h);
        }

-- for every run that is not refused
pub every_dead_at_end : EveryDeadAtEnd
every_dead_at_end numbers room g r e on lent =
    let d = run_done numbers room g r e in
    let o : option (graph_in numbers) 6 ≡ true = ap (λ (x : Graph). option x 6) (sym d.graph_is) ∙ on in
    rw (d.graph_is, d.run_is) (dead-at-end numbers d.accepted o lent)
