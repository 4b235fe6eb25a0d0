-- How the operation ends: the outcome by its cases, and the answer and the rows of each.
use Prim.Native.Nat.{ℕ, ◌+◌, ◌*◌, ◌-◌, ◌<◌, ◌≤◌}
use mathlib.Core.Path.{◌≡◌, refl, ap, ◌∙◌, sym}
use mathlib.Core.List.{List, ◌++◌}
use native.Mathlib.Omega.{arith}
use borrow.Author.Tests.{lt-ltb, le-ltb, lt-leb, le-leb}
use lib.ListN.{length, get_or, drop, replicate}
use Rattle.bit_row.specs.Row.{bytes_for}
use Rattle.facts.specs.graph_format_crate.declared.Header.{Header}
use Rattle.facts.specs.graph_tables_crate.Tables.{header_in}
use Rattle.facts.specs.graph_crate.Check.{Graph, graph_in, check_of, answer_of}
use Rattle.facts.specs.Facts.{mark_count}
use Rattle.keep_record.specs.Lines.{written, elem, marks_of, marks_from}
use Rattle.keep_record.proofs.Rows.{lines-length}
use Rattle.answer_rows.specs.Shown.{bytes_of}
use Rattle.answer_rows.proofs.Bytes.{whole_row_is}
use Rattle.rule_tables.proofs.Readying.{by_refusal, by_graph}
use Rattle.tree_shaking.specs.declared.Reached.{Reached}
use Rattle.run_rows.specs.Run.{run_of}
use Rattle.run_parts.specs.declared.Part.{Part}
use Rattle.run_parts.specs.declared.Part.TheVariants.{Whole, Main}
use Rattle.run_parts.specs.Parts.{Holds, WorkEnds}
use Rattle.own_starts.specs.Once.{triples}
use Rattle.run_starts.specs.Operation.{own_starts_once, Rooms, Rows, rows, rooms_of, Outcome, before, short, done, worked, outcome_in, outcome_of, answered, marks_after, record_after, starts_after, Ends}
use Rattle.run_starts.specs.Parts.{MainReached, Given}
use Rattle.std.specs.Prelude.{Result, Ok, Err}
use Rattle.facts.specs.refusal_crate.declared.Refusal.{Refusal}
use Rattle.facts.specs.refusal_crate.declared.Refusal.TheVariants.{NoRoom}
use Rattle.keep_record.specs.declared.Full.{Full}
use Rattle.keep_record.specs.Held.{no_room}

pub ends_same : (o q : Outcome) (r : Result ℕ Refusal) (lent after : Rows) → o ≡ q → Ends q r lent after → Ends o r lent after
ends_same o q r lent after e h = rw e h

-- a refusal before the work leaves every row
pub ends_before : (o : Outcome) (why : Refusal) (lent : Rows) → o ≡ before why → Ends o (Err why) lent lent
unfolding answered marks_after record_after starts_after
ends_before o why lent e = ends_same o (before why) (Err why) lent lent e (record { answer = refl; marks_are = refl; record_is = refl; starts_are = refl })

-- rows that are found short during the work: marks and record are zero
ended_short : (lent after : Rows) → after.marks ≡ replicate (length lent.marks) 0 → after.lines ≡ replicate (length lent.lines) 0 → after.starts ≡ lent.starts
    → Ends short (Err NoRoom) lent after
unfolding answered marks_after record_after starts_after
ended_short lent after a b c = record { answer = refl; marks_are = a; record_is = b; starts_are = c }

-- the work by the lengths of record and starts
module _ (g : Graph) (lines starts : ℕ) where
  record_short : lines < 6 * length (run_of g).main → worked g lines starts ≡ short
  unfolding worked
  record_short h = rw (lt-ltb lines (6 * length (run_of g).main) h, worked)

  module _ (l : 6 * length (run_of g).main ≤ lines) where
    starts_short : starts < 3 * length (own_starts_once g) → worked g lines starts ≡ short
    unfolding worked
    starts_short h = rw (le-ltb lines (6 * length (run_of g).main) l, lt-ltb starts (3 * length (own_starts_once g)) h, worked)

    both-fit : 3 * length (own_starts_once g) ≤ starts → worked g lines starts ≡ done g
    unfolding worked
    both-fit h = rw (le-ltb lines (6 * length (run_of g).main) l, le-ltb starts (3 * length (own_starts_once g)) h, worked)

-- the outcome by the check's answer
pub outcome_refused : (numbers : List ℕ) (room : Rooms) {why : Refusal} → answer_of (check_of numbers) ≡ Err why → outcome_of numbers room ≡ before why
unfolding outcome_of
outcome_refused numbers room e = by_refusal numbers (λ g. outcome_in g room) before e

-- over an accepted graph, by the length of the marks
module _ (numbers : List ℕ) (e : answer_of (check_of numbers) ≡ Ok tt) {k b : ℕ} (i : k ≡ mark_count (graph_in numbers)) (j : b ≡ bytes_for k) where
  bytes_are : b ≡ bytes_for (mark_count (graph_in numbers))
  bytes_are = j ∙ ap bytes_for i

  outcome_is : (room : Rooms) → outcome_of numbers room ≡ outcome_in (graph_in numbers) room
  unfolding outcome_of
  outcome_is room = by_graph numbers (λ g. outcome_in g room) before e

  pub marks_fit : (n : ℕ) → b ≤ n → bytes_for (mark_count (graph_in numbers)) ≤ n
  marks_fit n h = omega (arith, h, bytes_are)

  pub outcome_short : (lent : Rows) → length lent.marks < b → outcome_of numbers (rooms_of lent) ≡ before NoRoom
  unfolding outcome_in rooms_of
  outcome_short lent h =
      let s : length lent.marks < bytes_for (mark_count (graph_in numbers)) = omega (arith, h, bytes_are) in
      outcome_is (rooms_of lent) ∙ rw (lt-leb (bytes_for (mark_count (graph_in numbers))) (length lent.marks) s, outcome_in)

  pub outcome_work : (lent : Rows) → b ≤ length lent.marks → outcome_of numbers (rooms_of lent) ≡ worked (graph_in numbers) (length lent.lines) (length lent.starts)
  unfolding outcome_in rooms_of
  outcome_work lent h = outcome_is (rooms_of lent) ∙ rw (le-leb (bytes_for (mark_count (graph_in numbers))) (length lent.marks) (marks_fit (length lent.marks) h), outcome_in)

-- as many marks as the header says
pub seen_fits : (numbers : List ℕ) (h : Header) → h ≡ header_in numbers → (n : ℕ) → 2 * h.modules + h.statements + 63 * h.symbols ≤ n → mark_count (graph_in numbers) ≤ n
unfolding mark_count graph_in
seen_fits numbers h e n l =
    let i : h.modules ≡ (header_in numbers).modules = ap (λ w. w.modules) e in
    let j : h.symbols ≡ (header_in numbers).symbols = ap (λ w. w.symbols) e in
    let k : h.statements ≡ (header_in numbers).statements = ap (λ w. w.statements) e in
    omega (arith, i, j, k, l)

-- the main part is there, whichever part was made
main_inside : (g : Graph) (part : Part) (marks row plan : List ℕ) (x : Reached) → Holds g part marks row plan x → x.main ≤ x.total
main_inside g Whole marks row plan x h = h.held.base_inside
main_inside g Main marks row plan x h =
    omega (arith, lines-length x.main row, ap length h.main_lines, lines-length x.total row, ap length h.all_lines)

pub main_reached : (g : Graph) (part : Part) (marks₀ row₀ marks row plan : List ℕ) (r : Result Reached Full) → WorkEnds g part marks₀ row₀ marks row plan r → (x : Reached) → r ≡ Ok x
    → MainReached g row plan x
main_reached g part marks₀ row₀ marks row plan r w x e =
    let h = w.holds x e in
    let l = main_inside g part marks row plan x h in
    record {
      leaves = h.leaves;
      main_lines = h.main_lines;
      taken_are = h.taken_are;
      taken_inside = h.taken_inside;
      room = omega (arith, h.held.room, l);
      good = λ k u. h.held.good k (omega (arith, u, l));
    }

-- the work over lent rows, and the starts that are given after it
module _ (g : Graph) (marks₀ row₀ marks₁ row₁ plan : List ℕ) (r : Result Reached Full) (w : WorkEnds g Main marks₀ row₀ marks₁ row₁ plan r) where
  pub ends_full : (starts₀ : List ℕ) → r ≡ no_room → Ends (worked g (length row₀) (length starts₀)) (Err NoRoom) (rows marks₀ row₀ starts₀) (rows marks₁ row₁ starts₀)
  ends_full starts₀ e =
      let t = w.too_long e in
      ends_same _ short _ _ _ (record_short g (length row₀) (length starts₀) t.0) (ended_short (rows marks₀ row₀ starts₀) (rows marks₁ row₁ starts₀) t.1 t.2 refl)

  module _ (x : Reached) (e : r ≡ Ok x) where
    total_is : x.total ≡ length (run_of g).main
    total_is = sym (lines-length x.total row₁) ∙ ap length (w.holds x e).all_lines

    module _ (starts₀ : List ℕ) (long-marks : length marks₁ ≡ length marks₀) (long_row : length row₁ ≡ length row₀) (starts : List ℕ) (q : Result ℕ Refusal) (s : Given g starts₀ starts q) where
      record-fits : 6 * length (run_of g).main ≤ length row₀
      record-fits = omega (arith, (w.holds x e).held.room, total_is, long_row)

      pub ends-cleared : {why : Refusal} → q ≡ Err why → (marks row : List ℕ) → marks ≡ replicate (length marks₁) 0 → row ≡ replicate (length row₁) 0
          → Ends (worked g (length row₀) (length starts₀)) (Err why) (rows marks₀ row₀ starts₀) (rows marks row starts)
      ends-cleared {why} i marks row a b =
          let t = s.refused why i in
          rw (t.0) (ends_same _ short _ _ _ (starts_short g (length row₀) (length starts₀) record-fits t.1)
          (ended_short (rows marks₀ row₀ starts₀) (rows marks row starts) (a ∙ ap (λ k. replicate k 0) long-marks) (b ∙ ap (λ k. replicate k 0) long_row) t.2))

      marks_done : ((i : ℕ) → get_or marks₁ i 0 < 256) → marks₁ ≡ bytes_of (λ j. elem j (marks_of g (run_of g).main)) (length marks₀)
      unfolding marks_from
      marks_done small =
          let h = w.holds x e in
          whole_row_is (λ j. elem j (marks_of g (run_of g).main)) marks₁ small (λ j. h.held.marked j ∙ ap (λ ls. elem j (marks_of g ls)) h.all_lines)
          ∙ ap (λ k. bytes_of (λ j. elem j (marks_of g (run_of g).main)) k) long-marks

      record_done : row₁ ≡ written (run_of g).main ++ replicate (length row₀ - 6 * length (run_of g).main) 0
      record_done =
          let h = w.holds x e in
          let k : length row₁ - 6 * x.total ≡ length row₀ - 6 * length (run_of g).main = omega (arith, long_row, total_is) in
          h.held.zero_behind ∙ ap (λ ls. written ls ++ replicate (length row₁ - 6 * x.total) 0) h.all_lines ∙ ap (λ j. written (run_of g).main ++ replicate j 0) k

      pub ends-given : {n : ℕ} → q ≡ Ok n → ((i : ℕ) → get_or marks₁ i 0 < 256) → Ends (worked g (length row₀) (length starts₀)) (Ok n) (rows marks₀ row₀ starts₀) (rows marks₁ row₁ starts)
      unfolding answered marks_after record_after starts_after
      ends-given {n} i small =
          let t = s.given n i in
          ends_same _ (done g) _ _ _ (both-fit g (length row₀) (length starts₀) record-fits (omega (arith, t.0, t.1))) (record {
            answer = ap Ok t.0;
            marks_are = marks_done small;
            record_is = record_done;
            starts_are = t.2 ∙ ap (λ k. triples (own_starts_once g) ++ drop k starts₀) t.0;
          })
