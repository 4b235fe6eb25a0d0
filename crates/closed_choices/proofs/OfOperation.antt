-- T5 and T6 over the operation: what a drain that is not refused shows, which drains are not refused for their room, and that no starts
-- give no facts.
use Prim.Native.Nat.{ℕ, zero, suc, ◌+◌, ◌*◌, ◌/◌, ◌<◌, ◌≤◌}
use mathlib.Core.Path.{◌≡◌, refl, ap, ◌∙◌, sym}
use mathlib.Core.Logic.{◌↔◌}
use mathlib.Core.Bool.{Bool, true, false, not-eq-not}
use mathlib.Core.List.{List, []}
use native.Mathlib.Decide.{dec_lt}
use native.Mathlib.Omega.{arith}
use borrow.Author.Tests.{le-ltb, eq-eqb}
use lib.Dec.{ltb}
use lib.ListN.{length, get_or}
use Rattle.bit_row.specs.Row.{bit_at}
use Rattle.determine_side_effects.specs.rows_crate.Walk.{no_item}
use Rattle.determine_side_effects.specs.graph_format_crate.Format.{module_rules, statement_limit}
use Rattle.determine_side_effects.specs.graph_tables_crate.Tables.{modules_in}
use Rattle.determine_side_effects.proofs.graph_tables_crate.Facts.{its-read, number_same}
use Rattle.determine_side_effects.specs.graph_crate.Check.{Graph, graph_in, check_of, answer_of}
use Rattle.determine_side_effects.specs.graph_access_crate.Names.{kind}
use Rattle.determine_side_effects.specs.facts_crate.declared.Fact.{Fact}
use Rattle.determine_side_effects.specs.facts_crate.declared.Fact.TheVariants.{Module, Statement}
use Rattle.determine_side_effects.specs.facts_crate.Facts.{Good, mark_of, mark_count}
use Rattle.determine_side_effects.specs.graph_access_crate.Words.{tabulate, module_of, statement_list, normal}
use Rattle.determine_side_effects.specs.graph_crate.Loaded.{Loaded}
use Rattle.determine_side_effects.proofs.graph_access_crate.StatementNumbers.{all_long}
use Rattle.determine_side_effects.proofs.facts_crate.Marks.{mark_below}
use Rattle.linking_metadata.specs.Namespaces.{target_of}
use Rattle.determine_side_effects.specs.Effects.{last_verdicts}
use Rattle.keep_record.specs.declared.Line.{Line}
use Rattle.keep_record.specs.Lines.{elem, marks_of, marks_from, has}
use Rattle.worklist.specs.Drain.{fact_at, drained_all, drain_of}
use Rattle.starts.specs.Starts.{starts_of, starts_fault}
use Rattle.answer_rows.specs.declared.Row.{Row}
use Rattle.answer_rows.specs.Shown.{row_bytes, bytes_of, shown_row}
use Rattle.answer_rows.proofs.InRow.{target_below}
use Rattle.drain_parts.specs.Operation.{done, worked, marks_after, row_after}
use Rattle.starts.proofs.Starting.{starts_good}
use Rattle.drain_parts.proofs.Ending.{outcome_work, outcome_accepted}
use Rattle.closed_choices.specs.Choice.{HasLine}
use Rattle.closed_choices.specs.Operation.{Spare, DrainShows, EveryDrainShows, EnoughDrains, NoStartsNoFacts}
use Rattle.closed_choices.proofs.Accepting.{Tabled, accepted_tabled}
use Rattle.closed_choices.proofs.Smallest.{marked_line, line_marked, has_line, good-lines, good_fact}
use Rattle.closed_choices.proofs.Showing.{bytes_long, bit_of_bytes, bit_behind, rows_show}
use Rattle.closed_choices.proofs.Spare.{spare_unshown}
use Rattle.closed_choices.proofs.Done.{drain_done}
use Rattle.closed_choices.proofs.OfDrains.{facts_smallest, lines_few}
use Rattle.std.specs.Prelude.{Ok}

-- only normal modules have statements
limit_kind : (kind left n : ℕ) → 0 < n → n < statement_limit kind left → 0 < kind
unfolding statement_limit
limit_kind zero left n l u = absurd (omega (arith, u))
limit_kind (suc kind) left n l u = omega arith

module _ {numbers tables : List ℕ} (t : Loaded numbers tables) where
  normal_by_statement : (m i : ℕ) → m < (graph_in numbers).header.modules → i < length (statement_list (graph_in numbers) m) → normal (graph_in numbers) m ≡ true
  unfolding module_rules normal kind module_of graph_in
  normal_by_statement m i h l =
      let f = its-read numbers _ t.of_modules m h in
      let x = get_or (modules_in numbers) m no_item in
      let z : x.place ≡ x.place + 0 = omega arith in
      let s : get_or x.head 0 0 ≡ get_or numbers x.place 0 = number_same numbers _ t.of_modules m h 0 (omega arith) ∙ ap (λ k. get_or numbers k 0) (sym z) in
      let n : 0 < get_or x.head 9 0 = omega (arith, l, all_long t m h) in
      let k = limit_kind (get_or numbers x.place 0) f.left.statements (get_or x.head 9 0) n (f.read.head.good 9 (omega arith)).1 in
      eq-eqb (get_or x.head 0 0) 1 (omega (arith, s, k, (f.read.head.good 0 (omega arith)).1))

  -- a symbol's target is a symbol
  targets : (s : ℕ) → s < (graph_in numbers).header.symbols → target_of (graph_in numbers) s < (graph_in numbers).header.symbols
  unfolding graph_in
  targets s h = target_below t s h

-- the drain of accepted numbers and starts without a fault
module _ (numbers starts : List ℕ) (accepted : answer_of (check_of numbers) ≡ Ok tt) (faultless : starts_fault (graph_in numbers) starts 0 (length starts / 3) ≡ 0) where
  abbrev g : Graph
  g = graph_in numbers

  abbrev lines : List Line
  lines = drain_of g (last_verdicts g) (starts_of starts)

  tables : Tabled numbers
  tables = accepted_tabled numbers accepted

  -- its facts are good, so they show no spare bit
  its_good : (f : Fact) → HasLine lines f → Good g f
  its_good f h = good_fact tables.holds (starts_of starts) (starts_good g starts faultless) f h

  spare_zero : (row : Row) (lent : List ℕ) (j : ℕ) → j < 8 * row_bytes g row → Spare g row j → bit_at (shown_row g row lines lent) j ≡ false
  spare_zero row lent j l s =
      (not-eq-not {b = false}).0
      (λ e. let p = (rows_show g row lines lent).set-by j l e in spare_unshown g (targets tables.holds) row p.0 j (its_good p.0 p.1) s p.2)

  -- its marks: a good fact's is there exactly if the fact has a line, and all are below the count
  abbrev marked : ℕ → Bool
  marked j = elem j (marks_of g lines)

  mark_tells : (f : Fact) → Good g f → (marked (mark_of g f) ≡ true) ↔ HasLine lines f
  unfolding has marks_from
  mark_tells f h = ((λ e. has_line tables.holds lines f (good-lines tables.holds (starts_of starts) (starts_good g starts faultless)) h e), line_marked g lines f)

  marks_tell : (lent : List ℕ) → mark_count g ≤ 8 * length lent → (f : Fact) → Good g f → (bit_at (bytes_of marked (length lent)) (mark_of g f) ≡ true) ↔ HasLine lines f
  marks_tell lent l f h = let b = bit_of_bytes marked (length lent) (mark_of g f) (omega (arith, l, mark_below tables.holds f h)) in rw b (mark_tells f h)

  unmarked : (j : ℕ) → mark_count g ≤ j → marked j ≡ false
  unmarked j l =
      (not-eq-not {b = false}).0
      (λ e. let p = marked_line g lines j e in
      omega (arith, l, p.2, mark_below tables.holds (fact_at lines p.0) (its_good (fact_at lines p.0) (record { number = p.0; inside = p.1; is = refl }))))

  marks_end : (lent : List ℕ) (j : ℕ) → mark_count g ≤ j → bit_at (bytes_of marked (length lent)) j ≡ false
  marks_end lent j l = go (dec_lt j (8 * length lent))
    where
      go : Dec (j < 8 * length lent) → bit_at (bytes_of marked (length lent)) j ≡ false
      go (yes u) = bit_of_bytes marked (length lent) j u ∙ unmarked j l
      go (no n) = bit_behind (bytes_of marked (length lent)) j (omega (arith, bytes_long marked (length lent)))

  shows_all : DrainShows g starts lines
  unfolding row_after marks_after
  shows_all =
      record {
        smallest = facts_smallest numbers starts accepted faultless;
        rows_show = λ row lent. rows_show g row lines lent;
        spare_bits = spare_zero;
        marks_are = marks_tell;
        spare_marks = marks_end;
        module_normal = λ m h. its_good (Module m) h;
        statement_normal = λ m i h. let k = its_good (Statement m i) h in (k.0, normal_by_statement tables.holds m.0 i.0 k.0 k.1);
      }

-- T5 and T6: what every drain shows that is not refused
pub drain_shows : EveryDrainShows
drain_shows numbers starts room g lines e =
    let d = drain_done numbers starts room g lines e in
    (d.graph_is, rw (d.graph_is, d.lines_are) (shows_all numbers starts d.accepted d.faultless))

-- with enough room a drain is not refused
pub drain_enough : EnoughDrains
unfolding worked
drain_enough numbers starts room ok whole faultless long l =
    let all = drain_of (graph_in numbers) (last_verdicts (graph_in numbers)) (starts_of starts) in
    let t : ltb room.lines (6 * length all) ≡ false = le-ltb room.lines (6 * length all) (omega (arith, l, lines_few numbers starts ok faultless)) in
    let w : worked (graph_in numbers) all room.lines ≡ done (graph_in numbers) all = rw (t, worked) in
    (all, outcome_accepted numbers starts room ok ∙ outcome_work (graph_in numbers) starts room whole faultless long ∙ w)

-- no starts, no facts
pub no_starts : NoStartsNoFacts
unfolding starts_of tabulate drain_of drained_all
no_starts numbers room g lines e = (drain_done numbers [] room g lines e).lines_are
