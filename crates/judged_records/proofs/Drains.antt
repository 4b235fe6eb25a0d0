-- T10 for drains: the lines of a drain are a keep record of its starts, and the judge passes them.
use Prim.Native.Nat.{ℕ, ◌+◌, ◌*◌, ◌-◌, ◌/◌, ◌<◌, ◌≤◌}
use mathlib.Core.Path.{◌≡◌, ap, ◌∙◌, sym, subst}
use mathlib.Core.List.{List, []}
use native.Mathlib.Omega.{arith}
use lib.ListN.{length, get_or, take}
use lib.Seq.{take_at}
use Rattle.determine_side_effects.specs.graph_crate.Check.{Graph, graph_in}
use Rattle.determine_side_effects.specs.graph_crate.Loaded.{Loaded}
use Rattle.determine_side_effects.specs.Effects.{last_verdicts}
use Rattle.determine_side_effects.specs.facts_crate.declared.Fact.{Fact}
use Rattle.determine_side_effects.specs.facts_crate.declared.Fact.TheVariants.{Module, Statement, Use, CheckedUse, Forward, Bailout}
use Rattle.determine_side_effects.specs.facts_crate.Facts.{module_fact, kind_of, second_part, Good}
use Rattle.keep_rules.specs.Rules.{gives}
use Rattle.keep_record.specs.declared.Line.{Line}
use Rattle.keep_record.specs.Lines.{written, marks_from}
use Rattle.keep_record.specs.Held.{Distinct}
use Rattle.keep_record.proofs.Rows.{written-length}
use Rattle.keep_record.proofs.Counting.{lines_apart}
use Rattle.worklist.specs.Drain.{fact_at, drain_of}
use Rattle.starts.specs.Starts.{starts_of, StartsGood}
use Rattle.starts.proofs.Starting.{starts_good, good_checked}
use Rattle.drain_parts.specs.Operation.{Rooms, done, outcome_of, record_after}
use Rattle.rule_relation.specs.Relation.{Gives}
use Rattle.rule_relation.specs.Same.{Listed}
use Rattle.rule_relation.proofs.Exactly.{gives_exactly}
use Rattle.closed_choices.specs.Choice.{HasLine}
use Rattle.closed_choices.proofs.Accepting.{accepted_tabled}
use Rattle.closed_choices.proofs.Every.{Every, every_at, every_by}
use Rattle.closed_choices.proofs.Handling.{no_line}
use Rattle.closed_choices.proofs.Smallest.{drain_smallest}
use Rattle.closed_choices.proofs.Done.{drain_done}
use Rattle.run_choices.proofs.Stages.{Whole, whole_none, whole_more}
use Rattle.judged_records.specs.Choice.{SmallestByRules}
use Rattle.judged_records.specs.Sentence.{because_at, and_at, fact_in, named_in, Names, LineInForm, Justified, IsKeepRecord}
use Rattle.judged_records.specs.Sentence.{of_start, of_K1, of_rule}
use Rattle.judged_records.specs.Sentence as sentence
use Rattle.judged_records.specs.Operation.{Passes, JudgesExactly, EveryDrainPasses}
use Rattle.judged_records.proofs.ByRules.{good_normal, to-rules}
use Rattle.judged_records.proofs.DrainRows.{written_whole, written_many, LineIs, written_at, fact_is, lines_back}
use Rattle.judged_records.proofs.DrainLines.{rule_known, Stands, as_start, by-module, by-forward, by_one, AllStand, drain_stands}

-- the kinds of facts
kind_from : (f : Fact) → (1 ≤ kind_of f) × (kind_of f ≤ 6)
kind_from (Module m) = (omega arith, omega arith)
kind_from (Statement m i) = (omega arith, omega arith)
kind_from (Use s x) = (omega arith, omega arith)
kind_from (CheckedUse s x) = (omega arith, omega arith)
kind_from (Forward s) = (omega arith, omega arith)
kind_from (Bailout m) = (omega arith, omega arith)

-- good lines that differ, each of which stands on earlier ones, and whose facts are the smallest choice by the rules
module _ (g : Graph) (starts : List Fact) (lines : List Line) (good : Every (λ l. Good g l.fact) lines) (apart : Distinct (marks_from g 0 lines))
    (stand : AllStand g (last_verdicts g) starts lines) (least : SmallestByRules g starts (HasLine lines)) where
  abbrev row : List ℕ
  row = written lines

  abbrev at : ℕ → Line
  at k = get_or lines k no_line

  fact_in_lem : (k : ℕ) → k < length lines → fact_in row k ≡ (at k).fact
  fact_in_lem k h = fact_is row k (at k) (written_at lines k h)

  good_at : (k : ℕ) → k < length lines → Good g (fact_at lines k)
  unfolding fact_at
  good_at k h = every_at (λ l. Good g l.fact) lines no_line good k h

  -- what is listed from a good fact is given
  given_at : (r a : ℕ) (f : Fact) → a < length lines → Listed r f (gives g (last_verdicts g) (fact_at lines a)) → Gives g (last_verdicts g) r (fact_at lines a) f
  given_at r a f h j = (gives_exactly g (last_verdicts g) r (fact_at lines a) f (good_normal g (fact_at lines a) (good_at a h))).0 j

  -- their names
  names : (k : ℕ) (l : Line) → k < length lines → Stands g (last_verdicts g) starts lines k l → Names k l.rule l.because l.and
  names k l h (as_start f x) = of_start
  names k l h (by-module f a b p q j) = of_K1 (a + 1) (b + 1) (omega arith) (omega arith) (omega arith) (omega arith)
  names k l h (by-forward f a b p q j) = of_K1 (a + 1) (b + 1) (omega arith) (omega arith) (omega arith) (omega arith)
  names k l h (by_one f r a p j) = let w = rule_known (given_at r a f (omega arith) j) in of_rule r (a + 1) w.0 w.1 (omega arith) (omega arith)

  form : (k : ℕ) → k < length lines → LineInForm g row k
  form k h =
      let p = written_at lines k h in
      let q = kind_from (at k).fact in
      record {
        kind_least = omega (arith, p.kind_is, q.0);
        kind_most = omega (arith, p.kind_is, q.1);
        parts_good = rw (fact_in_lem k h) (every_at (λ l. Good g l.fact) lines no_line good k h);
        unused_zero = ap second_part (fact_in_lem k h) ∙ sym p.second_is;
        names_good = rw (p.rule_is, p.because_is, p.and_is) (names k (at k) h (stand k h));
      }

  -- what they follow from
  named : (n a : ℕ) → n ≡ a + 1 → a < length lines → named_in row n ≡ fact_at lines a
  unfolding fact_at
  named n a e h = let z : n - 1 ≡ a = omega (arith, e) in ap (λ i. fact_in row i) z ∙ fact_in_lem a h

  follows : (k : ℕ) (l : Line) → k < length lines → LineIs row k l → Stands g (last_verdicts g) starts lines k l → Justified g (last_verdicts g) starts row k
  follows k l h p (as_start f x) = sentence.as_start x.number p.rule_is x.inside (x.is ∙ sym (fact_is row k l p))
  follows k l h p (by-module f a b u w j) =
      sentence.by_K1 p.rule_is
      (rw (named (because_at row k) a p.because_is (omega arith), named (and_at row k) b p.and_is (omega arith), fact_is row k l p) j)
  follows k l h p (by-forward f a b u w j) =
      sentence.by_K1_exchanged p.rule_is
      (rw (named (because_at row k) a p.because_is (omega arith), named (and_at row k) b p.and_is (omega arith), fact_is row k l p) j)
  follows k l h p (by_one f r a u j) =
      let i = given_at r a f (omega arith) j in
      sentence.by_rule (rw p.rule_is (rule_known i).0) (rw (named (because_at row k) a p.because_is (omega arith), p.rule_is, fact_is row k l p) i)

  inside : (k : ℕ) → k < length row / 6 → k < length lines
  inside k h = omega (arith, h, written_many lines)

  pub lines_record : IsKeepRecord g starts (written lines)
  lines_record =
      record {
        six_each = written_whole lines;
        in_form_holds = λ k h. form k (inside k h);
        no_fact_twice =
            λ i k l h e.
            let u = inside k h in
            lines_apart g no_line 0 lines apart i k l u (λ n. absurd (omega (arith, n))) (sym (fact_in_lem i (omega (arith, l, u))) ∙ e ∙ fact_in_lem k u);
        justified = λ k h. follows k (at k) (inside k h) (written_at lines k (inside k h)) (stand k (inside k h));
        smallest = subst (λ (ls : List Line). SmallestByRules g starts (HasLine ls)) (sym (lines_back lines)) least;
      }

-- a drain of good starts
module _ {numbers tables : List ℕ} (t : Loaded numbers tables) (starts : List Fact) (good : StartsGood (graph_in numbers) starts) where
  abbrev g : Graph
  g = graph_in numbers

  abbrev v : List ℕ
  v = last_verdicts (graph_in numbers)

  pub drain_whole : Whole g 0 (drain_of g v starts)
  unfolding drain_of
  drain_whole = whole_more t 0 starts [] (omega arith) (every_by (Good g) starts (module_fact 0) good) (whole_none t)

  pub drain_least : SmallestByRules g starts (HasLine (drain_of g v starts))
  drain_least = to-rules t starts good (HasLine (drain_of g v starts)) (drain_smallest t starts good)

  pub drain_is_record : IsKeepRecord g starts (written (drain_of g v starts))
  drain_is_record =
      lines_record g starts (drain_of g v starts) drain_whole.sound.good drain_whole.sound.apart (drain_stands g v starts) drain_least

-- the record row of a drain begins with its lines
pub drain_row : (g : Graph) (lines : List Line) (lent : List ℕ) → take (6 * length lines) (record_after (done g lines) lent) ≡ written lines
unfolding record_after
drain_row g lines lent = take_at (written lines) _ (6 * length lines) (written-length lines)

-- every drain that is not refused
pub drain_record : (numbers starts : List ℕ) (room : Rooms) (g : Graph) (lines : List Line) → outcome_of numbers starts room ≡ done g lines → Passes numbers starts (written lines)
drain_record numbers starts room g lines e =
    let d = drain_done numbers starts room g lines e in
    record {
      accepted = d.accepted;
      starts_good = sym (good_checked (graph_in numbers) starts d.whole d.faultless).0;
      is_record = rw d.lines_are (drain_is_record (accepted_tabled numbers d.accepted).holds (starts_of starts) (starts_good (graph_in numbers) starts d.faultless));
    }

pub drain_passes : JudgesExactly → EveryDrainPasses
drain_passes judges numbers starts room g lines e lent = rw (drain_row g lines lent) ((judges numbers starts (written lines)).1 (drain_record numbers starts room g lines e))
