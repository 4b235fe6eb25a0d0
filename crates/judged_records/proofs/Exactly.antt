-- T9: the judge passes exactly the keep records.
use Prim.Native.Nat.{ℕ, ◌/◌, ◌%◌, ◌<◌}
use mathlib.Core.Path.{◌≡◌, refl, ap, ◌∙◌, sym, subst}
use mathlib.Core.Bool.{Bool, true, false}
use mathlib.Core.List.{List}
use native.Mathlib.Omega.{arith}
use borrow.Author.Tests.{eqb-true, eq-eqb}
use lib.Dec.{eqb}
use lib.ListN.{length}
use Rattle.determine_side_effects.specs.rows_crate.Walk.{Parsed, got, fault}
use Rattle.determine_side_effects.proofs.rows_crate.Walks.{clash}
use Rattle.determine_side_effects.specs.graph_crate.Check.{Graph, graph_in, check_of, answer_of}
use Rattle.determine_side_effects.specs.graph_crate.Loaded.{Loaded}
use Rattle.determine_side_effects.proofs.graph_crate.WellFormed.{accepted_is}
use Rattle.determine_side_effects.specs.Effects.{last_verdicts}
use Rattle.determine_side_effects.specs.facts_crate.declared.Fact.{Fact}
use Rattle.determine_side_effects.specs.facts_crate.Facts.{Good}
use Rattle.keep_record.specs.Lines.{has}
use Rattle.keep_record.specs.Held.{lines_of}
use Rattle.starts.specs.Starts.{starts_walk, starts_of, starts_fault}
use Rattle.starts.proofs.Starting.{starts_good}
use Rattle.line_judgement.specs.Stand.{stands, first_bad}
use Rattle.completeness.specs.Complete.{is_complete}
use Rattle.judge_parts.specs.Operation.{judged_whole, judged_at, judged_lines, judged_in, judge_of}
use Rattle.closed_choices.specs.Choice.{HoldsStarts, HasLine}
use Rattle.closed_choices.proofs.Accepting.{accepted_tabled}
use Rattle.judged_records.specs.Sentence.{fact_in, IsKeepRecord}
use Rattle.judged_records.specs.Operation.{Passes, JudgesExactly}
use Rattle.judged_records.proofs.ByRules.{good_normal, closed-by-rules, rules_closed}
use Rattle.judged_records.proofs.Facts.{number_has, line_good}
use Rattle.judged_records.proofs.Lines.{Standing, first_bad_none, none_first_bad, all_stand, stand_all}
use Rattle.judged_records.proofs.Closing.{says_complete}
use Rattle.judged_records.proofs.Reaching.{lines_in}
use Rattle.std.specs.Prelude.{Result, Ok, Err}
use Rattle.determine_side_effects.specs.refusal_crate.declared.Refusal.{Refusal}
use Rattle.determine_side_effects.specs.refusal_crate.declared.Refusal.TheVariants.{WrongLength, Unjustified}

no_refusal : {why : Refusal} → ◌≡◌ {A = Result Unit Refusal} (Err why) (Ok tt) → ⊥
no_refusal e = cc

-- a test that has to be true
passes_if : (why : Refusal) (b : Bool) {x : Result Unit Refusal} → ◌≡◌ {A = Result Unit Refusal} (elim b [ true ↦ x | false ↦ Err why ]) (Ok tt) → (b ≡ true) × (x ≡ Ok tt)
passes_if why true e = (refl, e)
passes_if why false e = absurd (no_refusal e)

if_passes : (why : Refusal) {b : Bool} {x : Result Unit Refusal} → b ≡ true → x ≡ Ok tt → ◌≡◌ {A = Result Unit Refusal} (elim b [ true ↦ x | false ↦ Err why ]) (Ok tt)
if_passes why h e = rw h e

-- starts without a fault
starts_faultless : (g : Graph) (starts : List ℕ) (p : ℕ) → starts_walk g starts ≡ Ok p → (p ≡ 0) × (starts_fault g starts 0 (length starts / 3) ≡ 0)
unfolding starts_walk
starts_faultless g starts p e = go (eqb (length starts % 3) 0) refl (eqb (starts_fault g starts 0 (length starts / 3)) 0) refl
  where
    go : (b : Bool) → eqb (length starts % 3) 0 ≡ b → (c : Bool) → eqb (starts_fault g starts 0 (length starts / 3)) 0 ≡ c → (p ≡ 0) × (starts_fault g starts 0 (length starts / 3) ≡ 0)
    go true x true y = let z : Ok 0 ≡ Ok p = rw (x, y, starts_walk) at e in (cc, eqb-true _ 0 y)
    go true x false y = absurd (clash (sym (rw (x, y, starts_walk) at e)))
    go false x c y = absurd (clash (sym (rw (x, starts_walk) at e)))

-- the lines of a record beside good starts
module _ {numbers tables : List ℕ} (t : Loaded numbers tables) (starts : List Fact) (good : HoldsStarts starts (Good (graph_in numbers))) (row : List ℕ) where
  abbrev g : Graph
  g = graph_in numbers

  abbrev v : List ℕ
  v = last_verdicts (graph_in numbers)

  abbrev n : ℕ
  n = length row / 6

  abbrev standing : ℕ → Bool
  standing = stands g v starts row

  abbrev Complete : Type 0
  Complete = is_complete g v (has g 0 (lines_of n row)) starts (lines_of n row) ≡ true

  lines_passed : judged_lines g starts row ≡ Ok tt → (first_bad standing 0 n ≡ n) × Complete
  unfolding judged_lines judged_at judged_whole
  lines_passed e =
      let a = passes_if (Unjustified (first_bad standing 0 n)) (eqb (first_bad standing 0 n) n) e in
      let b = passes_if (Unjustified (length (lines_of n row))) (is_complete g v (has g 0 (lines_of n row)) starts (lines_of n row)) a.1 in
      (eqb-true (first_bad standing 0 n) n a.0, b.0)

  passed_lines : first_bad standing 0 n ≡ n → Complete → judged_lines g starts row ≡ Ok tt
  unfolding judged_lines judged_at judged_whole
  passed_lines e c = if_passes (Unjustified (first_bad standing 0 n)) (eq-eqb (first_bad standing 0 n) n e) (if_passes (Unjustified (length (lines_of n row))) c refl)

  -- a record that is passed is a keep record, and the other way round
  is_record : length row % 6 ≡ 0 → judged_lines g starts row ≡ Ok tt → IsKeepRecord g starts row
  is_record six e =
      let p = lines_passed e in
      let stand = all_stand t starts good row n (first_bad_none standing n p.0) in
      let c = (says_complete t row n (λ k u. (stand k u).in_form_holds.parts_good) starts good).tells p.1 in
      record {
        six_each = six;
        in_form_holds = λ k u. (stand k u).in_form_holds;
        no_fact_twice = λ i k l u. (stand k u).new i l;
        justified = λ k u. (stand k u).justified;
        smallest =
            record {
              holds_starts = c.0;
              closed = closed-by-rules g (HasLine (lines_of n row)) c.1;
              inside_each = λ D h d f x. let q = number_has row n x in subst (λ y. D y) q.2 (lines_in g starts D h d row n stand q.0 q.1);
            };
      }

  record_passed : IsKeepRecord g starts row → judged_lines g starts row ≡ Ok tt
  record_passed r =
      let stand : (k : ℕ) → k < n → Standing g starts row k = λ k u. record { in_form_holds = r.in_form_holds k u; new = λ i l. r.no_fact_twice i k l u; justified = r.justified k u } in
      let parts : (k : ℕ) → k < n → Good g (fact_in row k) = λ k u. (r.in_form_holds k u).parts_good in
      let closed = rules_closed g (HasLine (lines_of n row)) (λ f x. good_normal g f (line_good t row n parts x)) r.smallest.closed in
      passed_lines (none_first_bad standing n (stand_all t starts good row n stand)) ((says_complete t row n parts starts good).holds (r.smallest.holds_starts, closed))

-- the steps before the lines
module _ (numbers starts row : List ℕ) where
  judged_accepted : judge_of numbers starts row ≡ Ok tt → answer_of (check_of numbers) ≡ Ok tt
  unfolding judge_of answer_of
  judged_accepted e = go (check_of numbers) refl
    where
      go : (x : Parsed Graph) → check_of numbers ≡ x → answer_of (check_of numbers) ≡ Ok tt
      go (got h q) i = ap answer_of i
      go (fault why) i = absurd (no_refusal (rw (i, judge_of) at e))

  accepted_judged : answer_of (check_of numbers) ≡ Ok tt → judge_of numbers starts row ≡ judged_in (graph_in numbers) starts row
  unfolding judge_of
  accepted_judged e = rw ((accepted_is numbers e).1, judge_of)

  starts_passed : (g : Graph) → judged_in g starts row ≡ Ok tt → starts_walk g starts ≡ Ok 0
  unfolding judged_in
  starts_passed g e = go (starts_walk g starts) refl
    where
      go : (w : Result ℕ Refusal) → starts_walk g starts ≡ w → starts_walk g starts ≡ Ok 0
      go (Ok p) i = i ∙ ap (λ q. Ok q) (starts_faultless g starts p i).0
      go (Err why) i = absurd (no_refusal (rw (i, judged_in) at e))

  -- beside starts without a fault
  in_sixes : (g : Graph) → starts_walk g starts ≡ Ok 0 → judged_in g starts row ≡ Ok tt → (length row % 6 ≡ 0) × (judged_lines g (starts_of starts) row ≡ Ok tt)
  unfolding judged_in
  in_sixes g i e = let p = passes_if (WrongLength (length row)) (eqb (length row % 6) 0) (rw (i, judged_in) at e) in (eqb-true (length row % 6) 0 p.0, p.1)

  sixes_in : (g : Graph) → starts_walk g starts ≡ Ok 0 → length row % 6 ≡ 0 → judged_lines g (starts_of starts) row ≡ Ok tt → judged_in g starts row ≡ Ok tt
  unfolding judged_in
  sixes_in g i s e = rw (i, judged_in) (if_passes (WrongLength (length row)) (eq-eqb (length row % 6) 0 s) e)

  good_starts : starts_walk (graph_in numbers) starts ≡ Ok 0 → HoldsStarts (starts_of starts) (Good (graph_in numbers))
  good_starts i = starts_good (graph_in numbers) starts (starts_faultless (graph_in numbers) starts 0 i).1

  passed_passes : judge_of numbers starts row ≡ Ok tt → Passes numbers starts row
  passed_passes e =
      let a = judged_accepted e in
      let j : judged_in (graph_in numbers) starts row ≡ Ok tt = sym (accepted_judged a) ∙ e in
      let i = starts_passed (graph_in numbers) j in
      let s = in_sixes (graph_in numbers) i j in
      record { accepted = a; starts_good = i; is_record = is_record (accepted_tabled numbers a).holds (starts_of starts) (good_starts i) row s.0 s.1 }

  passes_passed : Passes numbers starts row → judge_of numbers starts row ≡ Ok tt
  passes_passed p =
      accepted_judged p.accepted
      ∙ sixes_in (graph_in numbers) p.starts_good p.is_record.six_each
      (record_passed (accepted_tabled numbers p.accepted).holds (starts_of starts) (good_starts p.starts_good) row p.is_record)

pub judge_exactly : JudgesExactly
judge_exactly numbers starts row = (passed_passes numbers starts row, passes_passed numbers starts row)
