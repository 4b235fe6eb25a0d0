-- Whether the lines may be judged, by its ends.
use Prim.Native.Nat.{ℕ, ◌%◌}
use mathlib.Core.Path.{◌≡◌, ◌∙◌, sym}
use mathlib.Core.List.{List}
use borrow.Author.Tests.{eq-eqb, ne_eqb}
use lib.ListN.{length}
use Rattle.determine_side_effects.specs.graph_crate.Check.{graph_in, check_of, answer_of}
use Rattle.determine_side_effects.proofs.graph_crate.Checking.{once_refused}
use Rattle.keep_rules.specs.Prepared.{Prepared}
use Rattle.starts.specs.Starts.{starts_walk, starts_of, StartsGood}
use Rattle.rule_tables.proofs.Readying.{by_refusal, by_graph}
use Rattle.judge_parts.specs.Operation.{judged_in, judge_of}
use Rattle.judge_parts.specs.Parts.{MayJudge}
use Rattle.std.specs.Prelude.{Ok, Err}
use Rattle.determine_side_effects.specs.refusal_crate.declared.Refusal.{Refusal}
use Rattle.determine_side_effects.specs.refusal_crate.declared.Refusal.TheVariants.{WrongLength}

module _ (numbers starts row : List ℕ) where
  -- the judge's answer by the check's
  pub judge_rejected : {why : Refusal} → answer_of (check_of numbers) ≡ Err why → judge_of numbers starts row ≡ Err why
  unfolding judge_of
  judge_rejected e = by_refusal numbers (λ g. judged_in g starts row) Err e

  judge_accepted : answer_of (check_of numbers) ≡ Ok tt → judge_of numbers starts row ≡ judged_in (graph_in numbers) starts row
  unfolding judge_of
  judge_accepted e = by_graph numbers (λ g. judged_in g starts row) Err e

  module _ (tables : List ℕ) where
    refused_is : (why : Refusal) → judge_of numbers starts row ≡ Err why → MayJudge numbers starts row tables (Err why)
    refused_is why e =
        record {
          refused = λ q k. e ∙ k;
          good = (once_refused _).known;
          goes = (once_refused _).known;
        }

    pub by_check : {why : Refusal} → answer_of (check_of numbers) ≡ Err why → MayJudge numbers starts row tables (Err why)
    by_check {why} e = refused_is why (judge_rejected e)

    module _ (a : answer_of (check_of numbers) ≡ Ok tt) where
      pub by-starts : {why : Refusal} → starts_walk (graph_in numbers) starts ≡ Err why → MayJudge numbers starts row tables (Err why)
      unfolding judged_in
      by-starts {why} e = refused_is why (judge_accepted a ∙ rw (e, judged_in))

      module _ {q : ℕ} (s : starts_walk (graph_in numbers) starts ≡ Ok q) where
        pub by_length : (length row % 6 ≡ 0 → ⊥) → MayJudge numbers starts row tables (Err (WrongLength (length row)))
        unfolding judged_in
        by_length h = refused_is (WrongLength (length row)) (judge_accepted a ∙ rw (s, ne_eqb (length row % 6) 0 h, judged_in))

        pub judges : length row % 6 ≡ 0 → Prepared numbers tables → StartsGood (graph_in numbers) (starts_of starts) → MayJudge numbers starts row tables (Ok tt)
        unfolding judged_in
        judges h p g =
            record {
              refused = λ q k. absurd ((once_refused ⊥).known (sym k));
              good = λ k. (p, g);
              goes = λ k. judge_accepted a ∙ rw (s, eq-eqb (length row % 6) 0 h, judged_in);
            }
