-- What the executed functions of 002 give, its relations have.
use Rattle.std.proofs.Common.{◌≡◌, ℕ, zero, suc, Bool, true, false, List, [], ◌∷◌, sym, refl, subst}
use Rattle.determine_side_effects.specs.graph_crate.Check.{Graph}
use Rattle.determine_side_effects.specs.graph_access_crate.Names.{effects}
use Rattle.determine_side_effects.specs.graph_access_crate.Words.{tabulate, module_of}
use Rattle.rust_values.specs.Values.{Pair}
use Rattle.rust_effects.specs.DetermineSideEffects.{Spreading, gathered, spread_to_all, dependents_of, Propagates, DetermineSideEffects, recomputed, none_relaxed, RecomputeAnalyzedSideEffects, none_relaxed_case, SideEffects}
use Rattle.rust_effects.specs.DetermineSideEffects.Propagates.{returns, pops}
use Rattle.rust_effects.specs.DetermineSideEffects.RecomputeAnalyzedSideEffects.{recomputes as anew}
use Rattle.rust_run.proofs.Executed.{Ended, not_yet, ended, then, propagated, spread_from, verdicts_from, determined, recomputes, settled}
use Rattle.rust_run.proofs.Ending.{never_ends, same_end, through}

-- s with another stack
abbrev rest_of : List ℕ → Spreading → Spreading
rest_of ms s = record { effectful = s.effectful; pending = ms }

propagated_returns : (dependents : List Pair) (fuel : ℕ) (s z : Spreading) → propagated dependents fuel s ≡ ended z → Propagates dependents s z
unfolding propagated
propagated_returns dependents zero s z e = go s.pending refl e
  where
    go : (ms : List ℕ) → s.pending ≡ ms → (elim ms [ [] ↦ ended s | m ∷ ns ↦ not_yet ]) ≡ ended z → Propagates dependents s z
    go [] q r = subst (λ y. Propagates dependents s y) (same_end s z r) (returns s q)
    go (m ∷ ms) q r = absurd (never_ends z r)
propagated_returns dependents (suc fuel) s z e =
    go s.pending refl e (λ m ms r. propagated_returns dependents fuel (spread_to_all (dependents_of dependents m) (rest_of ms s)) z r)
  where
    go : (ms : List ℕ) → s.pending ≡ ms
        → (elim ms [ [] ↦ ended s | m ∷ ns ↦ propagated dependents fuel (spread_to_all (dependents_of dependents m) (rest_of ns s)) ]) ≡ ended z
        → ((m : ℕ) (ns : List ℕ) → propagated dependents fuel (spread_to_all (dependents_of dependents m) (rest_of ns s)) ≡ ended z
        → Propagates dependents (spread_to_all (dependents_of dependents m) (rest_of ns s)) z) → Propagates dependents s z
    go [] q r more = subst (λ y. Propagates dependents s y) (same_end s z r) (returns s q)
    go (m ∷ ms) q r more = pops s z m ms q (more m ms r)

determined_returns : (g : Graph) (fuel : ℕ) (v w : List ℕ) → determined g fuel v ≡ ended w → DetermineSideEffects g v w
unfolding determined spread_from verdicts_from
determined_returns g fuel v w e =
    let t = through (propagated (gathered g v).dependents fuel (spread_from g v)) (λ end. ended (verdicts_from g v end)) w e in
    record {
      end = t.middle;
      propagates = propagated_returns (gathered g v).dependents fuel (spread_from g v) t.middle t.first;
      verdicts_are = sym (same_end (verdicts_from g v t.middle) w t.second);
    }

recomputes_returns : (g : Graph) (fuel : ℕ) (v w : List ℕ) → recomputes g fuel v ≡ ended w → RecomputeAnalyzedSideEffects g v w
unfolding recomputes
recomputes_returns g fuel v w e = go (none_relaxed g) refl e
  where
    go : (b : Bool) → none_relaxed g ≡ b
        → (elim b [ true ↦ ended v | false ↦ determined g fuel (tabulate (recomputed g v) 0 g.header.modules) ]) ≡ ended w
        → RecomputeAnalyzedSideEffects g v w
    go true q r = subst (λ z. RecomputeAnalyzedSideEffects g v z) (same_end v w r) (none_relaxed_case v q)
    go false q r = anew v w q (determined_returns g fuel (tabulate (recomputed g v) 0 g.header.modules) w r)

pub settled_returns : (g : Graph) (fuel : ℕ) (w : List ℕ) → settled g fuel ≡ ended w → SideEffects g w
unfolding settled
settled_returns g fuel w e =
    let given : List ℕ = tabulate (λ m. effects (module_of g m)) 0 g.header.modules in
    let t = through (determined g fuel given) (recomputes g fuel) w e in
    record {
      first = t.middle;
      determines = determined_returns g fuel given t.middle t.first;
      recomputes = recomputes_returns g fuel t.middle w t.second;
    }
