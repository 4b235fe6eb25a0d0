-- Neither the order of the starts nor repeats matter: so no hash order does.
use Rattle.std.proofs.Common.{◌≡◌, ℕ, List, get_or, subst}
use Rattle.determine_side_effects.specs.graph_crate.Check.{Graph, graph_in, check_of, answer_of}
use Rattle.determine_side_effects.specs.facts_crate.declared.Fact.{Fact}
use Rattle.determine_side_effects.specs.facts_crate.Facts.{module_fact, Good}
use Rattle.determine_side_effects.specs.Effects.{last_verdicts}
use Rattle.closed_choices.specs.Choice.{Choice, HoldsStarts, Smallest}
use Rattle.rust_values.specs.Values.{In}
use Rattle.rust_values.proofs.Members.{in_at, at_in}
use Rattle.rust_engine.specs.Context.{Context}
use Rattle.rust_engine.specs.EntryPoints.{InRows, SmallestOver, Exactly, Reached}
use Rattle.rust_engine.proofs.OfAccepted.{engine_shows}
use Rattle.std.specs.Prelude.{Ok}

-- two lists of starts with the same members
pub record Alike (ss ts : List Fact) : Type 0 where
  pub there : (f : Fact) → In f ss → In f ts
  pub back : (f : Fact) → In f ts → In f ss

pub holds_alike : (C : Choice) (ss ts : List Fact) → ((f : Fact) → In f ts → In f ss) → HoldsStarts ss C → HoldsStarts ts C
holds_alike C ss ts a h i u =
    let r = at_in (get_or ts i (module_fact 0)) ss (module_fact 0) (a (get_or ts i (module_fact 0)) (in_at ts (module_fact 0) i u)) in
    subst (λ f. C f) r.is (h r.place r.inside)

pub smallest_alike : (g : Graph) (C : Choice) (ss ts : List Fact) → Alike ss ts → Smallest g ss C → Smallest g ts C
smallest_alike g C ss ts a s =
    record {
      holds_starts = holds_alike C ss ts a.back s.holds_starts;
      closed = s.closed;
      inside_each = λ D h k f c. s.inside_each D (holds_alike D ts ss a.there h) k f c;
    }

pub smallest_over_alike : (g : Graph) (B C : Choice) (ss ts : List Fact) → Alike ss ts → SmallestOver g B ss C → SmallestOver g B ts C
smallest_over_alike g B C ss ts a s =
    record {
      holds_base = s.holds_base;
      holds_starts = holds_alike C ss ts a.back s.holds_starts;
      closed = s.closed;
      inside_each = λ D b h k f c. s.inside_each D b (holds_alike D ts ss a.there h) k f c;
    }

-- two states of the Rust over the same base that were reached by starts with the same members, in whatever order and with whatever hash orders, show
-- the same choice
pub engine_alike : (numbers : List ℕ) → answer_of (check_of numbers) ≡ Ok tt → (b : Context) → ((f : Fact) → InRows b f → Good (graph_in numbers) f)
    → (ss ts : List Fact) (taken : List ℕ) (c : Context) → Reached (graph_in numbers) (last_verdicts (graph_in numbers)) b ss taken c
    → HoldsStarts ss (Good (graph_in numbers))
    → Alike ts ss → (C : Choice) → SmallestOver (graph_in numbers) (InRows b) ts C → Exactly (graph_in numbers) b C taken c
engine_alike numbers ok b base ss ts taken c r good a C s =
    engine_shows numbers ok b base ss taken c r good C (smallest_over_alike (graph_in numbers) (InRows b) C ts ss a s)
