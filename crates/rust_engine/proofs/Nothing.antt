-- With nothing in the base, closed but for the base is closed, and the smallest choice over it is the smallest closed choice.
use Rattle.std.proofs.Common.{List}
use Rattle.determine_side_effects.specs.graph_crate.Check.{Graph}
use Rattle.determine_side_effects.specs.facts_crate.declared.Fact.{Fact}
use Rattle.determine_side_effects.specs.facts_crate.declared.Fact.TheVariants.{Module, Statement, Use, CheckedUse, Forward, Bailout}
use Rattle.closed_choices.specs.Choice.{Choice, Closed, Smallest}
use Rattle.rust_engine.specs.Context.{empty}
use Rattle.rust_engine.specs.EntryPoints.{InRows, ClosedOver, SmallestOver}
use Rattle.rust_engine.proofs.Theorem.{closed_over}

pub not_in_empty : (f : Fact) → InRows empty f → ⊥
not_in_empty (Module m) h = h
not_in_empty (Statement m i) h = h
not_in_empty (Use s x) h = h
not_in_empty (CheckedUse s x) h = h
not_in_empty (Forward s) h = h
not_in_empty (Bailout m) h = h

pub closed_nothing : (g : Graph) (C : Choice) → ClosedOver g (InRows empty) C → Closed g C
closed_nothing g C k = record { by_K1 = k.by_K1; by_K2_to_K14 = λ f i h u. k.by_K2_to_K14 f i h (not_in_empty f) u }

pub smallest_over_nothing : (g : Graph) (ss : List Fact) (C : Choice) → Smallest g ss C → SmallestOver g (InRows empty) ss C
smallest_over_nothing g ss C s =
    record {
      holds_base = λ f h. absurd (not_in_empty f h);
      holds_starts = s.holds_starts;
      closed = closed_over g (InRows empty) C s.closed;
      inside_each = λ D b h k f c. s.inside_each D h (closed_nothing g D k) f c;
    }

pub over_nothing_smallest : (g : Graph) (ss : List Fact) (C : Choice) → SmallestOver g (InRows empty) ss C → Smallest g ss C
over_nothing_smallest g ss C s =
    record {
      holds_starts = s.holds_starts;
      closed = closed_nothing g C s.closed;
      inside_each = λ D h k f c. s.inside_each D (λ x q. absurd (not_in_empty x q)) h (closed_over g (InRows empty) D k) f c;
    }
