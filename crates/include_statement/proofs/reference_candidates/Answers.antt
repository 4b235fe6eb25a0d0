use Rattle.include_statement.proofs.Stands.{kind_here, kind_is, parts_here, depended_is, symbol-here, symbol_is, symbol_below}
use Rattle.include_statement.proofs.Places.{no_places, depended_places, inlined_places, plain_places}
use mathlib.Core.Logic.{inl, inr}
use Prim.Native.Nat.{◌<◌}
use mathlib.Core.Path.{◌∙◌, sym}
use native.Mathlib.Omega.{arith}
use lib.ListN.{get_or}
use Rattle.include_statement.proofs.reference_candidates.Goals as goal
use Rattle.include_statement.proofs.reference_candidates.Goals.{then-kind-eq3+else-is_inlined_enum_member_access, else-kind-eq3}

pub bounds-numbers-place : goal.bounds-numbers-place
bounds-numbers-place c = kind_here c.requires.here

pub returns-then-kind-eq1 : goal.returns-then-kind-eq1
returns-then-kind-eq1 c = no_places _ _ _ (kind_is c.requires.here) c.if-kind-eq1.true

pub bounds-numbers-place-then-kind-eq2 : goal.bounds-numbers-place-then-kind-eq2
bounds-numbers-place-then-kind-eq2 c = omega (arith, parts_here c.requires.here c.if-kind-eq2.true)

pub returns-then-kind-eq2 : goal.returns-then-kind-eq2
returns-then-kind-eq2 c = depended_places _ _ _ (kind_is c.requires.here) c.if-kind-eq2.true (c.wide.ensures ∙ depended_is c.requires.here c.if-kind-eq2.true)

pub returns-then-is_inlined_enum_member_access : goal.returns-then-is_inlined_enum_member_access
returns-then-is_inlined_enum_member_access c = inlined_places _ _ _ (kind_is c.requires.here) c.if-kind-eq3.true (sym c.is_inlined_enum_member_access.ensures ∙ c.if-is_inlined_enum_member_access.true)

pub bounds-numbers-place-2 : goal.bounds-numbers-place-2
bounds-numbers-place-2 c = omega (arith, symbol-here c.requires.here c.if-kind-eq1.false c.if-kind-eq2.false)

pub forward_count-requires : goal.forward_count-requires
forward_count-requires c =
    let symbol = c.wide-s.ensures ∙ symbol_is c.requires.here c.if-kind-eq1.false c.if-kind-eq2.false in record { prepared = c.requires.prepared; s_bound = omega (arith, symbol, symbol_below c.requires.here c.requires.prepared.loaded c.if-kind-eq1.false) }

pub returns : goal.returns
returns c =
    let symbol = c.wide-s.ensures ∙ symbol_is c.requires.here c.if-kind-eq1.false c.if-kind-eq2.false in
    let l : get_or c.args.numbers.now c.args.place 0 < 4 = omega (arith, c.requires.here.stands.few, c.requires.here.stands.kind) in plain_places _ _ _ (kind_is c.requires.here) _ c.if-kind-eq1.false c.if-kind-eq2.false l (elim c.if-kind-eq3.branch [ then-kind-eq3+else-is_inlined_enum_member_access w ↦ inl (sym w.is_inlined_enum_member_access.ensures ∙ w.if-is_inlined_enum_member_access.false) | else-kind-eq3 w ↦ inr w.if-kind-eq3.false ]) symbol c.forward_count.ensures.0
