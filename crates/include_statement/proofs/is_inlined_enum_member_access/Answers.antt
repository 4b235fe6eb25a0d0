use Rattle.include_statement.proofs.Enums.{of_external, written, deeper, its-member}
use Rattle.include_statement.proofs.Stands.{object-is, write-is, count_is, first_is, symbol_below}
use mathlib.Core.Path.{◌∙◌, sym}
use native.Mathlib.Omega.{arith}
use Rattle.include_statement.proofs.is_inlined_enum_member_access.Goals as goal

pub root-root-requires : goal.root-root-requires
root-root-requires c =
    record { loaded = c.requires.prepared.loaded; s_bound = omega (arith, c.wide.ensures, object-is c.requires.here c.requires.place_value, symbol_below c.requires.here c.requires.prepared.loaded (λ z. omega (arith, z, c.requires.place_value))) }

pub returns-then-not-is_normal : goal.returns-then-not-is_normal
returns-then-not-is_normal c =
    of_external _ _ _ _ _ (c.wide.ensures ∙ object-is c.requires.here c.requires.place_value) c.root-root.ensures.0 c.owner-owner.ensures.0 (sym c.is_normal.ensures ∙ c.if-not-is_normal.true)

pub returns-then-numbers-place-ne0 : goal.returns-then-numbers-place-ne0
returns-then-numbers-place-ne0 c =
    written _ _ _ _ _ (c.wide.ensures ∙ object-is c.requires.here c.requires.place_value) c.root-root.ensures.0 c.owner-owner.ensures.0 (sym c.is_normal.ensures ∙ c.if-not-is_normal.false) _ (write-is c.requires.here c.requires.place_value) c.if-numbers-place-ne0.true

pub returns-then-numbers-place-ne1 : goal.returns-then-numbers-place-ne1
returns-then-numbers-place-ne1 c =
    deeper _ _ _ _ _ (c.wide.ensures ∙ object-is c.requires.here c.requires.place_value) c.root-root.ensures.0 c.owner-owner.ensures.0 (sym c.is_normal.ensures ∙ c.if-not-is_normal.false) _ (write-is c.requires.here c.requires.place_value) c.if-numbers-place-ne0.false _ (count_is c.requires.here c.requires.place_value) c.if-numbers-place-ne1.true

pub returns : goal.returns
returns c =
    its-member _ _ _ _ _ (c.wide.ensures ∙ object-is c.requires.here c.requires.place_value) c.root-root.ensures.0 c.owner-owner.ensures.0 (sym c.is_normal.ensures ∙ c.if-not-is_normal.false) _ (write-is c.requires.here c.requires.place_value) c.if-numbers-place-ne0.false _ (count_is c.requires.here c.requires.place_value) _ _ c.if-numbers-place-ne1.false c.name-name.ensures (c.wide-2.ensures ∙ first_is c.requires.here c.requires.place_value) c.enum_member.ensures
