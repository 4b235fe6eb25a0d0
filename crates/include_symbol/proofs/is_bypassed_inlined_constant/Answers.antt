use Rattle.include_symbol.proofs.Demands.{unknown, common, entry_export, not_smart, smart}
use Rattle.determine_side_effects.specs.graph_access_crate.Words.{symbol_of, root_of}
use Rattle.determine_side_effects.specs.graph_access_crate.Names.{constant_bits}
use mathlib.Core.Path.{◌≡◌, ap, ◌∙◌, sym}
use Rattle.determine_side_effects.specs.graph_crate.Check.{graph_in}
use Rattle.include_symbol.proofs.is_bypassed_inlined_constant.Goals as goal

pub returns-then-not-flag : goal.returns-then-not-flag
returns-then-not-flag c =
    let bits : c.constant_bits-bits.result ≡ constant_bits (symbol_of (graph_in c.args.numbers.now) (root_of (graph_in c.args.numbers.now).symbols c.args.s.0)) = c.constant_bits-bits.ensures ∙ ap (λ r. constant_bits (symbol_of (graph_in c.args.numbers.now) r)) c.root-root.ensures.0 in
    unknown _ _ _ _ bits (sym c.flag.ensures ∙ c.if-not-flag.true)

pub returns-then-flag : goal.returns-then-flag
returns-then-flag c =
    let bits : c.constant_bits-bits.result ≡ constant_bits (symbol_of (graph_in c.args.numbers.now) (root_of (graph_in c.args.numbers.now).symbols c.args.s.0)) = c.constant_bits-bits.ensures ∙ ap (λ r. constant_bits (symbol_of (graph_in c.args.numbers.now) r)) c.root-root.ensures.0 in
    common _ _ _ _ bits (sym c.flag.ensures ∙ c.if-not-flag.false) (sym c.flag-2.ensures ∙ c.if-flag.true)

pub returns-then-flag-2 : goal.returns-then-flag-2
returns-then-flag-2 c =
    let bits : c.constant_bits-bits.result ≡ constant_bits (symbol_of (graph_in c.args.numbers.now) (root_of (graph_in c.args.numbers.now).symbols c.args.s.0)) = c.constant_bits-bits.ensures ∙ ap (λ r. constant_bits (symbol_of (graph_in c.args.numbers.now) r)) c.root-root.ensures.0 in
    entry_export _ _ _ _ bits (sym c.flag.ensures ∙ c.if-not-flag.false) (sym c.flag-2.ensures ∙ c.if-flag.false) (sym c.flag-3.ensures ∙ c.if-flag-2.true)

pub returns-then-not-option : goal.returns-then-not-option
returns-then-not-option c =
    let bits : c.constant_bits-bits.result ≡ constant_bits (symbol_of (graph_in c.args.numbers.now) (root_of (graph_in c.args.numbers.now).symbols c.args.s.0)) = c.constant_bits-bits.ensures ∙ ap (λ r. constant_bits (symbol_of (graph_in c.args.numbers.now) r)) c.root-root.ensures.0 in
    not_smart _ _ _ _ bits (sym c.flag.ensures ∙ c.if-not-flag.false) (sym c.flag-2.ensures ∙ c.if-flag.false) (sym c.flag-3.ensures ∙ c.if-flag-2.false) (sym c.option.ensures ∙ c.if-not-option.true)

pub returns : goal.returns
returns c =
    let bits : c.constant_bits-bits.result ≡ constant_bits (symbol_of (graph_in c.args.numbers.now) (root_of (graph_in c.args.numbers.now).symbols c.args.s.0)) = c.constant_bits-bits.ensures ∙ ap (λ r. constant_bits (symbol_of (graph_in c.args.numbers.now) r)) c.root-root.ensures.0 in
    c.flag-4.ensures ∙ smart _ _ _ _ bits (sym c.flag.ensures ∙ c.if-not-flag.false) (sym c.flag-2.ensures ∙ c.if-flag.false) (sym c.flag-3.ensures ∙ c.if-flag-2.false) (sym c.option.ensures ∙ c.if-not-option.false)
