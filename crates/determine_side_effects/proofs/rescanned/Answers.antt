use Prim.Native.Nat.{◌<◌}
use mathlib.Core.Path.{refl, ap, ◌∙◌}
use native.Mathlib.Omega.{arith}
use lib.ListN.{length, length-take}
use Rattle.facts.specs.graph_crate.Check.{graph_in}
use Rattle.facts.specs.graph_access_crate.Names.{scan_statement_count}
use Rattle.facts.specs.graph_access_crate.Words.{flag, module_of, statement_list, statement_of}
use Rattle.determine_side_effects.proofs.Reading.{scan_over, scan-hit, scan-on}
use Rattle.determine_side_effects.proofs.rescanned.Goals as goal

pub loop-i-init : goal.loop-i-init
loop-i-init c = (omega arith, refl)

pub returns-then-i-scanned : goal.returns-then-i-scanned
returns-then-i-scanned c =
    let g = graph_in c.args.numbers.now in
    let m = c.args.m.0 in
    scan_over g m c.loop-i.i c.loop-i.invariant.1 (omega (arith, length-take (scan_statement_count (module_of g m)) (statement_list g m), c.if-i-scanned.true, c.scan_statement_count-scanned.ensures))

pub bits-requires : goal.bits-requires
bits-requires c =
    let listed : c.loop-i.i < length (statement_list (graph_in c.args.numbers.now) c.args.m.0) = omega (arith, c.loop-i-test.true, c.statement_count-all.ensures.0) in record { loaded = c.requires.loaded; m_bound = (c.requires.m_bound, listed) }

pub flag-requires : goal.flag-requires
flag-requires c = (omega arith)

pub returns-then-flag : goal.returns-then-flag
unfolding statement_of
returns-then-flag c =
    let listed : c.loop-i.i < length (statement_list (graph_in c.args.numbers.now) c.args.m.0) = omega (arith, c.loop-i-test.true, c.statement_count-all.ensures.0) in
    scan-hit (graph_in c.args.numbers.now) c.args.m.0 c.loop-i.i c.loop-i.invariant.1 (omega (arith, c.if-i-scanned.false, c.scan_statement_count-scanned.ensures)) listed (c.flag.ensures ∙ ap (λ x. flag 1 x) c.bits.ensures) c.if-flag.true

pub loop-i-preserved : goal.loop-i-preserved
unfolding statement_of
loop-i-preserved c =
    let listed : c.loop-i.i < length (statement_list (graph_in c.args.numbers.now) c.args.m.0) = omega (arith, c.loop-i-test.true, c.statement_count-all.ensures.0) in
    (omega (arith, c.loop-i-test.true), scan-on (graph_in c.args.numbers.now) c.args.m.0 c.loop-i.i c.loop-i.invariant.1 (omega (arith, c.if-i-scanned.false, c.scan_statement_count-scanned.ensures)) listed (c.flag.ensures ∙ ap (λ x. flag 1 x) c.bits.ensures) c.if-flag.false)

pub returns : goal.returns
returns c =
    let g = graph_in c.args.numbers.now in
    let m = c.args.m.0 in
    scan_over g m c.loop-i.i c.loop-i.invariant.1 (omega (arith, length-take (scan_statement_count (module_of g m)) (statement_list g m), c.loop-i-test.false, c.statement_count-all.ensures.0))
