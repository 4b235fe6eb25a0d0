use Prim.Native.Nat.{◌<◌}
use mathlib.Core.Path.{refl, ap}
use native.Mathlib.Omega.{arith}
use lib.ListN.{length}
use Rattle.facts.specs.graph_tables_crate.Tables.{header_in, modules_in}
use Rattle.facts.proofs.graph_tables_crate.Facts.{modules_long}
use Rattle.facts.specs.graph_crate.Check.{graph_in}
use Rattle.facts.specs.graph_access_crate.Words.{module_of}
use Rattle.determine_side_effects.specs.Effects.{relaxed}
use Rattle.determine_side_effects.proofs.Reading.{relaxed-stop, relaxed-on, relaxed_end}
use Rattle.determine_side_effects.proofs.relaxed.Goals as goal

pub header_of-h-requires : goal.header_of-h-requires
header_of-h-requires c = c.requires.long

pub loop-m-init : goal.loop-m-init
loop-m-init c = (omega arith, refl)

pub flags-requires : goal.flags-requires
flags-requires c =
    let small : c.loop-m.m < (header_in c.args.numbers.now).modules = omega (arith, c.loop-m-test.true, ap (λ q. q.modules) c.header_of-h.ensures) in record { loaded = c.requires; m_bound = small }

pub flag-requires : goal.flag-requires
flag-requires c = (omega arith)

pub returns-then-flag : goal.returns-then-flag
unfolding relaxed graph_in module_of
returns-then-flag c =
    let small : c.loop-m.m < (header_in c.args.numbers.now).modules = omega (arith, c.loop-m-test.true, ap (λ q. q.modules) c.header_of-h.ensures) in
    let listed : c.loop-m.m < length (modules_in c.args.numbers.now) = omega (arith, modules_long _ _ c.requires.of_modules, small) in
    relaxed-stop (modules_in c.args.numbers.now) c.loop-m.m c.loop-m.invariant.1 listed _ c.flags.ensures c.flag.ensures c.if-flag.true

pub loop-m-preserved : goal.loop-m-preserved
unfolding graph_in module_of
loop-m-preserved c =
    let small : c.loop-m.m < (header_in c.args.numbers.now).modules = omega (arith, c.loop-m-test.true, ap (λ q. q.modules) c.header_of-h.ensures) in
    let listed : c.loop-m.m < length (modules_in c.args.numbers.now) = omega (arith, modules_long _ _ c.requires.of_modules, small) in
    (omega (arith, c.loop-m-test.true), relaxed-on (modules_in c.args.numbers.now) c.loop-m.m c.loop-m.invariant.1 listed _ c.flags.ensures c.flag.ensures c.if-flag.false)

pub returns : goal.returns
unfolding relaxed graph_in
returns c = relaxed_end (modules_in c.args.numbers.now) c.loop-m.m c.loop-m.invariant.1 (omega (arith, modules_long _ _ c.requires.of_modules, c.loop-m-test.false, ap (λ q. q.modules) c.header_of-h.ensures))
