use Rattle.include_symbol.proofs.ByName.{export_go, export_found, export_none}
use Rattle.determine_side_effects.specs.graph_access_crate.Words.{module_of}
use Rattle.determine_side_effects.specs.graph_access_crate.Names.{resolved_exports}
use Prim.Native.Nat.{◌<◌, ◌≤◌}
use lib.ListN.{length}
use Rattle.determine_side_effects.specs.graph_crate.Check.{graph_in}
use native.Mathlib.Omega.{arith}
use Rattle.include_symbol.proofs.export_of.Goals as goal

pub resolved_export_name-requires : goal.resolved_export_name-requires
resolved_export_name-requires c =
    let its : c.loop-k.k < length (resolved_exports (module_of (graph_in c.args.numbers.now) c.args.m.0)) = omega (arith, c.loop-k-test.true, c.resolved_export_count-count.ensures.0) in record { loaded = c.requires.prepared.loaded; m_bound = (c.requires.m_bound, its) }

pub resolved_export_symbol-symbol-requires : goal.resolved_export_symbol-symbol-requires
resolved_export_symbol-symbol-requires c =
    let its : c.loop-k.k < length (resolved_exports (module_of (graph_in c.args.numbers.now) c.args.m.0)) = omega (arith, c.loop-k-test.true, c.resolved_export_count-count.ensures.0) in record { loaded = c.requires.prepared.loaded; m_bound = (c.requires.m_bound, its) }

pub returns-then-resolved_export_name-name : goal.returns-then-resolved_export_name-name
returns-then-resolved_export_name-name c =
    let its : c.loop-k.k < length (resolved_exports (module_of (graph_in c.args.numbers.now) c.args.m.0)) = omega (arith, c.loop-k-test.true, c.resolved_export_count-count.ensures.0) in
    (export_found _ _ _ c.loop-k.invariant _ _ its c.resolved_export_name.ensures c.if-resolved_export_name-name.true c.resolved_export_symbol-symbol.ensures.0, omega (arith, c.resolved_export_symbol-symbol.ensures.1))

pub loop-k-preserved : goal.loop-k-preserved
loop-k-preserved c =
    let its : c.loop-k.k < length (resolved_exports (module_of (graph_in c.args.numbers.now) c.args.m.0)) = omega (arith, c.loop-k-test.true, c.resolved_export_count-count.ensures.0) in
    export_go _ _ _ c.loop-k.invariant _ its c.resolved_export_name.ensures c.if-resolved_export_name-name.false

pub returns : goal.returns
returns c = let l : length (resolved_exports (module_of (graph_in c.args.numbers.now) c.args.m.0)) ≤ c.loop-k.k = omega (arith, c.loop-k-test.false, c.resolved_export_count-count.ensures.0) in
    (export_none _ _ _ c.loop-k.invariant l, omega arith)
