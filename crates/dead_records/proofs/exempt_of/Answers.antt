use Prim.Native.Nat.{◌<◌}
use native.Mathlib.Omega.{arith}
use lib.ListN.{length}
use Rattle.determine_side_effects.specs.graph_tables_crate.Tables.{header_in}
use Rattle.determine_side_effects.specs.graph_crate.Check.{graph_in}
use Rattle.determine_side_effects.specs.graph_access_crate.Names.{related}
use Rattle.determine_side_effects.specs.graph_access_crate.Words.{entry_of}
use Rattle.entry_liveness.proofs.Related.{module_inside, statement_inside}
use Rattle.dead_records.proofs.Numbering.{records_few}
use Rattle.dead_records.proofs.Exempting.{exempting_none, exempting_done, bit-inside, exempting-set, exempting-unkept, exempting-unreachable}
use Rattle.dead_records.proofs.exempt_of.Goals as goal
use Rattle.dead_records.proofs.exempt_of.Goals.{then-r-eq0+then-is_kept, then-r-eq0+else-is_kept, else-r-eq0}

pub related_count-count-requires : goal.related_count-count-requires
related_count-count-requires c = record { loaded = c.requires.loaded; e_bound = c.requires.e_bound.0 }

pub loop-k-init : goal.loop-k-init
loop-k-init c = exempting_none _ _ _ _

pub related_statement-r-requires : goal.related_statement-r-requires
related_statement-r-requires c = record { loaded = c.requires.loaded; e_bound = (c.requires.e_bound.0, omega (arith, c.loop-k-test.true, c.related_count-count.ensures)) }

pub is_kept-requires : goal.is_kept-requires
unfolding graph_in
is_kept-requires c =
    let r = c.related_statement-r.ensures in record { loaded = c.requires.loaded; m_bound = (module_inside _ _ _ r, statement_inside _ _ _ r, c.requires.e_bound.2) }

pub overflow_add-scratch : goal.overflow_add-scratch
unfolding graph_in
overflow_add-scratch c =
    let r = c.related_statement-r.ensures in
    let inside : c.related_statement-r.result.«module».0 < (header_in c.args.numbers.now).modules = omega (arith, r.module_is, r.here.inside) in
    let l : c.loop-k.k < length (related (entry_of (graph_in c.args.numbers.now) c.args.e.0)) = omega (arith, c.loop-k-test.true, c.related_count-count.ensures) in
    let first = c.requires.has_firsts c.related_statement-r.result.«module».0 inside in
    record { fits = omega (arith, bit-inside _ _ _ _ _ _ c.loop-k.invariant l _ r _ 16777216 first (records_few c.requires.loaded)) }

pub unset-requires : goal.unset-requires
unfolding graph_in
unset-requires c =
    let r = c.related_statement-r.ensures in
    let inside : c.related_statement-r.result.«module».0 < (header_in c.args.numbers.now).modules = omega (arith, r.module_is, r.here.inside) in
    let l : c.loop-k.k < length (related (entry_of (graph_in c.args.numbers.now) c.args.e.0)) = omega (arith, c.loop-k-test.true, c.related_count-count.ensures) in
    let first = c.requires.has_firsts c.related_statement-r.result.«module».0 inside in
    let k = c.loop-k.invariant in
    bit-inside _ _ _ _ _ _ k l _ r _ _ first (omega (arith, k.same_length, c.requires.e_bound.1))

pub loop-k-preserved : goal.loop-k-preserved
unfolding graph_in
loop-k-preserved c =
    let r = c.related_statement-r.ensures in
    let inside : c.related_statement-r.result.«module».0 < (header_in c.args.numbers.now).modules = omega (arith, r.module_is, r.here.inside) in
    let l : c.loop-k.k < length (related (entry_of (graph_in c.args.numbers.now) c.args.e.0)) = omega (arith, c.loop-k-test.true, c.related_count-count.ensures) in
    let first = c.requires.has_firsts c.related_statement-r.result.«module».0 inside in
    let k = c.loop-k.invariant in
    elim c.if-r-eq0.branch [
      | then-r-eq0+then-is_kept w ↦ exempting-set _ _ _ _ _ _ k l _ r _ w.is_kept.ensures _ _ _ w.if-r-eq0.true w.if-is_kept.true first w.unset.auto.row w.unset.ensures w.bits-is
      | then-r-eq0+else-is_kept w ↦ exempting-unkept _ _ _ _ _ _ k l _ r _ w.is_kept.ensures _ w.if-is_kept.false w.bits-is
      | else-r-eq0 w ↦ exempting-unreachable _ _ _ _ _ _ k l _ r _ w.if-r-eq0.false w.bits-is
    ]

pub returns : goal.returns
returns c = exempting_done _ _ _ _ _ _ c.loop-k.invariant (omega (arith, c.loop-k-test.false, c.related_count-count.ensures))
