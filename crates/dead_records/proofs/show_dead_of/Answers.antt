use Rattle.dead_records.proofs.Numbering.{records_few}
use Rattle.determine_side_effects.specs.graph_crate.Check.{graph_in}
use Rattle.determine_side_effects.specs.graph_tables_crate.Tables.{header_in}
use Prim.Native.Nat.{◌<◌}
use lib.ListN.{length}
use Rattle.determine_side_effects.specs.graph_access_crate.Names.{related}
use Rattle.determine_side_effects.specs.graph_access_crate.Words.{entry_of}
use Rattle.dead_records.proofs.DeadBits.{marking_none, marking_done, bit-inside, marking-set, marking-unreachable, marking-impure}
use native.Mathlib.Omega.{arith}
use Rattle.dead_records.proofs.show_dead_of.Goals as goal
use Rattle.dead_records.proofs.show_dead_of.Goals.{then-r-eq0+then-is_pure, then-r-eq0+else-is_pure, else-r-eq0}

pub loop-k-init : goal.loop-k-init
loop-k-init c = marking_none _ _ _ _

pub bounds-firsts-first : goal.bounds-firsts-first
unfolding graph_in
bounds-firsts-first c = omega (arith, c.related_statement-r.ensures.module_is, c.related_statement-r.ensures.here.inside, c.requires.numbers_in_bounds.0)

pub overflow_add-firsts : goal.overflow_add-firsts
unfolding graph_in
overflow_add-firsts c =
    let r = c.related_statement-r.ensures in
    let inside : c.related_statement-r.result.«module».0 < (header_in c.args.numbers.now).modules = omega (arith, r.module_is, r.here.inside) in
    let l : c.loop-k.k < length (related (entry_of (graph_in c.args.numbers.now) c.args.e.0)) = omega (arith, c.loop-k-test.true, c.related_count-related.ensures) in
    let first = c.requires.numbers_in_bounds.1 c.related_statement-r.result.«module».0 inside in
    let k = c.loop-k.invariant in
    record { fits = omega (arith, bit-inside _ _ _ _ _ _ k l _ r _ 16777216 first (records_few c.requires.prepared.loaded)) }

pub set-requires : goal.set-requires
unfolding graph_in
set-requires c =
    let r = c.related_statement-r.ensures in
    let inside : c.related_statement-r.result.«module».0 < (header_in c.args.numbers.now).modules = omega (arith, r.module_is, r.here.inside) in
    let l : c.loop-k.k < length (related (entry_of (graph_in c.args.numbers.now) c.args.e.0)) = omega (arith, c.loop-k-test.true, c.related_count-related.ensures) in
    let first = c.requires.numbers_in_bounds.1 c.related_statement-r.result.«module».0 inside in
    let k = c.loop-k.invariant in
    bit-inside _ _ _ _ _ _ k l _ r _ _ first (omega (arith, k.same_length, c.requires.e_bound.1))

pub loop-k-preserved : goal.loop-k-preserved
unfolding graph_in
loop-k-preserved c =
    let k = c.loop-k.invariant in
    let r = c.related_statement-r.ensures in
    let inside : c.related_statement-r.result.«module».0 < (header_in c.args.numbers.now).modules = omega (arith, r.module_is, r.here.inside) in
    let l : c.loop-k.k < length (related (entry_of (graph_in c.args.numbers.now) c.args.e.0)) = omega (arith, c.loop-k-test.true, c.related_count-related.ensures) in
    let first = c.requires.numbers_in_bounds.1 c.related_statement-r.result.«module».0 inside in
    elim c.if-r-eq0.branch [
      | then-r-eq0+then-is_pure w ↦ marking-set _ _ _ _ _ _ k l _ r _ _ _ _ w.if-r-eq0.true w.is_pure.ensures w.if-is_pure.true first w.set.auto.row w.set.ensures w.bits-is
      | then-r-eq0+else-is_pure w ↦ marking-impure _ _ _ _ _ _ k l _ r _ _ w.is_pure.ensures w.if-is_pure.false w.bits-is
      | else-r-eq0 w ↦ marking-unreachable _ _ _ _ _ _ k l _ r _ w.if-r-eq0.false w.bits-is
    ]

pub returns : goal.returns
returns c = marking_done _ _ _ _ _ _ c.loop-k.invariant (omega (arith, c.loop-k-test.false, c.related_count-related.ensures))
