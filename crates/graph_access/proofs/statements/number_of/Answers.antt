use Prim.Native.Nat.{◌+◌}
use mathlib.Core.Path.{◌≡◌, ap}
use native.Mathlib.Omega.{arith}
use lib.ListN.{get_or}
use Rattle.graph.proofs.tables_crate.Sections.{inside}
use Rattle.graph.specs.graph_tables_crate.Tables.{modules_in, first_of}
use Rattle.graph.specs.Check.{graph_in}
use Rattle.graph_access.specs.Words.{statement_list}
use Rattle.graph_access.proofs.StatementNumbers.{in_first, number-below}
use Rattle.graph_access.proofs.statements.number_of.Goals as goal

pub section-firsts-requires : goal.section-firsts-requires
section-firsts-requires c = inside c.requires.loaded.laid 2 (omega arith)

pub overflow_add-result : goal.overflow_add-result
unfolding statement_list graph_in
overflow_add-result c =
    let first : get_or c.section-firsts.result.now c.args.m.0 0 ≡ first_of (modules_in c.args.numbers.now) c.args.m.0 = rw c.section-firsts.ensures (in_first c.requires.loaded _ c.requires.m_bound.0) in
    omega (arith, first, number-below c.requires.loaded _ c.requires.m_bound.0 _ c.requires.m_bound.1, c.requires.loaded.few_statements)

pub returns : goal.returns
unfolding graph_in
returns c =
    let first : get_or c.section-firsts.result.now c.args.m.0 0 ≡ first_of (modules_in c.args.numbers.now) c.args.m.0 = rw c.section-firsts.ensures (in_first c.requires.loaded _ c.requires.m_bound.0) in
    ap (λ j. j + c.args.i.0) first
