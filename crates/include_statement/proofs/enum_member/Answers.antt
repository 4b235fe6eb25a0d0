use Rattle.determine_side_effects.specs.graph_access_crate.Words.{module_of}
use Rattle.include_statement.proofs.Enums.{member_none, member-found, member-other, name-other}
use Rattle.determine_side_effects.specs.graph_access_crate.Names.{enum_members}
use Prim.Native.Nat.{◌<◌, ◌≤◌}
use native.Mathlib.Omega.{arith}
use lib.ListN.{length}
use Rattle.determine_side_effects.specs.graph_crate.Check.{graph_in}
use Rattle.include_statement.proofs.enum_member.Goals as goal
use Rattle.include_statement.proofs.enum_member.Goals.{then-enum_name-name+else-enum_member-member, else-enum_name-name}

pub returns-then-enum_member-member : goal.returns-then-enum_member-member
returns-then-enum_member-member c =
    let its : c.loop-k.k < length (enum_members (module_of (graph_in c.args.numbers.now) c.args.m.0)) = omega (arith, c.loop-k-test.true, c.enum_member_count-count.ensures.0) in
    member-found _ _ _ _ c.loop-k.invariant its _ c.enum_name.ensures _ c.if-enum_name-name.true c.enum_member.ensures c.if-enum_member-member.true

pub loop-k-preserved : goal.loop-k-preserved
loop-k-preserved c =
    let its : c.loop-k.k < length (enum_members (module_of (graph_in c.args.numbers.now) c.args.m.0)) = omega (arith, c.loop-k-test.true, c.enum_member_count-count.ensures.0) in
    elim c.if-enum_name-name.branch [ then-enum_name-name+else-enum_member-member w ↦ member-other _ _ _ _ c.loop-k.invariant its _ c.enum_name.ensures _ w.if-enum_name-name.true w.enum_member.ensures w.if-enum_member-member.false | else-enum_name-name w ↦ name-other _ _ _ _ c.loop-k.invariant its _ c.enum_name.ensures w.if-enum_name-name.false ]

pub returns : goal.returns
returns c = let l : length (enum_members (module_of (graph_in c.args.numbers.now) c.args.m.0)) ≤ c.loop-k.k = omega (arith, c.loop-k-test.false, c.enum_member_count-count.ensures.0) in
    member_none _ _ _ _ c.loop-k.invariant l
