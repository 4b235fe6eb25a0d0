use Rattle.entry_order.proofs.Linking.{entry_below}
use Rattle.entry_order.proofs.Grouping.{go_start, go_done, turn_room, turn_first, turn_later}
use Rattle.entry_order.proofs.group.Goals as goal
use Rattle.entry_order.proofs.group.Goals.{else-chain-u, then-chain-u}

pub loop-i-init : goal.loop-i-init
loop-i-init c = go_start _ _ _ c.requires.entries.0.long _ c.requires.entries.2

pub entry_module-m-requires-clause-e_bound : goal.entry_module-m-requires-clause-e_bound
entry_module-m-requires-clause-e_bound c = (entry_below _ _ _ _ c.requires.entries.0 c.loop-i-test.true).1

pub append_module-n-requires : goal.append_module-n-requires
append_module-n-requires c =
    let l = c.link.ensures in
    let o = c.entry_module-m.ensures in
    record {
      in_bounds = c.requires.loaded.long;
      chained = (l, c.requires.entries.0);
      u_bound = (o.1, c.requires.loaded.few_entries, turn_room _ _ _ c.requires.entries.0 _ l _ _ _ _ c.loop-i.invariant c.loop-i-test.true _ o c.if-chain-u.true);
    }

pub loop-i-preserved : goal.loop-i-preserved
loop-i-preserved c =
    let l = c.link.ensures in
    let o = c.entry_module-m.ensures in
    let i = c.loop-i.invariant in
    let h = c.loop-i-test.true in
    elim c.if-chain-u.branch [
      | then-chain-u w ↦ rw (w.out-is, w.n-is) (turn_first _ _ _ c.requires.entries.0 _ l _ _ _ _ i h _ o w.if-chain-u.true _ _ w.append_module-n.ensures)
      | else-chain-u w ↦ rw (w.out-is, w.n-is) (turn_later _ _ _ c.requires.entries.0 _ l _ _ _ _ i h _ o w.if-chain-u.false)
    ]

pub returns : goal.returns
returns c = go_done _ _ _ c.requires.entries.0.long _ _ _ _ c.loop-i.invariant c.loop-i-test.false
