use Rattle.entry_order.proofs.Linking.{chain_ready, chain_turn, entry_below}
use native.Mathlib.Omega.{arith}
use Rattle.entry_order.proofs.link.Goals as goal

pub loop-i-init : goal.loop-i-init
loop-i-init c = chain_ready _ _ c.header_of-h.ensures _ _ c.args.chain.now _ c.requires.entries.1 c.clear.auto.chain c.clear.ensures

pub loop-i-preserved : goal.loop-i-preserved
loop-i-preserved c =
    let l = c.loop-i in
    chain_turn _ _ c.header_of-h.ensures _ _ _ _ _ c.loop-i-test.true l.auto.i c.entry_module-owner.ensures l.invariant

pub entry_module-owner-requires-clause-e_bound : goal.entry_module-owner-requires-clause-e_bound
entry_module-owner-requires-clause-e_bound c = (entry_below c.args.numbers.now _ c.args.count _ c.requires.entries.0 (omega arith)).1
