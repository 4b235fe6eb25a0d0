use Rattle.worklist.proofs.Joining.{walk_start, walk-done, walk-symbol, walk-full, walk_step, walk-less, walk_table, walk_whole}
use Rattle.determine_side_effects.specs.facts_crate.Facts.{first_part}
use Rattle.determine_side_effects.specs.graph_crate.Check.{graph_in}
use lib.ListN.{get_or}
use Prim.Native.Nat.{ℕ, ◌+◌, ◌*◌}
use mathlib.Core.Path.{◌≡◌, ap, ◌∙◌}
use native.Mathlib.Omega.{arith}
use Rattle.determine_side_effects.proofs.refusal_crate.Exits.{passed_on}
use Rattle.worklist.proofs.join_forwards.Goals as goal

pub bounds-partners-firsts : goal.bounds-partners-firsts
unfolding graph_in
bounds-partners-firsts c = let m = ap (λ x. x.modules) c.header_of-h.ensures in omega (arith, m)

pub loop-at-init : goal.loop-at-init
unfolding graph_in
loop-at-init c =
    let m = c.firsts_at-firsts.ensures ∙ ap (λ x. x.modules) c.header_of-h.ensures in
    walk_start _ _ _ _ _ _ _ (walk_table _ _ _ _ _ _ c.requires.m_bound.2 c.requires.linked) c.requires.m_bound.0 c.requires.m_bound.2 _ _ c.requires.held (ap (λ (x : ℕ). get_or c.args.partners.now (x + c.args.m.0) 0) m)

pub declare-requires : goal.declare-requires
unfolding graph_in
declare-requires c =
    -- the table of the first k lines, and a line whose forward is walked past
    let table = walk_table _ _ _ _ _ _ c.requires.m_bound.2 c.requires.linked in
    let z : c.loop-at.at ≡ 0 → ⊥ = λ q. omega (arith, q, c.loop-at-test.true) in
    let e = c.first_part.ensures ∙ ap first_part c.fact_at.ensures in
    let w = c.loop-at.invariant in
    record {
      prepared = c.requires.prepared;
      held = w.held;
      s_bound = (walk-symbol _ _ _ _ _ _ _ table c.requires.m_bound.0 c.requires.m_bound.2 _ _ _ _ c.loop-at.invariant z _ e, omega (arith, c.requires.m_bound.2, w.more), omega (arith, c.requires.m_bound.2, w.more, w.inside z));
    }

pub returns-in_err-total : goal.returns-in_err-total
unfolding graph_in
returns-in_err-total c =
    let table = walk_table _ _ _ _ _ _ c.requires.m_bound.2 c.requires.linked in
    let z : c.loop-at.at ≡ 0 → ⊥ = λ q. omega (arith, q, c.loop-at-test.true) in
    let e = c.first_part.ensures ∙ ap first_part c.fact_at.ensures in rw (passed_on c.from_residual.result _ c.from_residual.ensures.1) (walk_whole _ _ _ _ _ _ c.requires.m_bound.2 _ _ _ (walk-full _ _ _ _ _ _ _ table c.requires.m_bound.0 c.requires.m_bound.2 _ _ _ _ c.loop-at.invariant z _ e _ _ (rw c.in_err-total.was at c.declare.ensures)))

pub overflow_add-at-in-loop-at : goal.overflow_add-at-in-loop-at
unfolding graph_in
overflow_add-at-in-loop-at c =
    let table = walk_table _ _ _ _ _ _ c.requires.m_bound.2 c.requires.linked in
    let z : c.loop-at.at ≡ 0 → ⊥ = λ q. omega (arith, q, c.loop-at-test.true) in
    let e = c.first_part.ensures ∙ ap first_part c.fact_at.ensures in
    let m = ap (λ x. x.modules) c.header_of-h.ensures in
    omega (arith, m, walk-symbol _ _ _ _ _ _ _ table c.requires.m_bound.0 c.requires.m_bound.2 _ _ _ _ c.loop-at.invariant z _ e)

pub offset_bounds-partners-nexts : goal.offset_bounds-partners-nexts
unfolding graph_in
offset_bounds-partners-nexts c =
    let table = walk_table _ _ _ _ _ _ c.requires.m_bound.2 c.requires.linked in
    let z : c.loop-at.at ≡ 0 → ⊥ = λ q. omega (arith, q, c.loop-at-test.true) in
    let e = c.first_part.ensures ∙ ap first_part c.fact_at.ensures in
    let m = ap (λ x. x.modules) c.header_of-h.ensures in
    omega (arith, m, walk-symbol _ _ _ _ _ _ _ table c.requires.m_bound.0 c.requires.m_bound.2 _ _ _ _ c.loop-at.invariant z _ e)

pub bounds-partners-nexts : goal.bounds-partners-nexts
unfolding graph_in
bounds-partners-nexts c =
    let table = walk_table _ _ _ _ _ _ c.requires.m_bound.2 c.requires.linked in
    let z : c.loop-at.at ≡ 0 → ⊥ = λ q. omega (arith, q, c.loop-at-test.true) in
    let e = c.first_part.ensures ∙ ap first_part c.fact_at.ensures in
    let m = ap (λ x. x.modules) c.header_of-h.ensures in
    omega (arith, m, walk-symbol _ _ _ _ _ _ _ table c.requires.m_bound.0 c.requires.m_bound.2 _ _ _ _ c.loop-at.invariant z _ e)

pub loop-at-smaller : goal.loop-at-smaller
unfolding graph_in
loop-at-smaller c =
    let table = walk_table _ _ _ _ _ _ c.requires.m_bound.2 c.requires.linked in
    let z : c.loop-at.at ≡ 0 → ⊥ = λ q. omega (arith, q, c.loop-at-test.true) in
    let e = c.first_part.ensures ∙ ap first_part c.fact_at.ensures in
    let m = c.nexts_at-nexts.ensures ∙ ap (λ x. 3 * x.modules) c.header_of-h.ensures in
    walk-less _ _ _ _ _ _ _ table c.requires.m_bound.0 c.requires.m_bound.2 _ _ _ _ c.loop-at.invariant z _ e _ (ap (λ (x : ℕ). get_or c.args.partners.now (x + c.first_part.result) 0) m)

pub loop-at-preserved : goal.loop-at-preserved
unfolding graph_in
loop-at-preserved c =
    let table = walk_table _ _ _ _ _ _ c.requires.m_bound.2 c.requires.linked in
    let z : c.loop-at.at ≡ 0 → ⊥ = λ q. omega (arith, q, c.loop-at-test.true) in
    let e = c.first_part.ensures ∙ ap first_part c.fact_at.ensures in
    let m = c.nexts_at-nexts.ensures ∙ ap (λ x. 3 * x.modules) c.header_of-h.ensures in
    walk_step _ _ _ _ _ _ _ table c.requires.m_bound.0 c.requires.m_bound.2 _ _ _ _ c.loop-at.invariant z _ e _ _ _ _ (rw c.in_ok-total.was at c.declare.ensures) (ap (λ (x : ℕ). get_or c.args.partners.now (x + c.first_part.result) 0) m)

pub returns : goal.returns
unfolding graph_in
returns c = walk_whole _ _ _ _ _ _ c.requires.m_bound.2 _ _ _ (walk-done _ _ _ _ _ _ _ (walk_table _ _ _ _ _ _ c.requires.m_bound.2 c.requires.linked) c.requires.m_bound.0 c.requires.m_bound.2 _ _ _ _ c.loop-at.invariant (omega (arith, c.loop-at-test.false)))
