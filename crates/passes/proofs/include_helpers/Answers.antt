use mathlib.Core.Path.{◌∙◌}
use Rattle.passes.proofs.Using.{using_start, using-step, using-other, using-full, using-done}
use Rattle.passes.proofs.Staying.{along_same}
use Rattle.passes.proofs.Accepted.{helpers_few}
use Rattle.determine_side_effects.specs.graph_format_crate.declared.Header.{Header}
use Rattle.determine_side_effects.specs.graph_crate.Check.{graph_in}
use mathlib.Core.Path.{ap}
use native.Mathlib.Omega.{arith}
use Rattle.determine_side_effects.proofs.refusal_crate.Exits.{passed_on}
use Rattle.passes.proofs.include_helpers.Goals as goal
use Rattle.passes.proofs.include_helpers.Goals.{else-flag, then-flag+in_ok-total}

pub header_of-h-requires : goal.header_of-h-requires
header_of-h-requires c = c.requires.prepared.loaded.long

pub loop-k-init : goal.loop-k-init
loop-k-init c = (using_start _ _ _ _ _ _ _ _ c.requires.working)

pub flag-requires : goal.flag-requires
flag-requires c = omega (arith, c.loop-k-test.true, ap (λ (x : Header). x.helpers) c.header_of-h.ensures, helpers_few c.requires.prepared.loaded)

pub helper_symbol-s-requires : goal.helper_symbol-s-requires
helper_symbol-s-requires c = record { loaded = c.requires.prepared.loaded; k_bound = omega (arith, c.loop-k-test.true, ap (λ (x : Header). x.helpers) c.header_of-h.ensures) }

pub start_one-requires : goal.start_one-requires
unfolding graph_in
start_one-requires c = record { prepared = c.requires.prepared; working = c.loop-k.invariant.working; good = (c.helper_symbol-s.ensures.1, omega arith, omega arith) }

pub returns-in_err-total : goal.returns-in_err-total
returns-in_err-total c = rw (passed_on c.from_residual.result _ c.from_residual.ensures.1) (using-full _ _ _ _ _ _ _ _ _ _ _ c.loop-k.invariant (omega (arith, c.loop-k-test.true, ap (λ (x : Header). x.helpers) c.header_of-h.ensures)) _ c.flag.ensures c.if-flag.true _ c.helper_symbol-s.ensures.0 _ _ _ (rw c.in_err-total.was at c.start_one.ensures))

pub loop-k-preserved : goal.loop-k-preserved
loop-k-preserved c = let v = c.loop-k.invariant in let q = ap (λ (x : Header). x.helpers) c.header_of-h.ensures in let taken = c.loop-k-test.true in let is = c.flag.ensures in elim c.if-flag.branch [ then-flag+in_ok-total w ↦ (along_same _ _ _ _ _ _ _ _ (using-step _ _ _ _ _ _ _ _ _ _ _ v (omega (arith, taken, q)) _ is w.if-flag.true _ w.helper_symbol-s.ensures.0 _ _ _ _ (rw w.in_ok-total.was at w.start_one.ensures)) w.partners-is w.marks-is w.lines-is w.total-is) | else-flag w ↦ (along_same _ _ _ _ _ _ _ _ (using-other _ _ _ _ _ _ _ _ _ _ _ v (omega (arith, taken, q)) _ is w.if-flag.false) w.partners-is w.marks-is w.lines-is w.total-is) ]

pub returns : goal.returns
returns c = using-done _ _ _ _ _ _ _ _ _ _ _ c.loop-k.invariant (omega (arith, c.loop-k-test.false, ap (λ (x : Header). x.helpers) c.header_of-h.ensures))
