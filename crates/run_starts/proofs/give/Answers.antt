use Prim.Native.Nat.{ℕ, ◌*◌, ◌<◌}
use native.Mathlib.Omega.{arith}
use lib.ListN.{length, length-replicate}
use Rattle.facts.specs.graph_crate.Check.{graph_in}
use Rattle.own_starts.proofs.Noting.{noted_few}
use Rattle.run_starts.proofs.Giving.{cleared_again, noted_start, taken_good, all_noted, few_noted, none_given, all_given}
use Rattle.run_starts.proofs.give.Goals as goal

pub slice_bounds-note_all-end : goal.slice_bounds-note_all-end
slice_bounds-note_all-end c = length-replicate {A = ℕ} 1 0

pub note_all-n-requires : goal.note_all-n-requires
note_all-n-requires c = record { prepared = c.requires.prepared; noted = (noted_start _ _ _ c.requires.numbers_bound, c.requires.main_reached.leaves.planned); taken_in_bounds = taken_good _ _ _ _ c.requires.main_reached }

pub overflow_mul-n : goal.overflow_mul-n
unfolding graph_in
overflow_mul-n c = omega (arith, few_noted _ _ _ _ _ (all_noted _ _ _ _ c.requires.main_reached _ _ _ _ _ c.requires.numbers_bound c.note_all-n.ensures) (noted_few c.requires.prepared.loaded _ _ _))

pub returns-then-out-n : goal.returns-then-out-n
unfolding graph_in
returns-then-out-n c = let l : length c.args.out.now < 3 * c.note_all-n.result = omega (arith, c.if-out-n.true) in none_given _ _ _ _ _ (all_noted _ _ _ _ c.requires.main_reached _ _ _ _ _ c.requires.numbers_bound c.note_all-n.ensures) _ l

pub clear-requires : goal.clear-requires
clear-requires c = omega arith

pub note_all-requires : goal.note_all-requires
note_all-requires c = record { prepared = c.requires.prepared; noted = (noted_start _ _ _ (cleared_again _ c.args.seen.now c.note_all-n.new.seen _ c.requires.numbers_bound.0 c.note_all-n.auto.seen c.clear.ensures), c.requires.main_reached.leaves.planned); taken_in_bounds = taken_good _ _ _ _ c.requires.main_reached }

pub overflow_mul-result : goal.overflow_mul-result
unfolding graph_in
overflow_mul-result c = omega (arith, few_noted _ _ _ _ _ (all_noted _ _ _ _ c.requires.main_reached _ _ _ _ _ c.requires.numbers_bound c.note_all-n.ensures) (noted_few c.requires.prepared.loaded _ _ _))

pub returns : goal.returns
unfolding graph_in
returns c = all_given _ _ _ _ _ (all_noted _ _ _ _ c.requires.main_reached _ _ _ _ _ c.requires.numbers_bound c.note_all-n.ensures) _ c.if-out-n.false _ _ _ (all_noted _ _ _ _ c.requires.main_reached _ _ _ _ _ (cleared_again _ c.args.seen.now c.note_all-n.new.seen _ c.requires.numbers_bound.0 c.note_all-n.auto.seen c.clear.ensures) c.note_all.ensures)
