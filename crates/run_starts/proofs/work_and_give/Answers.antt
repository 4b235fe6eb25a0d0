-- run_starts/proofs/work_and_give/Answers.antt
use Rattle.run_starts.proofs.Ending.{ends_full, main_reached, ends-cleared, ends-given}
use Rattle.run_starts.proofs.work_and_give.Goals as goal

pub work-requires : goal.work-requires
work-requires c = record { prepared = c.requires.prepared; numbers_in_bounds = c.requires.numbers_in_bounds; numbers_in_bounds_2 = c.requires.numbers_in_bounds_2 }

pub give-requires : goal.give-requires
give-requires c = record { prepared = c.requires.prepared; main_reached = main_reached _ _ _ _ _ _ _ _ c.work.ensures _ c.in-Ok.is; numbers_bound = c.requires.numbers_bound }

pub returns-in-Err : goal.returns-in-Err
returns-in-Err c = ends_full _ _ _ _ _ _ _ c.work.ensures _ c.in-Err.is

pub returns-in-Err-give : goal.returns-in-Err-give
returns-in-Err-give c = ends-cleared _ _ _ _ _ _ _ c.work.ensures _ c.in-Ok.is _ c.work.auto.marks c.work.auto.lines _ _ c.give.ensures c.in-Err-give.is _ _ c.clear.ensures.0 c.clear.ensures.1

pub returns-in-Ok-give : goal.returns-in-Ok-give
returns-in-Ok-give c = ends-given _ _ _ _ _ _ _ c.work.ensures _ c.in-Ok.is _ c.work.auto.marks c.work.auto.lines _ _ c.give.ensures c.in-Ok-give.is (λ i. (c.slice_known-8-1.given i).fits)
