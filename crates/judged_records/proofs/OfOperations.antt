-- T9 and T10: the judge passes exactly the keep records, and with them what drains and runs write. T5 and T8 by the rules.
use Rattle.judged_records.specs.Operation.{JudgesExactly, SmallestBoth, EveryDrainSmallest, EveryRunSmallest, EveryDrainPasses, EveryRunPasses}
use Rattle.judged_records.proofs.ByRules as by-rules
use Rattle.judged_records.proofs.Exactly.{judge_exactly as exactly}
use Rattle.judged_records.proofs.Drains.{drain_passes as drains}
use Rattle.judged_records.proofs.OfRuns.{run_passes as runs}

pub judge_exactly : JudgesExactly
judge_exactly = exactly

pub smallest_by_rules : SmallestBoth
smallest_by_rules = by-rules.smallest_by_rules

pub drain_smallest : EveryDrainSmallest
drain_smallest = by-rules.drain_smallest

pub run_smallest : EveryRunSmallest
run_smallest = by-rules.run_smallest

pub drain_passes : EveryDrainPasses
drain_passes = drains exactly

pub run_passes : EveryRunPasses
run_passes = runs exactly
