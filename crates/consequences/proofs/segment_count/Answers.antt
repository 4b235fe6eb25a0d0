use Rattle.consequences.proofs.BySegment.{count_quiet, count_module, count_statement, count_checked, count_bypassed, count_use, count_forward, count_bailout, good_module, good_statement, good_use}
use mathlib.Core.Path.{◌∙◌, sym}
use Rattle.consequences.proofs.segment_count.Goals as goal

pub is_quiet_runtime-requires : goal.is_quiet_runtime-requires
is_quiet_runtime-requires c = record { prepared = c.requires.prepared; m_bound = (good_module _ _ c.requires.good _ c.in-Module.is).0 }

pub returns-then-is_quiet_runtime : goal.returns-then-is_quiet_runtime
returns-then-is_quiet_runtime c = count_quiet _ _ _ c.in-Module.is (sym c.is_quiet_runtime.ensures ∙ c.if-is_quiet_runtime.true)

pub reference_count-requires : goal.reference_count-requires
reference_count-requires c = let b = good_statement _ _ c.requires.good _ _ c.in-Statement.is in record { loaded = c.requires.prepared.loaded; m_bound = (b.0, b.1) }

pub is_bypassed_inlined_constant-requires : goal.is_bypassed_inlined_constant-requires
is_bypassed_inlined_constant-requires c = record { prepared = c.requires.prepared; s_bound = (good_use _ _ c.requires.good _ _ c.in-Use.is).0 }

pub returns-then-is_bypassed_inlined_constant : goal.returns-then-is_bypassed_inlined_constant
returns-then-is_bypassed_inlined_constant c = count_bypassed _ _ _ _ c.in-Use.is (sym c.is_bypassed_inlined_constant.ensures ∙ c.if-is_bypassed_inlined_constant.true)

pub returns-else-is_quiet_runtime : goal.returns-else-is_quiet_runtime
returns-else-is_quiet_runtime c = count_module _ _ _ c.in-Module.is (sym c.is_quiet_runtime.ensures ∙ c.if-is_quiet_runtime.false)

pub returns-in-Statement : goal.returns-in-Statement
returns-in-Statement c = count_statement _ _ _ _ _ c.in-Statement.is c.reference_count.ensures.0

pub returns-in-CheckedUse : goal.returns-in-CheckedUse
returns-in-CheckedUse c = count_checked _ _ _ _ c.in-CheckedUse.is

pub returns-else-is_bypassed_inlined_constant : goal.returns-else-is_bypassed_inlined_constant
returns-else-is_bypassed_inlined_constant c = count_use _ _ _ _ c.in-Use.is (sym c.is_bypassed_inlined_constant.ensures ∙ c.if-is_bypassed_inlined_constant.false)

pub returns-in-Forward : goal.returns-in-Forward
returns-in-Forward c = count_forward _ _ _ c.in-Forward.is

pub returns-in-Bailout : goal.returns-in-Bailout
returns-in-Bailout c = count_bailout _ _ _ c.in-Bailout.is
