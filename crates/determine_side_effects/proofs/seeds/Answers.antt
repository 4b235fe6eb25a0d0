use mathlib.Core.Path.{◌∙◌, sym}
use native.Mathlib.Omega.{arith}
use Rattle.determine_side_effects.proofs.Reading.{seeds_none, seeds_other, seeds-unstarred, seeds-external, seeds-wrapped, seeds-dynamic}
use Rattle.determine_side_effects.proofs.seeds.Goals as goal

pub returns-then-target-eq0 : goal.returns-then-target-eq0
returns-then-target-eq0 c = seeds_none _ _ (sym c.import_record_target-target.ensures.0 ∙ c.if-target-eq0.true)

pub returns-then-import_record_kind-ne0 : goal.returns-then-import_record_kind-ne0
returns-then-import_record_kind-ne0 c = seeds_other _ _ _ c.import_record_target-target.ensures.0 c.if-target-eq0.false _ c.import_record_kind.ensures c.if-import_record_kind-ne0.true

pub flag-requires : goal.flag-requires
flag-requires c = (omega arith)

pub returns-then-not-flag : goal.returns-then-not-flag
returns-then-not-flag c = seeds-unstarred _ _ _ c.import_record_target-target.ensures.0 c.if-target-eq0.false _ c.import_record_kind.ensures c.if-import_record_kind-ne0.false _ c.import_record_bits.ensures c.flag.ensures (c.if-not-flag.true)

pub overflow_sub-t : goal.overflow_sub-t
overflow_sub-t c = omega (arith, c.if-target-eq0.false)

pub is_normal-requires : goal.is_normal-requires
is_normal-requires c = record { loaded = c.requires.loaded; m_bound = omega (arith, c.if-target-eq0.false, c.import_record_target-target.ensures.1) }

pub returns-then-not-is_normal : goal.returns-then-not-is_normal
returns-then-not-is_normal c = seeds-external _ _ _ c.import_record_target-target.ensures.0 c.if-target-eq0.false _ c.import_record_kind.ensures c.if-import_record_kind-ne0.false _ c.import_record_bits.ensures c.flag.ensures (c.if-not-flag.false) c.is_normal.ensures (c.if-not-is_normal.true)

pub wrap-requires : goal.wrap-requires
wrap-requires c = record { loaded = c.requires.loaded; m_bound = omega (arith, c.if-target-eq0.false, c.import_record_target-target.ensures.1) }

pub returns-then-wrap-ne0 : goal.returns-then-wrap-ne0
returns-then-wrap-ne0 c = seeds-wrapped _ _ _ c.import_record_target-target.ensures.0 c.if-target-eq0.false _ c.import_record_kind.ensures c.if-import_record_kind-ne0.false _ c.import_record_bits.ensures c.flag.ensures (c.if-not-flag.false) c.is_normal.ensures (c.if-not-is_normal.false) _ c.wrap.ensures c.if-wrap-ne0.true

pub flags-requires : goal.flags-requires
flags-requires c = record { loaded = c.requires.loaded; m_bound = omega (arith, c.if-target-eq0.false, c.import_record_target-target.ensures.1) }

pub flag-requires-2 : goal.flag-requires-2
flag-requires-2 c = (omega arith)

pub returns : goal.returns
returns c = seeds-dynamic _ _ _ c.import_record_target-target.ensures.0 c.if-target-eq0.false _ c.import_record_kind.ensures c.if-import_record_kind-ne0.false _ c.import_record_bits.ensures c.flag.ensures (c.if-not-flag.false) c.is_normal.ensures (c.if-not-is_normal.false) _ c.wrap.ensures c.if-wrap-ne0.false _ c.flags.ensures c.flag-2.ensures
