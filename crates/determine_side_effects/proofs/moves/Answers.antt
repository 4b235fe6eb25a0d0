use Prim.Native.Nat.{◌<◌, ◌≤◌}
use mathlib.Core.Path.{refl, ap, ◌∙◌, sym}
use mathlib.Core.List.{[]}
use native.Mathlib.Omega.{arith}
use lib.ListN.{length, get_or}
use Rattle.facts.proofs.tables_crate.Sections.{inside}
use Rattle.facts.specs.graph_crate.Check.{graph_in}
use Rattle.facts.specs.graph_access_crate.Names.{import_records}
use Rattle.facts.specs.graph_access_crate.Words.{module_of}
use Rattle.determine_side_effects.proofs.InSection.{verdicts_long}
use Rattle.determine_side_effects.proofs.Lists.{some_end}
use Rattle.determine_side_effects.proofs.Reading.{moves_external, moves-other, moves-some, rows_seeded, rows_reached, rows_on}
use Rattle.determine_side_effects.proofs.moves.Goals as goal

pub is_normal-requires : goal.is_normal-requires
is_normal-requires c = record { loaded = c.requires.has_verdicts.loaded; m_bound = c.requires.m_bound }

pub returns-then-not-is_normal : goal.returns-then-not-is_normal
returns-then-not-is_normal c = moves_external _ _ _ (sym c.is_normal.ensures ∙ c.if-not-is_normal.true)

pub section-verdicts-requires : goal.section-verdicts-requires
section-verdicts-requires c = inside c.requires.has_verdicts.laid 5 (omega arith)

pub offset_bounds-verdicts-i : goal.offset_bounds-verdicts-i
offset_bounds-verdicts-i c = record { fits = omega (arith, c.requires.m_bound, c.requires.has_verdicts.loaded.few_modules) }

pub bounds-verdicts-i : goal.bounds-verdicts-i
bounds-verdicts-i c = omega (arith, ap length c.section-verdicts.ensures, verdicts_long c.requires.has_verdicts.laid, c.requires.m_bound)

pub returns-then-verdicts-i-ne0 : goal.returns-then-verdicts-i-ne0
returns-then-verdicts-i-ne0 c =
    moves-other _ _ _ (sym c.is_normal.ensures ∙ c.if-not-is_normal.false) (omega (arith, c.if-verdicts-i-ne0.true, ap (λ v. get_or v c.args.m.0 0) c.section-verdicts.ensures))

pub import_record_count-count-requires : goal.import_record_count-count-requires
import_record_count-count-requires c = record { loaded = c.requires.has_verdicts.loaded; m_bound = c.requires.m_bound }

pub loop-k-init : goal.loop-k-init
loop-k-init c = (omega arith, refl)

pub seeds-requires : goal.seeds-requires
seeds-requires c =
    let listed : c.loop-k.k < length (import_records (module_of (graph_in c.args.numbers.now) c.args.m.0)) = omega (arith, c.loop-k-test.true, c.import_record_count-count.ensures.0) in record { loaded = c.requires.has_verdicts.loaded; m_bound = (c.requires.m_bound, listed) }

pub returns-then-seeds : goal.returns-then-seeds
returns-then-seeds c =
    let listed : c.loop-k.k < length (import_records (module_of (graph_in c.args.numbers.now) c.args.m.0)) = omega (arith, c.loop-k-test.true, c.import_record_count-count.ensures.0) in
    rows_seeded _ _ _ _ listed c.loop-k.invariant.1 c.seeds.ensures c.if-seeds.true ∙ moves-some _ _ _ (sym c.is_normal.ensures ∙ c.if-not-is_normal.false) (sym (ap (λ v. get_or v c.args.m.0 0) c.section-verdicts.ensures) ∙ c.if-verdicts-i-ne0.false)

pub reaches-requires : goal.reaches-requires
reaches-requires c =
    let listed : c.loop-k.k < length (import_records (module_of (graph_in c.args.numbers.now) c.args.m.0)) = omega (arith, c.loop-k-test.true, c.import_record_count-count.ensures.0) in record { has_verdicts = c.requires.has_verdicts; m_bound = (c.requires.m_bound, listed) }

pub returns-then-reaches : goal.returns-then-reaches
returns-then-reaches c =
    let listed : c.loop-k.k < length (import_records (module_of (graph_in c.args.numbers.now) c.args.m.0)) = omega (arith, c.loop-k-test.true, c.import_record_count-count.ensures.0) in
    rows_reached _ _ _ _ listed c.loop-k.invariant.1 c.seeds.ensures c.if-seeds.false c.reaches.ensures c.if-reaches.true ∙ moves-some _ _ _ (sym c.is_normal.ensures ∙ c.if-not-is_normal.false) (sym (ap (λ v. get_or v c.args.m.0 0) c.section-verdicts.ensures) ∙ c.if-verdicts-i-ne0.false)

pub loop-k-preserved : goal.loop-k-preserved
loop-k-preserved c =
    let listed : c.loop-k.k < length (import_records (module_of (graph_in c.args.numbers.now) c.args.m.0)) = omega (arith, c.loop-k-test.true, c.import_record_count-count.ensures.0) in
    (omega (arith, c.loop-k-test.true), rows_on _ _ _ _ listed c.loop-k.invariant.1 c.seeds.ensures c.if-seeds.false c.reaches.ensures c.if-reaches.false)

pub returns : goal.returns
returns c =
    let l : length (import_records (module_of (graph_in c.args.numbers.now) c.args.m.0)) ≤ c.loop-k.k = omega (arith, c.loop-k-test.false, c.import_record_count-count.ensures.0) in
    sym (some_end _ [] _ _ l) ∙ c.loop-k.invariant.1 ∙ moves-some _ _ _ (sym c.is_normal.ensures ∙ c.if-not-is_normal.false) (sym (ap (λ v. get_or v c.args.m.0 0) c.section-verdicts.ensures) ∙ c.if-verdicts-i-ne0.false)
