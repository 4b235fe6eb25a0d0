use native.Mathlib.Omega.{arith}
use Rattle.keep_record.proofs.Growing.{grown_same, grown_full, grown-more, line_small}
use mathlib.Core.Path.{◌∙◌, sym}
use Rattle.keep_record.proofs.add.Goals as goal

pub returns-then-test : goal.returns-then-test
returns-then-test c = grown_same _ _ _ _ _ _ _ c.requires.held c.mark_of-mark.ensures.0 (sym c.test.ensures ∙ c.if-test.true)

pub returns-then-lines-count : goal.returns-then-lines-count
returns-then-lines-count c = grown_full _ _ _ _ _ _ _ c.requires.held c.mark_of-mark.ensures.0 (sym c.test.ensures ∙ c.if-test.false) c.if-lines-count.true

pub write_line-requires : goal.write_line-requires
write_line-requires c = record { k_in_bounds = omega (arith, c.if-lines-count.false); fact_bound = line_small c.requires.loaded _ _ _ _ _ c.requires.held c.requires.writable }

pub returns : goal.returns
returns c = grown-more _ _ _ _ _ _ _ c.requires.held c.mark_of-mark.ensures.0 _ _ (omega (arith, c.if-lines-count.false)) c.write_line.ensures c.requires.writable.good_fact (sym c.test.ensures ∙ c.if-test.false) c.set.ensures c.set.auto.row c.write_line.auto.lines
