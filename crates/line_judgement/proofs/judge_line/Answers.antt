use Rattle.line_judgement.proofs.Naming.{form_is, line_good}
use Rattle.line_judgement.proofs.Judging.{bad_form, bad-old, bad-unjustified, line-stands}
use Rattle.line_judgement.proofs.judge_line.Goals as goal

pub returns-then-not-is_in_form : goal.returns-then-not-is_in_form
returns-then-not-is_in_form c = bad_form _ _ _ _ _ _ c.is_in_form.ensures (c.if-not-is_in_form.true)

pub is_marked-requires : goal.is_marked-requires
is_marked-requires c = record { loaded = c.requires.prepared.loaded; good = (line_good _ _ _ (form_is _ _ _ _ c.is_in_form.ensures c.if-not-is_in_form.false) _ c.fact_at-fact.ensures, c.requires.marks.1.wide) }

pub returns-then-is_marked : goal.returns-then-is_marked
returns-then-is_marked c = bad-old _ _ _ _ _ _ c.is_in_form.ensures (c.if-not-is_in_form.false) c.requires.marks.1 _ c.fact_at-fact.ensures _ c.is_marked.ensures c.if-is_marked.true

pub justify-requires : goal.justify-requires
justify-requires c = record { prepared = c.requires.prepared; marks = c.requires.marks.0; k_in_bounds = (c.requires.k_in_bounds.0, c.requires.k_in_bounds.1, form_is _ _ _ _ c.is_in_form.ensures c.if-not-is_in_form.false, c.requires.k_in_bounds.2) }

pub mark-requires : goal.mark-requires
mark-requires c = record { loaded = c.requires.prepared.loaded; good = (line_good _ _ _ (form_is _ _ _ _ c.is_in_form.ensures c.if-not-is_in_form.false) _ c.fact_at-fact.ensures, c.requires.marks.1.wide) }

pub returns-in-None : goal.returns-in-None
returns-in-None c = bad-unjustified _ _ _ _ _ _ c.is_in_form.ensures (c.if-not-is_in_form.false) c.requires.marks.1 _ c.fact_at-fact.ensures _ c.is_marked.ensures c.if-is_marked.false _ c.justify.ensures c.in-None.is

pub returns-in-Some : goal.returns-in-Some
returns-in-Some c = line-stands _ _ _ _ _ _ c.is_in_form.ensures (c.if-not-is_in_form.false) c.requires.marks.1 _ c.fact_at-fact.ensures _ c.is_marked.ensures c.if-is_marked.false _ c.justify.ensures _ c.in-Some.is _ c.mark.ensures
