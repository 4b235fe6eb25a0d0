use Rattle.line_judgement.proofs.Naming.{line_good, named_good, because_earlier, and_earlier, earlier_inside}
use Rattle.line_judgement.proofs.Justifying.{begins_placed, start_good, start-bad, two_good, two-bad, one-good, one-bad}
use mathlib.Core.Path.{refl}
use native.Mathlib.Omega.{arith}
use Rattle.line_judgement.proofs.justify.Goals as goal

pub is_marked-requires : goal.is_marked-requires
is_marked-requires c = record { loaded = c.requires.prepared.loaded; good = (line_good _ _ _ c.requires.k_in_bounds.2 _ c.fact_at-fact.ensures, c.requires.marks.wide) }

pub returns-then-is_marked : goal.returns-then-is_marked
returns-then-is_marked c = start_good _ _ _ _ _ c.fact_at-fact.ensures _ c.wide-rule.ensures c.if-rule-eq0.true _ c.requires.marks _ c.is_marked.ensures _ c.requires.k_in_bounds.3 c.if-is_marked.true

pub returns-then-rule-eq0 : goal.returns-then-rule-eq0
returns-then-rule-eq0 c = start-bad _ _ _ _ _ c.fact_at-fact.ensures _ c.wide-rule.ensures c.if-rule-eq0.true _ c.requires.marks _ c.is_marked.ensures c.if-is_marked.false

pub overflow_sub-because : goal.overflow_sub-because
overflow_sub-because c = omega (arith, (because_earlier _ _ _ c.requires.k_in_bounds.2 _ _ c.wide-rule.ensures c.wide-because.ensures c.if-rule-eq0.false).0)

pub fact_at-premise-requires : goal.fact_at-premise-requires
fact_at-premise-requires c = earlier_inside c.args.lines.now _ _ (because_earlier _ _ _ c.requires.k_in_bounds.2 _ _ c.wide-rule.ensures c.wide-because.ensures c.if-rule-eq0.false) c.requires.k_in_bounds.0

pub overflow_sub-and : goal.overflow_sub-and
overflow_sub-and c = omega (arith, (and_earlier _ _ _ c.requires.k_in_bounds.2 _ _ c.wide-rule.ensures c.wide-because.ensures c.if-rule-eq0.false _ c.wide-and.ensures c.if-rule-eq1.true).0)

pub fact_at-other-requires : goal.fact_at-other-requires
fact_at-other-requires c = earlier_inside c.args.lines.now _ _ (and_earlier _ _ _ c.requires.k_in_bounds.2 _ _ c.wide-rule.ensures c.wide-because.ensures c.if-rule-eq0.false _ c.wide-and.ensures c.if-rule-eq1.true) c.requires.k_in_bounds.0

pub joins-requires : goal.joins-requires
joins-requires c = record { prepared = c.requires.prepared; good = (named_good _ _ _ _ _ c.requires.k_in_bounds.1 (because_earlier _ _ _ c.requires.k_in_bounds.2 _ _ c.wide-rule.ensures c.wide-because.ensures c.if-rule-eq0.false) _ c.fact_at-premise.ensures, named_good _ _ _ _ _ c.requires.k_in_bounds.1 (and_earlier _ _ _ c.requires.k_in_bounds.2 _ _ c.wide-rule.ensures c.wide-because.ensures c.if-rule-eq0.false _ c.wide-and.ensures c.if-rule-eq1.true) _ c.fact_at-other.ensures) }

pub follows-requires : goal.follows-requires
follows-requires c = record { prepared = c.requires.prepared; good = named_good _ _ _ _ _ c.requires.k_in_bounds.1 (because_earlier _ _ _ c.requires.k_in_bounds.2 _ _ c.wide-rule.ensures c.wide-because.ensures c.if-rule-eq0.false) _ c.fact_at-premise.ensures; placed = begins_placed _ _ _ _ _ _ _ _ (c.begin-cursor.ensures _) c.requires.k_in_bounds.3 c.if-rule-eq0.false c.fact_at-premise.ensures }

pub returns-in-None : goal.returns-in-None
returns-in-None c = two-bad _ _ _ _ _ c.fact_at-fact.ensures _ c.wide-rule.ensures c.if-rule-eq0.false _ c.wide-because.ensures _ c.fact_at-premise.ensures c.if-rule-eq1.true _ c.wide-and.ensures _ c.fact_at-other.ensures _ c.joins.ensures c.in-None.is

pub returns-in-Some : goal.returns-in-Some
returns-in-Some c = two_good _ _ _ _ _ c.fact_at-fact.ensures _ c.wide-rule.ensures c.if-rule-eq0.false _ c.wide-because.ensures _ c.fact_at-premise.ensures c.if-rule-eq1.true _ c.wide-and.ensures _ c.fact_at-other.ensures _ _ c.joins.ensures c.in-Some.is _ refl

pub returns-in-None-follows : goal.returns-in-None-follows
returns-in-None-follows c = one-bad _ _ _ _ _ c.fact_at-fact.ensures _ c.wide-rule.ensures c.if-rule-eq0.false _ c.wide-because.ensures _ c.fact_at-premise.ensures c.if-rule-eq1.false _ c.follows.ensures c.in-None-follows.is

pub returns-in-Some-follows : goal.returns-in-Some-follows
returns-in-Some-follows c = one-good _ _ _ _ _ c.fact_at-fact.ensures _ c.wide-rule.ensures c.if-rule-eq0.false _ c.wide-because.ensures _ c.fact_at-premise.ensures c.if-rule-eq1.false _ _ c.follows.ensures c.in-Some-follows.is _ refl refl refl
