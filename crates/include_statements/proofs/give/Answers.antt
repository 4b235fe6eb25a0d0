use Rattle.include_statements.proofs.Segments.{give_none, give_one}
use native.Mathlib.Omega.{arith}
use Rattle.include_statements.proofs.give.Goals as goal

pub add-requires : goal.add-requires
add-requires c =
    let good = c.requires.rule_bound.1.known _ c.in-Gives.is in record { loaded = c.requires.prepared.loaded; held = c.requires.held; writable = record { good_fact = good; rule_small = c.requires.rule_bound.0; because_earlier = omega (arith, c.requires.rule_bound.2); and_earlier = omega arith } }

pub returns-in-Nothing : goal.returns-in-Nothing
returns-in-Nothing c = give_none _ _ _ _ _ _ _ _ c.in-Nothing.is c.requires.held

pub returns-in-Gives : goal.returns-in-Gives
returns-in-Gives c = give_one _ _ _ _ _ _ _ _ _ _ c.in-Gives.is c.add.ensures
