use Rattle.worklist.proofs.LinkRow.{row_other, row_module, module_entry}
use Rattle.worklist.specs.Links.{LinkReady}
use Rattle.determine_side_effects.specs.facts_crate.Facts.{kind_of}
use Rattle.determine_side_effects.specs.graph_crate.Check.{graph_in}
use native.Mathlib.Omega.{arith}
use mathlib.Core.Path.{ap, subst}
use Rattle.worklist.proofs.link.Goals as goal

pub bounds-partners-i : goal.bounds-partners-i
bounds-partners-i c = module_entry _ _ _ _ _ _ c.requires.link_ready _ c.requires.linked _ c.in-Module.is

pub link_forward-requires : goal.link_forward-requires
link_forward-requires c = record { prepared = c.requires.prepared; link_ready = subst (λ x. LinkReady (graph_in c.args.numbers.now) c.args.stage.base c.args.lines.now c.args.stage.count c.args.k x) c.in-Forward.is c.requires.link_ready; linked = c.requires.linked }

pub returns-in-Module : goal.returns-in-Module
returns-in-Module c = row_module _ _ _ _ _ _ c.requires.link_ready _ c.requires.linked _ c.in-Module.is

pub returns-in-Statement : goal.returns-in-Statement
returns-in-Statement c = let q = ap kind_of c.in-Statement.is in row_other _ _ _ _ _ _ c.requires.link_ready _ c.requires.linked (λ z. omega (arith, q, z)) (λ z. omega (arith, q, z))

pub returns-in-Use : goal.returns-in-Use
returns-in-Use c = let q = ap kind_of c.in-Use.is in row_other _ _ _ _ _ _ c.requires.link_ready _ c.requires.linked (λ z. omega (arith, q, z)) (λ z. omega (arith, q, z))

pub returns-in-CheckedUse : goal.returns-in-CheckedUse
returns-in-CheckedUse c = let q = ap kind_of c.in-CheckedUse.is in row_other _ _ _ _ _ _ c.requires.link_ready _ c.requires.linked (λ z. omega (arith, q, z)) (λ z. omega (arith, q, z))

pub returns-in-Bailout : goal.returns-in-Bailout
returns-in-Bailout c = let q = ap kind_of c.in-Bailout.is in row_other _ _ _ _ _ _ c.requires.link_ready _ c.requires.linked (λ z. omega (arith, q, z)) (λ z. omega (arith, q, z))
