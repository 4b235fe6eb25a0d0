use Rattle.determine_side_effects.specs.graph_access_crate.Words.{some, module_of}
use Rattle.include_statement.proofs.Enums.{named}
use Rattle.determine_side_effects.specs.graph_access_crate.Names.{enum_members}
use mathlib.Core.Path.{◌≡◌}
use lib.ListN.{drop}
use Rattle.determine_side_effects.specs.graph_crate.Check.{graph_in}
use Rattle.include_statement.proofs.enum_member.Given as goal

abbrev pub invariant-loop-k : goal.invariant-loop-k
invariant-loop-k l = some (named l.name l.member) (drop l.k (enum_members (module_of (graph_in l.numbers) l.m.0))) ≡ some (named l.name l.member) (enum_members (module_of (graph_in l.numbers) l.m.0))
