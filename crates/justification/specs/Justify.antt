-- Whether a fact follows from others by a rule, as one line of a record says (docs/OPERATIONS.md, Judge).
use Rattle.std.specs.Prelude.{ℕ, Bool, ◌&&◌, ◌||◌, List, eqb}
use Rattle.determine_side_effects.specs.graph_crate.Check.{Graph}
use Rattle.determine_side_effects.specs.graph_access_crate.Names.{owner, declaring_statements, only}
use Rattle.determine_side_effects.specs.graph_access_crate.Words.{some, symbol_of}
use Rattle.determine_side_effects.specs.facts_crate.declared.Fact.{Fact}
use Rattle.determine_side_effects.specs.facts_crate.Facts.{kind_of, first_part, second_part, statement_fact}
use Rattle.keep_rules.specs.Rules.{Given, gives}
use Rattle.worklist.specs.Drain.{is_forward_of}

-- two facts of the same kind and parts
unfoldable pub same_fact : Fact → Fact → Bool
same_fact a b = eqb (kind_of a) (kind_of b) && (eqb (first_part a) (first_part b) && eqb (second_part a) (second_part b))

-- K2 to K14: rule r gives fact f from the premise
unfoldable pub is_given_by : ℕ → Fact → Given → Bool
is_given_by r f x = eqb x.rule r && same_fact x.fact f

unfoldable pub follows : Graph → List ℕ → Fact → ℕ → Fact → Bool
follows g v premise r f = some (is_given_by r f) (gives g v premise)

-- f is a statement that declares symbol s
unfoldable pub declares : Graph → ℕ → Fact → Bool
declares g s f = some (λ row. same_fact (statement_fact (owner (symbol_of g s)) (only row)) f) (declaring_statements (symbol_of g s))

-- K1: a is a module, b a forward that it owns, and f a statement that declares the forward
unfoldable pub joined_by : Graph → Fact → Fact → Fact → Bool
joined_by g a b f = eqb (kind_of a) 1 && (is_forward_of g (first_part a) b && declares g (first_part b) f)

-- in either order
unfoldable pub joined_by_either : Graph → Fact → Fact → Fact → Bool
joined_by_either g a b f = joined_by g a b f || joined_by g b a f
