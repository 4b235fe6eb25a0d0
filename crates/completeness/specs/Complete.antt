-- Whether anything is absent from a record: a start, or what follows from its lines (docs/OPERATIONS.md, Judge). `kept` says which facts have
-- a line.
use Rattle.std.specs.Prelude.{ℕ, Bool, true, false, ◌&&◌, List, [], ◌∷◌}
use Rattle.determine_side_effects.specs.graph_crate.Check.{Graph}
use Rattle.determine_side_effects.specs.graph_access_crate.Names.{owner, declaring_statements, only}
use Rattle.determine_side_effects.specs.graph_access_crate.Words.{symbol_of, normal}
use Rattle.determine_side_effects.specs.facts_crate.declared.Fact.{Fact}
use Rattle.determine_side_effects.specs.facts_crate.declared.Fact.TheVariants.{Module, Statement, Use, CheckedUse, Forward, Bailout}
use Rattle.determine_side_effects.specs.facts_crate.Facts.{module_fact, statement_fact}
use Rattle.keep_rules.specs.Rules.{gives}
use Rattle.keep_record.specs.declared.Line.{Line}

-- each element of a list passes a test
unfoldable pub all : {A : Type 0} → (A → Bool) → List A → Bool
all test [] = true
all test (x ∷ xs) = elim (test x) [ true ↦ all test xs | false ↦ false ]

-- what K2 to K14 give from a fact is kept
unfoldable pub is_closed_at : Graph → List ℕ → (Fact → Bool) → Fact → Bool
is_closed_at g v kept f = all (λ x. kept x.fact) (gives g v f)

-- what K1 gives from forward s and its owner, if that is kept
unfoldable pub are_declared : Graph → (Fact → Bool) → ℕ → Bool
are_declared g kept s =
    elim (normal g (owner (symbol_of g s)) && kept (module_fact (owner (symbol_of g s)))) [
      | true ↦ all (λ row. kept (statement_fact (owner (symbol_of g s)) (only row))) (declaring_statements (symbol_of g s))
      | false ↦ true
    ]

-- what K1 to K14 give from a fact, and for K1 its owner
abbrev pub is_joined_at : Graph → (Fact → Bool) → Fact → Bool
is_joined_at g kept (Module m) = true
is_joined_at g kept (Statement m i) = true
is_joined_at g kept (Use s x) = true
is_joined_at g kept (CheckedUse s x) = true
is_joined_at g kept (Forward s) = are_declared g kept s.0
is_joined_at g kept (Bailout m) = true

unfoldable pub is_closed_fact : Graph → List ℕ → (Fact → Bool) → Fact → Bool
is_closed_fact g v kept f = is_joined_at g kept f && is_closed_at g v kept f

unfoldable pub are_closed : Graph → List ℕ → (Fact → Bool) → List Line → Bool
are_closed g v kept lines = all (λ l. is_closed_fact g v kept l.fact) lines

unfoldable pub is_complete : Graph → List ℕ → (Fact → Bool) → List Fact → List Line → Bool
is_complete g v kept starts lines = all kept starts && are_closed g v kept lines
