-- The statements that `include_declaring_statements` starts from, as facts and as rows.
use Rattle.std.proofs.Common.{◌≡◌, ℕ, ◌-◌, Bool, true, false, List, [], ◌∷◌, map, sym, refl, subst, inl, inr}
use mathlib.Core.Bool.{false≢true}
use Rattle.determine_side_effects.specs.graph_crate.Check.{Graph}
use Rattle.determine_side_effects.specs.graph_access_crate.Names.{declaring_statements, only}
use Rattle.determine_side_effects.specs.graph_access_crate.Words.{symbol_of, normal}
use Rattle.determine_side_effects.specs.facts_crate.declared.Fact.{Fact}
use Rattle.determine_side_effects.specs.facts_crate.Facts.{statement_fact}
use Rattle.closed_choices.proofs.Every.{Every}
use Rattle.rust_values.specs.Values.{In}
use Rattle.rust_engine.specs.Tables.{owner_of}
use Rattle.rust_engine.specs.EntryPoints.{declared_facts}

module _ (g : Graph) where
  declared_rows : (P : Fact → Type 0) (o : ℕ) (rows : List (List ℕ)) → Every P (map (λ row. statement_fact o (only row)) rows) → (row : List ℕ) → In row rows
      → P (statement_fact o (only row))
  declared_rows P o [] h row q = absurd q
  declared_rows P o (r ∷ rows) h row (inl e) = subst (λ x. P (statement_fact o (only x))) (sym e) h.0
  declared_rows P o (r ∷ rows) h row (inr q) = declared_rows P o rows h.1 row q

  rows_declared : (P : Fact → Type 0) (o : ℕ) (rows : List (List ℕ)) → ((row : List ℕ) → In row rows → P (statement_fact o (only row)))
      → Every P (map (λ row. statement_fact o (only row)) rows)
  rows_declared P o [] h = tt
  rows_declared P o (r ∷ rows) h = (h r (inl refl), rows_declared P o rows (λ row q. h row (inr q)))

  pub from_declared : (P : Fact → Type 0) (s : ℕ) → Every P (declared_facts g s) → normal g (owner_of g s) ≡ true → (row : List ℕ)
      → In row (declaring_statements (symbol_of g s)) → P (statement_fact (owner_of g s) (only row))
  unfolding declared_facts
  from_declared P s h n = go (normal g (owner_of g s)) n h
    where
      go : (b : Bool) → b ≡ true → Every P (elim b [ true ↦ map (λ row. statement_fact (owner_of g s) (only row)) (declaring_statements (symbol_of g s)) | false ↦ [] ])
          → (row : List ℕ) → In row (declaring_statements (symbol_of g s)) → P (statement_fact (owner_of g s) (only row))
      go true e h = declared_rows P (owner_of g s) (declaring_statements (symbol_of g s)) h
      go false e h = absurd (false≢true e)

  pub to_declared : (P : Fact → Type 0) (s : ℕ)
      → (normal g (owner_of g s) ≡ true → (row : List ℕ) → In row (declaring_statements (symbol_of g s)) → P (statement_fact (owner_of g s) (only row)))
      → Every P (declared_facts g s)
  unfolding declared_facts
  to_declared P s h = go (normal g (owner_of g s)) refl
    where
      go : (b : Bool) → normal g (owner_of g s) ≡ b
          → Every P (elim b [ true ↦ map (λ row. statement_fact (owner_of g s) (only row)) (declaring_statements (symbol_of g s)) | false ↦ [] ])
      go true e = rows_declared P (owner_of g s) (declaring_statements (symbol_of g s)) (h e)
      go false e = tt
