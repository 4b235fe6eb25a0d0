-- Runtime helpers: which a module needs, their union, and what it starts (docs/RULES.md, Step 6; 000:410-445; 004).
use Rattle.std.specs.Prelude.{ℕ, zero, suc, ◌+◌, Bool, true, false, not, ◌||◌, ◌&&◌, List, [], ◌∷◌, map, eqb, get_or}
use Rattle.determine_side_effects.specs.graph_crate.Check.{Graph}
use Rattle.determine_side_effects.specs.graph_access_crate.Names.{module_helpers, helper_number, helper_statement, only}
use Rattle.determine_side_effects.specs.graph_access_crate.Words.{flag, some, tabulate, module_of}
use Rattle.determine_side_effects.specs.facts_crate.declared.Fact.{Fact}
use Rattle.determine_side_effects.specs.facts_crate.Facts.{module_fact, statement_fact, use_fact}
use Rattle.determine_side_effects.specs.Effects.{has_effects}
use Rattle.answer_rows.specs.Shown.{bit_value}
use Rattle.entry_order.specs.Order.{those}

-- `kept` says which facts there are. A module that is not kept has all helpers of its list, unless it is the runtime.
unfoldable pub has_all : Graph → (Fact → Bool) → ℕ → Bool
has_all g kept m = not (eqb m g.header.runtime) && not (kept (module_fact m))

-- module m needs helper h: one of the statements that do is kept, or it has all
unfoldable pub needs_helper : Graph → (Fact → Bool) → ℕ → ℕ → Bool
needs_helper g kept m h =
    some (λ row. eqb (helper_number row) h && (kept (statement_fact m (helper_statement row)) || has_all g kept m)) (module_helpers (module_of g m))

-- the bits below k as a number
unfoldable pub word_of : (ℕ → Bool) → ℕ → ℕ
word_of p zero = 0
word_of p (suc k) = word_of p k + bit_value (p k) k

-- a bit for each helper; an external module lists none
unfoldable pub helper_word : Graph → (Fact → Bool) → ℕ → ℕ
helper_word g kept m = word_of (needs_helper g kept m) g.header.helpers

-- the union of the helpers of all kept modules (004:47-65)
unfoldable pub helper_union : Graph → (Fact → Bool) → ℕ
helper_union g kept =
    word_of (λ h. some (λ m. kept (module_fact m) && flag h (helper_word g kept m)) (tabulate (λ m. m) 0 g.header.modules)) g.header.helpers

-- what the runtime stage starts (004:67-88): the helpers of a word, ascending, used with Normal; with no helper the runtime, if it has
-- effects
unfoldable pub runtime_starts : Graph → List ℕ → ℕ → List Fact
runtime_starts g v word =
    elim (eqb word 0) [
      | true ↦ elim (has_effects v g.header.runtime) [ true ↦ module_fact g.header.runtime ∷ [] | false ↦ [] ]
      | false ↦ map (λ h. use_fact (only (get_or g.helpers h [])) 1) (those (λ h. flag h word) (tabulate (λ h. h) 0 g.header.helpers))
    ]
