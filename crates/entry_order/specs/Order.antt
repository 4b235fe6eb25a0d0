-- Entries in the order in which a run takes them (000, `include_statements`: `self.entries` is a map by module, in the order of first mention).
use Rattle.std.specs.Prelude.{ℕ, Bool, true, false, not, List, [], ◌∷◌, ◌++◌, eqb}
use Rattle.facts.specs.graph_crate.Check.{Graph}
use Rattle.facts.specs.graph_access_crate.Names.{entry_module, entry_kind}
use Rattle.facts.specs.graph_access_crate.Words.{tabulate, entry_of}
use Rattle.keep_record.specs.Lines.{elem}

-- those of a list that pass a test
unfoldable pub those : (ℕ → Bool) → List ℕ → List ℕ
those test [] = []
those test (x ∷ xs) = elim (test x) [ true ↦ x ∷ those test xs | false ↦ those test xs ]

-- A list grouped by key: all with one key stand where the first of them stood (000: `entries.entry(entry.idx).or_insert_with(Vec::new).push`).
-- `before` are the keys that stood further to the left.
unfoldable pub grouped_from : (ℕ → ℕ) → List ℕ → List ℕ → List ℕ
grouped_from key before [] = []
grouped_from key before (x ∷ xs) =
    elim (elem (key x) before) [
      | true ↦ grouped_from key before xs
      | false ↦ (x ∷ those (λ y. eqb (key y) (key x)) xs) ++ grouped_from key (key x ∷ before) xs
    ]

unfoldable pub grouped : (ℕ → ℕ) → List ℕ → List ℕ
grouped key xs = grouped_from key [] xs

-- an entry's module, and whether it is a dynamic import (kind 2) or user-defined (kinds 0 and 1)
unfoldable pub module_of_entry : Graph → ℕ → ℕ
module_of_entry g e = entry_module (entry_of g e)

unfoldable pub is_dynamic : Graph → ℕ → Bool
is_dynamic g e = eqb (entry_kind (entry_of g e)) 2

unfoldable pub is_user_defined : Graph → ℕ → Bool
is_user_defined g e = not (is_dynamic g e)

-- all entries by graph index, grouped by module
unfoldable pub grouped_entries : Graph → List ℕ
grouped_entries g = grouped (module_of_entry g) (tabulate (λ e. e) 0 g.header.entries)

-- the two parts (`partition(|item| item.kind.is_user_defined())`)
unfoldable pub user_entries : Graph → List ℕ
user_entries g = those (is_user_defined g) (grouped_entries g)

unfoldable pub dynamic_entries : Graph → List ℕ
dynamic_entries g = those (is_dynamic g) (grouped_entries g)
