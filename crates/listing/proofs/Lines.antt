-- The lines of the listing by what they show.
use Prim.Native.Nat.{ℕ, ◌+◌, ◌*◌}
use mathlib.Core.Path.{◌≡◌, refl, ap, ◌∙◌}
use mathlib.Core.Bool.{Bool, true, false, ◌&&◌}
use mathlib.Core.List.{List, [], ◌∷◌}
use lib.Dec.{eqb}
use lib.ListN.{length, get_or}
use Rattle.bit_row.specs.Row.{bit_at}
use Rattle.graph_access.specs.graph_crate.Check.{Graph}
use Rattle.graph_access.specs.Names.{entry_module, entry_kind, owner, import_records}
use Rattle.graph_access.specs.Words.{module_of, symbol_of, statement_list, entry_of, normal}
use Rattle.answer_rows.specs.Shown.{bytes_before, bit_value}
use Rattle.dynamic_entries.specs.Alive.{records_before}
use Rattle.listing.specs.Text.{line, only_if, text_of}
use Rattle.listing.specs.Listing.{entry_word, module_word, statement_word, json_word, dead_word, refused_word, entry_text, module_text, statement_text, symbol_text, json_text, dead_text, refused_text}
use Rattle.listing.specs.Parts.{of_entries, of_modules, of_statements, of_json, of_dead, pair_text}
use Rattle.listing.proofs.Pieces.{text_same}

-- a text if a condition holds, and a bit as a number
pub only_true : (b : Bool) (text : List ℕ) → b ≡ true → only_if b text ≡ text
unfolding only_if
only_true b text e = rw (e, only_if) refl

pub only_false : (b : Bool) (text : List ℕ) → b ≡ false → only_if b text ≡ []
unfolding only_if
only_false b text e = rw (e, only_if) refl

pub bit_one : (b : Bool) → b ≡ true → 1 ≡ bit_value b 0
unfolding bit_value
bit_one b e = rw (e, bit_value) refl

pub bit_zero : (b : Bool) → b ≡ false → 0 ≡ bit_value b 0
unfolding bit_value
bit_zero b e = rw (e, bit_value) refl

-- a symbol of a module
pub json_set : (b : Bool) (x y m : ℕ) → b ≡ true → x ≡ y → eqb x m ≡ (b && eqb y m)
json_set b x y m e i = rw (e, i) refl

pub json_clear : (b : Bool) (c : Bool) → b ≡ false → false ≡ (b && c)
json_clear b c e = rw e refl

-- lines
pub refused_is : (n x : ℕ) → x ≡ n → line refused_word (x ∷ []) ≡ refused_text n
unfolding refused_text
refused_is n x e = ap (λ y. line refused_word (y ∷ [])) e

pub pair_is : (word row : List ℕ) (first m i : ℕ) (b : Bool) → b ≡ bit_at row (first + i) → only_if b (line word (m ∷ i ∷ [])) ≡ pair_text word row first m i
unfolding pair_text
pair_is word row first m i b e = ap (λ t. only_if t (line word (m ∷ i ∷ []))) e

pub symbol_is : (word row : List ℕ) (s : ℕ) (b : Bool) → b ≡ bit_at row s → only_if b (line word (s ∷ [])) ≡ symbol_text word row s
unfolding symbol_text
symbol_is word row s b e = ap (λ t. only_if t (line word (s ∷ []))) e

module _ (g : Graph) where
  pub entry_is : (row : List ℕ) (k e m n : ℕ) → e ≡ get_or row k 0 → m ≡ entry_module (entry_of g e) → n ≡ entry_kind (entry_of g e) → line entry_word (m ∷ n ∷ []) ≡ entry_text g (of_entries row) k
  unfolding entry_text
  entry_is row k e m n i j l =
      ap (λ x. line entry_word (x ∷ n ∷ [])) (j ∙ ap (λ y. entry_module (entry_of g y)) i) ∙ ap (λ x. line entry_word (entry_module (entry_of g (get_or row k 0)) ∷ x ∷ [])) (l ∙ ap (λ y. entry_kind (entry_of g y)) i)

  pub module_is : (verdicts kept reason helpers : List ℕ) (m : ℕ) (n : Bool) (b v h : ℕ) → n ≡ normal g m → b ≡ bit_value (bit_at kept m) 0 → v ≡ get_or verdicts m 0 → h ≡ get_or helpers m 0
      → only_if n (line module_word (m ∷ b ∷ v ∷ get_or reason m 0 ∷ h ∷ [])) ≡ module_text g (of_modules verdicts kept reason helpers) m
  unfolding module_text
  module_is verdicts kept reason helpers m n b v h i j k l = rw (i, j, k, l) refl

  pub json_is : (row : List ℕ) (m s : ℕ) (b : Bool) → b ≡ (bit_at row s && eqb (owner (symbol_of g s)) m) → only_if b (line json_word (m ∷ s ∷ [])) ≡ json_text g (of_json row) m s
  unfolding json_text
  json_is row m s b e = ap (λ t. only_if t (line json_word (m ∷ s ∷ []))) e

  -- the bits of a module, from its first on
  pub statements_are : (row : List ℕ) (m first size : ℕ) → first ≡ bytes_before g.statements m → size ≡ length (statement_list g m)
      → text_of (pair_text statement_word row (8 * first) m) 0 size ≡ text_of (statement_text g (of_statements row) m) 0 (length (statement_list g m))
  unfolding pair_text statement_text
  statements_are row m first size e i = rw (e, i) (text_same (pair_text statement_word row (8 * bytes_before g.statements m) m) (statement_text g (of_statements row) m) 0 (length (statement_list g m)) (λ k. refl))

  pub dead_are : (row : List ℕ) (m first size : ℕ) → first ≡ records_before g.modules m → size ≡ length (import_records (module_of g m))
      → text_of (pair_text dead_word row first m) 0 size ≡ text_of (dead_text g (of_dead row) m) 0 (length (import_records (module_of g m)))
  unfolding pair_text dead_text
  dead_are row m first size e i = rw (e, i) (text_same (pair_text dead_word row (records_before g.modules m) m) (dead_text g (of_dead row) m) 0 (length (import_records (module_of g m))) (λ k. refl))
