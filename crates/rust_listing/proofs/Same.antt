-- The listing of an answer whose rows show what the Rust has is the Rust's listing.
use Prim.Native.Nat.{ℕ, ◌+◌, ◌*◌, ◌<◌}
use mathlib.Core.Path.{◌≡◌, ap, ◌∙◌}
use mathlib.Core.Bool.{Bool, ◌&&◌}
use mathlib.Core.List.{List, [], ◌∷◌, ◌++◌}
use lib.Dec.{eqb}
use lib.ListN.{length, get_or, take}
use Rattle.bit_row.specs.Row.{bit_at}
use Rattle.determine_side_effects.specs.graph_crate.Check.{Graph}
use Rattle.determine_side_effects.specs.graph_access_crate.Names.{owner, import_records}
use Rattle.determine_side_effects.specs.graph_access_crate.Words.{module_of, symbol_of, statement_list, normal}
use Rattle.keep_record.specs.Lines.{elem}
use Rattle.answer_rows.specs.Shown.{bytes_before, bit_value}
use Rattle.dynamic_entries.specs.Alive.{records_before}
use Rattle.listing.specs.Text.{line, only_if}
use Rattle.listing.specs.Listing.{Shown, rounds_word, module_word, statement_word, used_word, external_word, json_word, dead_word, module_text, statement_text, symbol_text, json_text, dead_text, listing_of}
use Rattle.rust_values.specs.Values.{has_pair}
use Rattle.rust_run.specs.IncludeStatements.{Outcome}
use Rattle.rust_listing.specs.Listing.{reason_number, module_line, statement_line, symbol_line, json_line, dead_line, dead_lines, listing_before}
use Rattle.rust_listing.proofs.Texts.{texts_same, rows_same, only_same, value_same, entries_same}

-- each line's condition and numbers, by the rows and by the Rust
pub record Shows (g : Graph) (o : Outcome) (a : Shown) : Type 0 where
  pub rounds_are : a.rounds ≡ o.rounds
  pub count_is : a.count ≡ length o.entries
  pub entries_are : take a.count a.entries ≡ o.entries
  pub verdicts_are : a.verdicts ≡ o.verdicts
  pub module_bits : (m : ℕ) → m < g.header.modules → bit_at a.modules m ≡ elem m o.context.modules
  pub reason_bytes : (m : ℕ) → m < g.header.modules → get_or a.reason m 0 ≡ reason_number o m
  pub helper_words : (m : ℕ) → m < g.header.modules → get_or a.helpers m 0 ≡ o.helpers m
  pub statement_bits : (m i : ℕ) → m < g.header.modules → i < length (statement_list g m) → bit_at a.statements (8 * bytes_before g.statements m + i) ≡ has_pair m i o.context.statements
  pub used_bits : (s : ℕ) → s < g.header.symbols → bit_at a.used s ≡ elem s o.context.used
  pub external_bits : (s : ℕ) → s < g.header.symbols → bit_at a.external s ≡ elem s o.context.external
  pub json_bits : (m s : ℕ) → m < g.header.modules → s < g.header.symbols → (bit_at a.json s && eqb (owner (symbol_of g s)) m) ≡ has_pair m s o.main.json

-- the five numbers of a module's line
numbers_same : (g : Graph) (m a b c d x y z w : ℕ) → a ≡ x → b ≡ y → c ≡ z → d ≡ w
    → only_if (normal g m) (line module_word (m ∷ a ∷ b ∷ c ∷ d ∷ [])) ≡ only_if (normal g m) (line module_word (m ∷ x ∷ y ∷ z ∷ w ∷ []))
numbers_same g m a b c d x y z w p q r s = λ i. only_if (normal g m) (line module_word (m ∷ p i ∷ q i ∷ r i ∷ s i ∷ []))

module _ (g : Graph) (o : Outcome) (a : Shown) (s : Shows g o a) where
  module_same : (m : ℕ) → m < g.header.modules → module_text g a m ≡ module_line g o m
  unfolding module_text module_line
  module_same m l =
      numbers_same g m _ _ _ _ _ _ _ _ (ap (λ b. bit_value b 0) (s.module_bits m l) ∙ value_same (elem m o.context.modules)) (ap (λ (v : List ℕ). get_or v m 0) s.verdicts_are)
      (s.reason_bytes m l) (s.helper_words m l)

  statement_same : (m i : ℕ) → m < g.header.modules → i < length (statement_list g m) → statement_text g a m i ≡ statement_line o m i
  unfolding statement_text statement_line
  statement_same m i l u = only_same _ _ (line statement_word (m ∷ i ∷ [])) (s.statement_bits m i l u)

  used_same : (k : ℕ) → k < g.header.symbols → symbol_text used_word a.used k ≡ symbol_line used_word o.context.used k
  unfolding symbol_text symbol_line
  used_same k l = only_same _ _ (line used_word (k ∷ [])) (s.used_bits k l)

  external_same : (k : ℕ) → k < g.header.symbols → symbol_text external_word a.external k ≡ symbol_line external_word o.context.external k
  unfolding symbol_text symbol_line
  external_same k l = only_same _ _ (line external_word (k ∷ [])) (s.external_bits k l)

  json_same : (m k : ℕ) → m < g.header.modules → k < g.header.symbols → json_text g a m k ≡ json_line o m k
  unfolding json_text json_line
  json_same m k l u = only_same _ _ (line json_word (m ∷ k ∷ [])) (s.json_bits m k l u)

  module _ (dead : ℕ → ℕ → Bool) (bits : (m k : ℕ) → m < g.header.modules → k < length (import_records (module_of g m)) → bit_at a.dead (records_before g.modules m + k) ≡ dead m k) where
    dead_same : (m k : ℕ) → m < g.header.modules → k < length (import_records (module_of g m)) → dead_text g a m k ≡ dead_line dead m k
    unfolding dead_text dead_line
    dead_same m k l u = only_same _ _ (line dead_word (m ∷ k ∷ [])) (bits m k l u)

    pub listing-same : listing_of g a ≡ listing_before g o (dead_lines g dead)
    unfolding listing_of listing_before dead_lines
    listing-same =
        let n = g.header.modules in
        let rounds : line rounds_word (a.rounds ∷ []) ≡ line rounds_word (o.rounds ∷ []) = ap (λ k. line rounds_word (k ∷ [])) s.rounds_are in
        let entries = entries_same g a o.entries s.count_is s.entries_are in
        let modules = texts_same (module_text g a) (module_line g o) n module_same in
        let statements = rows_same (statement_text g a) (statement_line o) (λ m. length (statement_list g m)) n statement_same in
        let used = texts_same (symbol_text used_word a.used) (symbol_line used_word o.context.used) g.header.symbols used_same in
        let external = texts_same (symbol_text external_word a.external) (symbol_line external_word o.context.external) g.header.symbols external_same in
        let json = rows_same (json_text g a) (json_line o) (λ m. g.header.symbols) n json_same in
        let texts = rows_same (dead_text g a) (dead_line dead) (λ m. length (import_records (module_of g m))) n dead_same in
        λ i. rounds i ++ (entries i ++ (modules i ++ (statements i ++ (used i ++ (external i ++ (json i ++ texts i))))))
