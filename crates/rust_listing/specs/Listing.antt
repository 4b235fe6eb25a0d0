-- The listing of an outcome of the Rust: the lines that the program `keep` prints (docs/OPERATIONS.md, Program keep), with what the Rust has in its sets
-- and tables in place of rows of bits. The oracle prints these lines of the Rust itself (oracle/src/listing.rs).
use Rattle.std.specs.Prelude.{ℕ, ◌+◌, ◌*◌, Bool, true, false, List, [], ◌∷◌, ◌++◌, length, get_or}
use Rattle.determine_side_effects.specs.graph_crate.Check.{Graph}
use Rattle.determine_side_effects.specs.graph_access_crate.Names.{entry_module, entry_kind, import_records}
use Rattle.determine_side_effects.specs.graph_access_crate.Words.{module_of, statement_list, entry_of, normal}
use Rattle.keep_record.specs.Lines.{elem}
use Rattle.listing.specs.Text.{line, only_if, text_of}
use Rattle.listing.specs.Listing.{rounds_word, entry_word, module_word, statement_word, used_word, external_word, json_word, dead_word}
use Rattle.rust_values.specs.Values.{has_pair}
use Rattle.rust_run.specs.IncludeStatements.{Outcome}

-- 1 for a member of a set, 0 for none
unfoldable pub one_if : Bool → ℕ
one_if b = elim b [ true ↦ 1 | false ↦ 0 ]

-- the namespace's reasons of a module, as a number: 1 Unknown, 2 ReExportDynamicExports, 3 both
unfoldable pub reason_number : Outcome → ℕ → ℕ
reason_number o m = one_if (has_pair m 1 o.main.reasons) + 2 * one_if (has_pair m 2 o.main.reasons)

-- `entry MODULE KIND`, in final order
unfoldable pub entry_lines : Graph → List ℕ → List ℕ
entry_lines g [] = []
entry_lines g (e ∷ es) = line entry_word (entry_module (entry_of g e) ∷ entry_kind (entry_of g e) ∷ []) ++ entry_lines g es

-- `module INDEX KEPT EFFECTS REASON HELPERS`, for every normal module
unfoldable pub module_line : Graph → Outcome → ℕ → List ℕ
module_line g o m =
    only_if (normal g m)
    (line module_word (m ∷ one_if (elem m o.context.modules) ∷ get_or o.verdicts m 0 ∷ reason_number o m ∷ o.helpers m ∷ []))

-- `statement MODULE INDEX`
unfoldable pub statement_line : Outcome → ℕ → ℕ → List ℕ
statement_line o m i = only_if (has_pair m i o.context.statements) (line statement_word (m ∷ i ∷ []))

-- `used SYMBOL`, `external SYMBOL`: a member of a set of symbols, with a word
unfoldable pub symbol_line : List ℕ → List ℕ → ℕ → List ℕ
symbol_line word set s = only_if (elem s set) (line word (s ∷ []))

-- `json MODULE SYMBOL`
unfoldable pub json_line : Outcome → ℕ → ℕ → List ℕ
json_line o m s = only_if (has_pair m s o.main.json) (line json_word (m ∷ s ∷ []))

-- `dead MODULE RECORD`, for the import records that are dead
unfoldable pub dead_line : (ℕ → ℕ → Bool) → ℕ → ℕ → List ℕ
dead_line dead m k = only_if (dead m k) (line dead_word (m ∷ k ∷ []))

unfoldable pub dead_lines : Graph → (ℕ → ℕ → Bool) → List ℕ
dead_lines g dead = text_of (λ m. text_of (dead_line dead m) 0 (length (import_records (module_of g m)))) 0 g.header.modules

-- all other lines, and those behind them
unfoldable pub listing_before : Graph → Outcome → List ℕ → List ℕ
listing_before g o dead =
    line rounds_word (o.rounds ∷ [])
    ++ (entry_lines g o.entries
    ++ (text_of (module_line g o) 0 g.header.modules
    ++ (text_of (λ m. text_of (statement_line o m) 0 (length (statement_list g m))) 0 g.header.modules
    ++ (text_of (symbol_line used_word o.context.used) 0 g.header.symbols
    ++ (text_of (symbol_line external_word o.context.external) 0 g.header.symbols
    ++ (text_of (λ m. text_of (json_line o m) 0 g.header.symbols) 0 g.header.modules ++ dead))))))

unfoldable pub rust_listing : Graph → Outcome → List ℕ
rust_listing g o = listing_before g o (dead_lines g (λ m k. has_pair m k o.dead))
