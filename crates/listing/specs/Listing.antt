-- What the program `keep` prints of an answer (docs/OPERATIONS.md, Program keep).
use Rattle.std.specs.Prelude.{ℕ, ◌+◌, ◌*◌, ◌<◌, ◌≤◌, ◌&&◌, List, [], ◌∷◌, ◌++◌, eqb, length, get_or}
use Rattle.bit_row.specs.Row.{bit_at}
use Rattle.graph_access.specs.graph_crate.Check.{Graph}
use Rattle.graph_access.specs.Names.{entry_module, entry_kind, owner, import_records}
use Rattle.graph_access.specs.Words.{module_of, symbol_of, statement_list, entry_of, normal}
use Rattle.answer_rows.specs.Shown.{bytes_before, bit_value}
use Rattle.dynamic_entries.specs.Alive.{records_before}
use Rattle.listing.specs.Text.{line, only_if, text_of}

-- what is shown: rounds, how many final entries, verdicts, and the answer rows
pub record Shown : Type 0 where
  pub rounds : ℕ
  pub count : ℕ
  pub verdicts : List ℕ
  pub entries : List ℕ
  pub modules : List ℕ
  pub statements : List ℕ
  pub used : List ℕ
  pub external : List ℕ
  pub json : List ℕ
  pub reason : List ℕ
  pub dead : List ℕ
  pub helpers : List ℕ

abbrev pub shown : ℕ → ℕ → List ℕ → List ℕ → List ℕ → List ℕ → List ℕ → List ℕ → List ℕ → List ℕ → List ℕ → List ℕ → Shown
shown rounds count verdicts entries modules statements used external json reason dead helpers =
    record {
      rounds = rounds;
      count = count;
      verdicts = verdicts;
      entries = entries;
      modules = modules;
      statements = statements;
      used = used;
      external = external;
      json = json;
      reason = reason;
      dead = dead;
      helpers = helpers;
    }

-- the rows are long enough for what is read from them, and the final entries are entries
pub record Fits (g : Graph) (a : Shown) : Type 0 where
  pub few_rounds : a.rounds < 4294967296
  pub count_few : a.count ≤ g.header.entries
  pub entries_long : a.count ≤ length a.entries
  pub entries_below : (k : ℕ) → k < a.count → get_or a.entries k 0 < g.header.entries
  pub verdicts_long : g.header.modules ≤ length a.verdicts
  pub modules_long : g.header.modules ≤ 8 * length a.modules
  pub statements_long : bytes_before g.statements g.header.modules ≤ length a.statements
  pub used_long : g.header.symbols ≤ 8 * length a.used
  pub external_long : g.header.symbols ≤ 8 * length a.external
  pub json_long : g.header.symbols ≤ 8 * length a.json
  pub reason_long : g.header.modules ≤ length a.reason
  pub dead_long : records_before g.modules g.header.modules ≤ 8 * length a.dead
  pub helpers_long : g.header.modules ≤ length a.helpers

-- the words of the lines
abbrev pub rounds_word : List ℕ
rounds_word = 114 ∷ 111 ∷ 117 ∷ 110 ∷ 100 ∷ 115 ∷ []

abbrev pub entry_word : List ℕ
entry_word = 101 ∷ 110 ∷ 116 ∷ 114 ∷ 121 ∷ []

abbrev pub module_word : List ℕ
module_word = 109 ∷ 111 ∷ 100 ∷ 117 ∷ 108 ∷ 101 ∷ []

abbrev pub statement_word : List ℕ
statement_word = 115 ∷ 116 ∷ 97 ∷ 116 ∷ 101 ∷ 109 ∷ 101 ∷ 110 ∷ 116 ∷ []

abbrev pub used_word : List ℕ
used_word = 117 ∷ 115 ∷ 101 ∷ 100 ∷ []

abbrev pub external_word : List ℕ
external_word = 101 ∷ 120 ∷ 116 ∷ 101 ∷ 114 ∷ 110 ∷ 97 ∷ 108 ∷ []

abbrev pub json_word : List ℕ
json_word = 106 ∷ 115 ∷ 111 ∷ 110 ∷ []

abbrev pub dead_word : List ℕ
dead_word = 100 ∷ 101 ∷ 97 ∷ 100 ∷ []

abbrev pub refused_word : List ℕ
refused_word = 114 ∷ 101 ∷ 102 ∷ 117 ∷ 115 ∷ 101 ∷ 100 ∷ []

-- `entry MODULE KIND` in final order
unfoldable pub entry_text : Graph → Shown → ℕ → List ℕ
entry_text g a k = line entry_word (entry_module (entry_of g (get_or a.entries k 0)) ∷ entry_kind (entry_of g (get_or a.entries k 0)) ∷ [])

-- `module INDEX KEPT EFFECTS REASON HELPERS` for every normal module
unfoldable pub module_text : Graph → Shown → ℕ → List ℕ
module_text g a m =
    only_if (normal g m)
    (line module_word (m ∷ bit_value (bit_at a.modules m) 0 ∷ get_or a.verdicts m 0 ∷ get_or a.reason m 0 ∷ get_or a.helpers m 0 ∷ []))

-- `statement MODULE INDEX`, ascending
unfoldable pub statement_text : Graph → Shown → ℕ → ℕ → List ℕ
statement_text g a m i = only_if (bit_at a.statements (8 * bytes_before g.statements m + i)) (line statement_word (m ∷ i ∷ []))

-- `used SYMBOL`, `external SYMBOL`: a bit of a row, with a word
unfoldable pub symbol_text : List ℕ → List ℕ → ℕ → List ℕ
symbol_text word row s = only_if (bit_at row s) (line word (s ∷ []))

-- `json MODULE SYMBOL`: the symbols of a module, ascending
unfoldable pub json_text : Graph → Shown → ℕ → ℕ → List ℕ
json_text g a m s = only_if (bit_at a.json s && eqb (owner (symbol_of g s)) m) (line json_word (m ∷ s ∷ []))

-- `dead MODULE RECORD`
unfoldable pub dead_text : Graph → Shown → ℕ → ℕ → List ℕ
dead_text g a m r = only_if (bit_at a.dead (records_before g.modules m + r)) (line dead_word (m ∷ r ∷ []))

unfoldable pub listing_of : Graph → Shown → List ℕ
listing_of g a =
    line rounds_word (a.rounds ∷ [])
    ++ (text_of (entry_text g a) 0 a.count
    ++ (text_of (module_text g a) 0 g.header.modules
    ++ (text_of (λ m. text_of (statement_text g a m) 0 (length (statement_list g m))) 0 g.header.modules
    ++ (text_of (symbol_text used_word a.used) 0 g.header.symbols
    ++ (text_of (symbol_text external_word a.external) 0 g.header.symbols
    ++ (text_of (λ m. text_of (json_text g a m) 0 g.header.symbols) 0 g.header.modules
    ++ text_of (λ m. text_of (dead_text g a m) 0 (length (import_records (module_of g m)))) 0 g.header.modules))))))

-- the text of a refusal
unfoldable pub refused_text : ℕ → List ℕ
refused_text n = line refused_word (n ∷ [])
