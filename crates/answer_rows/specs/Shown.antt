-- The answer rows: what the facts of the lines show, and nothing else (docs/RULES.md, What the rows show; 000, `handle_include_symbol`, and
-- K6).
use Rattle.std.specs.Prelude.{ℕ, zero, suc, ◌+◌, ◌*◌, ◌^◌, Bool, true, false, ◌&&◌, ◌||◌, not, List, [], ◌∷◌, ◌++◌, eqb, leb, length, drop}
use Rattle.bit_row.specs.Row.{bytes_for}
use Rattle.determine_side_effects.specs.rows_crate.Walk.{Item}
use Rattle.determine_side_effects.specs.graph_crate.Check.{Graph}
use Rattle.determine_side_effects.specs.graph_access_crate.Names.{module_type, owner}
use Rattle.determine_side_effects.specs.facts_crate.declared.Fact.{Fact}
use Rattle.determine_side_effects.specs.facts_crate.declared.Fact.TheVariants.{Module, Statement, Use, CheckedUse, Forward, Bailout}
use Rattle.determine_side_effects.specs.graph_access_crate.Words.{flag, tabulate, some, module_of, symbol_of, normal}
use Rattle.linking_metadata.specs.Namespaces.{is_namespace, target_of}
use Rattle.keep_rules.specs.Rules.{bypassed, dev_namespace}
use Rattle.keep_record.specs.declared.Line.{Line}
use Rattle.keep_record.specs.Lines.{elem}
use Rattle.answer_rows.specs.declared.Lengths.{Lengths}
use Rattle.answer_rows.specs.declared.Row.{Row}
use Rattle.answer_rows.specs.declared.Row.TheVariants.{Modules, Statements, Used, External, Json, NamespaceReason}

-- the number, if the condition holds
unfoldable pub only_if : Bool → ℕ → List ℕ
only_if b n = elim b [ true ↦ n ∷ [] | false ↦ [] ]

-- how many bytes the statements of the first m modules take, each module from a whole byte
unfoldable pub bytes_before : List (List Item) → ℕ → ℕ
bytes_before statements zero = 0
bytes_before [] (suc m) = 0
bytes_before (s ∷ statements) (suc m) = bytes_for (length s) + bytes_before statements m

-- a use that is not bypassed: the symbol itself and its target are used (000:708-712, 725-727)
unfoldable pub used_by : Graph → ℕ → ℕ → List ℕ
used_by g s x = elim (bypassed g s x) [ true ↦ [] | false ↦ s ∷ target_of g s ∷ [] ]

-- those of them with an external owner
unfoldable pub external_by : Graph → ℕ → ℕ → List ℕ
external_by g s x =
    elim (bypassed g s x) [
      | true ↦ []
      | false ↦ only_if (not (normal g (owner (symbol_of g s)))) s ++ only_if (not (normal g (owner (symbol_of g (target_of g s))))) (target_of g s)
    ]

-- `note_json_self_reference` (000:975-990): the target, in a normal Json module, without the reason 8
unfoldable pub json_by : Graph → ℕ → ℕ → List ℕ
json_by g s x =
    elim (bypassed g s x) [
      | true ↦ []
      | false ↦
          only_if (normal g (owner (symbol_of g (target_of g s))) && (eqb (module_type (module_of g (owner (symbol_of g (target_of g s))))) 2 && not (flag 3 x))) (target_of g s)
    ]

-- `note_namespace_inclusion_reason` (000:932-951): in the byte of the target's owner, where the target is its namespace, bit 0 (Unknown)
-- for the reasons 1 and 2, else bit 1 (ReExportDynamicExports) for the reason 4
unfoldable pub reason_by : Graph → ℕ → ℕ → List ℕ
reason_by g s x =
    elim (not (bypassed g s x) && is_namespace g (target_of g s)) [
      | true ↦ elim (flag 0 x || flag 1 x) [
        | true ↦ (8 * owner (symbol_of g (target_of g s))) ∷ []
        | false ↦ only_if (flag 2 x) (8 * owner (symbol_of g (target_of g s)) + 1)
      ]
      | false ↦ []
    ]

-- the bits that a fact shows in a row; a reason's byte of module m is the eight bits from 8 m on
unfoldable pub shows : Graph → Row → Fact → List ℕ
shows g Modules (Module m) = m.0 ∷ []
shows g Modules (Statement m i) = []
shows g Modules (Use s x) = []
shows g Modules (CheckedUse s x) = []
shows g Modules (Forward s) = []
shows g Modules (Bailout m) = []
shows g Statements (Module m) = []
shows g Statements (Statement m i) = (8 * bytes_before g.statements m.0 + i.0) ∷ []
shows g Statements (Use s x) = []
shows g Statements (CheckedUse s x) = []
shows g Statements (Forward s) = []
shows g Statements (Bailout m) = []
shows g Used (Module m) = []
shows g Used (Statement m i) = []
shows g Used (Use s x) = used_by g s.0 x.bits
shows g Used (CheckedUse s x) = []
shows g Used (Forward s) = []
shows g Used (Bailout m) = []
shows g External (Module m) = []
shows g External (Statement m i) = []
shows g External (Use s x) = external_by g s.0 x.bits
shows g External (CheckedUse s x) = []
shows g External (Forward s) = []
shows g External (Bailout m) = []
shows g Json (Module m) = []
shows g Json (Statement m i) = []
shows g Json (Use s x) = json_by g s.0 x.bits
shows g Json (CheckedUse s x) = []
shows g Json (Forward s) = []
shows g Json (Bailout m) = []
shows g NamespaceReason (Module m) = only_if (dev_namespace g m.0) (8 * m.0)
shows g NamespaceReason (Statement m i) = []
shows g NamespaceReason (Use s x) = reason_by g s.0 x.bits
shows g NamespaceReason (CheckedUse s x) = []
shows g NamespaceReason (Forward s) = []
shows g NamespaceReason (Bailout m) = []

-- how many bytes a row's answer has (docs/OPERATIONS.md, Rows)
unfoldable pub row_bytes : Graph → Row → ℕ
row_bytes g Modules = bytes_for g.header.modules
row_bytes g Statements = bytes_before g.statements g.header.modules
row_bytes g Used = bytes_for g.header.symbols
row_bytes g External = bytes_for g.header.symbols
row_bytes g Json = bytes_for g.header.symbols
row_bytes g NamespaceReason = g.header.modules

-- whether a line shows bit j
unfoldable pub shown : Graph → Row → List Line → ℕ → Bool
shown g row lines j = some (λ l. elem j (shows g row l.fact)) lines

-- eight bits as a byte, and bytes of such bits
unfoldable pub bit_value : Bool → ℕ → ℕ
bit_value b k = elim b [ true ↦ 2 ^ k | false ↦ 0 ]

unfoldable pub byte_of : (ℕ → Bool) → ℕ → ℕ
byte_of p b =
    bit_value (p (8 * b)) 0 + bit_value (p (8 * b + 1)) 1 + bit_value (p (8 * b + 2)) 2 + bit_value (p (8 * b + 3)) 3
    + bit_value (p (8 * b + 4)) 4 + bit_value (p (8 * b + 5)) 5 + bit_value (p (8 * b + 6)) 6 + bit_value (p (8 * b + 7)) 7

unfoldable pub bytes_of : (ℕ → Bool) → ℕ → List ℕ
bytes_of p n = tabulate (byte_of p) 0 n

-- the row after an answer: the bits that the lines show, and behind them what was lent
unfoldable pub shown_row : Graph → Row → List Line → List ℕ → List ℕ
shown_row g row lines lent = bytes_of (shown g row lines) (row_bytes g row) ++ drop (row_bytes g row) lent

-- six answer rows of these lengths are long enough (docs/OPERATIONS.md, Rows)
unfoldable pub rows_enough : Graph → Lengths → Bool
rows_enough g l =
    leb (row_bytes g Modules) l.modules && (leb (row_bytes g Statements) l.statements && (leb (row_bytes g Used) l.used
    && (leb (row_bytes g External) l.external && (leb (row_bytes g Json) l.json && leb (row_bytes g NamespaceReason) l.reason))))
