-- The graph file (docs/GRAPH.md): what stands where, and within which limits.
use Rattle.std.specs.Prelude.{ℕ, ◌+◌, ◌-◌, Bool, true, false, List, [], ◌∷◌, ◌++◌, map, ltb, eqb, length, get_or}
use Rattle.graph_format.specs.declared.Header.{Header}
use Rattle.graph_format.specs.declared.Left.{Left}
use Rattle.rows.specs.Walk.{Parsed, got, fault, and_then, Rule, value, count, below, any, number, cells, many, ListRule, list, plain_row, plain, distinct, Item, no_item, item}
use Rattle.rows.specs.refusal_crate.declared.Refusal.TheVariants.{OutOfRange}

-- Header: options, runtime module, counts of modules, symbols, statements, entries, helpers; then the helper symbols.
unfoldable pub header_rules : List Rule
header_rules =
    below 256
    ∷ below any
    ∷ count 1024 1 any
    ∷ count 16384 1 any
    ∷ count 16384 1 any
    ∷ count 1024 0 any
    ∷ count 32 0 any
    ∷ []

unfoldable pub header_of : List ℕ → Header
header_of h =
    record {
      options = get_or h 0 0;
      runtime = get_or h 1 0;
      modules = get_or h 2 0;
      symbols = get_or h 3 0;
      statements = get_or h 4 0;
      entries = get_or h 5 0;
      helpers = get_or h 6 0;
    }

-- The twelve numbers of a module: kind, effects, exports, type, flags, wrap, wrapper+1, namespace+1, CommonJS re-export count,
-- statement count, scan effects, scan statement count. A normal module (kind 1) has a namespace and a statement, an external
-- one (kind 0) neither. Of the statements that the header counts, `left` are not yet any module's, and the last module has them.
unfoldable pub namespace_limit : ℕ → ℕ → ℕ
namespace_limit kind symbols = elim (eqb kind 0) [ true ↦ 1 | false ↦ symbols + 1 ]

unfoldable pub least_statements : ℕ → ℕ → Bool → ℕ
least_statements kind left last = elim last [ true ↦ elim (ltb left kind) [ true ↦ kind | false ↦ left ] | false ↦ kind ]

unfoldable pub statement_limit : ℕ → ℕ → ℕ
statement_limit kind left = elim (eqb kind 0) [ true ↦ 1 | false ↦ left + 1 ]

unfoldable pub module_rules : Header → ℕ → ℕ → Bool → List Rule
module_rules h kind left last =
    below 2
    ∷ below 5
    ∷ below 3
    ∷ below 4
    ∷ below 64
    ∷ below 3
    ∷ below (h.symbols + 1)
    ∷ value kind (namespace_limit kind h.symbols)
    ∷ below any
    ∷ value (least_statements kind left last) (statement_limit kind left)
    ∷ below 5
    ∷ below any
    ∷ []

-- The ten lists of a module of n statements: import records (target+1, kind, bits), dependencies, named imports;
unfoldable pub import_lists : Header → List ℕ → List ListRule
import_lists h numbers = plain numbers ((h.modules + 1) ∷ 3 ∷ 4 ∷ []) ∷ plain numbers (h.modules ∷ []) ∷ plain numbers (h.symbols ∷ []) ∷ []

-- own exports, entry references, K5 symbols;
unfoldable pub export_lists : Header → List ℕ → List ListRule
export_lists h numbers = plain numbers (h.symbols ∷ []) ∷ plain numbers (h.symbols ∷ []) ∷ plain numbers (h.symbols ∷ []) ∷ []

-- resolved exports (name, symbol, from CommonJS), CommonJS namespaces (symbol, module), enum members (symbol name, member), helpers
-- (helper, statement). Resolved export names and CommonJS namespace symbols don't repeat.
unfoldable pub name_lists : Header → List ℕ → ℕ → List ListRule
name_lists h numbers n =
    distinct numbers (any ∷ h.symbols ∷ 2 ∷ [])
    ∷ distinct numbers (h.symbols ∷ h.modules ∷ [])
    ∷ plain numbers (any ∷ any ∷ [])
    ∷ plain numbers (h.helpers ∷ n ∷ [])
    ∷ []

unfoldable pub module_lists : Header → List ℕ → ℕ → List ListRule
module_lists h numbers n = import_lists h numbers ++ (export_lists h numbers ++ name_lists h numbers n)

unfoldable pub module_at : Header → List ℕ → Left → ℕ → Parsed Item
module_at h numbers left at =
    item (module_rules h (get_or numbers at 0) left.statements (eqb left.modules 1)) (λ head. module_lists h numbers (get_or head 9 0)) numbers at

unfoldable pub less_module : Left → Item → Left
less_module left m = record { statements = left.statements - get_or m.head 9 0; modules = left.modules - 1 }

unfoldable pub modules_at : Header → List ℕ → ℕ → Parsed (List Item)
modules_at h numbers at = many (module_at h numbers) less_module h.modules (record { statements = h.statements; modules = h.modules }) at

-- what later parts ask of a module
unfoldable pub kind_of : Item → ℕ
kind_of m = get_or m.head 0 0

unfoldable pub statements_of : Item → ℕ
statements_of m = get_or m.head 9 0

unfoldable pub import_records_of : Item → List (List ℕ)
import_records_of m = get_or m.rows 0 []

-- The six numbers of a symbol: owner, name, root, alias namespace+1, alias name, constant bits.
unfoldable pub symbol_rules : Header → List Rule
symbol_rules h =
    below h.modules
    ∷ below any
    ∷ below h.symbols
    ∷ below (h.symbols + 1)
    ∷ below any
    ∷ below 8
    ∷ []

-- statements of a symbol's owner: none where it is external, which has none
unfoldable pub owners_counts : ℕ → ℕ
owners_counts n = elim (eqb n 0) [ true ↦ 1 | false ↦ 16385 ]

abbrev pub owners_statements : List ℕ → ℕ → ListRule
owners_statements numbers n = record { counts = owners_counts n; row = plain_row (n ∷ []) numbers }

-- its three lists: export chain, declaring statements, written-property statements, where its owner has n statements
unfoldable pub symbol_lists : Header → List ℕ → ℕ → List ListRule
symbol_lists h numbers n = plain numbers (h.symbols ∷ []) ∷ owners_statements numbers n ∷ owners_statements numbers n ∷ []

unfoldable pub symbol_at : Header → List Item → List ℕ → ℕ → ℕ → Parsed Item
symbol_at h modules numbers i at =
    item (symbol_rules h) (λ head. symbol_lists h numbers (statements_of (get_or modules (get_or head 0 0) no_item))) numbers at

-- the number of the thing behind
abbrev pub following : ℕ → Item → ℕ
following i x = i + 1

unfoldable pub symbols_at : Header → List Item → List ℕ → ℕ → Parsed (List Item)
symbols_at h modules numbers at = many (symbol_at h modules numbers) following h.symbols 0 at

-- A reference: its kind, then by its kind the parts: 0 a symbol; 1 nothing; 2 a symbol, CommonJS target, a list of symbols; 3 an
-- object, write, property count, first property.
unfoldable pub depended_at : ℕ → List ℕ → ℕ → Parsed (List ℕ)
depended_at symbols numbers at =
    and_then (cells (below symbols ∷ below 2 ∷ []) numbers at)
    (λ parts q. and_then (list (plain numbers (symbols ∷ [])) numbers q) (λ ds p. got (get_or parts 0 0 ∷ get_or parts 1 0 ∷ map (λ d. get_or d 0 0) ds) p))

unfoldable pub member_rules : ℕ → List Rule
member_rules symbols = below symbols ∷ below 2 ∷ below any ∷ below any ∷ []

unfoldable pub parts_at : ℕ → ℕ → List ℕ → ℕ → Parsed (List ℕ)
parts_at kind symbols numbers at =
    elim (eqb kind 0) [
      | true ↦ cells (below symbols ∷ []) numbers at
      | false ↦
          elim (eqb kind 1) [
            | true ↦ got [] at
            | false ↦
                elim (eqb kind 2) [
                  | true ↦ depended_at symbols numbers at
                  | false ↦ cells (member_rules symbols) numbers at
                ]
          ]
    ]

unfoldable pub reference_at : ℕ → List ℕ → List ℕ → ℕ → Parsed (List ℕ)
reference_at symbols numbers seen at =
    and_then (number (below 4) numbers at) (λ kind q. and_then (parts_at kind symbols numbers q) (λ parts p. got (kind ∷ parts) p))

abbrev pub reference_list : ℕ → List ℕ → ListRule
reference_list symbols numbers = record { counts = 16385; row = reference_at symbols numbers }

-- A statement of a module of r import records: bits; lists of import records and of references.
unfoldable pub statement_lists : Header → List ℕ → ℕ → List ListRule
statement_lists h numbers r = plain numbers (r ∷ []) ∷ reference_list h.symbols numbers ∷ []

unfoldable pub statement_at : Header → ℕ → List ℕ → ℕ → ℕ → Parsed Item
statement_at h r numbers i at = item (below 32 ∷ []) (λ head. statement_lists h numbers r) numbers at

-- the statements of one module, and of all, by module
unfoldable pub module_statements : Header → List Item → List ℕ → ℕ → ℕ → Parsed (List Item)
module_statements h modules numbers m at =
    many (statement_at h (length (import_records_of (get_or modules m no_item))) numbers) following (statements_of (get_or modules m no_item)) 0 at

unfoldable pub statements_at : Header → List Item → List ℕ → ℕ → Parsed (List (List Item))
statements_at h modules numbers at = many (module_statements h modules numbers) (λ m s. m + 1) h.modules 0 at

-- A related statement: module, statement, record, unreachable; the module is normal, the record resolved.
unfoldable pub related_module_at : Header → List Item → List ℕ → ℕ → Parsed ℕ
related_module_at h modules numbers at =
    and_then (number (below h.modules) numbers at)
    (λ m q. elim (eqb (kind_of (get_or modules m no_item)) 1) [ true ↦ got m q | false ↦ fault (OutOfRange at) ])

unfoldable pub related_import_record_at : List (List ℕ) → List ℕ → ℕ → Parsed ℕ
related_import_record_at import_records numbers at =
    and_then (number (below (length import_records)) numbers at)
    (λ r q. elim (eqb (get_or (get_or import_records r []) 0 0) 0) [ true ↦ fault (OutOfRange at) | false ↦ got r q ])

unfoldable pub related_at : Header → List Item → List ℕ → List ℕ → ℕ → Parsed (List ℕ)
related_at h modules numbers seen at =
    and_then (related_module_at h modules numbers at)
    (λ m q. and_then (number (below (statements_of (get_or modules m no_item))) numbers q)
    (λ s p. and_then (related_import_record_at (import_records_of (get_or modules m no_item)) numbers p)
    (λ r o. and_then (number (below 2) numbers o) (λ u n. got (m ∷ s ∷ r ∷ u ∷ []) n))))

-- An entry: module, kind; a list of related statements.
unfoldable pub entry_at : Header → List Item → List ℕ → ℕ → ℕ → Parsed Item
entry_at h modules numbers i at =
    item (below h.modules ∷ below 3 ∷ []) (λ head. record { counts = 16385; row = related_at h modules numbers } ∷ []) numbers at

unfoldable pub entries_at : Header → List Item → List ℕ → ℕ → Parsed (List Item)
entries_at h modules numbers at = many (entry_at h modules numbers) following h.entries 0 at
