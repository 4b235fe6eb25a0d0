-- The numbers and lists of the decoded graph by name, in the order of the file (docs/GRAPH.md). "+1" is as there: 0 stands for none.
use Rattle.std.specs.Prelude.{ℕ, List, [], get_or, drop}
use Rattle.graph.specs.rows_crate.Walk.{Item}

-- A module: its twelve numbers (wrapper and namespace +1),
unfoldable pub kind : Item → ℕ
kind x = get_or x.head 0 0

unfoldable pub effects : Item → ℕ
effects x = get_or x.head 1 0

unfoldable pub exports : Item → ℕ
exports x = get_or x.head 2 0

unfoldable pub module_type : Item → ℕ
module_type x = get_or x.head 3 0

unfoldable pub flags : Item → ℕ
flags x = get_or x.head 4 0

unfoldable pub wrap : Item → ℕ
wrap x = get_or x.head 5 0

unfoldable pub wrapper : Item → ℕ
wrapper x = get_or x.head 6 0

unfoldable pub namespace : Item → ℕ
namespace x = get_or x.head 7 0

unfoldable pub reexport_count : Item → ℕ
reexport_count x = get_or x.head 8 0

unfoldable pub statement_count : Item → ℕ
statement_count x = get_or x.head 9 0

unfoldable pub scan_effects : Item → ℕ
scan_effects x = get_or x.head 10 0

unfoldable pub scan_statement_count : Item → ℕ
scan_statement_count x = get_or x.head 11 0

-- its ten lists,
unfoldable pub import_records : Item → List (List ℕ)
import_records x = get_or x.rows 0 []

unfoldable pub dependencies : Item → List (List ℕ)
dependencies x = get_or x.rows 1 []

unfoldable pub named_imports : Item → List (List ℕ)
named_imports x = get_or x.rows 2 []

unfoldable pub own_exports : Item → List (List ℕ)
own_exports x = get_or x.rows 3 []

unfoldable pub entry_references : Item → List (List ℕ)
entry_references x = get_or x.rows 4 []

unfoldable pub common_js_export_symbols : Item → List (List ℕ)
common_js_export_symbols x = get_or x.rows 5 []

unfoldable pub resolved_exports : Item → List (List ℕ)
resolved_exports x = get_or x.rows 6 []

unfoldable pub common_js_namespaces : Item → List (List ℕ)
common_js_namespaces x = get_or x.rows 7 []

unfoldable pub enum_members : Item → List (List ℕ)
enum_members x = get_or x.rows 8 []

unfoldable pub module_helpers : Item → List (List ℕ)
module_helpers x = get_or x.rows 9 []

-- and their columns: an import record (target +1, kind, bits), a resolved export (name, symbol, from CommonJS), a CommonJS namespace (symbol,
-- module), an enum member (symbol name, member), a helper (helper, statement). The rows of the other lists are one number, `only`.
unfoldable pub only : List ℕ → ℕ
only row = get_or row 0 0

unfoldable pub import_record_target : List ℕ → ℕ
import_record_target row = get_or row 0 0

unfoldable pub import_record_kind : List ℕ → ℕ
import_record_kind row = get_or row 1 0

unfoldable pub import_record_bits : List ℕ → ℕ
import_record_bits row = get_or row 2 0

unfoldable pub export_name : List ℕ → ℕ
export_name row = get_or row 0 0

unfoldable pub export_symbol : List ℕ → ℕ
export_symbol row = get_or row 1 0

unfoldable pub export_from_common_js : List ℕ → ℕ
export_from_common_js row = get_or row 2 0

unfoldable pub namespace_symbol : List ℕ → ℕ
namespace_symbol row = get_or row 0 0

unfoldable pub namespace_module : List ℕ → ℕ
namespace_module row = get_or row 1 0

unfoldable pub enum_name : List ℕ → ℕ
enum_name row = get_or row 0 0

unfoldable pub enum_member : List ℕ → ℕ
enum_member row = get_or row 1 0

unfoldable pub helper_number : List ℕ → ℕ
helper_number row = get_or row 0 0

unfoldable pub helper_statement : List ℕ → ℕ
helper_statement row = get_or row 1 0

-- A symbol: its six numbers (alias namespace +1) and its three lists
unfoldable pub owner : Item → ℕ
owner x = get_or x.head 0 0

unfoldable pub symbol_name : Item → ℕ
symbol_name x = get_or x.head 1 0

unfoldable pub root : Item → ℕ
root x = get_or x.head 2 0

unfoldable pub alias_namespace : Item → ℕ
alias_namespace x = get_or x.head 3 0

unfoldable pub alias_name : Item → ℕ
alias_name x = get_or x.head 4 0

unfoldable pub constant_bits : Item → ℕ
constant_bits x = get_or x.head 5 0

unfoldable pub export_chain : Item → List (List ℕ)
export_chain x = get_or x.rows 0 []

unfoldable pub declaring_statements : Item → List (List ℕ)
declaring_statements x = get_or x.rows 1 []

unfoldable pub written_property_statements : Item → List (List ℕ)
written_property_statements x = get_or x.rows 2 []

-- A statement: its bits and its two lists
unfoldable pub statement_bits : Item → ℕ
statement_bits x = get_or x.head 0 0

unfoldable pub statement_import_records : Item → List (List ℕ)
statement_import_records x = get_or x.rows 0 []

unfoldable pub references : Item → List (List ℕ)
references x = get_or x.rows 1 []

-- A reference: its kind; the symbol of kinds 0 and 2, the object of kind 3; CommonJS target (2) or write (3); what kind 2 depends on;
-- property count and first property of kind 3
unfoldable pub reference_kind : List ℕ → ℕ
reference_kind row = get_or row 0 0

unfoldable pub reference_symbol : List ℕ → ℕ
reference_symbol row = get_or row 1 0

unfoldable pub reference_flag : List ℕ → ℕ
reference_flag row = get_or row 2 0

unfoldable pub property_count : List ℕ → ℕ
property_count row = get_or row 3 0

unfoldable pub first_property : List ℕ → ℕ
first_property row = get_or row 4 0

unfoldable pub depended_on : List ℕ → List ℕ
depended_on row = drop 3 row

-- An entry: its two numbers and its list of related statements (module, statement, import record, unreachable)
unfoldable pub entry_module : Item → ℕ
entry_module x = get_or x.head 0 0

unfoldable pub entry_kind : Item → ℕ
entry_kind x = get_or x.head 1 0

unfoldable pub related : Item → List (List ℕ)
related x = get_or x.rows 0 []

unfoldable pub related_module : List ℕ → ℕ
related_module row = get_or row 0 0

unfoldable pub related_statement : List ℕ → ℕ
related_statement row = get_or row 1 0

unfoldable pub related_import_record : List ℕ → ℕ
related_import_record row = get_or row 2 0

unfoldable pub unreachable : List ℕ → ℕ
unreachable row = get_or row 3 0
