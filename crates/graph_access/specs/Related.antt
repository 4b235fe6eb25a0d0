-- A related statement of an entry, in an accepted graph (docs/GRAPH.md: its module is normal, its import record resolved).
use Rattle.std.specs.Prelude.{ℕ, ◌<◌, ◌≡◌, true, List, [], length, get_or}
use Rattle.graph.specs.Check.{Graph}
use Rattle.graph_access.specs.Names.{import_records, import_record_target, related_module, related_statement, related_import_record, unreachable}
use Rattle.graph_access.specs.declared.entries.RelatedStmt.{RelatedStmt}
use Rattle.graph_access.specs.Words.{module_of, statement_list, normal}

pub record RelatedHere (g : Graph) (row : List ℕ) : Type 0 where
  pub inside : related_module row < g.header.modules
  pub is_normal : normal g (related_module row) ≡ true
  pub statement_inside : related_statement row < length (statement_list g (related_module row))
  pub import_record_inside : related_import_record row < length (import_records (module_of g (related_module row)))
  pub resolved : import_record_target (get_or (import_records (module_of g (related_module row))) (related_import_record row) []) ≡ 0 → ⊥

-- a related statement by its typed indexes
pub record RelatedIs (g : Graph) (row : List ℕ) (r : RelatedStmt) : Type 0 where
  pub module_is : r.module.0 ≡ related_module row
  pub statement_is : r.statement.0 ≡ related_statement row
  pub import_record_is : r.import_record.0 ≡ related_import_record row
  pub unreachable_is : r.unreachable ≡ unreachable row
  pub here : RelatedHere g row
