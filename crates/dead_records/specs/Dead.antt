-- Which import records are dead (docs/RULES.md, Dead records), and the row that shows it.
use Rattle.std.specs.Prelude.{ℕ, ◌+◌, Bool, true, false, not, ◌||◌, ◌&&◌, List, ◌++◌, eqb, drop}
use Rattle.bit_row.specs.Row.{bytes_for}
use Rattle.determine_side_effects.specs.graph_crate.Check.{Graph}
use Rattle.determine_side_effects.specs.graph_access_crate.Names.{related, related_module, related_statement, related_import_record, unreachable}
use Rattle.determine_side_effects.specs.graph_access_crate.Words.{some, tabulate, option, entry_of}
use Rattle.determine_side_effects.specs.facts_crate.declared.Fact.{Fact}
use Rattle.determine_side_effects.specs.facts_crate.Facts.{statement_fact}
use Rattle.determine_side_effects.specs.Effects.{last_verdicts}
use Rattle.keep_record.specs.declared.Line.{Line}
use Rattle.keep_record.specs.Lines.{has, elem}
use Rattle.answer_rows.specs.Shown.{bytes_of}
use Rattle.entry_order.specs.Order.{module_of_entry, is_dynamic}
use Rattle.dynamic_entries.specs.Sorted.{on_cycle}
use Rattle.dynamic_entries.specs.Alive.{is_alive, records_before, dead_of}

-- all import records; whether the record of that number is dead: an entry was found dead that marks it
unfoldable pub record_count : Graph → ℕ
record_count g = records_before g.modules g.header.modules

unfoldable pub is_dead_record : Graph → (ℕ → Bool) → ℕ → Bool
is_dead_record g dead j =
    some (λ e. dead e && elem j (dead_of g (last_verdicts g) (related (entry_of g e)))) (tabulate (λ e. e) 0 g.header.entries)

-- Options bit 6: the dead records after the last round, by what is kept and which modules are live as dynamic entries then
-- (docs/RULES.md, Dead records, With options bit 6).

-- a dynamic entry whose module is not live, and that a try would now find dead: neither on a cycle nor let live by a related statement
unfoldable pub dead_now : Graph → (Fact → Bool) → (ℕ → Bool) → ℕ → Bool
dead_now g kept live e =
    is_dynamic g e
    && (not (live (module_of_entry g e)) && not (on_cycle g (module_of_entry g e) || is_alive g (last_verdicts g) kept e))

-- the import record of a related statement, by its number among all
unfoldable pub record_number : Graph → List ℕ → ℕ
record_number g row = records_before g.modules (related_module row) + related_import_record row

-- a related statement that is reachable and kept, with record j
unfoldable pub exempts : Graph → (Fact → Bool) → ℕ → List ℕ → Bool
exempts g kept j row =
    eqb (unreachable row) 0 && (kept (statement_fact (related_module row) (related_statement row)) && eqb j (record_number g row))

-- a dynamic entry of a live module that relates record j through such a statement; some entry does
unfoldable pub exempted_by : Graph → (Fact → Bool) → (ℕ → Bool) → ℕ → ℕ → Bool
exempted_by g kept live j e = is_dynamic g e && (live (module_of_entry g e) && some (exempts g kept j) (related (entry_of g e)))

unfoldable pub exempted : Graph → (Fact → Bool) → (ℕ → Bool) → ℕ → Bool
exempted g kept live j = some (exempted_by g kept live j) (tabulate (λ e. e) 0 g.header.entries)

unfoldable pub dead_at_end : Graph → (Fact → Bool) → (ℕ → Bool) → ℕ → Bool
dead_at_end g kept live j = is_dead_record g (dead_now g kept live) j && not (exempted g kept live j)

-- Whether record j is dead after a main part with these lines, these live modules and these entries found dead in it. It is the one
-- definition that asks for options bit 6.
unfoldable pub dead_record : Graph → List Line → (ℕ → Bool) → (ℕ → Bool) → ℕ → Bool
dead_record g main live dead j =
    elim (option g 6) [
      | true ↦ dead_at_end g (has g 0 main) live j
      | false ↦ is_dead_record g dead j
    ]

-- the dead bits by import record; what is behind them is as lent
unfoldable pub dead_row : Graph → List Line → (ℕ → Bool) → (ℕ → Bool) → List ℕ → List ℕ
dead_row g main live dead lent =
    bytes_of (dead_record g main live dead) (bytes_for (record_count g)) ++ drop (bytes_for (record_count g)) lent
