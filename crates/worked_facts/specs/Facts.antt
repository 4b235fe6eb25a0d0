-- The worked facts that are proved, and the printed case, over the definitions (docs/PROOFS.md, T13). One table, one theorem.
use Rattle.std.specs.Prelude.{ℕ, ◌≡◌, refl, List, [], ◌∷◌}
use Rattle.leb128.specs.Groups.{value, groups, ended, shortest, good}
use Rattle.leb128.specs.Read.{Decoded, all, refused, before, numbers_from, read_of}
use Rattle.determine_side_effects.specs.rows_crate.Walk.{got, fault, within, obeys, number, cells, many, elem, repeated, firsts, list, plain_row, distinct_row, lists, item, and_then}
use Rattle.determine_side_effects.specs.graph_format_crate.Format.{header_rules, header_of, namespace_limit, least_statements, statement_limit, module_rules, import_lists, export_lists, name_lists, module_lists, module_at, less_module, modules_at, kind_of, statements_of, import_records_of, symbol_rules, owners_counts, symbol_lists, symbol_at, symbols_at, depended_at, member_rules, parts_at, reference_at, statement_lists, statement_at, module_statements, statements_at, related_module_at, related_import_record_at, related_at, entry_at, entries_at}
use Rattle.determine_side_effects.specs.graph_tables_crate.Tables.{first_of}
use Rattle.determine_side_effects.specs.graph_crate.Check.{helpers_at, graph_at, walked, each, runtime_normal, owns_namespace, root_is_root, later_rules, check_of, answer_of}
use Rattle.determine_side_effects.specs.graph_access_crate.Words.{flag, tabulate, some, module_of, symbol_of, statement_list, statement_of, normal, option}
use Rattle.determine_side_effects.specs.facts_crate.Facts.{fact_of, mark_of, mark_count}
use Rattle.determine_side_effects.specs.Effects.{effectful, seeds, reaches, moves, moved, pass, passes, settle, relaxed, rescanned, recomputed, first_verdict, first_verdicts, last_verdicts, has_effects}
use Rattle.on_demand.specs.Demand.{user_entry, on_demand, gated, has_gated, has_body, claims, claimed, body_of}
use Rattle.on_demand.specs.Tabled.{one, keyed}
use Rattle.linking_metadata.specs.Namespaces.{namespace_in, common_js_of, is_namespace, target_of}
use Rattle.linking_metadata.specs.Tabled.{entered}
use Rattle.keep_rules.specs.Rules.{when, quiet_runtime, has_eval, effect_bit, swept_shaken, swept_whole, swept, sweep_candidate, dependency, dependency_candidate, eval_candidates, eval_candidate, export_symbol_candidate, dev_namespace, dev_candidate, module_segments, import_record_of, bails_out, import_record_candidate, reason_of, inlined, forwards, forward_candidate, plain_candidate, resolved_candidate, reference_candidates, reference_candidate, reference_segment, statement_segments, bailout_candidate, default_alias, checked_candidate, bypassed, demanded, demand_candidates, demand_candidate, export_of, export_candidate, alias_candidate, needs_wrapper, wrapper_candidates, wrapper_candidate, declaration_candidates, declaration_candidate, write_candidates, write_candidate, use_segments, segments_of, picked, given_by, gives}
use Rattle.keep_record.specs.Lines.{numbers_of, written, elem as elem_of, marks_of, marks_from, has, added, adds}
use Rattle.keep_record.specs.Held.{line_at, lines_of}
use Rattle.worklist.specs.Drain.{fact_at, followed, joined, forwards_to, is_module, joins_all, module_line, name_of, joined_to, joins, news, drained, started, drained_all, drain_of}
use Rattle.starts.specs.Starts.{starts_of}
use Rattle.determine_side_effects.specs.graph_access_crate.Names.{kind, effects, exports, module_type, flags, wrap, wrapper, namespace, reexport_count, statement_count, scan_effects, scan_statement_count, import_records, dependencies, named_imports, own_exports, entry_references, common_js_export_symbols, resolved_exports, common_js_namespaces, enum_members, module_helpers, only, import_record_target, import_record_kind, import_record_bits, export_name, export_symbol, export_from_common_js, namespace_symbol, namespace_module, enum_name, enum_member, helper_number, helper_statement, owner, symbol_name, root, alias_namespace, alias_name, constant_bits, export_chain, declaring_statements, written_property_statements, statement_bits, statement_import_records, references, reference_kind, reference_symbol, reference_flag, property_count, first_property, depended_on, entry_module, entry_kind, related, related_module, related_statement, related_import_record, unreachable}
use Rattle.determine_side_effects.specs.graph_access_crate.Lists.{place_of, module_widths, symbol_widths, module_limits, symbol_limits}
use Rattle.determine_side_effects.specs.graph_access_crate.Words.{root_of}
use Rattle.std.specs.Prelude.{Result, Ok, Err}
use Rattle.determine_side_effects.specs.refusal_crate.declared.Refusal.{Refusal}
use Rattle.determine_side_effects.specs.refusal_crate.declared.Refusal.TheVariants.{NoNumber, WrongLength}

-- a file with room for so many numbers reads as this; numbers are checked with this answer; the last verdicts of a graph are these; the
-- record of a drain of a graph by these starts is this
pub data Fact : Type 0 where
  reads : List ℕ → ℕ → Decoded → Fact
  checks : List ℕ → Result Unit Refusal → Fact
  settles : List ℕ → List ℕ → Fact
  drains : List ℕ → List ℕ → List ℕ → Fact

-- of an accepted graph
unfoldable pub verdicts_in : List ℕ → List ℕ
verdicts_in numbers = elim (check_of numbers) [ got g q ↦ last_verdicts g | fault why ↦ [] ]

unfoldable pub record_in : List ℕ → List ℕ → List ℕ
record_in numbers starts = elim (check_of numbers) [ got g q ↦ written (drain_of g (last_verdicts g) (starts_of starts)) | fault why ↦ [] ]

abbrev pub Holds : Fact → Type 0
Holds (reads file room d) = read_of file room ≡ d
Holds (checks numbers c) = answer_of (check_of numbers) ≡ c
Holds (settles numbers v) = verdicts_in numbers ≡ v
Holds (drains numbers starts lines) = record_in numbers starts ≡ lines

abbrev pub AllHold : List Fact → Type 0
AllHold [] = Unit {0}
AllHold (f ∷ fs) = Holds f × AllHold fs

-- the printed case (examples/printed), one byte a number
abbrev pub printed : List ℕ
printed =
    1 ∷ 0 ∷ 2 ∷ 2 ∷ 3 ∷ 1 ∷ 0 ∷ 1 ∷ 0 ∷ 0 ∷ 0 ∷ 0 ∷ 0 ∷ 0 ∷ 1 ∷ 0 ∷ 1 ∷ 0 ∷ 1 ∷ 0 ∷ 0 ∷ 0 ∷ 0 ∷ 0 ∷ 0 ∷ 0 ∷ 0 ∷ 0 ∷ 0 ∷ 1 ∷ 1 ∷ 0 ∷ 0 ∷ 0 ∷ 0 ∷ 0 ∷ 2 ∷ 0 ∷ 2 ∷ 1 ∷ 2 ∷ 0 ∷ 0 ∷ 0 ∷ 0 ∷ 0 ∷ 0 ∷ 0 ∷ 0 ∷ 0 ∷ 0 ∷ 0 ∷ 1 ∷ 0 ∷ 0 ∷ 0 ∷ 0 ∷ 0 ∷ 0 ∷ 0 ∷ 1 ∷ 1 ∷ 1 ∷ 0 ∷ 0 ∷ 0 ∷ 0 ∷ 0 ∷ 0 ∷ 0 ∷ 0 ∷ 0 ∷ 0 ∷ 0 ∷ 0 ∷ 1 ∷ 0 ∷ 0 ∷ 1 ∷ 0 ∷ 0 ∷ []

-- module 1, Analyzed(false), imports module 2, UserDefined(false), which imports module 3, Analyzed(true)
abbrev pub imports : List ℕ
imports = 1 ∷ 0 ∷ 4 ∷ 4 ∷ 4 ∷ 0 ∷ 0 ∷ 1 ∷ 0 ∷ 0 ∷ 0 ∷ 0 ∷ 0 ∷ 0 ∷ 1 ∷ 0 ∷ 1 ∷ 0 ∷ 1 ∷ 0 ∷ 0 ∷ 0 ∷ 0 ∷ 0 ∷ 0 ∷ 0 ∷ 0 ∷ 0 ∷ 0 ∷ 1 ∷ 0 ∷ 0 ∷ 0 ∷ 0 ∷ 0 ∷ 0 ∷ 2 ∷ 0 ∷ 1 ∷ 0 ∷ 1 ∷ 1 ∷ 3 ∷ 0 ∷ 0 ∷ 0 ∷ 0 ∷ 0 ∷ 0 ∷ 0 ∷ 0 ∷ 0 ∷ 0 ∷ 0 ∷ 1 ∷ 2 ∷ 0 ∷ 0 ∷ 0 ∷ 0 ∷ 0 ∷ 3 ∷ 0 ∷ 1 ∷ 2 ∷ 1 ∷ 1 ∷ 4 ∷ 0 ∷ 0 ∷ 0 ∷ 0 ∷ 0 ∷ 0 ∷ 0 ∷ 0 ∷ 0 ∷ 0 ∷ 0 ∷ 1 ∷ 1 ∷ 0 ∷ 0 ∷ 0 ∷ 0 ∷ 0 ∷ 4 ∷ 0 ∷ 1 ∷ 1 ∷ 1 ∷ 0 ∷ 0 ∷ 0 ∷ 0 ∷ 0 ∷ 0 ∷ 0 ∷ 0 ∷ 0 ∷ 0 ∷ 0 ∷ 0 ∷ 0 ∷ 0 ∷ 0 ∷ 0 ∷ 0 ∷ 0 ∷ 0 ∷ 1 ∷ 1 ∷ 1 ∷ 0 ∷ 0 ∷ 0 ∷ 0 ∷ 0 ∷ 0 ∷ 2 ∷ 2 ∷ 2 ∷ 0 ∷ 0 ∷ 0 ∷ 0 ∷ 0 ∷ 0 ∷ 3 ∷ 3 ∷ 3 ∷ 0 ∷ 0 ∷ 0 ∷ 0 ∷ 0 ∷ 0 ∷ 0 ∷ 0 ∷ 0 ∷ 0 ∷ 0 ∷ 0 ∷ 0 ∷ 0 ∷ 0 ∷ 0 ∷ 0 ∷ 0 ∷ []

-- module 1 is included on demand; its statement 1 has an effect and one reference: without an import record, and with one
abbrev pub unrecorded : List ℕ
unrecorded = 1 ∷ 0 ∷ 2 ∷ 2 ∷ 3 ∷ 0 ∷ 0 ∷ 1 ∷ 0 ∷ 0 ∷ 0 ∷ 0 ∷ 0 ∷ 0 ∷ 1 ∷ 0 ∷ 1 ∷ 0 ∷ 1 ∷ 0 ∷ 0 ∷ 0 ∷ 0 ∷ 0 ∷ 0 ∷ 0 ∷ 0 ∷ 0 ∷ 0 ∷ 1 ∷ 2 ∷ 0 ∷ 0 ∷ 0 ∷ 0 ∷ 0 ∷ 2 ∷ 0 ∷ 2 ∷ 2 ∷ 2 ∷ 0 ∷ 0 ∷ 0 ∷ 0 ∷ 0 ∷ 0 ∷ 0 ∷ 0 ∷ 0 ∷ 0 ∷ 0 ∷ 0 ∷ 0 ∷ 0 ∷ 0 ∷ 0 ∷ 0 ∷ 0 ∷ 0 ∷ 1 ∷ 1 ∷ 1 ∷ 0 ∷ 0 ∷ 0 ∷ 0 ∷ 0 ∷ 0 ∷ 0 ∷ 0 ∷ 0 ∷ 0 ∷ 0 ∷ 0 ∷ 1 ∷ 0 ∷ 1 ∷ 1 ∷ []

abbrev pub recorded : List ℕ
recorded = 1 ∷ 0 ∷ 2 ∷ 2 ∷ 3 ∷ 0 ∷ 0 ∷ 1 ∷ 0 ∷ 0 ∷ 0 ∷ 0 ∷ 0 ∷ 0 ∷ 1 ∷ 0 ∷ 1 ∷ 0 ∷ 1 ∷ 0 ∷ 0 ∷ 0 ∷ 0 ∷ 0 ∷ 0 ∷ 0 ∷ 0 ∷ 0 ∷ 0 ∷ 1 ∷ 2 ∷ 0 ∷ 0 ∷ 0 ∷ 0 ∷ 0 ∷ 2 ∷ 0 ∷ 2 ∷ 2 ∷ 2 ∷ 1 ∷ 0 ∷ 0 ∷ 0 ∷ 0 ∷ 0 ∷ 0 ∷ 0 ∷ 0 ∷ 0 ∷ 0 ∷ 0 ∷ 0 ∷ 0 ∷ 0 ∷ 0 ∷ 0 ∷ 0 ∷ 0 ∷ 0 ∷ 0 ∷ 0 ∷ 1 ∷ 1 ∷ 1 ∷ 0 ∷ 0 ∷ 0 ∷ 0 ∷ 0 ∷ 0 ∷ 0 ∷ 0 ∷ 0 ∷ 0 ∷ 0 ∷ 0 ∷ 1 ∷ 1 ∷ 0 ∷ 1 ∷ 1 ∷ []

-- statement 1 of module 1 reads the known member 9 of the enum 7; and writes it
abbrev pub member_read : List ℕ
member_read = 1 ∷ 0 ∷ 2 ∷ 3 ∷ 3 ∷ 0 ∷ 0 ∷ 1 ∷ 0 ∷ 0 ∷ 0 ∷ 0 ∷ 0 ∷ 0 ∷ 1 ∷ 0 ∷ 1 ∷ 0 ∷ 1 ∷ 0 ∷ 0 ∷ 0 ∷ 0 ∷ 0 ∷ 0 ∷ 0 ∷ 0 ∷ 0 ∷ 0 ∷ 1 ∷ 0 ∷ 0 ∷ 0 ∷ 0 ∷ 0 ∷ 0 ∷ 2 ∷ 0 ∷ 2 ∷ 0 ∷ 2 ∷ 0 ∷ 0 ∷ 0 ∷ 0 ∷ 0 ∷ 0 ∷ 0 ∷ 0 ∷ 1 ∷ 7 ∷ 9 ∷ 0 ∷ 0 ∷ 0 ∷ 0 ∷ 0 ∷ 0 ∷ 0 ∷ 0 ∷ 0 ∷ 0 ∷ 1 ∷ 1 ∷ 1 ∷ 0 ∷ 0 ∷ 0 ∷ 0 ∷ 0 ∷ 0 ∷ 1 ∷ 7 ∷ 2 ∷ 0 ∷ 0 ∷ 0 ∷ 0 ∷ 0 ∷ 0 ∷ 0 ∷ 0 ∷ 0 ∷ 0 ∷ 0 ∷ 0 ∷ 0 ∷ 0 ∷ 1 ∷ 3 ∷ 2 ∷ 0 ∷ 1 ∷ 9 ∷ []

abbrev pub member_written : List ℕ
member_written = 1 ∷ 0 ∷ 2 ∷ 3 ∷ 3 ∷ 0 ∷ 0 ∷ 1 ∷ 0 ∷ 0 ∷ 0 ∷ 0 ∷ 0 ∷ 0 ∷ 1 ∷ 0 ∷ 1 ∷ 0 ∷ 1 ∷ 0 ∷ 0 ∷ 0 ∷ 0 ∷ 0 ∷ 0 ∷ 0 ∷ 0 ∷ 0 ∷ 0 ∷ 1 ∷ 0 ∷ 0 ∷ 0 ∷ 0 ∷ 0 ∷ 0 ∷ 2 ∷ 0 ∷ 2 ∷ 0 ∷ 2 ∷ 0 ∷ 0 ∷ 0 ∷ 0 ∷ 0 ∷ 0 ∷ 0 ∷ 0 ∷ 1 ∷ 7 ∷ 9 ∷ 0 ∷ 0 ∷ 0 ∷ 0 ∷ 0 ∷ 0 ∷ 0 ∷ 0 ∷ 0 ∷ 0 ∷ 1 ∷ 1 ∷ 1 ∷ 0 ∷ 0 ∷ 0 ∷ 0 ∷ 0 ∷ 0 ∷ 1 ∷ 7 ∷ 2 ∷ 0 ∷ 0 ∷ 0 ∷ 0 ∷ 0 ∷ 0 ∷ 0 ∷ 0 ∷ 0 ∷ 0 ∷ 0 ∷ 0 ∷ 0 ∷ 0 ∷ 1 ∷ 3 ∷ 2 ∷ 1 ∷ 1 ∷ 9 ∷ []

abbrev pub table : List Fact
table =
    reads (0x00 ∷ []) 1 (all (0 ∷ []))
    ∷ reads (0x80 ∷ 0x00 ∷ []) 1 (refused (NoNumber 0))
    ∷ reads (0xff ∷ 0xff ∷ 0xff ∷ 0xff ∷ 0x0f ∷ []) 1 (all (4294967295 ∷ []))
    ∷ reads (0xff ∷ 0xff ∷ 0xff ∷ 0xff ∷ 0x10 ∷ []) 1 (refused (NoNumber 0))
    ∷ checks printed (Ok tt)
    ∷ checks [] (Err (WrongLength 0))
    ∷ drains printed [] []
    ∷ settles imports (0 ∷ 0 ∷ 2 ∷ 1 ∷ [])
    ∷ drains unrecorded (1 ∷ 1 ∷ 0 ∷ []) (1 ∷ 1 ∷ 0 ∷ 0 ∷ 0 ∷ 0 ∷ [])
    ∷ drains recorded (1 ∷ 1 ∷ 0 ∷ []) (1 ∷ 1 ∷ 0 ∷ 0 ∷ 0 ∷ 0 ∷ 2 ∷ 1 ∷ 1 ∷ 2 ∷ 1 ∷ 0 ∷ [])
    ∷ drains member_read (2 ∷ 1 ∷ 1 ∷ []) (2 ∷ 1 ∷ 1 ∷ 0 ∷ 0 ∷ 0 ∷ [])
    ∷ drains member_written (2 ∷ 1 ∷ 1 ∷ []) (2 ∷ 1 ∷ 1 ∷ 0 ∷ 0 ∷ 0 ∷ 5 ∷ 2 ∷ 0 ∷ 8 ∷ 1 ∷ 0 ∷ 4 ∷ 2 ∷ 1 ∷ 8 ∷ 1 ∷ 0 ∷ 3 ∷ 2 ∷ 1 ∷ 9 ∷ 3 ∷ 0 ∷ 1 ∷ 1 ∷ 0 ∷ 13 ∷ 4 ∷ 0 ∷ [])
    ∷ []

pub worked_facts : AllHold table
unfolding value groups ended shortest good before numbers_from read_of within obeys number cells many elem repeated firsts list plain_row distinct_row lists item and_then header_rules header_of namespace_limit least_statements statement_limit module_rules import_lists export_lists name_lists module_lists module_at less_module modules_at kind_of statements_of import_records_of symbol_rules owners_counts symbol_lists symbol_at symbols_at depended_at member_rules parts_at reference_at statement_lists statement_at module_statements statements_at related_module_at related_import_record_at related_at entry_at entries_at helpers_at graph_at walked each runtime_normal owns_namespace root_is_root later_rules check_of answer_of flag tabulate some module_of symbol_of statement_list statement_of normal option fact_of mark_of mark_count effectful seeds reaches moves moved pass passes settle relaxed rescanned recomputed first_verdict first_verdicts last_verdicts has_effects user_entry on_demand gated has_gated has_body claims claimed body_of one keyed namespace_in common_js_of is_namespace target_of entered when quiet_runtime has_eval effect_bit swept_shaken swept_whole swept sweep_candidate dependency dependency_candidate eval_candidates eval_candidate export_symbol_candidate dev_namespace dev_candidate module_segments import_record_of bails_out import_record_candidate reason_of inlined forwards forward_candidate plain_candidate resolved_candidate reference_candidates reference_candidate reference_segment statement_segments bailout_candidate default_alias checked_candidate bypassed demanded demand_candidates demand_candidate export_of export_candidate alias_candidate needs_wrapper wrapper_candidates wrapper_candidate declaration_candidates declaration_candidate write_candidates write_candidate use_segments segments_of picked given_by gives numbers_of written line_at lines_of elem_of marks_of marks_from has added adds fact_at followed joined forwards_to is_module joins_all module_line name_of joined_to joins news drained started drained_all drain_of starts_of kind effects exports module_type flags wrap wrapper namespace reexport_count statement_count scan_effects scan_statement_count import_records dependencies named_imports own_exports entry_references common_js_export_symbols resolved_exports common_js_namespaces enum_members module_helpers only import_record_target import_record_kind import_record_bits export_name export_symbol export_from_common_js namespace_symbol namespace_module enum_name enum_member helper_number helper_statement owner symbol_name root alias_namespace alias_name constant_bits export_chain declaring_statements written_property_statements statement_bits statement_import_records references reference_kind reference_symbol reference_flag property_count first_property depended_on entry_module entry_kind related related_module related_statement related_import_record unreachable place_of module_widths symbol_widths root_of module_limits symbol_limits first_of verdicts_in record_in
worked_facts = (refl, (refl, (refl, (refl, (refl, (refl, (refl, (refl, (refl, (refl, (refl, (refl, tt))))))))))))
