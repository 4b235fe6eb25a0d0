-- The definitions executed by the prover: the printed case (examples/printed) and a graph that takes three rounds (examples/two_rounds), with the
-- outcomes that the Rust has. tools/run_definitions.py executes the same text on all recorded answers of the Rust, and compares these two with what is
-- proved here.
use Rattle.std.proofs.Common.{◌≡◌, ℕ, true, false, List, [], ◌∷◌, refl}
use Rattle.determine_side_effects.specs.rows_crate.Walk.{and_then, within, obeys, number, cells, many, elem, firsts, list, plain_row, repeated, distinct_row, lists, item, walk_of, onward, columns_of, row_of, firsts_at}
use Rattle.determine_side_effects.specs.graph_format_crate.Format.{header_rules, header_of, namespace_limit, least_statements, statement_limit, module_rules, import_lists, export_lists, name_lists, module_lists, module_at, less_module, modules_at, kind_of, statements_of, import_records_of, symbol_rules, owners_counts, symbol_lists, symbol_at, symbols_at, depended_at, member_rules, parts_at, reference_at, statement_lists, statement_at, module_statements, statements_at, related_module_at, related_import_record_at, related_at, entry_at, entries_at}
use Rattle.determine_side_effects.specs.graph_tables_crate.Tables.{items_of, end_of, header_in, modules_read, modules_in, symbols_read, symbols_in, statements_read, statements_in, entries_read, entries_in, first_of}
use Rattle.determine_side_effects.specs.graph_crate.Check.{helpers_at, graph_at, walked, each, runtime_normal, owns_namespace, root_is_root, later_rules, check_of, answer_of, graph_in, tail_walk, body_walk}
use Rattle.determine_side_effects.specs.graph_access_crate.Names.{kind, effects, exports, module_type, flags, wrap, wrapper, namespace, reexport_count, statement_count, scan_effects, scan_statement_count, import_records, dependencies, named_imports, own_exports, entry_references, common_js_export_symbols, resolved_exports, common_js_namespaces, enum_members, module_helpers, only, import_record_target, import_record_kind, import_record_bits, export_name, export_symbol, export_from_common_js, namespace_symbol, namespace_module, enum_name, enum_member, helper_number, helper_statement, owner, symbol_name, root, alias_namespace, alias_name, constant_bits, export_chain, declaring_statements, written_property_statements, statement_bits, statement_import_records, references, reference_kind, reference_symbol, reference_flag, property_count, first_property, depended_on, entry_module, entry_kind, related, related_module, related_statement, related_import_record, unreachable}
use Rattle.determine_side_effects.specs.graph_access_crate.Words.{flag, tabulate, some, module_of, symbol_of, statement_list, statement_of, normal, option, entry_of, root_of}
use Rattle.keep_record.specs.Lines.{numbers_of, written, elem as elem-keep-record, marks_of, marks_from, has, added, adds}
use Rattle.entry_order.specs.Order.{those, grouped_from, grouped, module_of_entry, is_dynamic, is_user_defined, grouped_entries, dynamic_entries}
use Rattle.entry_graph.specs.Ordering.{nothing, no_edges, put, put_succ, add_edge, visit, dynamic_import, import_record, all_records, construct, from_entry, from_entries, entry_graph}
use Rattle.cycles.specs.Search.{none, with, each as each-cycles, walk, finished}
use Rattle.cycles.specs.Cycles.{preds, several, groups, cycled}
use Rattle.dynamic_entries.specs.Sorted.{completion, on_cycle, goes_first, by_completion, sorted_entries}
use Rattle.rust_values.specs.Values.{has_pair, optional, get, is_empty, filter, Pair, pair}
use Rattle.rust_engine.specs.Context.{new_context, push, rest, set_module, set_statement, insert_used, insert_external, insert_reason, insert_json, insert_bailout, take_bailouts, insert_swept, set_deferred, set_changed, for_each, Context}
use Rattle.rust_engine.specs.Tables.{has_side_effects, namespace_row, import_record_ns_to_cjs_module, resolved_export, is_module_namespace, iter_enumerated_without_namespace_stmt}
use Rattle.rust_engine.specs.OnDemand.{entry_idxs, user_defined_entry_module_idxs, side_effects_included_on_demand, is_gated_side_effect_stmt, insert_keys, keys_of, demands_of, demands_from, compute_body_demand_keys}
use Rattle.rust_engine.specs.Engine.{bailout_of, default_bailout, check_cjs_bailout, push_symbol_and_check_cjs_bailout, enqueue_declaring_statements, defer, retain_forwarding_declaration, retain_forwarding_declarations, waiting_for, waiting_for_others, drain_deferred, bail_eval, has_effect, sweeps, sweep_side_effect_statements, include_whole, include_statements_without_treeshaking, index_set, include_dependency, include_side_effectful_dependencies, module_body, handle_include_module, is_bypassed_inlined_constant, sweep_body, drain_body_demand_stmts, alias_target, push_export, include_named_export, follow_cjs_namespace_alias, note_namespace_inclusion_reason, is_simulated_facade_chunk, demand_wrapper, demand_esm_initialization, note_json_self_reference, include_property_write_referencing_stmts, symbol_body, handle_include_symbol, scan_record, scan_one, scan_import_records_for_cjs_bailout, is_inlined_enum_member_access, include_kind, include_plain, include_resolved, include_reference, handle_include_statement, handle, drain_work_items}
use Rattle.rust_effects.specs.DetermineSideEffects.{has_side_effects as hasSideEffects-rust-effects, must_initialize, gather_record, gather_records, gather_module, gather_from, gathered, pending_below, spread_to, spread_to_all, dependents_of, recomputed, none_relaxed}
use Rattle.rust_order.specs.DynamicEntries.{entry_idx, insert_node, add_edge as addEdge-rust-order, neighbors, insert_visited, with_edge, enter, complete, cycled_dynamic_entries, order_from, is_less, insert_by_key, sort_by_key}
use Rattle.rust_run.specs.DynamicEntries.{related_record, all_dead_pure_dynamic_import, exports_unused, lived, any_lived, is_dynamic_entry_alive, is_alive, passes}
use Rattle.rust_run.specs.Passes.{helper_bits, collect_depended_runtime_helpers}
use Rattle.rust_run.specs.IncludeStatements.{push_entry, push_entries, flattened, through_map, is_user_defined as isUserDefined-rust-run, user_defined_entries, dynamic_entries as dynamicEntries-rust-run, insert_if, live_entries, statements_needing, needs_helper, depended_runtime_helper, Outcome, Returns}
use Rattle.rust_run.proofs.Executed.{then, propagated, spread_from, verdicts_from, determined, recomputes, settled, constructed, from_entries as fromEntries-executed, depth_first, entry_graph_made, sorted_by, drained, references_included, entry_included, users_included, exports_included, bailouts_included, retained_one, processed_one, processed_all, round_made, rounds_made, helpers_included, runtime_included, finished as finished-executed, included, executed, ended}
use Rattle.rust_run.proofs.Returned.{executed_returns}
use Rattle.std.specs.Prelude.{Ok}

-- The printed case
abbrev pub case_numbers : List ℕ
case_numbers =
    1 ∷ 0 ∷ 2 ∷ 2 ∷ 3 ∷ 1 ∷ 0 ∷ 1 ∷ 0 ∷ 0 ∷ 0 ∷ 0 ∷ 0 ∷ 0 ∷ 1 ∷ 0 ∷ 1 ∷ 0 ∷ 1 ∷ 0 ∷ 0 ∷ 0 ∷ 0 ∷ 0 ∷ 0 ∷ 0 ∷ 0 ∷ 0 ∷ 0 ∷ 1 ∷ 1 ∷ 0 ∷ 0 ∷ 0 ∷ 0 ∷ 0 ∷ 2 ∷ 0 ∷
    2 ∷ 1 ∷ 2 ∷ 0 ∷ 0 ∷ 0 ∷ 0 ∷ 0 ∷ 0 ∷ 0 ∷ 0 ∷ 0 ∷ 0 ∷ 0 ∷ 1 ∷ 0 ∷ 0 ∷ 0 ∷ 0 ∷ 0 ∷ 0 ∷ 0 ∷ 1 ∷ 1 ∷ 1 ∷ 0 ∷ 0 ∷ 0 ∷ 0 ∷ 0 ∷ 0 ∷ 0 ∷ 0 ∷ 0 ∷ 0 ∷ 0 ∷ 0 ∷ 1 ∷
    0 ∷ 0 ∷ 1 ∷ 0 ∷ 0 ∷ []

abbrev pub case_context : Context
case_context =
    record { pending = []; modules = 1 ∷ []; statements = pair 1 1 ∷ []; used = []; external = []; reasons = []; json = []; bailouts = []; swept = []; deferred = []; changed = false }

abbrev pub case_outcome : Outcome
case_outcome =
    record {
      verdicts = 0 ∷ 1 ∷ [];
      rounds = 1;
      main = case_context;
      included = [];
      dead = [];
      entries = 0 ∷ [];
      helpers = depended_runtime_helper (graph_in case_numbers) case_context;
      context = case_context;
    }

-- Three rounds: CommonJS exports, bailouts, a dynamic entry that is dead at first
abbrev pub rounds_numbers : List ℕ
rounds_numbers =
    5 ∷ 0 ∷ 4 ∷ 6 ∷ 7 ∷ 2 ∷ 0 ∷ 1 ∷ 0 ∷ 0 ∷ 0 ∷ 0 ∷ 0 ∷ 0 ∷ 1 ∷ 0 ∷ 1 ∷ 0 ∷ 1 ∷ 0 ∷ 0 ∷ 0 ∷ 0 ∷ 0 ∷ 0 ∷ 0 ∷ 0 ∷ 0 ∷ 0 ∷ 1 ∷ 1 ∷ 1 ∷ 0 ∷ 2 ∷ 0 ∷ 0 ∷ 2 ∷ 0 ∷
    2 ∷ 1 ∷ 2 ∷ 1 ∷ 3 ∷ 1 ∷ 0 ∷ 0 ∷ 0 ∷ 0 ∷ 0 ∷ 0 ∷ 1 ∷ 2 ∷ 4 ∷ 1 ∷ 0 ∷ 0 ∷ 0 ∷ 1 ∷ 1 ∷ 1 ∷ 0 ∷ 2 ∷ 0 ∷ 0 ∷ 3 ∷ 0 ∷ 2 ∷ 1 ∷ 2 ∷ 1 ∷ 4 ∷ 2 ∷ 0 ∷ 0 ∷ 0 ∷ 0 ∷
    0 ∷ 0 ∷ 1 ∷ 3 ∷ 5 ∷ 1 ∷ 0 ∷ 0 ∷ 0 ∷ 1 ∷ 1 ∷ 0 ∷ 0 ∷ 0 ∷ 0 ∷ 0 ∷ 4 ∷ 0 ∷ 2 ∷ 1 ∷ 2 ∷ 0 ∷ 0 ∷ 0 ∷ 0 ∷ 0 ∷ 0 ∷ 0 ∷ 0 ∷ 0 ∷ 0 ∷ 0 ∷ 1 ∷ 0 ∷ 0 ∷ 0 ∷ 0 ∷ 0 ∷
    0 ∷ 0 ∷ 1 ∷ 1 ∷ 1 ∷ 0 ∷ 0 ∷ 0 ∷ 0 ∷ 0 ∷ 0 ∷ 2 ∷ 1 ∷ 2 ∷ 0 ∷ 0 ∷ 0 ∷ 0 ∷ 0 ∷ 0 ∷ 3 ∷ 1 ∷ 3 ∷ 0 ∷ 0 ∷ 0 ∷ 0 ∷ 0 ∷ 0 ∷ 1 ∷ 2 ∷ 4 ∷ 0 ∷ 0 ∷ 0 ∷ 0 ∷ 1 ∷ 1 ∷
    0 ∷ 2 ∷ 3 ∷ 5 ∷ 0 ∷ 0 ∷ 0 ∷ 0 ∷ 1 ∷ 1 ∷ 0 ∷ 0 ∷ 0 ∷ 0 ∷ 0 ∷ 0 ∷ 0 ∷ 17 ∷ 1 ∷ 0 ∷ 1 ∷ 0 ∷ 2 ∷ 0 ∷ 0 ∷ 0 ∷ 17 ∷ 1 ∷ 0 ∷ 0 ∷ 0 ∷ 0 ∷ 0 ∷ 1 ∷ 0 ∷ 0 ∷ 1 ∷
    0 ∷ 0 ∷ 3 ∷ 2 ∷ 1 ∷ 2 ∷ 1 ∷ 0 ∷ 0 ∷ []

abbrev pub rounds_context : Context
rounds_context =
    record { pending = []; modules = 3 ∷ 2 ∷ 1 ∷ []; statements = pair 3 1 ∷ pair 2 1 ∷ pair 1 1 ∷ []; used = 5 ∷ 5 ∷ 5 ∷ 5 ∷ 2 ∷ 2 ∷ 4 ∷ 4 ∷ []; external = []; reasons = pair 2 1 ∷ []; json = []; bailouts = []; swept = []; deferred = []; changed = false }

abbrev pub rounds_outcome : Outcome
rounds_outcome =
    record {
      verdicts = 0 ∷ 1 ∷ 1 ∷ 1 ∷ [];
      rounds = 3;
      main = rounds_context;
      included = 3 ∷ [];
      dead = [];
      entries = 0 ∷ 1 ∷ [];
      helpers = depended_runtime_helper (graph_in rounds_numbers) rounds_context;
      context = rounds_context;
    }

-- both, executed
record Executions : Type 0 where
  pub case_accepted : answer_of (check_of case_numbers) ≡ Ok tt
  pub of_case : executed (graph_in case_numbers) 20 ≡ ended case_outcome
  pub rounds_accepted : answer_of (check_of rounds_numbers) ≡ Ok tt
  pub of_rounds_holds : executed (graph_in rounds_numbers) 60 ≡ ended rounds_outcome

executions : Executions
unfolding user_defined_entries user_defined_entry_module_idxs and_then within obeys number cells many elem firsts list plain_row repeated distinct_row lists item walk_of onward columns_of row_of firsts_at header_rules header_of namespace_limit least_statements statement_limit module_rules import_lists export_lists name_lists module_lists module_at less_module modules_at kind_of statements_of import_records_of symbol_rules owners_counts symbol_lists symbol_at symbols_at depended_at member_rules parts_at reference_at statement_lists statement_at module_statements statements_at related_module_at related_import_record_at related_at entry_at entries_at items_of end_of header_in modules_read modules_in symbols_read symbols_in statements_read statements_in entries_read entries_in first_of helpers_at graph_at walked each runtime_normal owns_namespace root_is_root later_rules check_of answer_of graph_in tail_walk body_walk kind effects exports module_type flags wrap wrapper namespace reexport_count statement_count scan_effects scan_statement_count import_records dependencies named_imports own_exports entry_references common_js_export_symbols resolved_exports common_js_namespaces enum_members module_helpers only import_record_target import_record_kind import_record_bits export_name export_symbol export_from_common_js namespace_symbol namespace_module enum_name enum_member helper_number helper_statement owner symbol_name root alias_namespace alias_name constant_bits export_chain declaring_statements written_property_statements statement_bits statement_import_records references reference_kind reference_symbol reference_flag property_count first_property depended_on entry_module entry_kind related related_module related_statement related_import_record unreachable flag tabulate some module_of symbol_of statement_list statement_of normal option entry_of root_of numbers_of written elem-keep-record marks_of marks_from has added adds those grouped_from grouped module_of_entry is_dynamic is_user_defined grouped_entries dynamic_entries nothing no_edges put put_succ add_edge visit dynamic_import import_record all_records construct from_entry from_entries entry_graph none with each-cycles walk finished preds several groups cycled completion on_cycle goes_first by_completion sorted_entries has_pair optional get is_empty filter new_context push rest set_module set_statement insert_used insert_external insert_reason insert_json insert_bailout take_bailouts insert_swept set_deferred set_changed for_each has_side_effects namespace_row import_record_ns_to_cjs_module resolved_export is_module_namespace iter_enumerated_without_namespace_stmt entry_idxs side_effects_included_on_demand is_gated_side_effect_stmt insert_keys keys_of demands_of demands_from compute_body_demand_keys bailout_of default_bailout check_cjs_bailout push_symbol_and_check_cjs_bailout enqueue_declaring_statements defer retain_forwarding_declaration retain_forwarding_declarations waiting_for waiting_for_others drain_deferred bail_eval has_effect sweeps sweep_side_effect_statements include_whole include_statements_without_treeshaking index_set include_dependency include_side_effectful_dependencies module_body handle_include_module is_bypassed_inlined_constant sweep_body drain_body_demand_stmts alias_target push_export include_named_export follow_cjs_namespace_alias note_namespace_inclusion_reason is_simulated_facade_chunk demand_wrapper demand_esm_initialization note_json_self_reference include_property_write_referencing_stmts symbol_body handle_include_symbol scan_record scan_one scan_import_records_for_cjs_bailout is_inlined_enum_member_access include_kind include_plain include_resolved include_reference handle_include_statement handle drain_work_items hasSideEffects-rust-effects must_initialize gather_record gather_records gather_module gather_from gathered pending_below spread_to spread_to_all dependents_of recomputed none_relaxed entry_idx insert_node addEdge-rust-order neighbors insert_visited with_edge enter complete cycled_dynamic_entries order_from is_less insert_by_key sort_by_key related_record all_dead_pure_dynamic_import exports_unused lived any_lived is_dynamic_entry_alive is_alive passes helper_bits collect_depended_runtime_helpers push_entry push_entries flattened through_map isUserDefined-rust-run dynamicEntries-rust-run insert_if live_entries statements_needing needs_helper depended_runtime_helper then propagated spread_from verdicts_from determined recomputes settled constructed fromEntries-executed depth_first entry_graph_made sorted_by drained references_included entry_included users_included exports_included bailouts_included retained_one processed_one processed_all round_made rounds_made helpers_included runtime_included finished-executed included executed
executions = record { case_accepted = refl; of_case = refl; rounds_accepted = refl; of_rounds_holds = refl }

-- so the relation has them
pub case_returns : Returns (graph_in case_numbers) case_outcome
case_returns = executed_returns case_numbers executions.case_accepted 20 case_outcome executions.of_case

pub rounds_returns : Returns (graph_in rounds_numbers) rounds_outcome
rounds_returns = executed_returns rounds_numbers executions.rounds_accepted 60 rounds_outcome executions.of_rounds_holds
