-- The circle of the 47 numbers, by computation, and that the Rust has no outcome on them.
use Prim.Native.Nat.{ℕ}
use mathlib.Core.Path.{◌≡◌, refl, subst, sym}
use mathlib.Core.Logic.{inl, inr}
use mathlib.Core.Bool.{true, false}
use mathlib.Core.List.{List, [], ◌∷◌}
use borrow.Author.Tests.{ltb-true}
use lib.Dec.{ltb}
use lib.ListN.{length, get_or}
use Rattle.determine_side_effects.specs.rows_crate.Walk.{and_then, within, obeys, number, cells, many, elem, firsts, list, plain_row, repeated, distinct_row, lists, item, walk_of, onward, columns_of, row_of, firsts_at}
use Rattle.determine_side_effects.specs.graph_format_crate.Format.{header_rules, header_of, namespace_limit, least_statements, statement_limit, module_rules, import_lists, export_lists, name_lists, module_lists, module_at, less_module, modules_at, kind_of, statements_of, import_records_of, symbol_rules, owners_counts, symbol_lists, symbol_at, symbols_at, depended_at, member_rules, parts_at, reference_at, statement_lists, statement_at, module_statements, statements_at, related_module_at, related_import_record_at, related_at, entry_at, entries_at}
use Rattle.determine_side_effects.specs.graph_tables_crate.Tables.{items_of, end_of, header_in, modules_read, modules_in, symbols_read, symbols_in, statements_read, statements_in, entries_read, entries_in, first_of}
use Rattle.determine_side_effects.specs.graph_crate.Check.{helpers_at, graph_at, walked, each, runtime_normal, owns_namespace, root_is_root, later_rules, check_of, answer_of, graph_in, tail_walk, body_walk}
use Rattle.determine_side_effects.specs.graph_access_crate.Names.{kind, effects, exports, module_type, flags, wrap, wrapper, namespace, reexport_count, statement_count, scan_effects, scan_statement_count, import_records, dependencies, named_imports, own_exports, entry_references, common_js_export_symbols, resolved_exports, common_js_namespaces, enum_members, module_helpers, only, import_record_target, import_record_kind, import_record_bits, export_name, export_symbol, export_from_common_js, namespace_symbol, namespace_module, enum_name, enum_member, helper_number, helper_statement, owner, symbol_name, root, alias_namespace, alias_name, constant_bits, export_chain, declaring_statements, written_property_statements, statement_bits, statement_import_records, references, reference_kind, reference_symbol, reference_flag, property_count, first_property, depended_on, entry_module, entry_kind, related, related_module, related_statement, related_import_record, unreachable}
use Rattle.determine_side_effects.specs.graph_access_crate.Words.{flag, tabulate, some, module_of, symbol_of, statement_list, statement_of, normal, option, entry_of, root_of}
use Rattle.determine_side_effects.specs.facts_crate.Facts.{fact_of, mark_of, mark_count}
use Rattle.determine_side_effects.specs.Effects.{effectful, seeds, reaches, moves, moved, pass, passes, settle, relaxed, rescanned, recomputed, first_verdict, first_verdicts, last_verdicts, has_effects}
use Rattle.on_demand.specs.Demand.{user_entry, on_demand, gated, has_gated, has_body, claims, claimed, body_of}
use Rattle.linking_metadata.specs.Namespaces.{namespace_in, common_js_of, is_namespace, target_of}
use Rattle.keep_rules.specs.Rules.{when, quiet_runtime, has_eval, effect_bit, swept_shaken, swept_whole, swept, sweep_candidate, dependency, dependency_candidate, eval_candidates, eval_candidate, export_symbol_candidate, dev_namespace, dev_candidate, module_segments, import_record_of, bails_out, import_record_candidate, reason_of, inlined, forwards, forward_candidate, plain_candidate, resolved_candidate, reference_candidates, reference_candidate, reference_segment, statement_segments, bailout_candidate, default_alias, checked_candidate, bypassed, demanded, demand_candidates, demand_candidate, export_of, export_candidate, alias_candidate, needs_wrapper, wrapper_candidates, wrapper_candidate, declaration_candidates, declaration_candidate, write_candidates, write_candidate, use_segments, segments_of, picked, given_by, gives}
use Rattle.keep_record.specs.Lines.{numbers_of, written, elem as elem-keep-record, marks_of, marks_from, has, added, adds}
use Rattle.worklist.specs.Drain.{fact_at, followed, joined, forwards_to, is_module, joins_all, module_line, name_of, joined_to, joins, news, drained, started, drained_all, drain_of}
use Rattle.entry_order.specs.Order.{those, grouped_from, grouped, module_of_entry, is_dynamic, is_user_defined, grouped_entries, user_entries, dynamic_entries}
use Rattle.entry_starts.specs.Starts.{declared, reference_starts, references_starts, module_starts, user_starts}
use Rattle.entry_graph.specs.Ordering.{nothing, no_edges, put, put_succ, add_edge, visit, dynamic_import, import_record, all_records, construct, from_entry, from_entries, entry_graph}
use Rattle.cycles.specs.Cycles.{preds, several, groups, cycled}
use Rattle.cycles.specs.Search.{none, with, each as each-cycles, walk, finished}
use Rattle.dynamic_entries.specs.Alive.{record_of, is_pure, uses_no_export, lets_live, is_alive, records_before, dead_of}
use Rattle.dynamic_entries.specs.Sorted.{completion, on_cycle, goes_first, by_completion, sorted_entries}
use Rattle.dynamic_entries.specs.Tries.{starting, lives, now_live, now_dead, tried, tries, progress_in}
use Rattle.passes.specs.Bailouts.{export_starts, bailout_starts, bailouts_starts}
use Rattle.passes.specs.Helpers.{has_all, needs_helper, word_of, helper_word, helper_union, runtime_starts}
use Rattle.tree_shaking.specs.Rounds.{bailed, round, kept_module, live_count, keeps_module, has_moved, goes_on, rounds_from, users_starts, no_one, begun, main_part, final_entries, runtime_stage}
use Rattle.dead_records.specs.Dead.{record_count, is_dead_record, dead_row}
use Rattle.run_rows.specs.Run.{with_runtime, run_of, helpers_row, entries_row}
use Rattle.closed_choices.specs.Choice.{nothing_given}
use Rattle.determine_side_effects.specs.facts_crate.Facts.{use_fact}
use Rattle.closed_choices.specs.Choice.{HasLine}
use Rattle.rust_values.specs.Values.{Pair, pair, In}
use Rattle.rust_returns.specs.Circle.{GivesUse, Circle}
use Rattle.rust_returns.specs.Example.{circle, NeverReturns}
use Rattle.rust_returns.proofs.Uses.{at_place}
use Rattle.rust_returns.proofs.OnCircles.{never_on_circles}
use Rattle.std.specs.Prelude.{Ok}

-- the use of the symbol has a line, and is the first that it gives
record Computed : Type 0 where
  is_accepted : answer_of (check_of circle) ≡ Ok tt
  no_bit : option (graph_in circle) 7 ≡ false
  has_line : fact_at (run_of (graph_in circle)).lines 2 ≡ use_fact 0 1
  has_line_inside : ltb 2 (length (run_of (graph_in circle)).lines) ≡ true
  from_itself : (get_or (gives (graph_in circle) (last_verdicts (graph_in circle)) (use_fact 0 1)) 0 nothing_given).fact ≡ use_fact 0 1
  from_itself_inside : ltb 0 (length (gives (graph_in circle) (last_verdicts (graph_in circle)) (use_fact 0 1))) ≡ true

computed : Computed
unfolding and_then within obeys number cells many elem firsts list plain_row repeated distinct_row lists item walk_of onward columns_of row_of firsts_at header_rules header_of namespace_limit least_statements statement_limit module_rules import_lists export_lists name_lists module_lists module_at less_module modules_at kind_of statements_of import_records_of symbol_rules owners_counts symbol_lists symbol_at symbols_at depended_at member_rules parts_at reference_at statement_lists statement_at module_statements statements_at related_module_at related_import_record_at related_at entry_at entries_at items_of end_of header_in modules_read modules_in symbols_read symbols_in statements_read statements_in entries_read entries_in first_of helpers_at graph_at walked each runtime_normal owns_namespace root_is_root later_rules check_of answer_of graph_in tail_walk body_walk kind effects exports module_type flags wrap wrapper namespace reexport_count statement_count scan_effects scan_statement_count import_records dependencies named_imports own_exports entry_references common_js_export_symbols resolved_exports common_js_namespaces enum_members module_helpers only import_record_target import_record_kind import_record_bits export_name export_symbol export_from_common_js namespace_symbol namespace_module enum_name enum_member helper_number helper_statement owner symbol_name root alias_namespace alias_name constant_bits export_chain declaring_statements written_property_statements statement_bits statement_import_records references reference_kind reference_symbol reference_flag property_count first_property depended_on entry_module entry_kind related related_module related_statement related_import_record unreachable flag tabulate some module_of symbol_of statement_list statement_of normal option entry_of root_of fact_of mark_of mark_count effectful seeds reaches moves moved pass passes settle relaxed rescanned recomputed first_verdict first_verdicts last_verdicts has_effects user_entry on_demand gated has_gated has_body claims claimed body_of namespace_in common_js_of is_namespace target_of when quiet_runtime has_eval effect_bit swept_shaken swept_whole swept sweep_candidate dependency dependency_candidate eval_candidates eval_candidate export_symbol_candidate dev_namespace dev_candidate module_segments import_record_of bails_out import_record_candidate reason_of inlined forwards forward_candidate plain_candidate resolved_candidate reference_candidates reference_candidate reference_segment statement_segments bailout_candidate default_alias checked_candidate bypassed demanded demand_candidates demand_candidate export_of export_candidate alias_candidate needs_wrapper wrapper_candidates wrapper_candidate declaration_candidates declaration_candidate write_candidates write_candidate use_segments segments_of picked given_by gives numbers_of written elem-keep-record marks_of marks_from has added adds fact_at followed joined forwards_to is_module joins_all module_line name_of joined_to joins news drained started drained_all drain_of those grouped_from grouped module_of_entry is_dynamic is_user_defined grouped_entries user_entries dynamic_entries declared reference_starts references_starts module_starts user_starts nothing no_edges put put_succ add_edge visit dynamic_import import_record all_records construct from_entry from_entries entry_graph preds several groups cycled none with each-cycles walk finished record_of is_pure uses_no_export lets_live is_alive records_before dead_of completion on_cycle goes_first by_completion sorted_entries starting lives now_live now_dead tried tries progress_in export_starts bailout_starts bailouts_starts has_all needs_helper word_of helper_word helper_union runtime_starts bailed round kept_module live_count keeps_module has_moved goes_on rounds_from users_starts no_one begun main_part final_entries runtime_stage with_runtime run_of record_count is_dead_record dead_row helpers_row entries_row nothing_given
computed = record { is_accepted = refl; no_bit = refl; has_line = refl; has_line_inside = refl; from_itself = refl; from_itself_inside = refl }

circle_is_one : Circle (graph_in circle)
circle_is_one =
    record {
      uses = pair 0 1 ∷ [];
      one = pair 0 1;
      is_in = inl refl;
      chosen = λ p h. subst (λ (q : Pair). HasLine (run_of (graph_in circle)).lines (use_fact q.first q.second)) (sym (only p h)) lined;
      leads_on = λ p h. (pair 0 1, inl refl, subst (λ (q : Pair). GivesUse (graph_in circle) q.first q.second 0 1) (sym (only p h)) itself);
    }
  where
    only : (p : Pair) → In p (pair 0 1 ∷ []) → p ≡ pair 0 1
    only p (inl e) = e
    only p (inr h) = absurd h

    lined : HasLine (run_of (graph_in circle)).lines (use_fact 0 1)
    lined = record { number = 2; inside = ltb-true 2 (length (run_of (graph_in circle)).lines) computed.has_line_inside; is = computed.has_line }

    itself : GivesUse (graph_in circle) 0 1 0 1
    itself =
        at_place (graph_in circle) 0 1 0 1
        (record {
          place = 0;
          inside = ltb-true 0 (length (gives (graph_in circle) (last_verdicts (graph_in circle)) (use_fact 0 1))) computed.from_itself_inside;
          is = computed.from_itself;
        })

pub circle_never_returns : NeverReturns circle
circle_never_returns =
    record { accepted = computed.is_accepted; circles = circle_is_one; no_outcome = never_on_circles circle computed.is_accepted (record { no_settling = computed.no_bit }) circle_is_one }
