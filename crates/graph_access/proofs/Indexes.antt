-- Every index in an accepted graph is in range, by the words of the decoded graph.
use Prim.Native.Nat.{ℕ, zero, suc, ◌+◌, ◌<◌, ◌≤◌}
use mathlib.Core.Path.{◌≡◌, refl, ap, ◌∙◌, sym}
use mathlib.Core.Bool.{Bool, true, false}
use mathlib.Core.List.{List, [], ◌∷◌}
use native.Mathlib.Decide.{dec_lt}
use native.Mathlib.Omega.{arith}
use borrow.Author.Tests.{eqb-true, eq-eqb, ltb-false}
use lib.Dec.{eqb, ltb}
use lib.ListN.{length, get_or}
use Rattle.graph.specs.rows_crate.Walk.{got, ListRule, lists, Item, no_item}
use Rattle.graph.proofs.rows_crate.Items.{list_got, lists_first}
use Rattle.graph.specs.graph_format_crate.Format.{module_rules, module_lists, import_lists, export_lists, name_lists, least_statements, symbol_rules, symbol_lists, statement_lists, kind_of, statements_of, import_records_of}
use Rattle.graph.specs.graph_tables_crate.Tables.{items_of, header_in, modules_in, first_of}
use Rattle.graph.proofs.graph_tables_crate.Facts.{modules_long, its-read, number_same, symbol-read}
use Rattle.graph.proofs.graph_tables_crate.ByModule.{first_step, first_mono}
use Rattle.graph.specs.Check.{helpers_at, graph_in}
use Rattle.graph.proofs.LaterRules.{namespace_fits}
use Rattle.graph.proofs.WellFormed.{helper_count, helper-same, helper-below}
use Rattle.graph_access.specs.Lists.{module_widths, module_limits, symbol_limits}
use Rattle.graph_access.specs.Words.{root_of}
use Rattle.graph_access.specs.Names.{kind, effects, wrapper, namespace, statement_count, scan_effects, import_records, dependencies, named_imports, own_exports, entry_references, common_js_export_symbols, resolved_exports, common_js_namespaces, only, import_record_target, export_symbol, namespace_symbol, namespace_module, owner, alias_namespace, export_chain, declaring_statements, written_property_statements, statement_import_records, references, module_helpers, helper_number, helper_statement, entry_module, entry_kind, related, related_module, related_statement, related_import_record}
use Rattle.graph_access.proofs.Ranges.{module_list_below, symbol_list_below, wrapper_below as wrapper-is, owner_below as owner-is, root_below as root_is, alias_below as alias-is}
use Rattle.graph_access.proofs.OfStatements.{its-read as statement-read}
use Rattle.graph_access.proofs.StatementRanges.{record_below, ReferenceGood, reference_good}
use Rattle.graph_access.proofs.EntryRanges.{module_below, kind_below, related_good}
use Rattle.graph_access.specs.Related.{RelatedHere}
use Rattle.graph_access.specs.Words.{module_of, symbol_of, statement_list, statement_of, entry_of, normal}
use Rattle.graph.specs.Loaded.{Loaded}
use Rattle.graph_access.proofs.StatementNumbers.{all_long, number-below}

-- a number that was read is within the limit of what it means
pub found_below : {r x n : ℕ} → r ≡ x → x < n → (r ≡ x) × (r < n)
found_below e l = (e, rw e l)

pub found_at_most : {r x n : ℕ} → r ≡ x → x ≤ n → (r ≡ x) × (r ≤ n)
found_at_most e l = (e, rw e l)

each_few : (rs : List ListRule) (numbers : List ℕ) (at : ℕ) {ls : List (List (List ℕ))} {q : ℕ} → lists rs numbers at ≡ got ls q → (j : ℕ) → j < length rs → length (get_or ls j []) ≤ 16384
each_few [] numbers at e j h = absurd (omega arith)
each_few (r ∷ rs) numbers at {ls} {q} e zero h = let f = lists_first r rs numbers at e in rw f.is (list_got r numbers at f.here).few
each_few (r ∷ rs) numbers at {ls} {q} e (suc j) h = let f = lists_first r rs numbers at e in rw f.is (each_few rs numbers f.end f.there j (omega arith))

least_kind : (kind left : ℕ) (last : Bool) → kind ≤ least_statements kind left last
unfolding least_statements
least_kind kind left false = omega arith
least_kind kind left true = go (ltb left kind) refl
  where
    go : (b : Bool) → ltb left kind ≡ b → kind ≤ least_statements kind left true
    go true e = rw (e, least_statements) (omega arith)
    go false e = rw (e, least_statements) (ltb-false left kind e)

-- the number of a statement among those of all modules tells its module
same_module : (ms : List Item) (m n i j : ℕ) → m < length ms → n < length ms → i < statements_of (get_or ms m no_item) → j < statements_of (get_or ms n no_item) → first_of ms m + i ≡ first_of ms n + j → m ≡ n
same_module ms m n i j a b k l e = go (dec_lt m n) (dec_lt n m)
  where
    go : Dec (m < n) → Dec (n < m) → m ≡ n
    go (yes p) q = absurd (omega (arith, first_step ms m a, first_mono ms (m + 1) n (omega arith), k, e))
    go (no p) (yes q) = absurd (omega (arith, first_step ms n b, first_mono ms (n + 1) m (omega arith), l, e))
    go (no p) (no q) = omega arith

module _ {numbers tables : List ℕ} (t : Loaded numbers tables) where
  -- symbols
  pub owner_below : (s : ℕ) → s < (header_in numbers).symbols → owner (symbol_of (graph_in numbers) s) < (header_in numbers).modules
  unfolding owner symbol_of graph_in
  owner_below s h = owner-is numbers _ t.of_symbols s h

  pub root_below : (s : ℕ) → s < (header_in numbers).symbols → root_of (graph_in numbers).symbols s < (header_in numbers).symbols
  unfolding root_of graph_in
  root_below s h = root_is numbers _ t.of_symbols s h

  pub alias_below : (s : ℕ) → s < (header_in numbers).symbols → alias_namespace (symbol_of (graph_in numbers) s) ≤ (header_in numbers).symbols
  unfolding alias_namespace symbol_of graph_in
  alias_below s h = omega (arith, alias-is numbers _ t.of_symbols s h)

  pub chain_below : (s k : ℕ) → s < (header_in numbers).symbols → k < length (export_chain (symbol_of (graph_in numbers) s)) → only (get_or (export_chain (symbol_of (graph_in numbers) s)) k []) < (header_in numbers).symbols
  unfolding only export_chain symbol_of graph_in symbol_limits
  chain_below s k h l = symbol_list_below numbers _ t.of_symbols s h 0 k (omega arith) l

  pub declared_below : (s k : ℕ) → s < (header_in numbers).symbols → k < length (declaring_statements (symbol_of (graph_in numbers) s))
      → only (get_or (declaring_statements (symbol_of (graph_in numbers) s)) k []) < length (statement_list (graph_in numbers) (owner (symbol_of (graph_in numbers) s)))
  unfolding only declaring_statements symbol_of graph_in symbol_limits owner statements_of
  declared_below s k h l = omega (arith, all_long t (owner (symbol_of (graph_in numbers) s)) (owner_below s h), symbol_list_below numbers _ t.of_symbols s h 1 k (omega arith) l)

  pub written_below : (s k : ℕ) → s < (header_in numbers).symbols → k < length (written_property_statements (symbol_of (graph_in numbers) s))
      → only (get_or (written_property_statements (symbol_of (graph_in numbers) s)) k []) < length (statement_list (graph_in numbers) (owner (symbol_of (graph_in numbers) s)))
  unfolding only written_property_statements symbol_of graph_in symbol_limits owner statements_of
  written_below s k h l = omega (arith, all_long t (owner (symbol_of (graph_in numbers) s)) (owner_below s h), symbol_list_below numbers _ t.of_symbols s h 2 k (omega arith) l)

  pub symbol_list_few : (s j : ℕ) → s < (header_in numbers).symbols → j < 3 → length (get_or (symbol_of (graph_in numbers) s).rows j []) ≤ 16384
  unfolding symbol_of graph_in symbol_rules symbol_lists
  symbol_list_few s j h l = each_few _ numbers _ (symbol-read numbers _ t.of_symbols s h).1.rows j l

  -- modules
  pub dependency_below : (m k : ℕ) → m < (header_in numbers).modules → k < length (dependencies (module_of (graph_in numbers) m)) → only (get_or (dependencies (module_of (graph_in numbers) m)) k []) < (header_in numbers).modules
  unfolding only dependencies module_of graph_in module_limits module_widths
  dependency_below m k h l = module_list_below numbers _ t.of_modules m h 1 k 0 (omega arith) l (omega arith)

  pub named_import_below : (m k : ℕ) → m < (header_in numbers).modules → k < length (named_imports (module_of (graph_in numbers) m)) → only (get_or (named_imports (module_of (graph_in numbers) m)) k []) < (header_in numbers).symbols
  unfolding only named_imports module_of graph_in module_limits module_widths
  named_import_below m k h l = module_list_below numbers _ t.of_modules m h 2 k 0 (omega arith) l (omega arith)

  pub own_export_below : (m k : ℕ) → m < (header_in numbers).modules → k < length (own_exports (module_of (graph_in numbers) m)) → only (get_or (own_exports (module_of (graph_in numbers) m)) k []) < (header_in numbers).symbols
  unfolding only own_exports module_of graph_in module_limits module_widths
  own_export_below m k h l = module_list_below numbers _ t.of_modules m h 3 k 0 (omega arith) l (omega arith)

  pub entry_reference_below : (m k : ℕ) → m < (header_in numbers).modules → k < length (entry_references (module_of (graph_in numbers) m)) → only (get_or (entry_references (module_of (graph_in numbers) m)) k []) < (header_in numbers).symbols
  unfolding only entry_references module_of graph_in module_limits module_widths
  entry_reference_below m k h l = module_list_below numbers _ t.of_modules m h 4 k 0 (omega arith) l (omega arith)

  pub export_symbol_below : (m k : ℕ) → m < (header_in numbers).modules → k < length (common_js_export_symbols (module_of (graph_in numbers) m)) → only (get_or (common_js_export_symbols (module_of (graph_in numbers) m)) k []) < (header_in numbers).symbols
  unfolding only common_js_export_symbols module_of graph_in module_limits module_widths
  export_symbol_below m k h l = module_list_below numbers _ t.of_modules m h 5 k 0 (omega arith) l (omega arith)

  pub resolved_export_below : (m k : ℕ) → m < (header_in numbers).modules → k < length (resolved_exports (module_of (graph_in numbers) m)) → export_symbol (get_or (resolved_exports (module_of (graph_in numbers) m)) k []) < (header_in numbers).symbols
  unfolding export_symbol resolved_exports module_of graph_in module_limits module_widths
  resolved_export_below m k h l = module_list_below numbers _ t.of_modules m h 6 k 1 (omega arith) l (omega arith)

  pub namespace_row_below : (m k : ℕ) → m < (header_in numbers).modules → k < length (common_js_namespaces (module_of (graph_in numbers) m))
      → (namespace_symbol (get_or (common_js_namespaces (module_of (graph_in numbers) m)) k []) < (header_in numbers).symbols) × (namespace_module (get_or (common_js_namespaces (module_of (graph_in numbers) m)) k []) < (header_in numbers).modules)
  unfolding namespace_symbol namespace_module common_js_namespaces module_of graph_in module_limits module_widths
  namespace_row_below m k h l =
      (module_list_below numbers _ t.of_modules m h 7 k 0 (omega arith) l (omega arith), module_list_below numbers _ t.of_modules m h 7 k 1 (omega arith) l (omega arith))

  pub helper_row_below : (m k : ℕ) → m < (header_in numbers).modules → k < length (module_helpers (module_of (graph_in numbers) m))
      → (helper_number (get_or (module_helpers (module_of (graph_in numbers) m)) k []) < (header_in numbers).helpers) × (helper_statement (get_or (module_helpers (module_of (graph_in numbers) m)) k []) < length (statement_list (graph_in numbers) m))
  unfolding helper_number helper_statement module_helpers module_of graph_in module_limits module_widths statements_of
  helper_row_below m k h l =
      let s = all_long t m h in
      let r : get_or (get_or (get_or (get_or (modules_in numbers) m no_item).rows 9 []) k []) 1 0 < get_or (get_or (modules_in numbers) m no_item).head 9 0 =
      module_list_below numbers _ t.of_modules m h 9 k 1 (omega arith) l (omega arith) in
      (module_list_below numbers _ t.of_modules m h 9 k 0 (omega arith) l (omega arith), omega (arith, r, s))

  pub record_target_below : (m k : ℕ) → m < (header_in numbers).modules → k < length (import_records (module_of (graph_in numbers) m)) → import_record_target (get_or (import_records (module_of (graph_in numbers) m)) k []) ≤ (header_in numbers).modules
  unfolding import_record_target import_records module_of graph_in module_limits module_widths
  record_target_below m k h l = omega (arith, module_list_below numbers _ t.of_modules m h 0 k 0 (omega arith) l (omega arith))

  pub wrapper_below : (m : ℕ) → m < (header_in numbers).modules → wrapper (module_of (graph_in numbers) m) ≤ (header_in numbers).symbols
  unfolding wrapper module_of graph_in
  wrapper_below m h = omega (arith, wrapper-is numbers _ t.of_modules m h)

  pub namespace_below : (m : ℕ) → m < (header_in numbers).modules → namespace (module_of (graph_in numbers) m) ≤ (header_in numbers).symbols
  unfolding namespace module_of graph_in
  namespace_below m h = namespace_fits numbers _ t.of_modules m h

  pub effects_below : (m : ℕ) → m < (header_in numbers).modules → effects (module_of (graph_in numbers) m) < 5
  unfolding effects module_of graph_in module_rules
  effects_below m h = ((its-read numbers _ t.of_modules m h).read.head.good 1 (omega arith)).1

  pub scan_effects_below : (m : ℕ) → m < (header_in numbers).modules → scan_effects (module_of (graph_in numbers) m) < 5
  unfolding scan_effects module_of graph_in module_rules
  scan_effects_below m h = ((its-read numbers _ t.of_modules m h).read.head.good 10 (omega arith)).1

  pub module_list_few : (m j : ℕ) → m < (header_in numbers).modules → j < 10 → length (get_or (module_of (graph_in numbers) m).rows j []) ≤ 16384
  unfolding module_of graph_in module_rules module_lists import_lists export_lists name_lists
  module_list_few m j h l = each_few _ numbers _ (its-read numbers _ t.of_modules m h).read.rows j l

  -- the first number of a normal module, as the rules of the others read it
  normal_kind : (m : ℕ) → m < (header_in numbers).modules → normal (graph_in numbers) m ≡ true → get_or numbers (get_or (modules_in numbers) m no_item).place 0 ≡ 1
  unfolding normal kind module_of graph_in
  normal_kind m h n =
      let z : (get_or (modules_in numbers) m no_item).place + 0 ≡ (get_or (modules_in numbers) m no_item).place = omega arith in
      let s = rw z at (number_same numbers _ t.of_modules m h 0 (omega arith)) in
      sym s ∙ eqb-true _ 1 n

  pub namespace_of_normal : (m : ℕ) → m < (header_in numbers).modules → normal (graph_in numbers) m ≡ true
      → (0 < namespace (module_of (graph_in numbers) m)) × (namespace (module_of (graph_in numbers) m) ≤ (header_in numbers).symbols)
  unfolding namespace module_of graph_in module_rules
  namespace_of_normal m h n =
      let r = ((its-read numbers _ t.of_modules m h).read.head.good 7 (omega arith)).0 in
      (omega (arith, r, normal_kind m h n), namespace_below m h)

  -- statements
  pub statements_counted : (m : ℕ) → m < (header_in numbers).modules → length (statement_list (graph_in numbers) m) ≡ statement_count (module_of (graph_in numbers) m)
  unfolding statement_count module_of graph_in
  statements_counted m h = all_long t m h

  pub statements_of_normal : (m : ℕ) → m < (header_in numbers).modules → normal (graph_in numbers) m ≡ true → 0 < length (statement_list (graph_in numbers) m)
  unfolding module_rules
  statements_of_normal m h n =
      let f = its-read numbers _ t.of_modules m h in
      let r = (f.read.head.good 9 (omega arith)).0 in
      let b = least_kind (get_or numbers (get_or (modules_in numbers) m no_item).place 0) f.left.statements (eqb f.left.modules 1) in
      omega (arith, r, b, normal_kind m h n, all_long t m h)

  pub statement_number_below : (m i : ℕ) → m < (header_in numbers).modules → i < length (statement_list (graph_in numbers) m) → first_of (graph_in numbers).modules m + i < (header_in numbers).statements
  unfolding graph_in
  statement_number_below m i h l = number-below t m h i l

  pub statements_few : (m : ℕ) → m < (header_in numbers).modules → length (statement_list (graph_in numbers) m) ≤ 16384
  statements_few m h = go (dec_lt 16384 (length (statement_list (graph_in numbers) m)))
    where
      go : Dec (16384 < length (statement_list (graph_in numbers) m)) → length (statement_list (graph_in numbers) m) ≤ 16384
      go (yes l) = absurd (omega (arith, number-below t m h 16384 l, t.few_statements))
      go (no l) = omega arith

  pub statement_number_injective : (m i m' i' : ℕ) → m < (header_in numbers).modules → m' < (header_in numbers).modules → i < length (statement_list (graph_in numbers) m) → i' < length (statement_list (graph_in numbers) m')
      → first_of (graph_in numbers).modules m + i ≡ first_of (graph_in numbers).modules m' + i' → (m ≡ m') × (i ≡ i')
  unfolding graph_in statements_of
  statement_number_injective m i m' i' h h' l l' e =
      let long = modules_long numbers _ t.of_modules in
      let s : m ≡ m' = same_module (modules_in numbers) m m' i i' (omega (arith, long)) (omega (arith, long)) (omega (arith, l, all_long t m h)) (omega (arith, l', all_long t m' h')) e in
      (s, omega (arith, e, ap (first_of (modules_in numbers)) s))

  pub statement_record_below : (m i k : ℕ) → m < (header_in numbers).modules → i < length (statement_list (graph_in numbers) m) → k < length (statement_import_records (statement_of (graph_in numbers) m i))
      → only (get_or (statement_import_records (statement_of (graph_in numbers) m i)) k []) < length (import_records (module_of (graph_in numbers) m))
  unfolding only import_records import_records_of module_of statement_list statement_of statement_import_records graph_in
  statement_record_below m i k h l b = record_below numbers _ _ _ t.of_modules t.of_statements m h i l k b

  pub reference_good_here : (m i r : ℕ) → m < (header_in numbers).modules → i < length (statement_list (graph_in numbers) m) → r < length (references (statement_of (graph_in numbers) m i))
      → ReferenceGood (header_in numbers).symbols (get_or (references (statement_of (graph_in numbers) m i)) r [])
  unfolding statement_list statement_of references graph_in
  reference_good_here m i r h l b = reference_good numbers _ _ _ t.of_modules t.of_statements m h i l r b

  pub statement_list_few : (m i j : ℕ) → m < (header_in numbers).modules → i < length (statement_list (graph_in numbers) m) → j < 2 → length (get_or (statement_of (graph_in numbers) m i).rows j []) ≤ 16384
  unfolding statement_list statement_of statement_lists graph_in
  statement_list_few m i j h l b = each_few _ numbers _ (statement-read numbers _ _ _ t.of_modules t.of_statements m h i l).1.rows j b

  -- entries
  pub entry_module_below : (e : ℕ) → e < (header_in numbers).entries → entry_module (entry_of (graph_in numbers) e) < (header_in numbers).modules
  unfolding entry_module entry_of graph_in
  entry_module_below e h = module_below numbers _ t.of_entries e h

  pub entry_kind_below : (e : ℕ) → e < (header_in numbers).entries → entry_kind (entry_of (graph_in numbers) e) < 3
  unfolding entry_kind entry_of graph_in
  entry_kind_below e h = kind_below numbers _ t.of_entries e h

  -- a related statement: in range, of a normal module, its import record resolved
  pub related_here : (e k : ℕ) → e < (header_in numbers).entries → k < length (related (entry_of (graph_in numbers) e)) → RelatedHere (graph_in numbers) (get_or (related (entry_of (graph_in numbers) e)) k [])
  unfolding related entry_of related_module related_statement related_import_record import_records import_record_target import_records_of statements_of module_of graph_in normal kind kind_of
  related_here e k h l =
      let r = related_good numbers _ t.of_entries e h k l in
      record {
        inside = r.inside;
        is_normal = eq-eqb _ _ r.normal;
        statement_inside = (let s = all_long t _ r.inside in omega (arith, r.statement, s));
        import_record_inside = r.import_record;
        resolved = r.resolved;
      }

  -- helper symbols
  helper_one : (k : ℕ) → k < (header_in numbers).helpers → k < length (items_of (helpers_at (header_in numbers) numbers 7))
  helper_one k l = omega (arith, helper_count numbers t.accepted)

  pub helper_there : (k : ℕ) → k < (header_in numbers).helpers → 7 + k < length numbers
  helper_there k l = (helper-same numbers t.accepted k (helper_one k l)).1

  pub helper_is : (k : ℕ) → k < (header_in numbers).helpers → get_or numbers (7 + k) 0 ≡ only (get_or (graph_in numbers).helpers k [])
  unfolding only graph_in
  helper_is k l = sym (helper-same numbers t.accepted k (helper_one k l)).0

  pub helper_symbol_below : (k : ℕ) → k < (header_in numbers).helpers → only (get_or (graph_in numbers).helpers k []) < (header_in numbers).symbols
  unfolding only graph_in
  helper_symbol_below k l = helper-below numbers t.accepted k (helper_one k l)
