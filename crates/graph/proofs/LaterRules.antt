-- The rules that read a later number: what the tables tell of the numbers that they read, and the walk over all items.
use Prim.Native.Nat.{ℕ, ◌+◌, ◌-◌, ◌<◌, ◌≤◌}
use mathlib.Core.Path.{◌≡◌, refl, ap, ◌∙◌, sym}
use mathlib.Core.Logic.{◌≢◌}
use mathlib.Core.Bool.{Bool, true, false}
use mathlib.Core.List.{List}
use native.Mathlib.Numerals.{add-one}
use native.Mathlib.Omega.{arith}
use borrow.Author.Tests.{lt-ltb, le-ltb, eq-eqb, ne_eqb}
use lib.Dec.{eqb}
use lib.Seq.{drop-cons}
use lib.ListN.{length, get_or, drop, drop_of_length-le}
use Rattle.graph_entries.specs.rows_crate.Walk.{Parsed, got, fault, and_then, walk_of, Item, no_item}
use Rattle.graph_entries.proofs.rows_crate.Walks.{at_got, fault_is}
use Rattle.graph_entries.specs.graph_format_crate.declared.Header.{Header}
use Rattle.graph_entries.specs.graph_format_crate.Format.{module_rules, symbol_rules, namespace_limit, kind_of}
use Rattle.graph_entries.specs.graph_tables_crate.Tables.{header_in, modules_in, symbols_in}
use Rattle.graph_entries.specs.graph_tables_crate.Places.{ModuleTable, SymbolTable}
use Rattle.graph_entries.proofs.graph_tables_crate.Facts.{its-read, symbol-read}
use Rattle.graph.specs.Check.{graph_in, each, runtime_normal, owns_namespace, root_is_root, later_rules}
use Rattle.std.specs.Prelude.{Ok, Err}
use Rattle.graph_entries.specs.refusal_crate.declared.Refusal.{Refusal}
use Rattle.graph_entries.specs.refusal_crate.declared.Refusal.TheVariants.{OutOfRange}

-- the walk over all items, from item i on
module _ (test : ℕ → Item → Bool) (offset i : ℕ) (xs : List Item) where
  each_go : i < length xs → test i (get_or xs i no_item) ≡ true → each test offset i (drop i xs) ≡ each test offset (i + 1) (drop (i + 1) xs)
  unfolding each
  each_go h e = rw (drop-cons xs i no_item h, e, each) (ap (λ k. each test offset (i + 1) (drop k xs)) (sym (add-one i)))

  each_stop : i < length xs → test i (get_or xs i no_item) ≡ false → each test offset i (drop i xs) ≡ fault (OutOfRange ((get_or xs i no_item).place + offset))
  unfolding each
  each_stop h e = rw (drop-cons xs i no_item h, e, each)

  each_end : length xs ≤ i → each test offset i (drop i xs) ≡ got i 0
  unfolding each
  each_end h = rw (drop_of_length-le xs h, each)

-- the same in a loop over all items, where what is left is the whole
module _ (test : ℕ → Item → Bool) (offset i : ℕ) (xs : List Item) {whole : Parsed ℕ} (left : each test offset i (drop i xs) ≡ whole) where
  pub all_go : {b : Bool} → i < length xs → b ≡ test i (get_or xs i no_item) → b ≡ true → each test offset (i + 1) (drop (i + 1) xs) ≡ whole
  all_go h e t = sym (each_go test offset i xs h (sym e ∙ t)) ∙ left

  pub all_stop : {b : Bool} {place : ℕ} → i < length xs → b ≡ test i (get_or xs i no_item) → b ≡ false → place ≡ (get_or xs i no_item).place → Err (OutOfRange (place + offset)) ≡ walk_of whole
  unfolding walk_of
  all_stop h e t p = ap (λ q. Err (OutOfRange (q + offset))) p ∙ ap walk_of (sym (each_stop test offset i xs h (sym e ∙ t)) ∙ left)

  pub all_end : length xs ≤ i → Ok 0 ≡ walk_of whole
  unfolding walk_of
  all_end h = ap walk_of (sym (each_end test offset i xs h) ∙ left)

limit_fits : (kind symbols : ℕ) → namespace_limit kind symbols ≤ symbols + 1
unfolding namespace_limit
limit_fits kind symbols = go (eqb kind 0) refl
  where
    go : (b : Bool) → eqb kind 0 ≡ b → namespace_limit kind symbols ≤ symbols + 1
    go true e = rw (e, namespace_limit) (omega arith)
    go false e = rw (e, namespace_limit) (omega arith)

-- a module's namespace is a symbol
pub namespace_fits : (numbers table : List ℕ) → ModuleTable numbers table → (m : ℕ) → m < (header_in numbers).modules
    → get_or (get_or (modules_in numbers) m no_item).head 7 0 ≤ (header_in numbers).symbols
unfolding module_rules
namespace_fits numbers table t m h =
    let r = its-read numbers table t m h in
    omega (arith, (r.read.head.good 7 (omega arith)).1, limit_fits (get_or numbers (get_or (modules_in numbers) m no_item).place 0) (header_in numbers).symbols)

-- a symbol's root is a symbol
pub root_fits : (numbers table : List ℕ) → SymbolTable numbers table → (s : ℕ) → s < (header_in numbers).symbols
    → get_or (get_or (symbols_in numbers) s no_item).head 2 0 < (header_in numbers).symbols
unfolding symbol_rules
root_fits numbers table t s h = ((symbol-read numbers table t s h).1.head.good 2 (omega arith)).1

-- the runtime module, by its number and its kind
module _ (numbers : List ℕ) (h : Header) (is : h ≡ header_in numbers) where
  pub runtime_kind : (k : ℕ) → h.runtime < h.modules → k ≡ get_or (get_or (modules_in numbers) h.runtime no_item).head 0 0 → eqb k 1 ≡ runtime_normal (graph_in numbers)
  unfolding runtime_normal graph_in kind_of
  runtime_kind k l e = rw (sym is, lt-ltb h.runtime h.modules l, runtime_normal) (ap (λ j. eqb j 1) (e ∙ ap (λ g. get_or (get_or (modules_in numbers) g.runtime no_item).head 0 0) is))

  pub runtime_none : h.modules ≤ h.runtime → false ≡ runtime_normal (graph_in numbers)
  unfolding runtime_normal graph_in
  runtime_none l = rw (sym is, le-ltb h.runtime h.modules l, runtime_normal)

-- a module's namespace
module _ (symbols : List Item) (m : ℕ) (x : Item) (n : ℕ) (is : n ≡ get_or x.head 7 0) where
  pub owns_none : n ≡ 0 → true ≡ owns_namespace symbols m x
  unfolding owns_namespace
  owns_none z = rw (sym is, eq-eqb n 0 z, owns_namespace)

  pub owns_some : (owner : ℕ) → n ≢ 0 → owner ≡ get_or (get_or symbols (n - 1) no_item).head 0 0 → eqb owner m ≡ owns_namespace symbols m x
  unfolding owns_namespace
  owns_some owner z e = rw (sym is, ne_eqb n 0 z, owns_namespace, sym is, sym e)

pub root_same : (symbols : List Item) (s : ℕ) (x : Item) (r q : ℕ) → r ≡ get_or x.head 2 0 → q ≡ get_or (get_or symbols r no_item).head 2 0 → eqb q r ≡ root_is_root symbols s x
unfolding root_is_root
root_same symbols s x r q e f = rw (sym e, f)

-- all of them
module _ (numbers : List ℕ) where
  pub later_none : false ≡ runtime_normal (graph_in numbers) → Err (OutOfRange 1) ≡ walk_of (later_rules (graph_in numbers))
  unfolding later_rules walk_of
  later_none e = rw (sym e, later_rules, walk_of)

  abbrev owned : Parsed ℕ
  owned = each (owns_namespace (symbols_in numbers)) 7 0 (modules_in numbers)

  pub later_stop : {why : Refusal} → true ≡ runtime_normal (graph_in numbers) → walk_of (each (owns_namespace (symbols_in numbers)) 7 0 (modules_in numbers)) ≡ Err why
      → Err why ≡ walk_of (later_rules (graph_in numbers))
  unfolding later_rules graph_in and_then walk_of
  later_stop {why} e w = let f = fault_is owned why w in rw (sym e, f, later_rules, and_then, walk_of)

  pub later_go : {q : ℕ} → true ≡ runtime_normal (graph_in numbers) → walk_of (each (owns_namespace (symbols_in numbers)) 7 0 (modules_in numbers)) ≡ Ok q
      → walk_of (each (root_is_root (symbols_in numbers)) 2 0 (symbols_in numbers)) ≡ walk_of (later_rules (graph_in numbers))
  unfolding later_rules graph_in and_then
  later_go {q} e w = let f = at_got owned q w in rw (sym e, f.1, later_rules, and_then)
