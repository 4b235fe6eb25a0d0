-- What is known of the graph of accepted numbers: its runtime module, namespaces, roots and helper symbols.
use Prim.Native.Nat.{ℕ, zero, suc, ◌+◌, ◌*◌, ◌<◌}
use mathlib.Core.Path.{◌≡◌, refl, ap, ◌∙◌, sym}
use mathlib.Core.Bool.{Bool, true, false}
use mathlib.Core.List.{List, [], ◌∷◌}
use native.Mathlib.Nat.{add-zero, one-mul}
use native.Mathlib.Omega.{arith}
use lib.Dec.{ltb}
use lib.ListN.{length, get_or}
use Rattle.graph_entries.specs.rows_crate.Walk.{Parsed, got, fault, and_then, below, plain_row, firsts, cells, Item, no_item}
use Rattle.graph_entries.proofs.rows_crate.Cells.{Cells, no_fault, then_got}
use Rattle.graph_entries.proofs.rows_crate.Items.{many-length, rows_each, plain_plain}
use Rattle.graph_entries.specs.graph_format_crate.Format.{header_rules}
use Rattle.graph_entries.specs.graph_tables_crate.Tables.{items_of, header_in, modules_in, symbols_in}
use Rattle.graph_entries.proofs.Parts.{then_at}
use Rattle.graph.specs.Check.{Graph, helpers_at, graph_at, walked, each, runtime_normal, owns_namespace, root_is_root, later_rules, check_of, answer_of, graph_in}
use Rattle.graph.proofs.Checking.{walked_is, graph_is, once_refused}
use Rattle.std.specs.Prelude.{Ok}
use Rattle.graph_entries.specs.refusal_crate.declared.Refusal.TheVariants.{WrongLength}

-- where all items were walked, each of them passed
each_first : (test : ℕ → Item → Bool) (offset i : ℕ) (x : Item) (xs : List Item) {n p : ℕ} → each test offset i (x ∷ xs) ≡ got n p
    → (test i x ≡ true) × (each test offset (i + 1) xs ≡ got n p)
unfolding each
each_first test offset i x xs {n} {p} e = go (test i x) refl
  where
    go : (b : Bool) → test i x ≡ b → (test i x ≡ true) × (each test offset (i + 1) xs ≡ got n p)
    go true u = (u, rw (u, each) at e)
    go false u = absurd (no_fault (rw (u, each) at e))

pub each_all : (test : ℕ → Item → Bool) (offset i : ℕ) (xs : List Item) {n p : ℕ} → each test offset i xs ≡ got n p
    → (k : ℕ) → k < length xs → test (i + k) (get_or xs k no_item) ≡ true
each_all test offset i [] e k h = absurd (omega arith)
each_all test offset i (x ∷ xs) e zero h = ap (λ j. test j x) (add-zero i) ∙ (each_first test offset i x xs e).0
each_all test offset i (x ∷ xs) e (suc k) h =
    let z : i + suc k ≡ i + 1 + k = omega arith in
    ap (λ j. test j (get_or xs k no_item)) z ∙ each_all test offset (i + 1) xs (each_first test offset i x xs e).1 k (omega arith)

answered : (x : Parsed Graph) → answer_of x ≡ Ok tt → (g : Graph) × (q : ℕ) × (x ≡ got g q)
unfolding answer_of
answered (got g q) e = (g, q, refl)
answered (fault why) e = absurd ((once_refused ⊥).known e)

-- the part behind one that is known
then_rest : {A B : Type 0} (x : Parsed A) (k : A → ℕ → Parsed B) {a : A} {p : ℕ} {b : B} {q : ℕ} → x ≡ got a p → and_then x k ≡ got b q → k a p ≡ got b q
then_rest x k e f = sym (then_at k e) ∙ f

module _ (numbers : List ℕ) (ok : answer_of (check_of numbers) ≡ Ok tt) where
  whole : (g : Graph) × (q : ℕ) × (check_of numbers ≡ got g q)
  whole = answered (check_of numbers) ok

  parts_got : (q : ℕ) × (walked numbers ≡ got (graph_in numbers) q) × (graph_at (header_in numbers) numbers 7 ≡ got (graph_in numbers) q)
  unfolding check_of walked
  parts_got =
      let a = then_got (walked numbers) _ whole.2 in
      let b = then_got (cells header_rules numbers 0) _ a.2 in
      let w = walked_is numbers b.2 in
      let s = ap (λ g. got g a.1) (graph_is numbers (sym w ∙ a.2)) in
      (a.1, a.2 ∙ s, sym w ∙ a.2 ∙ s)

  pub accepted_later : (n : ℕ) × (p : ℕ) × (later_rules (graph_in numbers) ≡ got n p)
  unfolding check_of
  accepted_later =
      let c = then_got (later_rules (graph_in numbers)) _ (then_rest (walked numbers) _ parts_got.1 whole.2) in
      (c.0, c.1, c.2)

  ended : (b : Bool) → ltb parts_got.0 (length numbers) ≡ b → check_of numbers ≡ got (graph_in numbers) parts_got.0
  unfolding check_of
  ended true u =
      let f : check_of numbers ≡ fault (WrongLength parts_got.0) = then_at _ parts_got.1 ∙ then_at _ accepted_later.2 ∙ rw u in
      absurd (no_fault (sym f ∙ whole.2))
  ended false u = then_at _ parts_got.1 ∙ then_at _ accepted_later.2 ∙ rw u

  pub accepted_is : (q : ℕ) × (check_of numbers ≡ got (graph_in numbers) q)
  accepted_is = (parts_got.0, ended (ltb parts_got.0 (length numbers)) refl)

  normal : (b : Bool) → runtime_normal (graph_in numbers) ≡ b → runtime_normal (graph_in numbers) ≡ true
  unfolding later_rules
  normal true u = u
  normal false u = absurd (no_fault (rw (u, later_rules) at accepted_later).2)

  pub runtime_is_normal : runtime_normal (graph_in numbers) ≡ true
  runtime_is_normal = normal (runtime_normal (graph_in numbers)) refl

  walks : (n : ℕ) × (p : ℕ) × (each (owns_namespace (symbols_in numbers)) 7 0 (modules_in numbers) ≡ got n p)
      × (each (root_is_root (symbols_in numbers)) 2 0 (symbols_in numbers) ≡ got accepted_later.0 accepted_later.1)
  unfolding later_rules graph_in
  walks = then_got (each (owns_namespace (symbols_in numbers)) 7 0 (modules_in numbers)) _ (rw (runtime_is_normal, later_rules) at accepted_later).2

  pub namespace_owned : (m : ℕ) → m < length (modules_in numbers) → owns_namespace (symbols_in numbers) m (get_or (modules_in numbers) m no_item) ≡ true
  namespace_owned m l =
      let z : m ≡ 0 + m = omega arith in
      ap (λ j. owns_namespace (symbols_in numbers) j (get_or (modules_in numbers) m no_item)) z ∙ each_all (owns_namespace (symbols_in numbers)) 7 0 (modules_in numbers) walks.2 m l

  pub root_rooted : (s : ℕ) → s < length (symbols_in numbers) → root_is_root (symbols_in numbers) s (get_or (symbols_in numbers) s no_item) ≡ true
  root_rooted s l =
      let z : s ≡ 0 + s = omega arith in
      ap (λ j. root_is_root (symbols_in numbers) j (get_or (symbols_in numbers) s no_item)) z ∙ each_all (root_is_root (symbols_in numbers)) 2 0 (symbols_in numbers) walks.3 s l

  -- the helper symbols
  helpers_got : (p : ℕ) × (helpers_at (header_in numbers) numbers 7 ≡ got (items_of (helpers_at (header_in numbers) numbers 7)) p)
  unfolding graph_at items_of
  helpers_got =
      let a = then_got (helpers_at (header_in numbers) numbers 7) _ parts_got.2 in
      (a.1, a.2 ∙ ap (λ hs. got hs a.1) (sym (ap items_of a.2)))

  pub helper_count : length (items_of (helpers_at (header_in numbers) numbers 7)) ≡ (header_in numbers).helpers
  unfolding helpers_at
  helper_count = many-length (plain_row ((header_in numbers).symbols ∷ []) numbers) firsts (header_in numbers).helpers [] 7 helpers_got.1

  module _ (k : ℕ) (l : k < length (items_of (helpers_at (header_in numbers) numbers 7))) where
    helper-read : Cells (below (header_in numbers).symbols ∷ []) numbers (7 + 1 * k) (get_or (items_of (helpers_at (header_in numbers) numbers 7)) k []) (7 + 1 * k + 1)
    unfolding helpers_at
    helper-read = rows_each ((header_in numbers).symbols ∷ []) numbers (plain_row ((header_in numbers).symbols ∷ []) numbers) (plain_plain ((header_in numbers).symbols ∷ []) numbers) (header_in numbers).helpers [] 7 helpers_got.1 k (omega (arith, l, helper_count))

    pub helper-below : get_or (get_or (items_of (helpers_at (header_in numbers) numbers 7)) k []) 0 0 < (header_in numbers).symbols
    helper-below = (helper-read.good 0 (omega arith)).1

    pub helper-same : (get_or (get_or (items_of (helpers_at (header_in numbers) numbers 7)) k []) 0 0 ≡ get_or numbers (7 + k) 0) × (7 + k < length numbers)
    helper-same =
        let z : 7 + 1 * k + 0 ≡ 7 + k = omega (arith, one-mul k) in
        (helper-read.same 0 (omega arith) ∙ ap (λ j. get_or numbers j 0) z, omega (arith, z, helper-read.inside 0 (omega arith)))
