-- The Rust's helper words and their union are the project's, where context and facts agree on modules and statements.
use Rattle.std.proofs.Common.{◌≡◌, ℕ, zero, suc, ◌+◌, ◌%◌, ◌^◌, ◌<◌, Bool, true, false, not, ◌&&◌, ◌||◌, eqb, List, [], ◌∷◌, length, get_or, sym, refl, ap, ◌∙◌, arith, eq-eqb}
use mathlib.Core.Bool.{and-false, or-true, false≢true}
use native.Mathlib.Nat.{zero-div}
use Rattle.determine_side_effects.specs.rows_crate.Walk.{no_item}
use Rattle.determine_side_effects.specs.graph_format_crate.Format.{module_rules, statement_limit}
use Rattle.determine_side_effects.specs.graph_tables_crate.Tables.{modules_in}
use Rattle.determine_side_effects.proofs.graph_tables_crate.Facts.{its-read, number_same}
use Rattle.determine_side_effects.specs.graph_crate.Check.{Graph, graph_in, check_of, answer_of}
use Rattle.determine_side_effects.specs.graph_crate.Loaded.{Loaded}
use Rattle.determine_side_effects.specs.graph_access_crate.Names.{kind, module_helpers, helper_number, helper_statement}
use Rattle.determine_side_effects.specs.graph_access_crate.Words.{flag, some, tabulate, module_of, statement_list, normal}
use Rattle.determine_side_effects.proofs.graph_access_crate.Indexes.{helper_row_below}
use Rattle.determine_side_effects.proofs.graph_access_crate.StatementNumbers.{all_long}
use Rattle.determine_side_effects.specs.facts_crate.declared.Fact.{Fact}
use Rattle.determine_side_effects.specs.facts_crate.Facts.{module_fact, statement_fact}
use Rattle.determine_side_effects.proofs.Lists.{some_same, length-tabulate, get_d_tabulate}
use Rattle.keep_record.specs.Lines.{elem}
use Rattle.answer_rows.specs.Shown.{bit_value}
use Rattle.passes.specs.Helpers.{has_all, word_of, helper_word, helper_union, needs_helper as needs}
use Rattle.passes.proofs.Helping.{needs_none}
use Rattle.closed_choices.proofs.Accepting.{accepted_tabled}
use Rattle.rust_values.specs.Values.{has_pair, is_empty, filter}
use Rattle.rust_engine.specs.Context.{Context}
use Rattle.rust_run.specs.Passes.{helper_bits, collect_depended_runtime_helpers}
use Rattle.rust_run.specs.IncludeStatements.{statements_needing, needs_helper, depended_runtime_helper}
use Rattle.std.specs.Prelude.{Ok}

-- Words and lists ------------------------------------------------------------------------------------------------------------------------

bits_word : (p q : ℕ → Bool) (n : ℕ) → ((h : ℕ) → p h ≡ q h) → helper_bits p n ≡ word_of q n
unfolding helper_bits word_of bit_value
bits_word p q zero e = refl
bits_word p q (suc n) e = ap (λ w. w + bit_value (p n) n) (bits_word p q n e) ∙ ap (λ b. word_of q n + bit_value b n) (e n)

no_bit : (h : ℕ) → flag h 0 ≡ false
unfolding flag
no_bit h = ap (λ x. eqb (x % 2) 1) (zero-div (2 ^ h))

module _ (test : List ℕ → Bool) (row : List ℕ) (rows : List (List ℕ)) where
  some_first : test row ≡ true → some test (row ∷ rows) ≡ true
  unfolding some
  some_first e = rw (e, some)

  some_later : test row ≡ false → some test (row ∷ rows) ≡ some test rows
  unfolding some
  some_later e = rw (e, some)

  filter_here : test row ≡ true → filter test (row ∷ rows) ≡ row ∷ filter test rows
  unfolding filter
  filter_here e = rw (e, filter)

  filter_not : test row ≡ false → filter test (row ∷ rows) ≡ filter test rows
  unfolding filter
  filter_not e = rw (e, filter)

-- one of the rows that are of helper h is kept, or all are and there is one: by the rows, one by one
of_rows : (n k : List ℕ → Bool) (all : Bool) (rows : List (List ℕ)) → (not (is_empty (filter n rows)) && (some k (filter n rows) || all)) ≡ some (λ row. n row && (k row || all)) rows
unfolding some filter is_empty
of_rows n k all [] = refl
of_rows n k all (row ∷ rows) = go (n row) refl (k row) refl all refl (of_rows n k all rows)
  where
    whole : List (List ℕ) → Bool
    whole rs = not (is_empty rs) && (some k rs || all)

    each : List ℕ → Bool
    each r = n r && (k r || all)

    one : (rs : List (List ℕ)) → all ≡ false → whole rs ≡ some k rs
    one [] e = refl
    one (r ∷ rs) e = ap (λ b. some k (r ∷ rs) || b) e ∙ or_none (some k (r ∷ rs))
      where
        or_none : (b : Bool) → (b || false) ≡ b
        or_none true = refl
        or_none false = refl

    is-each : (a b : Bool) → n row ≡ a → k row ≡ b → each row ≡ (a && (b || all))
    is-each a b u v = rw (u, v) refl

    go : (a : Bool) → n row ≡ a → (b : Bool) → k row ≡ b → (c : Bool) → all ≡ c → whole (filter n rows) ≡ some each rows → whole (filter n (row ∷ rows)) ≡ some each (row ∷ rows)
    go true u true v c w r =
        ap whole (filter_here n row rows u) ∙ ap (λ b. b || all) (some_first k row (filter n rows) v) ∙ sym (some_first each row rows (is-each true true u v))
    go true u false v true w r =
        ap whole (filter_here n row rows u) ∙ ap (λ b. some k (row ∷ filter n rows) || b) w ∙ or-true (some k (row ∷ filter n rows))
        ∙ sym (some_first each row rows (is-each true false u v ∙ w))
    go true u false v false w r =
        ap whole (filter_here n row rows u) ∙ one (row ∷ filter n rows) w ∙ some_later k row (filter n rows) v ∙ sym (one (filter n rows) w) ∙ r
        ∙ sym (some_later each row rows (is-each true false u v ∙ w))
    go false u b v c w r = ap whole (filter_not n row rows u) ∙ r ∙ sym (some_later each row rows (is-each false b u v))

-- External modules have no helpers -------------------------------------------------------------------------------------------------------

-- only normal modules have statements
limit_kind : (kind left n : ℕ) → 0 < n → n < statement_limit kind left → 0 < kind
unfolding statement_limit
limit_kind zero left n l u = absurd (omega (arith, u))
limit_kind (suc kind) left n l u = omega arith

no_row : {A : Type 0} (xs : List A) → (0 < length xs → ⊥) → length xs ≡ 0
no_row [] h = refl
no_row (x ∷ xs) h = absurd (h (omega arith))

module _ {numbers tables : List ℕ} (t : Loaded numbers tables) where
  normal_by_statement : (m i : ℕ) → m < (graph_in numbers).header.modules → i < length (statement_list (graph_in numbers) m) → normal (graph_in numbers) m ≡ true
  unfolding module_rules normal kind module_of graph_in
  normal_by_statement m i h l =
      let f = its-read numbers _ t.of_modules m h in
      let x = get_or (modules_in numbers) m no_item in
      let z : x.place ≡ x.place + 0 = omega arith in
      let s : get_or x.head 0 0 ≡ get_or numbers x.place 0 = number_same numbers _ t.of_modules m h 0 (omega arith) ∙ ap (λ k. get_or numbers k 0) (sym z) in
      let n : 0 < get_or x.head 9 0 = omega (arith, l, all_long t m h) in
      let k = limit_kind (get_or numbers x.place 0) f.left.statements (get_or x.head 9 0) n (f.read.head.good 9 (omega arith)).1 in
      eq-eqb (get_or x.head 0 0) 1 (omega (arith, s, k, (f.read.head.good 0 (omega arith)).1))

  row_inside : (m k : ℕ) → m < (graph_in numbers).header.modules → k < length (module_helpers (module_of (graph_in numbers) m))
      → helper_statement (get_or (module_helpers (module_of (graph_in numbers) m)) k []) < length (statement_list (graph_in numbers) m)
  unfolding graph_in
  row_inside m k l u = (helper_row_below t m k l u).1

  external_none : (m : ℕ) → m < (graph_in numbers).header.modules → normal (graph_in numbers) m ≡ false → length (module_helpers (module_of (graph_in numbers) m)) ≡ 0
  external_none m l n = no_row (module_helpers (module_of (graph_in numbers) m)) (λ u. false≢true (sym n ∙ normal_by_statement m _ l (row_inside m 0 l u)))

-- Helpers -------------------------------------------------------------------------------------------------------------------------------

module _ (numbers : List ℕ) (ok : answer_of (check_of numbers) ≡ Ok tt) (c : Context) (kept : Fact → Bool)
    (mods : (m : ℕ) → m < (graph_in numbers).header.modules → elem m c.modules ≡ kept (module_fact m))
    (stmts : (m i : ℕ) → m < (graph_in numbers).header.modules → i < length (statement_list (graph_in numbers) m) → has_pair m i c.statements ≡ kept (statement_fact m i)) where
  abbrev g : Graph
  g = graph_in numbers

  abbrev rows : ℕ → List (List ℕ)
  rows m = module_helpers (module_of g m)

  needs_same : (m : ℕ) → m < g.header.modules → (h : ℕ) → needs_helper g c m h ≡ needs g kept m h
  unfolding needs_helper statements_needing needs has_all
  needs_same m l h =
      of_rows (λ row. eqb (helper_number row) h) (λ row. has_pair m (helper_statement row) c.statements) (not (eqb m g.header.runtime) && not (elem m c.modules)) (rows m)
      ∙ ap (λ b. some (λ row. eqb (helper_number row) h && (has_pair m (helper_statement row) c.statements || (not (eqb m g.header.runtime) && not b))) (rows m)) (mods m l)
      ∙ some_same _ _ [] (rows m)
      (λ k u. ap (λ b. eqb (helper_number (get_or (rows m) k [])) h && (b || has_all g kept m)) (stmts m (helper_statement (get_or (rows m) k [])) l (row_inside (accepted_tabled numbers ok).holds m k l u)))

  pub helpers_same : (m : ℕ) → m < g.header.modules → depended_runtime_helper g c m ≡ helper_word g kept m
  unfolding depended_runtime_helper helper_word
  helpers_same m l = go (normal g m) refl
    where
      go : (b : Bool) → normal g m ≡ b → depended_runtime_helper g c m ≡ helper_word g kept m
      go true n = rw (n, depended_runtime_helper) (bits_word (needs_helper g c m) (needs g kept m) g.header.helpers (needs_same m l))
      go false n = rw (n, depended_runtime_helper) (needs_none g kept m _ refl (external_none (accepted_tabled numbers ok).holds m l n))

  united : (h m : ℕ) → m < g.header.modules → (normal g m && (elem m c.modules && flag h (depended_runtime_helper g c m))) ≡ (kept (module_fact m) && flag h (helper_word g kept m))
  united h m l = ap (λ b. normal g m && b) (rw (mods m l, helpers_same m l) refl) ∙ go (normal g m) refl
    where
      go : (b : Bool) → normal g m ≡ b → (normal g m && (kept (module_fact m) && flag h (helper_word g kept m))) ≡ (kept (module_fact m) && flag h (helper_word g kept m))
      go true n = rw n refl
      go false n =
          let z : flag h (helper_word g kept m) ≡ false = ap (flag h) (sym (needs_none g kept m _ refl (external_none (accepted_tabled numbers ok).holds m l n))) ∙ no_bit h in
          rw (n, z) (sym (and-false (kept (module_fact m))))

  pub union_same : collect_depended_runtime_helpers g c (depended_runtime_helper g c) ≡ helper_union g kept
  unfolding collect_depended_runtime_helpers helper_union
  union_same =
      bits_word _ _ g.header.helpers
      (λ h.
      some_same _ _ 0 (tabulate (λ m. m) 0 g.header.modules)
      (λ k u.
      let n = length-tabulate (λ (m : ℕ). m) 0 g.header.modules in
      let w : k < g.header.modules = omega (arith, u, n) in
      let e : get_or (tabulate (λ (m : ℕ). m) 0 g.header.modules) k 0 < g.header.modules = omega (arith, w, get_d_tabulate (λ (m : ℕ). m) 0 g.header.modules k 0 w) in
      united h _ e))
