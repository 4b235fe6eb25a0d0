-- The test of a line's form is what Sentence.antt says of the form.
use Prim.Native.Nat.{ℕ, zero, suc, ◌+◌, ◌<◌, ◌≤◌}
use mathlib.Core.Path.{◌≡◌, refl, ap, ◌∙◌, sym}
use mathlib.Core.Logic.{◌⊎◌, inl, inr}
use mathlib.Core.Bool.{Bool, true, false, ◌&&◌, false≢true}
use mathlib.Core.List.{List}
use native.Mathlib.Omega.{arith}
use borrow.Author.Tests.{eq-eqb, ne_eqb, eqb-true, eqb-false}
use lib.Dec.{eqb, ltb}
use lib.ListN.{length, get_or}
use Rattle.determine_side_effects.specs.rows_crate.Walk.{no_item}
use Rattle.determine_side_effects.specs.graph_format_crate.Format.{module_rules, statement_limit}
use Rattle.determine_side_effects.specs.graph_tables_crate.Tables.{modules_in}
use Rattle.determine_side_effects.proofs.graph_tables_crate.Facts.{its-read, number_same}
use Rattle.determine_side_effects.specs.graph_crate.Check.{Graph, graph_in}
use Rattle.determine_side_effects.specs.graph_crate.Loaded.{Loaded}
use Rattle.determine_side_effects.specs.graph_access_crate.Names.{kind}
use Rattle.determine_side_effects.specs.graph_access_crate.Words.{module_of, statement_list, normal}
use Rattle.determine_side_effects.proofs.graph_access_crate.StatementNumbers.{all_long}
use Rattle.determine_side_effects.specs.facts_crate.Facts.{fact_of, second_part, Good}
use Rattle.starts.specs.Starts.{unused_fault, is_normal_index, start_fault}
use Rattle.starts.proofs.Starting.{kind_none}
use Rattle.record_form.specs.Form.{parts_fit, is_earlier, names_fit, in_form}
use Rattle.rule_relation.proofs.Tests.{Says, says_as, says_it, says_equal, says_less, says_both, says_by}
use Rattle.judged_records.specs.Sentence.{kind_at, first_at, second_at, rule_at, because_at, and_at, Names, of_start, of_K1, of_rule, LineInForm}
use Rattle.judged_records.proofs.Tests.{says_at_most, says_faultless}

-- only normal modules have statements
limit_kind : (kind left n : ℕ) → 0 < n → n < statement_limit kind left → 0 < kind
unfolding statement_limit
limit_kind zero left n l u = absurd (omega (arith, u))
limit_kind (suc kind) left n l u = omega arith

module _ {numbers tables : List ℕ} (t : Loaded numbers tables) where
  pub normal_by_statement : (m i : ℕ) → m < (graph_in numbers).header.modules → i < length (statement_list (graph_in numbers) m) → normal (graph_in numbers) m ≡ true
  unfolding module_rules normal kind module_of graph_in
  normal_by_statement m i h l =
      let f = its-read numbers _ t.of_modules m h in
      let x = get_or (modules_in numbers) m no_item in
      let z : x.place ≡ x.place + 0 = omega arith in
      let s : get_or x.head 0 0 ≡ get_or numbers x.place 0 = number_same numbers _ t.of_modules m h 0 (omega arith) ∙ ap (λ k. get_or numbers k 0) (sym z) in
      let n : 0 < get_or x.head 9 0 = omega (arith, l, all_long t m h) in
      let k = limit_kind (get_or numbers x.place 0) f.left.statements (get_or x.head 9 0) n (f.read.head.good 9 (omega arith)).1 in
      eq-eqb (get_or x.head 0 0) 1 (omega (arith, s, k, (f.read.head.good 0 (omega arith)).1))

-- the names
says_earlier : (k n : ℕ) → Says (is_earlier k n) ((0 < n) × (n ≤ k))
unfolding is_earlier
says_earlier k n = says_both (says_less 0 n) (says_at_most n k)

abbrev NamesFit : ℕ → ℕ → ℕ → ℕ → Type 0
NamesFit k r a b = ((r ≡ 0) × ((a ≡ 0) × (b ≡ 0))) ⊎ ((r ≡ 0 → ⊥) × (((0 < a) × (a ≤ k)) × (((r ≡ 1) × ((0 < b) × (b ≤ k))) ⊎ ((r ≡ 1 → ⊥) × (b ≡ 0)))))

says_names_fit : (k r a b : ℕ) → Says (names_fit k r a b) (NamesFit k r a b)
unfolding names_fit
says_names_fit k r a b =
    says_by (says_equal r 0) (says_both (says_equal a 0) (says_equal b 0))
    (says_both (says_earlier k a) (says_by (says_equal r 1) (says_earlier k b) (says_equal b 0)))

fit_names : (k r a b : ℕ) → r < 15 → NamesFit k r a b → Names k r a b
fit_names k r a b l (inl x) = rw (x.0, x.1.0, x.1.1) of_start
fit_names k r a b l (inr x) = go x.1.1
  where
    go : ((r ≡ 1) × ((0 < b) × (b ≤ k))) ⊎ ((r ≡ 1 → ⊥) × (b ≡ 0)) → Names k r a b
    go (inl y) = rw y.0 (of_K1 a b (omega (arith, x.1.0)) (omega (arith, x.1.0)) (omega (arith, y.1)) (omega (arith, y.1)))
    go (inr y) = rw y.1 (of_rule r a (omega (arith, x.0, y.0)) (omega (arith, l)) (omega (arith, x.1.0)) (omega (arith, x.1.0)))

names_fit_lem : {k r a b : ℕ} → Names k r a b → (r < 15) × NamesFit k r a b
names_fit_lem of_start = (omega arith, inl (refl, (refl, refl)))
names_fit_lem (of_K1 a b p q u w) = (omega arith, inr (λ e. omega (arith, e), ((omega arith, q), inl (refl, (omega arith, w)))))
names_fit_lem (of_rule r a p q u w) = (omega arith, inr (λ e. omega (arith, p, e), ((omega arith, w), inr (λ e. omega (arith, p, e), refl))))

says_names : (k r a b : ℕ) → Says (ltb r 15 && names_fit k r a b) (Names k r a b)
says_names k r a b = says_as (says_both (says_less r 15) (says_names_fit k r a b)) (λ x. fit_names k r a b x.0 x.1) names_fit_lem

-- the parts, kind by kind
says_unused : (b : ℕ) → Says (eqb (unused_fault b) 0) (b ≡ 0)
unfolding unused_fault
says_unused b = says_as (says_faultless 0 3 (says_equal b 0) (says_it (eqb 0 0)) (λ z. omega (arith, z))) (λ x. x.0) (λ e. (e, refl))

says_normal_index : (g : Graph) (m : ℕ) → Says (is_normal_index g m) ((m < g.header.modules) × (normal g m ≡ true))
unfolding is_normal_index
says_normal_index g m = says_both (says_less m g.header.modules) (says_it (normal g m))

-- a good fact that its numbers say
abbrev Whole : Graph → ℕ → ℕ → ℕ → Type 0
Whole g kind a b = Good g (fact_of kind a b) × (second_part (fact_of kind a b) ≡ b)

module _ {numbers tables : List ℕ} (t : Loaded numbers tables) (a b : ℕ) where
  abbrev g : Graph
  g = graph_in numbers

  parts_module : Says (parts_fit g 1 a b) (Whole g 1 a b)
  unfolding parts_fit start_fault fact_of
  parts_module =
      says_as (says_faultless (unused_fault b) 2 (says_normal_index g a) (says_unused b) (λ z. omega (arith, z)))
      (λ x. ((x.0.0, x.0.1), sym x.1)) (λ x. ((x.0.0, x.0.1), sym x.1))

  parts_statement : Says (parts_fit g 2 a b) (Whole g 2 a b)
  unfolding parts_fit start_fault fact_of
  parts_statement =
      says_as (says_faultless (elim (ltb b (length (statement_list g a))) [ true ↦ 0 | false ↦ 3 ]) 2 (says_normal_index g a) (says_faultless 0 3 (says_less b (length (statement_list g a))) (says_it (eqb 0 0)) (λ z. omega (arith, z))) (λ z. omega (arith, z)))
      (λ x. ((x.0.0, x.1.0), refl)) (λ x. ((x.0.0, normal_by_statement t a b x.0.0 x.0.1), (x.0.1, refl)))

  abbrev Used : Type 0
  Used = ((a < g.header.symbols) × (0 < b) × (b < 32)) × (b ≡ b)

  used : Says (eqb (elim (ltb a g.header.symbols) [ true ↦ elim (ltb 0 b && ltb b 32) [ true ↦ 0 | false ↦ 3 ] | false ↦ 2 ]) 0) Used
  used =
      says_as
      (says_faultless (elim (ltb 0 b && ltb b 32) [ true ↦ 0 | false ↦ 3 ]) 2 (says_less a g.header.symbols) (says_faultless 0 3 (says_both (says_less 0 b) (says_less b 32)) (says_it (eqb 0 0)) (λ z. omega (arith, z))) (λ z. omega (arith, z)))
      (λ x. ((x.0, x.1.0.0, x.1.0.1), refl)) (λ x. (x.0.0, ((x.0.1, x.0.2), refl)))

  parts_use : Says (parts_fit g 3 a b) (Whole g 3 a b)
  unfolding parts_fit start_fault fact_of
  parts_use = used

  parts_checked : Says (parts_fit g 4 a b) (Whole g 4 a b)
  unfolding parts_fit start_fault fact_of
  parts_checked = used

  parts_forward : Says (parts_fit g 5 a b) (Whole g 5 a b)
  unfolding parts_fit fact_of
  parts_forward = says_as (says_both (says_less a g.header.symbols) (says_equal b 0)) (λ x. (x.0, sym x.1)) (λ x. (x.0, sym x.1))

  parts_bailout : Says (parts_fit g 6 a b) (Whole g 6 a b)
  unfolding parts_fit start_fault fact_of
  parts_bailout = says_as (says_faultless (unused_fault b) 2 (says_less a g.header.modules) (says_unused b) (λ z. omega (arith, z))) (λ x. (x.0, sym x.1)) (λ x. (x.0, sym x.1))

  abbrev Parts : ℕ → Type 0
  Parts kind = (1 ≤ kind) × (kind ≤ 6) × Whole g kind a b

  no_kind : (kind : ℕ) → (kind ≡ 1 → ⊥) → (kind ≡ 2 → ⊥) → (kind ≡ 3 → ⊥) → (kind ≡ 4 → ⊥) → (kind ≡ 5 → ⊥) → (kind ≡ 6 → ⊥) → Says (parts_fit g kind a b) (Parts kind)
  unfolding parts_fit
  no_kind kind p q r s u w =
      let f : start_fault g kind a b ≡ 1 = sym (kind_none g a b kind (ne_eqb kind 1 p) (ne_eqb kind 2 q) (ne_eqb kind 3 r) (ne_eqb kind 4 s) (ne_eqb kind 6 w)) in
      let z : parts_fit g kind a b ≡ false = rw (ne_eqb kind 5 u, f, parts_fit) in
      record { tells = λ e. absurd (false≢true (sym z ∙ e)); holds = λ x. absurd (omega (arith, x.0, x.1)) }

  says_parts : (kind : ℕ) → Says (parts_fit g kind a b) (Parts kind)
  says_parts kind =
      try 1 (λ e. of 1 e (omega arith) (omega arith) parts_module) (λ p.
      try 2 (λ e. of 2 e (omega arith) (omega arith) parts_statement) (λ q.
      try 3 (λ e. of 3 e (omega arith) (omega arith) parts_use) (λ r.
      try 4 (λ e. of 4 e (omega arith) (omega arith) parts_checked) (λ s.
      try 5 (λ e. of 5 e (omega arith) (omega arith) parts_forward) (λ u.
      try 6 (λ e. of 6 e (omega arith) (omega arith) parts_bailout) (no_kind kind p q r s u))))))
    where
      of : (n : ℕ) → kind ≡ n → 1 ≤ n → n ≤ 6 → Says (parts_fit g n a b) (Whole g n a b) → Says (parts_fit g kind a b) (Parts kind)
      of n z p q s = rw z (says_as s (λ x. (p, q, x)) (λ x. x.2))

      try : (n : ℕ) → (kind ≡ n → Says (parts_fit g kind a b) (Parts kind)) → ((kind ≡ n → ⊥) → Says (parts_fit g kind a b) (Parts kind)) → Says (parts_fit g kind a b) (Parts kind)
      try n is other = go (eqb kind n) refl
        where
          go : (c : Bool) → eqb kind n ≡ c → Says (parts_fit g kind a b) (Parts kind)
          go true e = is (eqb-true kind n e)
          go false e = other (eqb-false kind n e)

-- the whole line
pub says_form : {numbers tables : List ℕ} → Loaded numbers tables → (row : List ℕ) (k : ℕ) → Says (in_form (graph_in numbers) row k) (LineInForm (graph_in numbers) row k)
unfolding in_form
says_form t row k =
    says_as (says_both (says_parts t (first_at row k) (second_at row k) (kind_at row k)) (says_names k (rule_at row k) (because_at row k) (and_at row k)))
    (λ x. record { kind_least = x.0.0; kind_most = x.0.1; parts_good = x.0.2.0; unused_zero = x.0.2.1; names_good = x.1 })
    (λ x. ((x.kind_least, x.kind_most, (x.parts_good, x.unused_zero)), x.names_good))
