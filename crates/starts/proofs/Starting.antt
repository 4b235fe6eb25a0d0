-- The check of the starts: the faulty number of a start, the first of all, and what starts without one are.
use Prim.Native.Nat.{ℕ, zero, suc, ◌+◌, ◌*◌, ◌-◌, ◌/◌, ◌%◌, ◌<◌, ◌≤◌}
use mathlib.Core.Path.{◌≡◌, refl, ap, ◌∙◌, sym}
use mathlib.Core.Bool.{Bool, true, false}
use mathlib.Core.List.{List}
use native.Mathlib.Omega.{arith}
use borrow.Author.Tests.{lt-ltb, le-ltb, ltb-true, ltb-false, eq-eqb, ne_eqb, eqb-true, eqb-false}
use lib.Dec.{eqb, ltb}
use lib.ListN.{length, get_or}
use Rattle.determine_side_effects.proofs.rows_crate.Walks.{clash}
use Rattle.determine_side_effects.specs.graph_format_crate.declared.Header.{Header}
use Rattle.determine_side_effects.specs.graph_tables_crate.Tables.{header_in}
use Rattle.determine_side_effects.specs.graph_crate.Check.{Graph, graph_in, OnceRead}
use Rattle.determine_side_effects.specs.graph_access_crate.Words.{statement_list, normal}
use Rattle.determine_side_effects.specs.facts_crate.Facts.{fact_of, module_fact, Good}
use Rattle.determine_side_effects.proofs.Lists.{both, length-tabulate, get_d_tabulate}
use Rattle.starts.specs.Starts.{unused_fault, is_normal_index, start_fault, starts_fault, starts_walk, starts_of, StartsGood}
use Rattle.std.specs.Prelude.{Result, Ok, Err}
use Rattle.determine_side_effects.specs.refusal_crate.declared.Refusal.{Refusal}
use Rattle.determine_side_effects.specs.refusal_crate.declared.Refusal.TheVariants.{OutOfRange, WrongLength}

-- the counts of the header at hand
module _ (numbers : List ℕ) {h : Header} (is : h ≡ header_in numbers) where
  pub modules_are : h.modules ≡ (graph_in numbers).header.modules
  unfolding graph_in
  modules_are = ap (λ x. x.modules) is

  pub symbols_are : h.symbols ≡ (graph_in numbers).header.symbols
  unfolding graph_in
  symbols_are = ap (λ x. x.symbols) is

-- the module of a start
module _ (g : Graph) (m : ℕ) where
  pub kept_out : g.header.modules ≤ m → false ≡ is_normal_index g m
  unfolding is_normal_index
  kept_out h = rw (le-ltb m g.header.modules h)

  pub kept_in : (r : Bool) → m < g.header.modules → r ≡ normal g m → r ≡ is_normal_index g m
  unfolding is_normal_index
  kept_in r h e = rw (lt-ltb m g.header.modules h) e

  pub kept_both : is_normal_index g m ≡ true → (m < g.header.modules) × (normal g m ≡ true)
  unfolding is_normal_index
  kept_both e = let b = both (ltb m g.header.modules) (normal g m) e in (ltb-true m g.header.modules b.0, b.1)

-- the third number of a start without a second part
pub unused_none : (b : ℕ) → b ≡ 0 → 0 ≡ unused_fault b
unfolding unused_fault
unused_none b e = rw (eq-eqb b 0 e, unused_fault)

pub unused_some : (b : ℕ) → (b ≡ 0 → ⊥) → 3 ≡ unused_fault b
unfolding unused_fault
unused_some b e = rw (ne_eqb b 0 e, unused_fault)

unused_small : (b : ℕ) → unused_fault b ≤ 3
unused_small b = go (eqb b 0) refl
  where
    go : (t : Bool) → eqb b 0 ≡ t → unused_fault b ≤ 3
    go true t = omega (arith, unused_none b (eqb-true b 0 t))
    go false t = let n = eqb-false b 0 t in omega (arith, unused_some b n)

-- the starts by their kinds
module _ (g : Graph) (a b : ℕ) where
  pub module_kept : is_normal_index g a ≡ true → unused_fault b ≡ start_fault g 1 a b
  unfolding start_fault
  module_kept e = rw (e, start_fault)

  pub module_not : is_normal_index g a ≡ false → 2 ≡ start_fault g 1 a b
  unfolding start_fault
  module_not e = rw (e, start_fault)

  pub statement_not : is_normal_index g a ≡ false → 2 ≡ start_fault g 2 a b
  unfolding start_fault
  statement_not e = rw (e, start_fault)

  pub statement_in : is_normal_index g a ≡ true → b < length (statement_list g a) → 0 ≡ start_fault g 2 a b
  unfolding start_fault
  statement_in e l = rw (e, lt-ltb b (length (statement_list g a)) l, start_fault)

  pub statement_out : is_normal_index g a ≡ true → length (statement_list g a) ≤ b → 3 ≡ start_fault g 2 a b
  unfolding start_fault
  statement_out e l = rw (e, le-ltb b (length (statement_list g a)) l, start_fault)

  pub use_out : g.header.symbols ≤ a → (2 ≡ start_fault g 3 a b) × (2 ≡ start_fault g 4 a b)
  unfolding start_fault
  use_out h = (rw (le-ltb a g.header.symbols h, start_fault), rw (le-ltb a g.header.symbols h, start_fault))

  module _ (h : a < g.header.symbols) where
    pub use-none : b ≡ 0 → (3 ≡ start_fault g 3 a b) × (3 ≡ start_fault g 4 a b)
    unfolding start_fault
    use-none e =
        let z : ltb 0 b ≡ false = le-ltb 0 b (omega (arith, e)) in
        (rw (lt-ltb a g.header.symbols h, z, start_fault), rw (lt-ltb a g.header.symbols h, z, start_fault))

    pub use-in : (b ≡ 0 → ⊥) → b < 32 → (0 ≡ start_fault g 3 a b) × (0 ≡ start_fault g 4 a b)
    unfolding start_fault
    use-in e l =
        let z : ltb 0 b ≡ true = lt-ltb 0 b (omega (arith, e)) in
        (rw (lt-ltb a g.header.symbols h, z, lt-ltb b 32 l, start_fault), rw (lt-ltb a g.header.symbols h, z, lt-ltb b 32 l, start_fault))

    pub use-many : (b ≡ 0 → ⊥) → 32 ≤ b → (3 ≡ start_fault g 3 a b) × (3 ≡ start_fault g 4 a b)
    unfolding start_fault
    use-many e l =
        let z : ltb 0 b ≡ true = lt-ltb 0 b (omega (arith, e)) in
        (rw (lt-ltb a g.header.symbols h, z, le-ltb b 32 l, start_fault), rw (lt-ltb a g.header.symbols h, z, le-ltb b 32 l, start_fault))

  pub bailout_in : a < g.header.modules → unused_fault b ≡ start_fault g 6 a b
  unfolding start_fault
  bailout_in h = rw (lt-ltb a g.header.modules h, start_fault)

  pub bailout_out : g.header.modules ≤ a → 2 ≡ start_fault g 6 a b
  unfolding start_fault
  bailout_out h = rw (le-ltb a g.header.modules h, start_fault)

  pub kind_none : (k : ℕ) → eqb k 1 ≡ false → eqb k 2 ≡ false → eqb k 3 ≡ false → eqb k 4 ≡ false → eqb k 6 ≡ false → 1 ≡ start_fault g k a b
  unfolding start_fault
  kind_none k p q r s t = rw (p, q, r, s, t, start_fault)

  pub at_kind : (k n r : ℕ) → k ≡ n → r ≡ start_fault g n a b → r ≡ start_fault g k a b
  at_kind k n r e f = f ∙ ap (λ x. start_fault g x a b) (sym e)

  -- a start without a fault is a good fact
  module_good : start_fault g 1 a b ≡ 0 → Good g (fact_of 1 a b)
  unfolding fact_of
  module_good e = go (is_normal_index g a) refl
    where
      go : (t : Bool) → is_normal_index g a ≡ t → (a < g.header.modules) × (normal g a ≡ true)
      go true t = kept_both g a t
      go false t = absurd (omega (arith, module_not t ∙ e))

  statement_good : start_fault g 2 a b ≡ 0 → Good g (fact_of 2 a b)
  unfolding fact_of
  statement_good e = go (is_normal_index g a) refl
    where
      more : is_normal_index g a ≡ true → (t : Bool) → ltb b (length (statement_list g a)) ≡ t → (a < g.header.modules) × (b < length (statement_list g a))
      more k true t = ((kept_both g a k).0, ltb-true b (length (statement_list g a)) t)
      more k false t = absurd (omega (arith, statement_out k (ltb-false b (length (statement_list g a)) t) ∙ e))

      go : (t : Bool) → is_normal_index g a ≡ t → (a < g.header.modules) × (b < length (statement_list g a))
      go true t = more t (ltb b (length (statement_list g a))) refl
      go false t = absurd (omega (arith, statement_not t ∙ e))

  used_good : (start_fault g 3 a b ≡ 0) → (a < g.header.symbols) × (0 < b) × (b < 32)
  used_good e = go (ltb a g.header.symbols) refl
    where
      more : a < g.header.symbols → (z : Bool) → eqb b 0 ≡ z → (t : Bool) → ltb b 32 ≡ t → (a < g.header.symbols) × (0 < b) × (b < 32)
      more l true z t s = absurd (omega (arith, (use-none l (eqb-true b 0 z)).0 ∙ e))
      more l false z true s = let n = eqb-false b 0 z in (l, omega (arith, n), ltb-true b 32 s)
      more l false z false s = absurd (omega (arith, (use-many l (eqb-false b 0 z) (ltb-false b 32 s)).0 ∙ e))

      go : (t : Bool) → ltb a g.header.symbols ≡ t → (a < g.header.symbols) × (0 < b) × (b < 32)
      go true t = more (ltb-true a g.header.symbols t) (eqb b 0) refl (ltb b 32) refl
      go false t = absurd (omega (arith, (use_out (ltb-false a g.header.symbols t)).0 ∙ e))

  use_good : start_fault g 3 a b ≡ 0 → Good g (fact_of 3 a b)
  unfolding fact_of
  use_good e = used_good e

  checked_good : start_fault g 4 a b ≡ 0 → Good g (fact_of 4 a b)
  unfolding fact_of start_fault
  checked_good e = used_good e

  bailout_good : start_fault g 6 a b ≡ 0 → Good g (fact_of 6 a b)
  unfolding fact_of
  bailout_good e = go (ltb a g.header.modules) refl
    where
      go : (t : Bool) → ltb a g.header.modules ≡ t → a < g.header.modules
      go true t = ltb-true a g.header.modules t
      go false t = absurd (omega (arith, bailout_out (ltb-false a g.header.modules t) ∙ e))

  pub start_good : (k : ℕ) → start_fault g k a b ≡ 0 → Good g (fact_of k a b)
  start_good k e = one (eqb k 1) refl
    where
      of : (n : ℕ) → eqb k n ≡ true → (start_fault g n a b ≡ 0 → Good g (fact_of n a b)) → Good g (fact_of k a b)
      of n t good = let z : k ≡ n = eqb-true k n t in rw z (good (rw z at e))

      six : eqb k 1 ≡ false → eqb k 2 ≡ false → eqb k 3 ≡ false → eqb k 4 ≡ false → (t : Bool) → eqb k 6 ≡ t → Good g (fact_of k a b)
      six p q r s true t = of 6 t bailout_good
      six p q r s false t = absurd (omega (arith, kind_none k p q r s t ∙ e))

      four : eqb k 1 ≡ false → eqb k 2 ≡ false → eqb k 3 ≡ false → (t : Bool) → eqb k 4 ≡ t → Good g (fact_of k a b)
      four p q r true t = of 4 t checked_good
      four p q r false t = six p q r t (eqb k 6) refl

      three : eqb k 1 ≡ false → eqb k 2 ≡ false → (t : Bool) → eqb k 3 ≡ t → Good g (fact_of k a b)
      three p q true t = of 3 t use_good
      three p q false t = four p q t (eqb k 4) refl

      two : eqb k 1 ≡ false → (t : Bool) → eqb k 2 ≡ t → Good g (fact_of k a b)
      two p true t = of 2 t statement_good
      two p false t = three p t (eqb k 3) refl

      one : (t : Bool) → eqb k 1 ≡ t → Good g (fact_of k a b)
      one true t = of 1 t module_good
      one false t = two t (eqb k 2) refl

  -- a triple has three numbers
  module_small : start_fault g 1 a b ≤ 3
  module_small = go (is_normal_index g a) refl
    where
      go : (t : Bool) → is_normal_index g a ≡ t → start_fault g 1 a b ≤ 3
      go true t = omega (arith, module_kept t, unused_small b)
      go false t = omega (arith, module_not t)

  statement_small : start_fault g 2 a b ≤ 3
  statement_small = go (is_normal_index g a) refl
    where
      more : is_normal_index g a ≡ true → (t : Bool) → ltb b (length (statement_list g a)) ≡ t → start_fault g 2 a b ≤ 3
      more k true t = omega (arith, statement_in k (ltb-true b (length (statement_list g a)) t))
      more k false t = omega (arith, statement_out k (ltb-false b (length (statement_list g a)) t))

      go : (t : Bool) → is_normal_index g a ≡ t → start_fault g 2 a b ≤ 3
      go true t = more t (ltb b (length (statement_list g a))) refl
      go false t = omega (arith, statement_not t)

  use_small : (start_fault g 3 a b ≤ 3) × (start_fault g 4 a b ≤ 3)
  use_small = go (ltb a g.header.symbols) refl
    where
      told : (n : ℕ) → n ≤ 3 → (n ≡ start_fault g 3 a b) × (n ≡ start_fault g 4 a b) → (start_fault g 3 a b ≤ 3) × (start_fault g 4 a b ≤ 3)
      told n h e = (omega (arith, h, e.0), omega (arith, h, e.1))

      more : a < g.header.symbols → (z : Bool) → eqb b 0 ≡ z → (t : Bool) → ltb b 32 ≡ t → (start_fault g 3 a b ≤ 3) × (start_fault g 4 a b ≤ 3)
      more l true z t s = told 3 (omega arith) (use-none l (eqb-true b 0 z))
      more l false z true s = told 0 (omega arith) (use-in l (eqb-false b 0 z) (ltb-true b 32 s))
      more l false z false s = told 3 (omega arith) (use-many l (eqb-false b 0 z) (ltb-false b 32 s))

      go : (t : Bool) → ltb a g.header.symbols ≡ t → (start_fault g 3 a b ≤ 3) × (start_fault g 4 a b ≤ 3)
      go true t = more (ltb-true a g.header.symbols t) (eqb b 0) refl (ltb b 32) refl
      go false t = told 2 (omega arith) (use_out (ltb-false a g.header.symbols t))

  bailout_small : start_fault g 6 a b ≤ 3
  bailout_small = go (ltb a g.header.modules) refl
    where
      go : (t : Bool) → ltb a g.header.modules ≡ t → start_fault g 6 a b ≤ 3
      go true t = omega (arith, bailout_in (ltb-true a g.header.modules t), unused_small b)
      go false t = omega (arith, bailout_out (ltb-false a g.header.modules t))

  pub fault_small : (k : ℕ) → start_fault g k a b ≤ 3
  fault_small k = one (eqb k 1) refl
    where
      of : (n : ℕ) → eqb k n ≡ true → start_fault g n a b ≤ 3 → start_fault g k a b ≤ 3
      of n t small = let z : k ≡ n = eqb-true k n t in rw z small

      six : eqb k 1 ≡ false → eqb k 2 ≡ false → eqb k 3 ≡ false → eqb k 4 ≡ false → (t : Bool) → eqb k 6 ≡ t → start_fault g k a b ≤ 3
      six p q r s true t = of 6 t bailout_small
      six p q r s false t = omega (arith, kind_none k p q r s t)

      four : eqb k 1 ≡ false → eqb k 2 ≡ false → eqb k 3 ≡ false → (t : Bool) → eqb k 4 ≡ t → start_fault g k a b ≤ 3
      four p q r true t = of 4 t use_small.1
      four p q r false t = six p q r t (eqb k 6) refl

      three : eqb k 1 ≡ false → eqb k 2 ≡ false → (t : Bool) → eqb k 3 ≡ t → start_fault g k a b ≤ 3
      three p q true t = of 3 t use_small.0
      three p q false t = four p q t (eqb k 4) refl

      two : eqb k 1 ≡ false → (t : Bool) → eqb k 2 ≡ t → start_fault g k a b ≤ 3
      two p true t = of 2 t statement_small
      two p false t = three p t (eqb k 3) refl

      one : (t : Bool) → eqb k 1 ≡ t → start_fault g k a b ≤ 3
      one true t = of 1 t module_small
      one false t = two t (eqb k 2) refl

-- all starts, from triple i on
module _ (g : Graph) (starts : List ℕ) where
  unfoldable pub fault_at : ℕ → ℕ
  fault_at i = start_fault g (get_or starts (3 * i) 0) (get_or starts (3 * i + 1) 0) (get_or starts (3 * i + 2) 0)

  pub starts_turn : (i n : ℕ) → fault_at i ≡ 0 → starts_fault g starts i (suc n) ≡ starts_fault g starts (i + 1) n
  unfolding starts_fault fault_at
  starts_turn i n e = rw (eq-eqb (start_fault g (get_or starts (3 * i) 0) (get_or starts (3 * i + 1) 0) (get_or starts (3 * i + 2) 0)) 0 e, starts_fault)

  pub starts_stop : (i n : ℕ) → (fault_at i ≡ 0 → ⊥) → starts_fault g starts i (suc n) ≡ 3 * i + fault_at i
  unfolding starts_fault fault_at
  starts_stop i n e = rw (ne_eqb (start_fault g (get_or starts (3 * i) 0) (get_or starts (3 * i + 1) 0) (get_or starts (3 * i + 2) 0)) 0 e, starts_fault)

  pub starts_end : (i : ℕ) → starts_fault g starts i 0 ≡ 0
  unfolding starts_fault
  starts_end i = refl

  starts_first : (i n : ℕ) → starts_fault g starts i (suc n) ≡ 0 → fault_at i ≡ 0
  starts_first i n e = go (eqb (fault_at i) 0) refl
    where
      go : (t : Bool) → eqb (fault_at i) 0 ≡ t → fault_at i ≡ 0
      go true t = eqb-true (fault_at i) 0 t
      go false t = let f = eqb-false (fault_at i) 0 t in omega (arith, starts_stop i n f, e)

  each_start : (n i : ℕ) → starts_fault g starts i n ≡ 0 → (j : ℕ) → j < n → fault_at (i + j) ≡ 0
  each_start zero i e j l = absurd (omega arith)
  each_start (suc n) i e zero l = let z : i + 0 ≡ i = omega arith in ap fault_at z ∙ starts_first i n e
  each_start (suc n) i e (suc j) l =
      let z : i + suc j ≡ i + 1 + j = omega arith in
      ap fault_at z ∙ each_start n (i + 1) (sym (starts_turn i n (starts_first i n e)) ∙ e) j (omega arith)

  pub starts_good : starts_fault g starts 0 (length starts / 3) ≡ 0 → StartsGood g (starts_of starts)
  unfolding starts_of fault_at
  starts_good e i l =
      let n : i < length starts / 3 = omega (arith, l, length-tabulate (λ i. fact_of (get_or starts (3 * i) 0) (get_or starts (3 * i + 1) 0) (get_or starts (3 * i + 2) 0)) 0 (length starts / 3)) in
      let z : 0 + i ≡ i = omega arith in
      rw (get_d_tabulate (λ i. fact_of (get_or starts (3 * i) 0) (get_or starts (3 * i + 1) 0) (get_or starts (3 * i + 2) 0)) 0 (length starts / 3) i (module_fact 0) n, z)
      (start_good g (get_or starts (3 * i + 1) 0) (get_or starts (3 * i + 2) 0) (get_or starts (3 * i) 0) (ap fault_at (sym z) ∙ each_start (length starts / 3) 0 e i n))

  -- the check's answer, and what it tells of the starts
  abbrev Checked : Result ℕ Refusal → Type 0
  Checked r = (r ≡ starts_walk g starts) × OnceRead r (StartsGood g (starts_of starts))

  pub odd_checked : (length starts % 3 ≡ 0 → ⊥) → Checked (Err (WrongLength (length starts)))
  unfolding starts_walk
  odd_checked h = (rw (ne_eqb (length starts % 3) 0 h, starts_walk), record { known = λ q e. absurd (clash (sym e)) })

  pub fault_checked : (f : ℕ) → length starts % 3 ≡ 0 → starts_fault g starts 0 (length starts / 3) ≡ f → (f ≡ 0 → ⊥) → Checked (Err (OutOfRange (f - 1)))
  unfolding starts_walk
  fault_checked f h e some = (rw (eq-eqb (length starts % 3) 0 h, e, ne_eqb f 0 some, starts_walk, e), record { known = λ q z. absurd (clash (sym z)) })

  pub good_checked : length starts % 3 ≡ 0 → starts_fault g starts 0 (length starts / 3) ≡ 0 → Checked (Ok 0)
  unfolding starts_walk
  good_checked h e = (rw (eq-eqb (length starts % 3) 0 h, e, starts_walk), record { known = λ q z. starts_good e })

  pub starts_begin : starts_fault g starts 0 (length starts / 3 - 0) ≡ starts_fault g starts 0 (length starts / 3)
  starts_begin = let z : length starts / 3 - 0 ≡ length starts / 3 = omega arith in ap (λ k. starts_fault g starts 0 k) z

  pub fault_read : (i a b c f : ℕ) → a ≡ get_or starts (3 * i) 0 → b ≡ get_or starts (3 * i + 1) 0 → c ≡ get_or starts (3 * i + 2) 0 → f ≡ start_fault g a b c → f ≡ fault_at i
  unfolding fault_at
  fault_read i a b c f x y z e = e ∙ rw (x, y, z)

  module _ (i f : ℕ) (m : length starts % 3 ≡ 0) (l : i < length starts / 3) (whole : starts_fault g starts i (length starts / 3 - i) ≡ starts_fault g starts 0 (length starts / 3)) (is : f ≡ fault_at i) where
    one_left : length starts / 3 - i ≡ suc (length starts / 3 - (i + 1))
    one_left = omega (arith, l)

    pub stop-checked : (f ≡ 0 → ⊥) → Checked (Err (OutOfRange (3 * i + f - 1)))
    stop-checked some =
        let e : starts_fault g starts i (suc (length starts / 3 - (i + 1))) ≡ 3 * i + fault_at i = starts_stop i (length starts / 3 - (i + 1)) (λ z. some (is ∙ z)) in
        fault_checked (3 * i + f) m (sym whole ∙ ap (λ k. starts_fault g starts i k) one_left ∙ e ∙ ap (λ k. 3 * i + k) (sym is)) (λ z. some (omega (arith, z)))

    pub turn-checked : f ≡ 0 → starts_fault g starts (i + 1) (length starts / 3 - (i + 1)) ≡ starts_fault g starts 0 (length starts / 3)
    turn-checked e = sym (starts_turn i (length starts / 3 - (i + 1)) (sym is ∙ e)) ∙ ap (λ k. starts_fault g starts i k) (sym one_left) ∙ whole

  pub end_checked : (i : ℕ) → length starts % 3 ≡ 0 → length starts / 3 ≤ i → starts_fault g starts i (length starts / 3 - i) ≡ starts_fault g starts 0 (length starts / 3) → Checked (Ok 0)
  end_checked i m l whole =
      let z : length starts / 3 - i ≡ 0 = omega (arith, l) in
      good_checked m (sym whole ∙ ap (λ k. starts_fault g starts i k) z ∙ starts_end i)
