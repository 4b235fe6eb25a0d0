-- The stable sort by key: first the entries that have no order, then those of each node, from the node that was completed last down.
use Prim.Native.Nat.{ℕ}
use mathlib.Core.Path.{◌≡◌, refl, ap, ◌∙◌, sym}
use mathlib.Core.Logic.{◌⊎◌, inl, inr, ⊎_elim}
use mathlib.Core.Bool.{Bool, true, false}
use mathlib.Core.List.{List, [], ◌∷◌, ◌++◌}
use native.Mathlib.Omega.{arith}
use borrow.Author.Tests.{eqb-true, eqb-false, ne_eqb, ltb-true, le-ltb}
use lib.Dec.{eqb}
use Rattle.graph_access.specs.graph_crate.Check.{Graph}
use Rattle.keep_record.specs.Lines.{elem}
use Rattle.keep_record.specs.Held.{Distinct}
use Rattle.entry_order.specs.Order.{those, module_of_entry}
use Rattle.entry_order.proofs.Those.{those_here, those_not}
use Rattle.cycles.proofs.Members.{never_both, in_none, in_head, in_tail, in_cases, in_either, those_in}
use Rattle.dynamic_entries.specs.Sorted.{on_cycle, by_completion}
use Rattle.dynamic_entries.proofs.Completing.{on_a_cycle, on_none}
use Rattle.rust_values.specs.Values.{Found}
use Rattle.rust_values.specs.Values.Found.{none, found}
use Rattle.rust_values.proofs.Members.{elem_in}
use Rattle.rust_order.specs.DynamicEntries.{is_less, insert_by_key, sort_by_key}
use Rattle.rust_order.proofs.Earlier.{Earlier}

-- ---- keys

pub not_less : (a b : Found) → is_less a b ≡ true → is_less b a ≡ false
unfolding is_less
not_less none none e = refl
not_less none (found b) e = refl
not_less (found a) none e = absurd (never_both e refl)
not_less (found a) (found b) e = let l = ltb-true b a e in le-ltb a b (omega (arith, l))

pub not_own : (a : Found) → is_less a a ≡ false
unfolding is_less
not_own none = refl
not_own (found a) = le-ltb a a (omega arith)

pub none_last : (a : Found) → is_less a none ≡ false
unfolding is_less
none_last none = refl
none_last (found a) = refl

-- ---- one more

module _ (key : ℕ → Found) (x : ℕ) where
  insert_here : (ys : List ℕ) → ((y : ℕ) → elem y ys ≡ true → is_less (key y) (key x) ≡ false) → insert_by_key key x ys ≡ x ∷ ys
  unfolding insert_by_key
  insert_here [] h = refl
  insert_here (y ∷ ys) h = rw (h y (in_head y ys), insert_by_key)

  insert_past : (ys zs : List ℕ) → ((y : ℕ) → elem y ys ≡ true → is_less (key y) (key x) ≡ true) → insert_by_key key x (ys ++ zs) ≡ ys ++ insert_by_key key x zs
  unfolding insert_by_key
  insert_past [] zs h = refl
  insert_past (y ∷ ys) zs h = rw (h y (in_head y ys), insert_by_key) (ap (λ (l : List ℕ). y ∷ l) (insert_past ys zs (λ z i. h z (in_tail z y ys i))))

-- ---- entries by completion

module _ (g : Graph) where
  abbrev of : ℕ → ℕ → Bool
  of m e = eqb (module_of_entry g e) m

  by_completion_none : (ms : List ℕ) → by_completion g [] ms ≡ []
  unfolding by_completion those
  by_completion_none [] = refl
  by_completion_none (m ∷ ms) = go (on_cycle g m) refl (by_completion_none ms)
    where
      go : (b : Bool) → on_cycle g m ≡ b → by_completion g [] ms ≡ [] → by_completion g [] (m ∷ ms) ≡ []
      go true e r = on_a_cycle g [] m ms e ∙ r
      go false e r = on_none g [] m ms e ∙ r

  -- each is of a node of the list, on no cycle
  by_completion_in : (y : ℕ) (es ms : List ℕ) → elem y (by_completion g es ms) ≡ true → (elem (module_of_entry g y) ms ≡ true) × (on_cycle g (module_of_entry g y) ≡ false)
  unfolding by_completion
  by_completion_in y es [] e = absurd (in_none y e)
  by_completion_in y es (m ∷ ms) e = go (on_cycle g m) refl (by_completion_in y es ms)
    where
      later : (elem (module_of_entry g y) ms ≡ true) × (on_cycle g (module_of_entry g y) ≡ false)
          → (elem (module_of_entry g y) (m ∷ ms) ≡ true) × (on_cycle g (module_of_entry g y) ≡ false)
      later p = (in_tail (module_of_entry g y) m ms p.0, p.1)

      go : (b : Bool) → on_cycle g m ≡ b → (elem y (by_completion g es ms) ≡ true → (elem (module_of_entry g y) ms ≡ true) × (on_cycle g (module_of_entry g y) ≡ false))
          → (elem (module_of_entry g y) (m ∷ ms) ≡ true) × (on_cycle g (module_of_entry g y) ≡ false)
      go true c r = later (r (rw (on_a_cycle g es m ms c) at e))
      go false c r =
          ⊎_elim (λ i. let q = eqb-true (module_of_entry g y) m (those_in (of m) y es i).1 in (rw q (in_head m ms), rw q c)) (λ i. later (r i))
          (in_either y (those (of m) es) (by_completion g es ms) (rw (on_none g es m ms c) at e))

  -- an entry of no such node
  by_completion_skip : (x : ℕ) (es ms : List ℕ) → ((m : ℕ) → elem m ms ≡ true → on_cycle g m ≡ false → module_of_entry g x ≡ m → ⊥)
      → by_completion g (x ∷ es) ms ≡ by_completion g es ms
  unfolding by_completion
  by_completion_skip x es [] h = refl
  by_completion_skip x es (m ∷ ms) h = go (on_cycle g m) refl (by_completion_skip x es ms (λ n i. h n (in_tail n m ms i)))
    where
      go : (b : Bool) → on_cycle g m ≡ b → by_completion g (x ∷ es) ms ≡ by_completion g es ms → by_completion g (x ∷ es) (m ∷ ms) ≡ by_completion g es (m ∷ ms)
      go true c r = on_a_cycle g (x ∷ es) m ms c ∙ r ∙ sym (on_a_cycle g es m ms c)
      go false c r =
          let q : of m x ≡ false = ne_eqb (module_of_entry g x) m (h m (in_head m ms) c) in
          on_none g (x ∷ es) m ms c
          ∙ ap (λ (l : List ℕ). l ++ by_completion g (x ∷ es) ms) (those_not (of m) x es q)
          ∙ ap (λ (l : List ℕ). those (of m) es ++ l) r
          ∙ sym (on_none g es m ms c)

  module _ (ord : ℕ → Found) where
    abbrev key : ℕ → Found
    key e = ord (module_of_entry g e)

    -- from the node that was completed last down the keys go up
    abbrev pub Rises : List ℕ → Type 0
    Rises [] = Unit {0}
    Rises (m ∷ ms) = ((n : ℕ) → elem n ms ≡ true → on_cycle g m ≡ false → on_cycle g n ≡ false → is_less (ord m) (ord n) ≡ true) × Rises ms

    pub rises : (ms : List ℕ) → ((m n : ℕ) → Earlier m n ms → on_cycle g m ≡ false → on_cycle g n ≡ false → is_less (ord m) (ord n) ≡ true) → Rises ms
    rises [] h = _
    rises (m ∷ ms) h = (λ n i. h m n (inl (refl, elem_in n ms i)), rises ms (λ a b i. h a b (inr i)))

    insert-node : (x : ℕ) (es ms : List ℕ) → Distinct ms → Rises ms → on_cycle g (module_of_entry g x) ≡ false → elem (module_of_entry g x) ms ≡ true
        → insert_by_key key x (by_completion g es ms) ≡ by_completion g (x ∷ es) ms
    insert-node x es [] d r c i = absurd (in_none (module_of_entry g x) i)
    insert-node x es (m ∷ ms) d r c i = go (on_cycle g m) refl (eqb (module_of_entry g x) m) refl (insert-node x es ms d.1 r.1 c)
      where
        behind : (module_of_entry g x ≡ m → ⊥) → elem (module_of_entry g x) ms ≡ true
        behind q = ⊎_elim (λ e. absurd (q e)) (λ j. j) (in_cases (module_of_entry g x) m ms i)

        rest : List ℕ
        rest = by_completion g es ms

        go : (a : Bool) → on_cycle g m ≡ a → (b : Bool) → eqb (module_of_entry g x) m ≡ b
            → (elem (module_of_entry g x) ms ≡ true → insert_by_key key x (by_completion g es ms) ≡ by_completion g (x ∷ es) ms)
            → insert_by_key key x (by_completion g es (m ∷ ms)) ≡ by_completion g (x ∷ es) (m ∷ ms)
        go true o b q f =
            ap (insert_by_key key x) (on_a_cycle g es m ms o) ∙ f (behind (λ e. never_both (rw (sym e) at o) c)) ∙ sym (on_a_cycle g (x ∷ es) m ms o)
        go false o true q f =
            let z = eqb-true (module_of_entry g x) m q in
            ap (insert_by_key key x) (on_none g es m ms o)
            ∙ insert_here key x (those (of m) es ++ rest) (λ y j. rw z (after y j))
            ∙ ap (λ (l : List ℕ). x ∷ (those (of m) es ++ l)) (sym (by_completion_skip x es ms (λ n j k e. never_both j (rw (sym z ∙ e) at d.0))))
            ∙ ap (λ (l : List ℕ). l ++ by_completion g (x ∷ es) ms) (sym (those_here (of m) x es q))
            ∙ sym (on_none g (x ∷ es) m ms o)
          where
            after : (y : ℕ) → elem y (those (of m) es ++ rest) ≡ true → is_less (key y) (ord m) ≡ false
            after y j =
                ⊎_elim (λ k. rw (eqb-true (module_of_entry g y) m (those_in (of m) y es k).1) (not_own (ord m)))
                (λ k. let p = by_completion_in y es ms k in not_less (ord m) (key y) (r.0 (module_of_entry g y) p.0 o p.1))
                (in_either y (those (of m) es) rest j)
        go false o false q f =
            let j = behind (eqb-false (module_of_entry g x) m q) in
            let l : is_less (ord m) (key x) ≡ true = r.0 (module_of_entry g x) j o c in
            ap (insert_by_key key x) (on_none g es m ms o)
            ∙ insert_past key x (those (of m) es) rest (λ y k. rw (eqb-true (module_of_entry g y) m (those_in (of m) y es k).1) l)
            ∙ ap (λ (t : List ℕ). those (of m) es ++ t) (f j)
            ∙ ap (λ (t : List ℕ). t ++ by_completion g (x ∷ es) ms) (sym (those_not (of m) x es q))
            ∙ sym (on_none g (x ∷ es) m ms o)

    -- `ms` are the nodes; those that go first have no order
    module _ (first : ℕ → Bool) (ms : List ℕ) (apart : Distinct ms) (up : Rises ms)
        (firsts : (m : ℕ) → first m ≡ true → ord m ≡ none) (others : (m : ℕ) → first m ≡ false → (j : ℕ) × (ord m ≡ found j))
        (outside : (m : ℕ) → first m ≡ true → elem m ms ≡ true → on_cycle g m ≡ false → ⊥)
        (inside : (m : ℕ) → first m ≡ false → (on_cycle g m ≡ false) × (elem m ms ≡ true)) where
      abbrev early : ℕ → Bool
      early e = first (module_of_entry g e)

      pub sort-is : (es : List ℕ) → sort_by_key key es ≡ those early es ++ by_completion g es ms
      unfolding sort_by_key those is_less
      sort-is [] = sym (by_completion_none ms)
      sort-is (x ∷ es) = ap (insert_by_key key x) (sort-is es) ∙ go (early x) refl
        where
          go : (b : Bool) → early x ≡ b → insert_by_key key x (those early es ++ by_completion g es ms) ≡ those early (x ∷ es) ++ by_completion g (x ∷ es) ms
          go true e =
              insert_here key x (those early es ++ by_completion g es ms) (λ y i. rw (firsts (module_of_entry g x) e) (none_last (key y)))
              ∙ ap (λ (l : List ℕ). x ∷ (those early es ++ l)) (sym (by_completion_skip x es ms (λ m i c q. outside m (rw q at e) i c)))
              ∙ ap (λ (l : List ℕ). l ++ by_completion g (x ∷ es) ms) (sym (those_here early x es e))
          go false e =
              let p = inside (module_of_entry g x) e in
              let o = others (module_of_entry g x) e in
              insert_past key x (those early es) (by_completion g es ms) (λ y i. rw (firsts (module_of_entry g y) (those_in early y es i).1, o.1) refl)
              ∙ ap (λ (l : List ℕ). those early es ++ l) (insert-node x es ms apart up p.0 p.1)
              ∙ ap (λ (l : List ℕ). l ++ by_completion g (x ∷ es) ms) (sym (those_not early x es e))
