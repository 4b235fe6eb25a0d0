-- The Rust's map of entries groups as the project does; user-defined, dynamic and final entries are the project's.
use Rattle.std.proofs.Common.{◌≡◌, ℕ, ◌<◌, Bool, true, false, not, ◌&&◌, ◌||◌, eqb, ltb, List, [], ◌∷◌, ◌++◌, sym, refl, ap, ◌∙◌, append_assoc, arith, le-ltb, lt-ltb, eq-eqb, eqb-true}
use borrow.Author.Tests.{eqb-false}
use Rattle.determine_side_effects.specs.graph_crate.Check.{Graph, graph_in, check_of, answer_of}
use Rattle.determine_side_effects.specs.graph_access_crate.Names.{entry_kind}
use Rattle.determine_side_effects.specs.graph_access_crate.Words.{tabulate, entry_of, option}
use Rattle.determine_side_effects.proofs.graph_access_crate.Indexes.{entry_kind_below}
use Rattle.keep_record.specs.Lines.{elem}
use Rattle.keep_record.proofs.Adding.{eqb_turned}
use Rattle.entry_order.specs.Order.{those, grouped_from, grouped, module_of_entry, is_dynamic, user_entries, grouped_entries, is_user_defined as user_defined, dynamic_entries as dynamic_ones}
use Rattle.entry_order.proofs.Those.{those_here, those_not}
use Rattle.entry_order.proofs.Grouped.{group_old, group_new}
use Rattle.entry_order.proofs.Entered.{entries_below}
use Rattle.dynamic_entries.specs.Sorted.{sorted_entries}
use Rattle.tree_shaking.specs.Rounds.{final_entries}
use Rattle.closed_choices.proofs.Accepting.{accepted_tabled}
use Rattle.rust_values.specs.Values.{filter}
use Rattle.rust_order.specs.DynamicEntries.{entry_idx}
use Rattle.rust_run.specs.IncludeStatements.{Slot, push_entry, push_entries, flattened, through_map, is_user_defined, user_defined_entries, dynamic_entries, live_entries}
use Rattle.std.specs.Prelude.{Ok}

-- Tests on lists -------------------------------------------------------------------------------------------------------------------------

eqb_either : (a b : ℕ) → eqb a b ≡ eqb b a
eqb_either a b = go (eqb a b) refl
  where
    go : (t : Bool) → eqb a b ≡ t → eqb a b ≡ eqb b a
    go true e = e ∙ sym (eq-eqb b a (sym (eqb-true a b e)))
    go false e = e ∙ sym (eqb_turned a b e)

-- `filter` is `those`, where the tests agree on the list
pub filter_those : (p q : ℕ → Bool) (xs : List ℕ) → ((x : ℕ) → elem x xs ≡ true → p x ≡ q x) → filter p xs ≡ those q xs
unfolding filter those elem
filter_those p q [] h = refl
filter_those p q (x ∷ xs) h = go (p x) refl (q x) (h x (ap (λ b. b || elem x xs) (eq-eqb x x refl))) (filter_those p q xs (λ y e. h y (later (eqb y x) (elem y xs) e)))
  where
    later : (a b : Bool) → b ≡ true → (a || b) ≡ true
    later true b e = refl
    later false b e = e

    go : (a : Bool) → p x ≡ a → (b : Bool) → p x ≡ q x → filter p xs ≡ those q xs → filter p (x ∷ xs) ≡ those q (x ∷ xs)
    go true e b s r = let t : q x ≡ true = sym s ∙ e in rw (e, t, filter, those) (ap (λ l. x ∷ l) r)
    go false e b s r = let t : q x ≡ false = sym s ∙ e in rw (e, t, filter, those) r

-- those of those
those_twice : (p q : ℕ → Bool) (r : ℕ → Bool) (xs : List ℕ) → ((x : ℕ) → (q x && p x) ≡ r x) → those p (those q xs) ≡ those r xs
unfolding those
those_twice p q r [] h = refl
those_twice p q r (x ∷ xs) h = go (q x) refl (p x) refl (those_twice p q r xs h)
  where
    go : (a : Bool) → q x ≡ a → (b : Bool) → p x ≡ b → those p (those q xs) ≡ those r xs → those p (those q (x ∷ xs)) ≡ those r (x ∷ xs)
    go true e true f i =
        let s : r x ≡ true = sym (h x) ∙ ap (λ t. t && p x) e ∙ f in
        ap (those p) (those_here q x xs e) ∙ those_here p x (those q xs) f ∙ ap (λ l. x ∷ l) i ∙ sym (those_here r x xs s)
    go true e false f i =
        let s : r x ≡ false = sym (h x) ∙ ap (λ t. t && p x) e ∙ f in
        ap (those p) (those_here q x xs e) ∙ those_not p x (those q xs) f ∙ i ∙ sym (those_not r x xs s)
    go false e b f i =
        let s : r x ≡ false = sym (h x) ∙ ap (λ t. t && p x) e in
        ap (those p) (those_not q x xs e) ∙ i ∙ sym (those_not r x xs s)

all_those : (xs : List ℕ) → those (λ x. true) xs ≡ xs
unfolding those
all_those [] = refl
all_those (x ∷ xs) = ap (λ l. x ∷ l) (all_those xs)

-- The map -------------------------------------------------------------------------------------------------------------------------------

module _ (g : Graph) where
  abbrev same : ℕ → ℕ → Bool
  same k y = eqb k (entry_idx g y)

  abbrev other : ℕ → ℕ → Bool
  other k y = not (eqb k (entry_idx g y))

  abbrev slot : ℕ → List ℕ → Slot
  slot k vs = record { key = k; values = vs }

  push_same : (k : ℕ) (vs : List ℕ) (ss : List Slot) (e : ℕ) → same k e ≡ true → push_entry (entry_idx g e) e (slot k vs ∷ ss) ≡ slot k (vs ++ (e ∷ [])) ∷ ss
  unfolding push_entry
  push_same k vs ss e h = rw (h, push_entry)

  push_other : (k : ℕ) (vs : List ℕ) (ss : List Slot) (e : ℕ) → same k e ≡ false → push_entry (entry_idx g e) e (slot k vs ∷ ss) ≡ slot k vs ∷ push_entry (entry_idx g e) e ss
  unfolding push_entry
  push_other k vs ss e h = rw (h, push_entry)

  -- the first slot gets those with its key, the others go by it
  first_slot : (k : ℕ) (es vs : List ℕ) (ss : List Slot) → flattened (push_entries g es (slot k vs ∷ ss)) ≡ vs ++ (those (same k) es ++ flattened (push_entries g (those (other k) es) ss))
  unfolding push_entries flattened those
  first_slot k [] vs ss = refl
  first_slot k (e ∷ es) vs ss = go (same k e) refl (λ ws ts. first_slot k es ws ts)
    where
      go : (b : Bool) → same k e ≡ b
          → ((ws : List ℕ) (ts : List Slot) → flattened (push_entries g es (slot k ws ∷ ts)) ≡ ws ++ (those (same k) es ++ flattened (push_entries g (those (other k) es) ts)))
          → flattened (push_entries g es (push_entry (entry_idx g e) e (slot k vs ∷ ss))) ≡ vs ++ (those (same k) (e ∷ es) ++ flattened (push_entries g (those (other k) (e ∷ es)) ss))
      go true h r =
          ap (λ (l : List Slot). flattened (push_entries g es l)) (push_same k vs ss e h)
          ∙ r (vs ++ (e ∷ [])) ss
          ∙ append_assoc vs (e ∷ []) (those (same k) es ++ flattened (push_entries g (those (other k) es) ss))
          ∙ rw (those_here (same k) e es h, those_not (other k) e es (ap not h)) refl
      go false h r =
          ap (λ (l : List Slot). flattened (push_entries g es l)) (push_other k vs ss e h)
          ∙ r vs (push_entry (entry_idx g e) e ss)
          ∙ rw (those_not (same k) e es h, those_here (other k) e es (ap not h)) refl

  abbrev new : List ℕ → ℕ → Bool
  new before y = not (elem (module_of_entry g y) before)

  same_key : (e : ℕ) → entry_idx g e ≡ module_of_entry g e
  unfolding entry_idx module_of_entry
  same_key e = refl

  -- entry y has e's key: it is new if e is
  key_new : (before : List ℕ) (e y : ℕ) → elem (module_of_entry g e) before ≡ false → (new before y && same (entry_idx g e) y) ≡ eqb (module_of_entry g y) (module_of_entry g e)
  unfolding entry_idx module_of_entry
  key_new before e y h = go (eqb (module_of_entry g y) (module_of_entry g e)) refl
    where
      and_false : (b : Bool) → (b && false) ≡ false
      and_false true = refl
      and_false false = refl

      go : (b : Bool) → eqb (module_of_entry g y) (module_of_entry g e) ≡ b → (new before y && same (entry_idx g e) y) ≡ eqb (module_of_entry g y) (module_of_entry g e)
      go true q =
          let n : elem (module_of_entry g y) before ≡ false = ap (λ k. elem k before) (eqb-true _ _ q) ∙ h in
          ap (λ b. not b && same (entry_idx g e) y) n ∙ eqb_either (entry_idx g e) (module_of_entry g y)
      go false q = ap (λ b. new before y && b) (eqb_either (entry_idx g e) (module_of_entry g y) ∙ q) ∙ and_false (new before y) ∙ sym q

  key_before : (before : List ℕ) (e y : ℕ) → (new before y && other (entry_idx g e) y) ≡ new (module_of_entry g e ∷ before) y
  unfolding entry_idx module_of_entry elem
  key_before before e y =
      ap (λ b. new before y && not b) (eqb_either (entry_idx g e) (module_of_entry g y)) ∙ neither (eqb (module_of_entry g y) (module_of_entry g e)) (elem (module_of_entry g y) before)
    where
      neither : (a b : Bool) → (not b && not a) ≡ not (a || b)
      neither true true = refl
      neither true false = refl
      neither false true = refl
      neither false false = refl

  through_new : (before es : List ℕ) → through_map g (those (new before) es) ≡ grouped_from (module_of_entry g) before es
  unfolding those through_map push_entry push_entries flattened grouped_from
  through_new before [] = refl
  through_new before (e ∷ es) = go (elem (module_of_entry g e) before) refl (through_new before es) (through_new (module_of_entry g e ∷ before) es)
    where
      -- those with this key are new, those without it are new with this key before
      with-key : elem (module_of_entry g e) before ≡ false → those (same (entry_idx g e)) (those (new before) es) ≡ those (λ y. eqb (module_of_entry g y) (module_of_entry g e)) es
      with-key h = those_twice (same (entry_idx g e)) (new before) (λ y. eqb (module_of_entry g y) (module_of_entry g e)) es (λ y. key_new before e y h)

      without-key : those (other (entry_idx g e)) (those (new before) es) ≡ those (new (module_of_entry g e ∷ before)) es
      without-key = those_twice (other (entry_idx g e)) (new before) (new (module_of_entry g e ∷ before)) es (key_before before e)

      go : (b : Bool) → elem (module_of_entry g e) before ≡ b → through_map g (those (new before) es) ≡ grouped_from (module_of_entry g) before es
          → through_map g (those (new (module_of_entry g e ∷ before)) es) ≡ grouped_from (module_of_entry g) (module_of_entry g e ∷ before) es
          → through_map g (those (new before) (e ∷ es)) ≡ grouped_from (module_of_entry g) before (e ∷ es)
      go true h r _ = ap (through_map g) (those_not (new before) e es (ap not h)) ∙ r ∙ sym (group_old (module_of_entry g) before e es h)
      go false h _ r =
          ap (through_map g) (those_here (new before) e es (ap not h))
          ∙ first_slot (entry_idx g e) (those (new before) es) (e ∷ []) []
          ∙ ap (λ (l : List ℕ). e ∷ (l ++ through_map g (those (other (entry_idx g e)) (those (new before) es)))) (with-key h)
          ∙ ap (λ (l : List ℕ). e ∷ (those (λ y. eqb (module_of_entry g y) (module_of_entry g e)) es ++ through_map g l)) without-key
          ∙ ap (λ (l : List ℕ). e ∷ (those (λ y. eqb (module_of_entry g y) (module_of_entry g e)) es ++ l)) r
          ∙ sym (group_new (module_of_entry g) before e es h)

  pub through_map_lem : (es : List ℕ) → through_map g es ≡ grouped (module_of_entry g) es
  unfolding grouped elem
  through_map_lem es = ap (through_map g) (sym (all_those es)) ∙ through_new [] es

-- Kinds of entries ----------------------------------------------------------------------------------------------------------------------

module _ (numbers : List ℕ) (ok : answer_of (check_of numbers) ≡ Ok tt) where
  -- the three kinds
  by_kind : (k : ℕ) → k < 3 → ltb k 2 ≡ not (eqb k 2)
  by_kind k l = go (eqb k 2) refl
    where
      go : (b : Bool) → eqb k 2 ≡ b → ltb k 2 ≡ not (eqb k 2)
      go true e = le-ltb k 2 (omega (arith, eqb-true k 2 e)) ∙ sym (ap not e)
      go false e = lt-ltb k 2 (omega (arith, l, eqb-false k 2 e)) ∙ sym (ap not e)

  user_same : (e : ℕ) → e < (graph_in numbers).header.entries → is_user_defined (graph_in numbers) e ≡ user_defined (graph_in numbers) e
  unfolding is_user_defined user_defined is_dynamic graph_in
  user_same e l = by_kind (entry_kind (entry_of (graph_in numbers) e)) (entry_kind_below (accepted_tabled numbers ok).holds e l)

  pub dynamic_same : (e : ℕ) → e < (graph_in numbers).header.entries → not (is_user_defined (graph_in numbers) e) ≡ is_dynamic (graph_in numbers) e
  unfolding user_defined
  dynamic_same e l = ap not (user_same e l) ∙ not-not (is_dynamic (graph_in numbers) e)
    where
      not-not : (b : Bool) → not (not b) ≡ b
      not-not true = refl
      not-not false = refl

  grouped_same : through_map (graph_in numbers) (tabulate (λ e. e) 0 (graph_in numbers).header.entries) ≡ grouped_entries (graph_in numbers)
  unfolding grouped_entries
  grouped_same = through_map_lem (graph_in numbers) (tabulate (λ e. e) 0 (graph_in numbers).header.entries)

  pub users_same : user_defined_entries (graph_in numbers) ≡ user_entries (graph_in numbers)
  unfolding user_defined_entries user_entries
  users_same =
      ap (filter (is_user_defined (graph_in numbers))) grouped_same
      ∙ filter_those (is_user_defined (graph_in numbers)) (user_defined (graph_in numbers)) (grouped_entries (graph_in numbers))
      (λ x e. user_same x (entries_below (graph_in numbers) x e))

  pub dynamics_same : dynamic_entries (graph_in numbers) ≡ dynamic_ones (graph_in numbers)
  unfolding dynamic_entries dynamic_ones
  dynamics_same =
      ap (filter (λ e. not (is_user_defined (graph_in numbers) e))) grouped_same
      ∙ filter_those (λ e. not (is_user_defined (graph_in numbers) e)) (is_dynamic (graph_in numbers)) (grouped_entries (graph_in numbers))
      (λ x e. dynamic_same x (entries_below (graph_in numbers) x e))

  -- the entries that stay
  pub final_same : (included : List ℕ) (live : ℕ → Bool) → ((m : ℕ) → elem m included ≡ live m) → live_entries (graph_in numbers) (sorted_entries (graph_in numbers)) included ≡ final_entries (graph_in numbers) live
  unfolding live_entries final_entries
  final_same included live s =
      let ends : List ℕ → List ℕ = λ l. elim (option (graph_in numbers) 5) [ true ↦ [] | false ↦ l ] in
      let kept = filter_those (λ e. elem (entry_idx (graph_in numbers) e) included) (λ e. live (module_of_entry (graph_in numbers) e)) (sorted_entries (graph_in numbers)) (λ x e. s (entry_idx (graph_in numbers) x) ∙ ap live (same_key (graph_in numbers) x)) in
      through_map_lem (graph_in numbers) _
      ∙ ap (λ (l : List ℕ). grouped (module_of_entry (graph_in numbers)) (l ++ ends (filter (λ e. elem (entry_idx (graph_in numbers) e) included) (sorted_entries (graph_in numbers))))) users_same
      ∙ ap (λ (l : List ℕ). grouped (module_of_entry (graph_in numbers)) (user_entries (graph_in numbers) ++ ends l)) kept
