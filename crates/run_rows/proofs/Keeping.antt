-- The final entries, brought to the front of the plan.
use Prim.Native.Nat.{ℕ, zero, suc, ◌+◌, ◌-◌, ◌<◌, ◌≤◌}
use mathlib.Core.Path.{◌≡◌, refl, ap, ◌∙◌, sym}
use mathlib.Core.Bool.{Bool, true, false, ◌||◌, ◌&&◌, not, true≢false}
use mathlib.Core.List.{List, [], ◌∷◌, ◌++◌, append-nil, append_assoc}
use native.Mathlib.Decide.{ℕ_discrete, dec_lt}
use native.Mathlib.Numerals.{add-one}
use native.Mathlib.Omega.{arith}
use borrow.Author.Tests.{lt-ltb, le-ltb}
use lib.Dec.{eqb, ltb}
use lib.ListN.{length, get_or, set, take, drop, length-set, drop_of_length-le}
use lib.Seq.{drop-cons, get_or-take, get_or-set_same, get_or-set_other, length-take-le, take-suc-set}
use Rattle.determine_side_effects.specs.graph_format_crate.declared.Header.{Header}
use Rattle.determine_side_effects.specs.graph_tables_crate.Tables.{header_in}
use Rattle.determine_side_effects.specs.graph_crate.Check.{Graph, graph_in}
use Rattle.determine_side_effects.specs.graph_access_crate.Names.{entry_module}
use Rattle.determine_side_effects.specs.graph_access_crate.Words.{flag, option, entry_of}
use Rattle.entry_order.specs.Order.{those, grouped, module_of_entry, user_entries}
use Rattle.entry_order.specs.Chains.{Entries}
use Rattle.entry_order.specs.Plan.{is_set, live_in}
use Rattle.entry_order.proofs.Those.{those_here, those_not}
use Rattle.entry_order.proofs.Grouped.{grouped-length}
use Rattle.dynamic_entries.specs.Sorted.{sorted_entries}
use Rattle.dynamic_entries.specs.Tries.{Planned}
use Rattle.tree_shaking.specs.Rounds.{final_entries}
use Rattle.run_rows.specs.Run.{entries_row}

-- whether the entry at place i is final, as the code finds it
module _ (users i : ℕ) where
  pub final_user : (b : Bool) → i < users → true ≡ (ltb i users || b)
  final_user b l = sym (ap (λ x. x || b) (lt-ltb i users l))

  pub final_off : (splits b : Bool) → users ≤ i → splits ≡ false → false ≡ (ltb i users || (splits && b))
  final_off splits b l e = sym (ap (λ x. x || (splits && b)) (le-ltb i users l) ∙ ap (λ x. x && b) e)

  pub final_live : (numbers plan : List ℕ) (h : Header) (splits : Bool) (e m : ℕ) → users ≤ i → splits ≡ true → h ≡ header_in numbers
      → m ≡ entry_module (entry_of (graph_in numbers) e) → m < (header_in numbers).modules
      → eqb (get_or plan (h.entries + m) 0) 1 ≡ (ltb i users || (splits && live_in (header_in numbers) plan (module_of_entry (graph_in numbers) e)))
  unfolding live_in is_set module_of_entry
  final_live numbers plan h splits e m l s is at below =
      let head : h.entries ≡ (header_in numbers).entries = ap (λ (x : Header). x.entries) is in
      sym (
      ap (λ x. x || (splits && live_in (header_in numbers) plan (module_of_entry (graph_in numbers) e))) (le-ltb i users l)
      ∙ ap (λ x. x && live_in (header_in numbers) plan (module_of_entry (graph_in numbers) e)) s
      ∙ ap (λ u. ltb u (header_in numbers).modules && eqb (get_or plan ((header_in numbers).entries + u) 0) 1) (sym at)
      ∙ ap (λ x. x && eqb (get_or plan ((header_in numbers).entries + m) 0) 1) (lt-ltb m (header_in numbers).modules below)
      ∙ ap (λ n. eqb (get_or plan (n + m) 0) 1) (sym head)
      )

-- a list of which the first `users` are kept, and of the others those that pass a test
module _ (test : ℕ → Bool) where
  unfoldable pub kept : ℕ → List ℕ → List ℕ
  kept zero xs = those test xs
  kept (suc users) [] = []
  kept (suc users) (x ∷ xs) = x ∷ kept users xs

  kept_none : (users : ℕ) → kept users [] ≡ []
  unfolding kept those
  kept_none zero = refl
  kept_none (suc users) = refl

  kept_users : (us ds : List ℕ) → kept (length us) (us ++ ds) ≡ us ++ those test ds
  unfolding kept
  kept_users [] ds = refl
  kept_users (u ∷ us) ds = ap (λ (l : List ℕ). u ∷ l) (kept_users us ds)

  -- element i, of which `users - i` users are left
  module _ (users i x : ℕ) (xs : List ℕ) where
    kept-user : i < users → kept (users - i) (x ∷ xs) ≡ x ∷ kept (users - (i + 1)) xs
    unfolding kept
    kept-user l = let z : users - i ≡ suc (users - (i + 1)) = omega arith in ap (λ n. kept n (x ∷ xs)) z

    kept-tested : users ≤ i → (ys : List ℕ) → kept (users - i) ys ≡ those test ys
    unfolding kept
    kept-tested l ys = let z : users - i ≡ 0 = omega arith in ap (λ n. kept n ys) z

    kept-later : users ≤ i → kept (users - (i + 1)) xs ≡ those test xs
    unfolding kept
    kept-later l = let z : users - (i + 1) ≡ 0 = omega arith in ap (λ n. kept n xs) z

    kept_here : (ltb i users || test x) ≡ true → kept (users - i) (x ∷ xs) ≡ x ∷ kept (users - (i + 1)) xs
    kept_here e = go (dec_lt i users)
      where
        go : Dec (i < users) → kept (users - i) (x ∷ xs) ≡ x ∷ kept (users - (i + 1)) xs
        go (yes l) = kept-user l
        go (no n) =
            let l : users ≤ i = omega arith in
            let y : test x ≡ true = sym (ap (λ b. b || test x) (le-ltb i users l)) ∙ e in
            kept-tested l (x ∷ xs) ∙ those_here test x xs y ∙ ap (λ (ys : List ℕ). x ∷ ys) (sym (kept-later l))

    kept-not : (ltb i users || test x) ≡ false → kept (users - i) (x ∷ xs) ≡ kept (users - (i + 1)) xs
    kept-not e = go (dec_lt i users)
      where
        go : Dec (i < users) → kept (users - i) (x ∷ xs) ≡ kept (users - (i + 1)) xs
        go (yes l) = let z : ◌≡◌ {A = Bool} true false = sym (ap (λ b. b || test x) (lt-ltb i users l)) ∙ e in absurd (true≢false z)
        go (no n) =
            let l : users ≤ i = omega arith in
            let y : test x ≡ false = sym (ap (λ b. b || test x) (le-ltb i users l)) ∙ e in
            kept-tested l (x ∷ xs) ∙ those_not test x xs y ∙ sym (kept-later l)

-- whether a dynamic entry is final
unfoldable pub is_final : Graph → Bool → (ℕ → Bool) → ℕ → Bool
is_final g splits live e = splits && live (module_of_entry g e)

module _ (g : Graph) (live : ℕ → Bool) where
  those_none : (xs : List ℕ) → those (λ e. false) xs ≡ []
  unfolding those
  those_none [] = refl
  those_none (x ∷ xs) = those_none xs

  dynamic_are : (splits : Bool) → splits ≡ not (option g 5)
      → those (is_final g splits live) (sorted_entries g) ≡ elim (option g 5) [ true ↦ [] | false ↦ those (λ e. live (module_of_entry g e)) (sorted_entries g) ]
  unfolding is_final
  dynamic_are splits s = go (option g 5) refl
    where
      go : (o : Bool) → option g 5 ≡ o
          → those (is_final g splits live) (sorted_entries g) ≡ elim (option g 5) [ true ↦ [] | false ↦ those (λ e. live (module_of_entry g e)) (sorted_entries g) ]
      go true e = let f : splits ≡ false = s ∙ ap not e in rw (f, e) (those_none (sorted_entries g))
      go false e = let f : splits ≡ true = s ∙ ap not e in rw (f, e)

  pub finals_are : (splits : Bool) (plan : List ℕ) (users : ℕ) → splits ≡ not (option g 5) → Planned g plan users
      → grouped (module_of_entry g) (kept (is_final g splits live) users (take g.header.entries plan)) ≡ final_entries g live
  unfolding final_entries
  finals_are splits plan users s p =
      let test = is_final g splits live in
      ap (λ (l : List ℕ). grouped (module_of_entry g) l)
      (ap (λ n. kept test n (take g.header.entries plan)) p.users_are ∙ ap (λ (l : List ℕ). kept test (length (user_entries g)) l) p.order
      ∙ kept_users test (user_entries g) (sorted_entries g) ∙ ap (λ (l : List ℕ). user_entries g ++ l) (dynamic_are splits s))

-- the code's test of the options
pub splits_is : (numbers : List ℕ) (h : Header) (off : Bool) → h ≡ header_in numbers → off ≡ flag 5 h.options → not off ≡ not (option (graph_in numbers) 5)
unfolding option graph_in
splits_is numbers h off e f = ap not (f ∙ ap (λ (x : Header). flag 5 x.options) e)

-- In the loop: the first n words are the final ones of the first i, the words from i on are as they were.
pub record Keeping (g : Graph) (splits : Bool) (users : ℕ) (before after : List ℕ) (n i : ℕ) : Type 0 where
  pub same_length : length after ≡ length before
  pub front : n ≤ i
  pub inside : i ≤ g.header.entries
  pub on : take n after ++ kept (is_final g splits (live_in g.header before)) (users - i) (drop i (take g.header.entries before))
      ≡ kept (is_final g splits (live_in g.header before)) users (take g.header.entries before)
  pub rest : (j : ℕ) → i ≤ j → get_or after j 0 ≡ get_or before j 0
  pub below : (k : ℕ) → k < n → get_or after k 0 < g.header.entries

module _ (g : Graph) (splits : Bool) (users : ℕ) (before : List ℕ) (p : Planned g before users) where
  abbrev size : ℕ
  size = g.header.entries

  abbrev test : ℕ → Bool
  test = is_final g splits (live_in g.header before)

  size_inside : size ≤ length before
  size_inside = omega (arith, p.long)

  pub keeping_none : Keeping g splits users before before 0 0
  keeping_none =
      let z : users - 0 ≡ users = omega arith in
      record {
        same_length = refl;
        front = omega arith;
        inside = omega arith;
        on = ap (λ n. kept test n (take size before)) z;
        rest = λ j l. refl;
        below = λ k l. absurd (omega arith);
      }

  module _ (after : List ℕ) (n i : ℕ) (k : Keeping g splits users before after n i) where
    pub keeping-done : size ≤ i → grouped (module_of_entry g) (take n after) ≡ grouped (module_of_entry g) (kept test users (take size before))
    keeping-done l =
        let over : length (take size before) ≤ i = omega (arith, length-take-le size before size_inside) in
        let none : kept test (users - i) (drop i (take size before)) ≡ [] = ap (λ (xs : List ℕ). kept test (users - i) xs) (drop_of_length-le (take size before) over) ∙ kept_none test (users - i) in
        ap (λ (xs : List ℕ). grouped (module_of_entry g) xs) (sym (append-nil (take n after)) ∙ ap (λ (xs : List ℕ). take n after ++ xs) (sym none) ∙ k.on)

    pub keeping-entries : Entries g after n
    keeping-entries = record { long = omega (arith, k.front, k.inside, k.same_length, size_inside); below = k.below }

    module _ (l : i < size) where
      pub entry_below : get_or after i 0 < size
      entry_below = rw (k.rest i (omega arith)) (p.are_entries.below i l)

      -- the live words are behind the entries
      live_same : (m : ℕ) → live_in g.header after m ≡ live_in g.header before m
      unfolding live_in is_set
      live_same m = ap (λ x. ltb m g.header.modules && eqb x 1) (k.rest (g.header.entries + m) (omega (arith, l)))

      next : drop i (take size before) ≡ get_or after i 0 ∷ drop (i + 1) (take size before)
      next =
          let h : i < length (take size before) = omega (arith, l, length-take-le size before size_inside) in
          drop-cons (take size before) i 0 h ∙ ap (λ (x : ℕ). x ∷ drop (suc i) (take size before)) (get_or-take size before i 0 l ∙ sym (k.rest i (omega arith)))
          ∙ ap (λ (x : ℕ). get_or after i 0 ∷ drop x (take size before)) (sym (add-one i))

      module _ (b : Bool) (is : b ≡ (ltb i users || (splits && live_in g.header after (module_of_entry g (get_or after i 0))))) where
        is-final : b ≡ (ltb i users || test (get_or after i 0))
        unfolding is_final
        is-final = is ∙ ap (λ x. ltb i users || (splits && x)) (live_same (module_of_entry g (get_or after i 0)))

        pub keeping-more : (new : List ℕ) (count : ℕ) → b ≡ true → new ≡ set after n (get_or after i 0) → count ≡ n + 1 → Keeping g splits users before new count (i + 1)
        keeping-more new count y now counted = rw (now, counted) more
          where
            x : ℕ
            x = get_or after i 0

            there : n < length after
            there = omega (arith, k.front, l, k.same_length, size_inside)

            taken : take (n + 1) (set after n x) ≡ take n after ++ (x ∷ [])
            taken = ap (λ m. take m (set after n x)) (add-one n) ∙ take-suc-set after n x there

            left : List ℕ
            left = kept test (users - (i + 1)) (drop (i + 1) (take size before))

            goes_on_lem : take (n + 1) (set after n x) ++ left ≡ kept test users (take size before)
            goes_on_lem =
                ap (λ (xs : List ℕ). xs ++ left) taken ∙ append_assoc (take n after) (x ∷ []) left
                ∙ ap (λ (xs : List ℕ). take n after ++ xs) (sym (ap (λ (xs : List ℕ). kept test (users - i) xs) next ∙ kept_here test users i x (drop (i + 1) (take size before)) (sym is-final ∙ y)))
                ∙ k.on

            entry : (j : ℕ) → j < n + 1 → Dec (j ≡ n) → get_or (set after n x) j 0 < size
            entry j h (yes q) = rw (q, get_or-set_same after n x 0 there) entry_below
            entry j h (no q) = rw (get_or-set_other after n j x 0 q) (k.below j (omega (arith, h, q)))

            more : Keeping g splits users before (set after n x) (n + 1) (i + 1)
            more =
                record {
                  same_length = length-set after n x ∙ k.same_length;
                  front = omega (arith, k.front);
                  inside = omega (arith, l);
                  on = goes_on_lem;
                  rest = λ j h. get_or-set_other after n j x 0 (λ q. omega (arith, q, h, k.front)) ∙ k.rest j (omega (arith, h));
                  below = λ j h. entry j h (ℕ_discrete j n);
                }

        pub keeping-passed : (new : List ℕ) (count : ℕ) → b ≡ false → new ≡ after → count ≡ n → Keeping g splits users before new count (i + 1)
        keeping-passed new count y now counted = rw (now, counted) more
          where
            more : Keeping g splits users before after n (i + 1)
            more =
                record {
                  same_length = k.same_length;
                  front = omega (arith, k.front);
                  inside = omega (arith, l);
                  on =
                      ap (λ (xs : List ℕ). take n after ++ xs)
                      (sym (ap (λ (xs : List ℕ). kept test (users - i) xs) next ∙ kept-not test users i (get_or after i 0) (drop (i + 1) (take size before)) (sym is-final ∙ y)))
                      ∙ k.on;
                  rest = λ j h. k.rest j (omega (arith, h));
                  below = k.below;
                }

-- the row of final entries, as `entry_order::group` leaves it
module _ (g : Graph) (live : ℕ → Bool) (n : ℕ) (plan : List ℕ) (f : grouped (module_of_entry g) (take n plan) ≡ final_entries g live) (e : Entries g plan n) where
  pub finals_length : n ≡ length (final_entries g live)
  finals_length = sym (sym (ap length f) ∙ grouped-length (module_of_entry g) (take n plan) ∙ length-take-le n plan e.long)

  pub finals_row : (lent row : List ℕ) → row ≡ grouped (module_of_entry g) (take n plan) ++ drop n lent → row ≡ entries_row g live lent
  unfolding entries_row
  finals_row lent row is = is ∙ ap (λ (l : List ℕ). l ++ drop n lent) f ∙ ap (λ m. final_entries g live ++ drop m lent) finals_length
