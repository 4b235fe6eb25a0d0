-- The plan's first words: the numbers of all entries, and at last the two parts.
use Prim.Native.Nat.{ℕ, ◌+◌, ◌-◌, ◌<◌, ◌≤◌}
use mathlib.Core.Path.{◌≡◌, refl, ap, ◌∙◌, sym, subst}
use mathlib.Core.Bool.{Bool, true, false}
use mathlib.Core.List.{List, ◌++◌, append_assoc}
use native.Mathlib.Omega.{arith}
use borrow.Author.Tests.{ltb-true, ltb-false}
use lib.Dec.{ltb}
use lib.ListN.{length, get_or, take, drop, length-append}
use lib.Seq.{length-take-le, length_front, take_at, drop_at, drop-drop, drop-append-add, get_or-take, get_or-drop}
use Rattle.facts.specs.graph_format_crate.declared.Header.{Header}
use Rattle.facts.specs.graph_tables_crate.Tables.{header_in}
use Rattle.facts.specs.graph_crate.Check.{Graph, graph_in}
use Rattle.facts.specs.graph_access_crate.Words.{tabulate}
use Rattle.keep_record.specs.Lines.{elem}
use Rattle.keep_record.proofs.Rows.{tabulate-length}
use Rattle.entry_order.specs.Order.{those, grouped, module_of_entry, is_dynamic, is_user_defined, grouped_entries, user_entries, dynamic_entries}
use Rattle.entry_order.specs.Chains.{Entries}
use Rattle.entry_order.specs.Plan.{Untouched}
use Rattle.entry_order.proofs.Entered.{below_at, numbers_below, entries_length, entries_below, parts-length, parts_below}

-- a row whose first n numbers were written anew
module _ (p xs₀ xs : List ℕ) (n : ℕ) (l : length p ≡ n) (fits : n ≤ length xs₀) (w : xs ≡ p ++ drop n xs₀) where
  front_long : length xs ≡ length xs₀
  front_long = ap length w ∙ length_front xs₀ p n (l ∙ sym (length-take-le n xs₀ fits))

  front-take : take n xs ≡ p
  front-take = ap (λ l. take n l) w ∙ take_at p (drop n xs₀) n l

  front-drop : drop n xs ≡ drop n xs₀
  front-drop = ap (λ l. drop n l) w ∙ drop_at p (drop n xs₀) n l

  front_entries : (g : Graph) → ((y : ℕ) → elem y p ≡ true → y < g.header.entries) → Entries g xs n
  front_entries g b =
      let f = front_long in
      record {
        long = omega (arith, f, fits);
        below = λ i h. subst (λ (x : ℕ). x < g.header.entries) (ap (λ q. get_or q i 0) (sym front-take) ∙ get_or-take n xs i 0 h) (below_at g.header.entries p b i (omega (arith, l, h)));
      }

  front_untouched : Untouched 0 n xs₀ xs
  front_untouched = record { same_length = front_long; same = λ i out. go i out (ltb i n) refl }
    where
      go : (i : ℕ) → (0 ≤ i → i < n → ⊥) → (b : Bool) → ltb i n ≡ b → get_or xs i 0 ≡ get_or xs₀ i 0
      go i out true e = absurd (out (omega arith) (ltb-true i n e))
      go i out false e =
          let h = ltb-false i n e in
          let q : n + (i - n) ≡ i = omega (arith, h) in
          ap (λ (j : ℕ). get_or xs j 0) (sym q)
          ∙ sym (get_or-drop n xs (i - n) 0)
          ∙ ap (λ r. get_or r (i - n) 0) front-drop
          ∙ get_or-drop n xs₀ (i - n) 0
          ∙ ap (λ (j : ℕ). get_or xs₀ j 0) q

module _ (g : Graph) (n : ℕ) (is : n ≡ g.header.entries) (plan₀ plan₁ : List ℕ) (fits : n ≤ length plan₀) (w₁ : plan₁ ≡ tabulate (λ e. e) 0 n ++ drop n plan₀) where
  abbrev all : List ℕ
  all = tabulate (λ e. e) 0 n

  all-length : length all ≡ n
  all-length = tabulate-length (λ (e : ℕ). e) 0 n

  pub numbered : Entries g plan₁ n
  numbered = front_entries all plan₀ plan₁ n all-length fits w₁ g (λ y e. let b = numbers_below n y e in omega (arith, b, is))

  module _ (list₀ list₁ : List ℕ) (room : n ≤ length list₀) (w₂ : list₁ ≡ grouped (module_of_entry g) (take n plan₁) ++ drop n list₀) where
    all-grouped : grouped (module_of_entry g) (take n plan₁) ≡ grouped_entries g
    unfolding grouped_entries
    all-grouped = ap (λ l. grouped (module_of_entry g) l) (front-take all plan₀ plan₁ n all-length fits w₁) ∙ ap (λ (k : ℕ). grouped (module_of_entry g) (tabulate (λ (e : ℕ). e) 0 k)) is

    list-is : list₁ ≡ grouped_entries g ++ drop n list₀
    list-is = w₂ ∙ ap (λ l. l ++ drop n list₀) all-grouped

    length-is : length (grouped_entries g) ≡ n
    length-is = entries_length g ∙ sym is

    listed : take n list₁ ≡ grouped_entries g
    listed = front-take (grouped_entries g) list₀ list₁ n length-is room list-is

    pub list-entries : Entries g list₁ n
    list-entries = front_entries (grouped_entries g) list₀ list₁ n length-is room list-is g (entries_below g)

    users : those (is_user_defined g) (take n list₁) ≡ user_entries g
    unfolding user_entries
    users = ap (λ l. those (is_user_defined g) l) listed

    dynamics : those (is_dynamic g) (take n list₁) ≡ dynamic_entries g
    unfolding dynamic_entries
    dynamics = ap (λ l. those (is_dynamic g) l) listed

    pub user-room : 0 + length (those (is_user_defined g) (take n list₁)) ≤ length plan₁
    user-room =
        let u = ap length users in
        let p = parts-length g in
        let f = front_long all plan₀ plan₁ n all-length fits w₁ in
        omega (arith, u, p, f, fits, is)

    module _ (r : ℕ) (plan₂ : List ℕ) (w₃ : (r ≡ 0 + length (those (is_user_defined g) (take n list₁))) × (plan₂ ≡ take 0 plan₁ ++ (those (is_user_defined g) (take n list₁) ++ drop r plan₁))) where
      r-is : r ≡ length (user_entries g)
      r-is = let l = ap length users in let q = w₃.0 in omega (arith, l, q)

      plan-users : plan₂ ≡ user_entries g ++ drop r plan₁
      plan-users = w₃.1 ∙ ap (λ l. l ++ drop r plan₁) users

      pub dynamic-room : r + length (those (is_dynamic g) (take n list₁)) ≤ length plan₂
      dynamic-room =
          let d = ap length dynamics in
          let p = parts-length g in
          let q = r-is in
          let f = front_long all plan₀ plan₁ n all-length fits w₁ in
          let m = front_long (user_entries g) plan₁ plan₂ r (sym q) (omega (arith, q, p, f, fits, is)) plan-users in
          omega (arith, d, p, q, f, m, fits, is)

      module _ (s : ℕ) (plan₃ : List ℕ) (w₄ : (s ≡ r + length (those (is_dynamic g) (take n list₁))) × (plan₃ ≡ take r plan₂ ++ (those (is_dynamic g) (take n list₁) ++ drop s plan₂))) where
        both_length : length (user_entries g ++ dynamic_entries g) ≡ n
        both_length = length-append (user_entries g) (dynamic_entries g) ∙ parts-length g ∙ sym is

        s-is : s ≡ n
        s-is = let l = ap length dynamics in let q = r-is in let p = parts-length g in let e = w₄.0 in omega (arith, l, q, p, e, is)

        behind : drop n plan₂ ≡ drop n plan₀
        behind =
            let q = r-is in
            let p = parts-length g in
            let at : n ≡ length (user_entries g) + (n - r) = omega (arith, q, p, is) in
            let sum : r + (n - r) ≡ n = omega (arith, q, p, is) in
            ap (λ (k : ℕ). drop k plan₂) at
            ∙ ap (λ l. drop (length (user_entries g) + (n - r)) l) plan-users
            ∙ drop-append-add (user_entries g) (drop r plan₁) (n - r)
            ∙ drop-drop (n - r) r plan₁
            ∙ ap (λ (k : ℕ). drop k plan₁) sum
            ∙ front-drop all plan₀ plan₁ n all-length fits w₁

        plan-is : plan₃ ≡ (user_entries g ++ dynamic_entries g) ++ drop n plan₀
        plan-is =
            w₄.1
            ∙ ap (λ l. l ++ (those (is_dynamic g) (take n list₁) ++ drop s plan₂)) (ap (λ l. take r l) plan-users ∙ take_at (user_entries g) (drop r plan₁) r (sym r-is))
            ∙ ap (λ l. user_entries g ++ (l ++ drop s plan₂)) dynamics
            ∙ ap (λ (k : ℕ). user_entries g ++ (dynamic_entries g ++ drop k plan₂)) s-is
            ∙ ap (λ l. user_entries g ++ (dynamic_entries g ++ l)) behind
            ∙ sym (append_assoc (user_entries g) (dynamic_entries g) (drop n plan₀))

        pub split-is : (r ≡ length (user_entries g)) × (r ≤ n) × (take n plan₃ ≡ user_entries g ++ dynamic_entries g)
        split-is = let q = r-is in let p = parts-length g in (q, omega (arith, q, p, is), front-take (user_entries g ++ dynamic_entries g) plan₀ plan₃ n both_length fits plan-is)

        pub split_rest : Untouched 0 n plan₀ plan₃ × Entries g plan₃ n
        split_rest =
            (front_untouched (user_entries g ++ dynamic_entries g) plan₀ plan₃ n both_length fits plan-is, front_entries (user_entries g ++ dynamic_entries g) plan₀ plan₃ n both_length fits plan-is g (parts_below g))

-- the number of entries, as the code has it
pub count_is : (numbers : List ℕ) (h : Header) → h ≡ header_in numbers → h.entries ≡ (graph_in numbers).header.entries
unfolding graph_in
count_is numbers h e = ap (λ (x : Header). x.entries) e

pub count_room : (numbers : List ℕ) (h : Header) → h ≡ header_in numbers → (a b c : ℕ)
    → ((header_in numbers).modules + (header_in numbers).entries ≤ a) × ((header_in numbers).entries ≤ b) × ((header_in numbers).entries ≤ c)
    → ((header_in numbers).modules + h.entries ≤ a) × (h.entries ≤ b) × (h.entries ≤ c)
count_room numbers h e a b c r = rw e r

pub count_turned : (numbers : List ℕ) (h : Header) → h ≡ header_in numbers → (r : ℕ) (plan₀ plan : List ℕ)
    → (r ≡ length (user_entries (graph_in numbers))) × (r ≤ h.entries) × (take h.entries plan ≡ user_entries (graph_in numbers) ++ dynamic_entries (graph_in numbers))
    → Untouched 0 h.entries plan₀ plan × Entries (graph_in numbers) plan h.entries
    → ((r ≡ length (user_entries (graph_in numbers))) × (r ≤ (header_in numbers).entries) × (take (header_in numbers).entries plan ≡ user_entries (graph_in numbers) ++ dynamic_entries (graph_in numbers)))
    × (Untouched 0 (header_in numbers).entries plan₀ plan × Entries (graph_in numbers) plan (header_in numbers).entries)
count_turned numbers h e r plan₀ plan a b =
    subst
    (λ (x : Header). ((r ≡ length (user_entries (graph_in numbers))) × (r ≤ x.entries) × (take x.entries plan ≡ user_entries (graph_in numbers) ++ dynamic_entries (graph_in numbers))) × (Untouched 0 x.entries plan₀ plan × Entries (graph_in numbers) plan x.entries))
    e
    (a, b)
