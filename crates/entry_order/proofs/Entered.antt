-- The entries in the order of the run are the graph's entries.
use Prim.Native.Nat.{ℕ, ◌+◌, ◌<◌}
use mathlib.Core.Path.{◌≡◌, refl, ap, ◌∙◌, sym}
use mathlib.Core.Bool.{Bool, true, false, ◌||◌}
use mathlib.Core.List.{List, ◌++◌}
use native.Mathlib.Omega.{arith}
use lib.ListN.{length, get_or}
use Rattle.facts.specs.graph_crate.Check.{Graph}
use Rattle.facts.specs.graph_access_crate.Words.{tabulate}
use Rattle.keep_record.specs.Lines.{elem}
use Rattle.keep_record.proofs.Adding.{elem_at, elem-append}
use Rattle.keep_record.proofs.Counting.{elem_place}
use Rattle.keep_record.proofs.Rows.{tabulate-length, tabulate-at}
use Rattle.entry_order.specs.Order.{module_of_entry, is_dynamic, is_user_defined, grouped_entries, user_entries, dynamic_entries}
use Rattle.entry_order.proofs.Those.{those_in, those_parts}
use Rattle.entry_order.proofs.Grouped.{grouped-length, grouped_in}

-- by place in a list
pub below_at : (n : ℕ) (xs : List ℕ) → ((y : ℕ) → elem y xs ≡ true → y < n) → (i : ℕ) → i < length xs → get_or xs i 0 < n
below_at n xs b i h = b (get_or xs i 0) (elem_at xs i h)

-- numbers from 0 on
pub numbers_below : (n y : ℕ) → elem y (tabulate (λ e. e) 0 n) ≡ true → y < n
numbers_below n y e =
    let p = elem_place y (tabulate (λ (j : ℕ). j) 0 n) e in
    let l = tabulate-length (λ (j : ℕ). j) 0 n in
    let h : p.0 < n = omega (arith, l, p.1) in
    let q = p.2 ∙ tabulate-at (λ (j : ℕ). j) 0 n p.0 0 h in
    omega (arith, q, h)

module _ (g : Graph) where
  pub entries_length : length (grouped_entries g) ≡ g.header.entries
  unfolding grouped_entries
  entries_length = grouped-length (module_of_entry g) (tabulate (λ (e : ℕ). e) 0 g.header.entries) ∙ tabulate-length (λ (e : ℕ). e) 0 g.header.entries

  pub entries_below : (y : ℕ) → elem y (grouped_entries g) ≡ true → y < g.header.entries
  unfolding grouped_entries
  entries_below y e = numbers_below g.header.entries y (grouped_in (module_of_entry g) y (tabulate (λ (e : ℕ). e) 0 g.header.entries) e)

  -- the two parts together
  pub parts-length : length (user_entries g) + length (dynamic_entries g) ≡ g.header.entries
  unfolding user_entries dynamic_entries is_user_defined
  parts-length = let p = those_parts (is_dynamic g) (grouped_entries g) in let l = entries_length in omega (arith, p, l)

  pub user_below : (y : ℕ) → elem y (user_entries g) ≡ true → y < g.header.entries
  unfolding user_entries
  user_below y e = entries_below y (those_in (is_user_defined g) y (grouped_entries g) e)

  pub dynamic_below : (y : ℕ) → elem y (dynamic_entries g) ≡ true → y < g.header.entries
  unfolding dynamic_entries
  dynamic_below y e = entries_below y (those_in (is_dynamic g) y (grouped_entries g) e)

  pub parts_below : (y : ℕ) → elem y (user_entries g ++ dynamic_entries g) ≡ true → y < g.header.entries
  parts_below y e = go (elem y (user_entries g)) refl
    where
      two : (elem y (user_entries g) || elem y (dynamic_entries g)) ≡ true
      two = sym (elem-append y (user_entries g) (dynamic_entries g)) ∙ e

      go : (b : Bool) → elem y (user_entries g) ≡ b → y < g.header.entries
      go true u = user_below y u
      go false u = dynamic_below y (sym (ap (λ b. b || elem y (dynamic_entries g)) u) ∙ two)

  -- by place
  pub user_at : (i : ℕ) → i < length (user_entries g) → get_or (user_entries g) i 0 < g.header.entries
  user_at = below_at g.header.entries (user_entries g) user_below

  pub dynamic_at : (i : ℕ) → i < length (dynamic_entries g) → get_or (dynamic_entries g) i 0 < g.header.entries
  dynamic_at = below_at g.header.entries (dynamic_entries g) dynamic_below
