-- The plan's part with the dynamic entries.
use Prim.Native.Nat.{ℕ, ◌+◌, ◌-◌, ◌<◌, ◌≤◌}
use mathlib.Core.Path.{◌≡◌, ap, ◌∙◌, sym}
use mathlib.Core.List.{List, ◌++◌}
use native.Mathlib.Omega.{arith}
use lib.ListN.{length, get_or, take, drop, length-append, length-drop}
use lib.Seq.{drop_at, take-add, length-take-le, get_or-drop}
use Rattle.determine_side_effects.specs.graph_format_crate.declared.Header.{Header}
use Rattle.determine_side_effects.specs.graph_tables_crate.Tables.{header_in}
use Rattle.determine_side_effects.specs.graph_crate.Check.{Graph, graph_in}
use Rattle.entry_order.specs.Order.{user_entries, dynamic_entries}
use Rattle.entry_order.specs.Chains.{Entries}
use Rattle.entry_order.specs.Plan.{plan_size}
use Rattle.dynamic_entries.specs.Parts.{Parted, Cycled}

module _ (g : Graph) (plan : List ℕ) (users : ℕ) (p : Parted g plan users) where
  abbrev E : ℕ
  E = g.header.entries

  pub behind_users : drop users (take g.header.entries plan) ≡ dynamic_entries g
  behind_users = ap (λ l. drop users l) p.order ∙ drop_at (user_entries g) (dynamic_entries g) users (sym p.users_are)

  pub users_long : users ≤ length plan
  users_long = let l = p.are_entries.long in let i = p.inside in omega (arith, l, i)

  -- the same part, as it is lent on
  pub part_is : take (g.header.entries - users) (drop users plan) ≡ dynamic_entries g
  part_is =
      let i = p.inside in
      let q : users + (E - users) ≡ E = omega (arith, i) in
      let parts : take E plan ≡ take users plan ++ take (E - users) (drop users plan) = ap (λ (k : ℕ). take k plan) (sym q) ∙ take-add users (E - users) plan in
      sym (drop_at (take users plan) (take (E - users) (drop users plan)) users (length-take-le users plan users_long)) ∙ ap (λ l. drop users l) (sym parts) ∙ behind_users

  pub dynamic_count : users + length (dynamic_entries g) ≡ g.header.entries
  dynamic_count =
      let l = ap length p.order ∙ length-append (user_entries g) (dynamic_entries g) in
      let k = length-take-le E plan p.are_entries.long in
      let u = p.users_are in
      omega (arith, l, k, u)

  pub part_entries : Entries g (drop users plan) (g.header.entries - users)
  part_entries =
      let l = p.are_entries.long in
      let i = p.inside in
      record {
        long = omega (arith, l, i, length-drop users plan);
        below = λ j h. rw (get_or-drop users plan j 0) (p.are_entries.below (users + j) (omega (arith, h, i)));
      }

-- the same with the header h that was read
module _ (numbers plan : List ℕ) (users : ℕ) (p : Parted (graph_in numbers) plan users) (h : Header) (is : h ≡ header_in numbers) where
  pub users_inside : users ≤ h.entries
  unfolding graph_in
  users_inside = rw is p.inside

  pub part_read : Entries (graph_in numbers) (drop users plan) (h.entries - users)
  unfolding graph_in
  part_read = rw is (part_entries (graph_in numbers) plan users p)

pub plan_fits : (numbers plan : List ℕ) → Cycled (graph_in numbers) plan → (h : Header) → h ≡ header_in numbers → plan_size h < 18446744073709551616
unfolding graph_in
plan_fits numbers plan c h is = let l = c.long in let f = c.few in rw is (omega (arith, l, f))

pub part_below : (numbers plan : List ℕ) (users : ℕ) → Parted (graph_in numbers) plan users → (h : Header) → h ≡ header_in numbers
    → (h.entries - users ≤ length (drop users plan)) × ((i : ℕ) → i < h.entries - users → get_or (drop users plan) i 0 < (header_in numbers).entries)
unfolding graph_in
part_below numbers plan users p h is = let e = part_read numbers plan users p h is in (e.long, e.below)
