-- The loop over the entries that exempts records.
use Prim.Native.Nat.{ℕ, ◌+◌, ◌-◌, ◌<◌, ◌≤◌}
use mathlib.Core.Path.{◌≡◌, refl, ap, ◌∙◌, sym}
use mathlib.Core.Bool.{Bool, true, false, not, ◌||◌, ◌&&◌}
use mathlib.Core.List.{List}
use native.Mathlib.Omega.{arith}
use borrow.Author.Tests.{eq-eqb, ne_eqb, lt-ltb}
use lib.Dec.{eqb}
use lib.ListN.{length, get_or}
use Rattle.bit_row.specs.Row.{bit_at}
use Rattle.determine_side_effects.specs.graph_format_crate.declared.Header.{Header}
use Rattle.determine_side_effects.specs.graph_tables_crate.Tables.{header_in}
use Rattle.determine_side_effects.specs.graph_crate.Check.{Graph}
use Rattle.determine_side_effects.specs.graph_access_crate.Names.{related, entry_kind, entry_module}
use Rattle.determine_side_effects.specs.graph_access_crate.Words.{some, tabulate, entry_of}
use Rattle.determine_side_effects.specs.facts_crate.declared.Fact.{Fact}
use Rattle.answer_rows.proofs.Tabulated.{some_or, some_over}
use Rattle.entry_order.specs.Order.{module_of_entry, is_dynamic}
use Rattle.entry_order.specs.Plan.{live_at, is_set, live_in}
use Rattle.dead_records.specs.Dead.{exempts, exempted_by, exempted}
use Rattle.dead_records.proofs.Exempting.{take_turns}

-- whether a module is live, by its word
module _ (numbers plan : List ℕ) (h : Header) (is : h ≡ header_in numbers) (at : ℕ) (there : at ≡ live_at h) (m : ℕ) (l : m < (header_in numbers).modules) where
  word_is : get_or plan (at + m) 0 ≡ get_or plan (live_at (header_in numbers) + m) 0
  word_is = ap (λ k. get_or plan (k + m) 0) (there ∙ ap (λ (x : Header). x.entries) is)

  pub live_word : get_or plan (at + m) 0 ≡ 1 → live_in (header_in numbers) plan m ≡ true
  unfolding live_in is_set
  live_word w = rw (lt-ltb m (header_in numbers).modules l, eq-eqb (get_or plan (live_at (header_in numbers) + m) 0) 1 (sym word_is ∙ w))

  pub word_tells : eqb (get_or plan (at + m) 0) 1 ≡ live_in (header_in numbers) plan m
  unfolding live_in is_set
  word_tells = rw (lt-ltb m (header_in numbers).modules l) (ap (λ w. eqb w 1) word_is)

  pub unlive_word : (get_or plan (at + m) 0 ≡ 1 → ⊥) → live_in (header_in numbers) plan m ≡ false
  unfolding live_in is_set
  unlive_word w = rw (lt-ltb m (header_in numbers).modules l, ne_eqb (get_or plan (live_at (header_in numbers) + m) 0) 1 (λ q. w (word_is ∙ q)))

and_left : (a b d : Bool) → (a && (b && d)) ≡ ((a && b) && d)
and_left true b d = refl
and_left false b d = refl

module _ (g : Graph) (kept : Fact → Bool) (live : ℕ → Bool) where
  unfoldable pub left : ℕ → ℕ → Bool
  left j e = some (exempted_by g kept live j) (tabulate (λ x. x) e (g.header.entries - e))

  left_all : (j : ℕ) → left j 0 ≡ exempted g kept live j
  unfolding left exempted
  left_all j = let z : g.header.entries - 0 ≡ g.header.entries = omega arith in ap (λ n. some (exempted_by g kept live j) (tabulate (λ x. x) 0 n)) z

  left_next : (j e : ℕ) → e < g.header.entries → left j e ≡ (exempted_by g kept live j e || left j (e + 1))
  unfolding left
  left_next j e l = some_or (exempted_by g kept live j) (λ x. x) g.header.entries e l

  left_over : (j e : ℕ) → g.header.entries ≤ e → left j e ≡ false
  unfolding left
  left_over j e l = some_over (exempted_by g kept live j) (λ x. x) g.header.entries e l

pub record Clearing (g : Graph) (kept : Fact → Bool) (live : ℕ → Bool) (before bits : List ℕ) (e : ℕ) : Type 0 where
  pub same_length : length bits ≡ length before
  pub inside : e ≤ g.header.entries
  pub on : (j : ℕ) → (not (left g kept live j e) && bit_at bits j) ≡ (not (exempted g kept live j) && bit_at before j)

module _ (g : Graph) (kept : Fact → Bool) (live : ℕ → Bool) (before : List ℕ) where
  pub clearing_none : Clearing g kept live before before 0
  clearing_none = record { same_length = refl; inside = omega arith; on = λ j. ap (λ b. not b && bit_at before j) (left_all g kept live j) }

  pub clearing_done : (bits : List ℕ) (e : ℕ) → Clearing g kept live before bits e → g.header.entries ≤ e → (j : ℕ) → bit_at bits j ≡ (not (exempted g kept live j) && bit_at before j)
  clearing_done bits e b l j = sym (ap (λ x. not x && bit_at bits j) (left_over g kept live j e l)) ∙ b.on j

  module _ (bits : List ℕ) (e : ℕ) (b : Clearing g kept live before bits e) (l : e < g.header.entries) where
    step : (set after : List ℕ) (its : ℕ → Bool) → ((j : ℕ) → exempted_by g kept live j e ≡ its j) → length set ≡ length bits → ((j : ℕ) → bit_at set j ≡ (not (its j) && bit_at bits j)) → after ≡ set
        → Clearing g kept live before after (e + 1)
    step set after its is same to now =
        record {
          same_length = ap length now ∙ same ∙ b.same_length;
          inside = omega (arith, l);
          on = λ j.
              let rest = left g kept live j (e + 1) in
              ap (λ (x : List ℕ). not rest && bit_at x j) now ∙ ap (λ x. not rest && x) (to j) ∙ take_turns rest (its j) (bit_at bits j)
              ∙ ap (λ x. not (x || rest) && bit_at bits j) (sym (is j)) ∙ ap (λ x. not x && bit_at bits j) (sym (left_next g kept live j e l)) ∙ b.on j;
        }

    module _ (test : Bool) (is : test ≡ (is_dynamic g e && live (module_of_entry g e))) where
      pub clearing-passed : (after : List ℕ) → test ≡ false → after ≡ bits → Clearing g kept live before after (e + 1)
      unfolding exempted_by
      clearing-passed after n now =
          step bits after (λ j. false)
          (λ j. and_left (is_dynamic g e) (live (module_of_entry g e)) (some (exempts g kept j) (related (entry_of g e))) ∙ ap (λ b. b && some (exempts g kept j) (related (entry_of g e))) (sym is ∙ n)) refl (λ j. refl) now

      pub clearing-live : (set after : List ℕ) → test ≡ true → length set ≡ length bits → ((j : ℕ) → bit_at set j ≡ (not (some (exempts g kept j) (related (entry_of g e))) && bit_at bits j)) → after ≡ set → Clearing g kept live before after (e + 1)
      unfolding exempted_by
      clearing-live set after n same to now =
          step set after (λ j. some (exempts g kept j) (related (entry_of g e)))
          (λ j. and_left (is_dynamic g e) (live (module_of_entry g e)) (some (exempts g kept j) (related (entry_of g e))) ∙ ap (λ b. b && some (exempts g kept j) (related (entry_of g e))) (sym is ∙ n)) same to now

-- a dynamic entry of a live module, by the tests in turn
module _ (g : Graph) (live : ℕ → Bool) (e kind : ℕ) (q : kind ≡ entry_kind (entry_of g e)) where
  pub no_dynamic : (kind ≡ 2 → ⊥) → false ≡ (is_dynamic g e && live (module_of_entry g e))
  unfolding is_dynamic
  no_dynamic n = rw (ne_eqb (entry_kind (entry_of g e)) 2 (λ z. n (q ∙ z)))

  pub dynamic_live : kind ≡ 2 → (m : ℕ) → m ≡ entry_module (entry_of g e) → (b : Bool) → b ≡ live m → b ≡ (is_dynamic g e && live (module_of_entry g e))
  unfolding is_dynamic module_of_entry
  dynamic_live d m z b w =
      rw (eq-eqb (entry_kind (entry_of g e)) 2 (sym q ∙ d)) (w ∙ ap (λ x. live x) z)
