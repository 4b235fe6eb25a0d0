-- K2: the statements that an included module keeps by itself.
use Prim.Native.Nat.{ℕ}
use mathlib.Core.Path.{◌≡◌, refl, ap, ◌∙◌, sym}
use mathlib.Core.Bool.{Bool, true, false, ◌&&◌, ◌||◌, not}
use mathlib.Core.Logic.{◌⊎◌, inl, inr, ⊎_elim}
use mathlib.Core.List.{List}
use borrow.Author.Tests.{eq-eqb, ne_eqb}
use lib.ListN.{get_or}
use Rattle.determine_side_effects.specs.graph_crate.Check.{Graph}
use Rattle.determine_side_effects.specs.graph_access_crate.Names.{flags, statement_bits}
use Rattle.determine_side_effects.specs.facts_crate.Facts.{statement_fact}
use Rattle.determine_side_effects.specs.graph_access_crate.Words.{flag, option, module_of, statement_of}
use Rattle.determine_side_effects.specs.Effects.{has_effects}
use Rattle.on_demand.specs.Demand.{on_demand, gated}
use Rattle.keep_rules.specs.declared.Candidate.TheVariants.{Gives, Nothing}
use Rattle.keep_rules.specs.Rules.{when, quiet_runtime, has_eval, effect_bit, swept_shaken, swept_whole, swept, sweep_candidate}

module _ (g : Graph) (v : List ℕ) (m r : ℕ) (e : r ≡ g.header.runtime) where
  pub another_module : (m ≡ r → ⊥) → false ≡ quiet_runtime g v m
  unfolding quiet_runtime
  another_module n = rw (ne_eqb m g.header.runtime (λ i. n (i ∙ sym e)), quiet_runtime)

  pub the_runtime : {b : Bool} → m ≡ r → b ≡ has_effects v m → not b ≡ quiet_runtime g v m
  unfolding quiet_runtime
  the_runtime i h = ap not h ∙ rw (eq-eqb m g.header.runtime (i ∙ e), quiet_runtime)

module _ (g : Graph) (m x : ℕ) (e : x ≡ flags (module_of g m)) where
  here : {b : Bool} → flag 1 x ≡ b → flag 1 (flags (module_of g m)) ≡ b
  here h = ap (flag 1) (sym e) ∙ h

  pub bit_plain : flag 1 x ≡ false → 0 ≡ effect_bit g m
  unfolding effect_bit
  bit_plain a = rw (here a, effect_bit)

  pub bit_known : flag 1 x ≡ true → option g 2 ≡ false → 0 ≡ effect_bit g m
  unfolding effect_bit
  bit_known a b = rw (here a, b, effect_bit)

  pub bit_unknown : flag 1 x ≡ true → option g 2 ≡ true → 1 ≡ effect_bit g m
  unfolding effect_bit
  bit_unknown a b = rw (here a, b, effect_bit)

shaken : Bool → Bool → Bool → Bool → Bool → Bool
shaken effect demand gate eval declares = (effect && not (demand && gate)) || (eval && declares)

free_kept : (a b c d e : Bool) → a ≡ true → b ≡ false → true ≡ shaken a b c d e
unfolding shaken
free_kept a b c d e p q = rw (p, q, shaken)

ungated_kept : (a b c d e : Bool) → a ≡ true → c ≡ false → true ≡ shaken a b c d e
unfolding shaken
ungated_kept a true c d e p q = rw (p, q, shaken)
ungated_kept a false c d e p q = rw (p, shaken)

gated_out : (a b c d e : Bool) → b ≡ true → c ≡ true → d && e ≡ shaken a b c d e
unfolding shaken
gated_out true b c d e p q = rw (p, q, shaken)
gated_out false b c d e p q = refl

plain_out : (a b c d e : Bool) → a ≡ false → d && e ≡ shaken a b c d e
unfolding shaken
plain_out a b c d e p = rw (p, shaken)

-- the bits are the statement's, the flags the module's
module _ (g : Graph) (v : List ℕ) (m i bits : ℕ) (e : bits ≡ statement_bits (statement_of g m i)) where
  same : shaken (flag (effect_bit g m) bits) (on_demand g v m) (gated g m i) (has_eval g m) (flag 4 bits) ≡ swept_shaken g v m i
  unfolding swept_shaken shaken
  same = ap (λ b. shaken (flag (effect_bit g m) b) (on_demand g v m) (gated g m i) (has_eval g m) (flag 4 b)) e

  pub swept_free : flag (effect_bit g m) bits ≡ true → on_demand g v m ≡ false → true ≡ swept_shaken g v m i
  swept_free a b = free_kept _ (on_demand g v m) (gated g m i) (has_eval g m) (flag 4 bits) a b ∙ same

  pub swept_ungated : flag (effect_bit g m) bits ≡ true → gated g m i ≡ false → true ≡ swept_shaken g v m i
  swept_ungated a b = ungated_kept _ (on_demand g v m) (gated g m i) (has_eval g m) (flag 4 bits) a b ∙ same

  module _ (out : ((on_demand g v m ≡ true) × (gated g m i ≡ true)) ⊎ (flag (effect_bit g m) bits ≡ false)) (x : ℕ) (f : x ≡ flags (module_of g m)) where
    rest : flag 0 x && flag 4 bits ≡ swept_shaken g v m i
    unfolding has_eval
    rest =
        ap (λ y. flag 0 y && flag 4 bits) f
        ∙ (⊎_elim (λ w. gated_out (flag (effect_bit g m) bits) _ _ (has_eval g m) (flag 4 bits) w.0 w.1) (λ w. plain_out _ (on_demand g v m) (gated g m i) (has_eval g m) (flag 4 bits) w) out ∙ same)

    pub swept-not : flag 0 x ≡ false → false ≡ swept_shaken g v m i
    swept-not a = rw a at rest

    pub swept-declares : flag 0 x ≡ true → flag 4 bits ≡ swept_shaken g v m i
    swept-declares a = rw a at rest

module _ (g : Graph) (m i bits : ℕ) (e : bits ≡ statement_bits (statement_of g m i)) where
  pub whole_free : flag 2 bits ≡ false → true ≡ swept_whole g m i
  unfolding swept_whole
  whole_free a = let f : flag 2 (statement_bits (statement_of g m i)) ≡ false = ap (flag 2) (sym e) ∙ a in rw (f, swept_whole)

  pub whole_effect : flag 2 bits ≡ true → flag 0 bits ≡ swept_whole g m i
  unfolding swept_whole
  whole_effect a = let f : flag 2 (statement_bits (statement_of g m i)) ≡ true = ap (flag 2) (sym e) ∙ a in ap (flag 0) e ∙ rw (f, swept_whole)

module _ (g : Graph) (v : List ℕ) (m i : ℕ) where
  pub never_first : i ≡ 0 → false ≡ swept g v m i
  unfolding swept
  never_first z = rw (eq-eqb i 0 z, swept)

  module _ (n : i ≡ 0 → ⊥) where
    pub swept-shaken : {x : ℕ} {r : Bool} → option g 0 ≡ true → x ≡ get_or v m 0 → (x ≡ 4 → ⊥) → r ≡ swept_shaken g v m i → r ≡ swept g v m i
    unfolding swept
    swept-shaken a f b h = h ∙ rw (ne_eqb i 0 n, a, ne_eqb (get_or v m 0) 4 (λ z. b (f ∙ z)), swept)

    pub swept_all : {r : Bool} → (get_or v m 0 ≡ 4) ⊎ (option g 0 ≡ false) → r ≡ swept_whole g m i → r ≡ swept g v m i
    unfolding swept
    swept_all {r} w h = h ∙ go (option g 0) refl w
      where
        go : (b : Bool) → option g 0 ≡ b → (get_or v m 0 ≡ 4) ⊎ (option g 0 ≡ false) → swept_whole g m i ≡ swept g v m i
        go false p w = rw (ne_eqb i 0 n, p, swept)
        go true p (inl z) = rw (ne_eqb i 0 n, p, eq-eqb (get_or v m 0) 4 z, swept)
        go true p (inr z) = rw (ne_eqb i 0 n, z, swept)

  pub swept_kept : swept g v m i ≡ true → Gives (statement_fact m i) ≡ sweep_candidate g v m i
  unfolding sweep_candidate when
  swept_kept e = rw (e, sweep_candidate, when)

  pub swept_left : swept g v m i ≡ false → Nothing ≡ sweep_candidate g v m i
  unfolding sweep_candidate when
  swept_left e = rw (e, sweep_candidate, when)
