-- The order of the entries changes no verdict, no rule and nothing that an entry or a bailout starts.
use Prim.Native.Nat.{ℕ, ◌<◌}
use mathlib.Core.Path.{◌≡◌, refl, ap, ◌∙◌}
use mathlib.Core.Bool.{Bool, true, ◌&&◌}
use mathlib.Core.List.{List}
use lib.Dec.{eqb, ltb}
use lib.ListN.{length, get_or}
use Rattle.determine_side_effects.specs.rows_crate.Walk.{Item, no_item}
use Rattle.determine_side_effects.specs.graph_crate.Check.{Graph}
use Rattle.determine_side_effects.specs.graph_access_crate.Names.{entry_module, entry_kind}
use Rattle.determine_side_effects.specs.graph_access_crate.Words.{some, option}
use Rattle.determine_side_effects.specs.facts_crate.declared.Fact.{Fact}
use Rattle.determine_side_effects.specs.Effects.{last_verdicts}
use Rattle.on_demand.specs.Demand.{user_entry}
use Rattle.keep_rules.specs.Rules.{gives}
use Rattle.entry_starts.specs.Starts.{module_starts, user_starts}
use Rattle.cycles.proofs.Members.{same_test}
use Rattle.other_options.proofs.Changed as changing
use Rattle.other_options.proofs.Verdicts as verdicts
use Rattle.other_options.proofs.Rules as rules
use Rattle.settled_runs.specs.Order.{with_entries}
use Rattle.settled_runs.proofs.Running.{some_place, some_at}

module _ (g : Graph) (es : List Item)
    (forth : (e : ℕ) → e < length g.entries → (d : ℕ) × (d < length es) × (get_or es d no_item ≡ get_or g.entries e no_item))
    (back : (d : ℕ) → d < length es → (e : ℕ) × (e < length g.entries) × (get_or g.entries e no_item ≡ get_or es d no_item)) where
  abbrev h : Graph
  h = with_entries g es

  abbrev o : ℕ
  o = g.header.options

  pub verdicts_same : last_verdicts h ≡ last_verdicts g
  verdicts_same = verdicts.lasts_same g o es

  pub module_starts_same : (m : ℕ) → module_starts h m ≡ module_starts g m
  module_starts_same m = changing.module_starts_same g o es m

  pub user_starts_same : (m : ℕ) → user_starts h m ≡ user_starts g m
  user_starts_same m = changing.user_starts_same g o es m

  -- whether a module is that of a user-defined entry does not depend on the order
  user_same : (m : ℕ) → user_entry h m ≡ user_entry g m
  unfolding user_entry
  user_same m = same_test (some test es) (some test g.entries) there here
    where
      test : Item → Bool
      test e = eqb (entry_module e) m && ltb (entry_kind e) 2

      there : some test es ≡ true → some test g.entries ≡ true
      there e =
          let k = some_place test es no_item e in
          let b = back k.0 k.1 in
          some_at test g.entries no_item b.0 b.1 (ap test b.2 ∙ k.2)

      here : some test g.entries ≡ true → some test es ≡ true
      here e =
          let k = some_place test g.entries no_item e in
          let b = forth k.0 k.1 in
          some_at test es no_item b.0 b.1 (ap test b.2 ∙ k.2)

  -- the options are
  bits_same : (j : ℕ) → j < 6 → option h j ≡ option g j
  unfolding option
  bits_same j u = refl

  pub gives_same : (f : Fact) → gives h (last_verdicts h) f ≡ gives g (last_verdicts g) f
  gives_same f = ap (λ (v : List ℕ). gives h v f) verdicts_same ∙ rules.gives_same g o es bits_same user_same (last_verdicts g) f
