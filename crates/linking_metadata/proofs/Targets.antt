-- A symbol's target.
use Prim.Native.Nat.{ℕ, ◌-◌}
use mathlib.Core.Path.{◌≡◌, refl, ap, ◌∙◌, sym}
use mathlib.Core.Logic.{◌≢◌}
use borrow.Author.Tests.{eq-eqb, ne_eqb}
use Rattle.graph_access.specs.graph_crate.Check.{Graph}
use Rattle.graph_access.specs.Names.{alias_namespace}
use Rattle.graph_access.specs.Words.{root_of, symbol_of}
use Rattle.linking_metadata.specs.Namespaces.{target_of}

module _ (g : Graph) (s r a : ℕ) (is : r ≡ root_of g.symbols s) (of : a ≡ alias_namespace (symbol_of g r)) where
  alias : a ≡ alias_namespace (symbol_of g (root_of g.symbols s))
  alias = of ∙ ap (λ i. alias_namespace (symbol_of g i)) is

  pub no_alias : a ≡ 0 → r ≡ target_of g s
  unfolding target_of
  no_alias z = let e = eq-eqb a 0 z in let f = alias in rw (sym f, e, target_of) is

  pub some_alias : a ≢ 0 → a - 1 ≡ target_of g s
  unfolding target_of
  some_alias z = let e = ne_eqb a 0 z in let f = alias in rw (sym f, e, target_of, sym f) refl
