-- What is known of a good fact of a known kind.
use Prim.Native.Nat.{ℕ, ◌<◌}
use mathlib.Core.Path.{◌≡◌, subst}
use mathlib.Core.Bool.{true}
use mathlib.Core.List.{List}
use lib.ListN.{length}
use Rattle.determine_side_effects.specs.index_crate.declared.ModuleIdx.{ModuleIdx}
use Rattle.determine_side_effects.specs.index_crate.declared.StmtIdx.{StmtIdx}
use Rattle.determine_side_effects.specs.index_crate.declared.SymbolIdx.{SymbolIdx}
use Rattle.determine_side_effects.specs.facts_crate.declared.Reason.{Reason}
use Rattle.determine_side_effects.specs.facts_crate.declared.Fact.{Fact}
use Rattle.determine_side_effects.specs.facts_crate.declared.Fact.TheVariants.{Module, Statement, Use, CheckedUse}
use Rattle.determine_side_effects.specs.facts_crate.Facts.{Good}
use Rattle.determine_side_effects.specs.graph_tables_crate.Tables.{header_in}
use Rattle.determine_side_effects.specs.graph_crate.Check.{graph_in}
use Rattle.determine_side_effects.specs.graph_access_crate.Words.{statement_list, normal}

module _ (numbers : List ℕ) (f : Fact) (h : Good (graph_in numbers) f) where
  pub good_module : (m : ModuleIdx) → f ≡ Module m → (m.0 < (header_in numbers).modules) × (normal (graph_in numbers) m.0 ≡ true)
  unfolding graph_in
  good_module m e = subst (λ x. Good (graph_in numbers) x) e h

  pub good_statement : (m : ModuleIdx) (i : StmtIdx) → f ≡ Statement m i → (m.0 < (header_in numbers).modules) × (i.0 < length (statement_list (graph_in numbers) m.0))
  unfolding graph_in
  good_statement m i e = subst (λ x. Good (graph_in numbers) x) e h

  pub good_use : (s : SymbolIdx) (x : Reason) → f ≡ Use s x → (s.0 < (header_in numbers).symbols) × (0 < x.bits) × (x.bits < 32)
  unfolding graph_in
  good_use s x e = subst (λ y. Good (graph_in numbers) y) e h

  pub good_checked : (s : SymbolIdx) (x : Reason) → f ≡ CheckedUse s x → (s.0 < (header_in numbers).symbols) × (0 < x.bits) × (x.bits < 32)
  unfolding graph_in
  good_checked s x e = subst (λ y. Good (graph_in numbers) y) e h
