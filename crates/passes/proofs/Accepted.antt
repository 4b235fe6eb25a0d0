-- What an accepted graph has: few helpers, and a runtime module that is a normal one.
use Prim.Native.Nat.{ℕ, ◌<◌, ◌≤◌}
use mathlib.Core.Path.{◌≡◌, refl}
use mathlib.Core.Bool.{Bool, true, false, false≢true}
use mathlib.Core.List.{List}
use borrow.Author.Tests.{ltb-true}
use lib.Dec.{ltb}
use Rattle.determine_side_effects.specs.rows_crate.Walk.{cells}
use Rattle.determine_side_effects.proofs.rows_crate.Cells.{then_got}
use Rattle.determine_side_effects.specs.graph_format_crate.declared.Header.{Header}
use Rattle.determine_side_effects.specs.graph_format_crate.Format.{header_rules, kind_of}
use Rattle.determine_side_effects.specs.graph_tables_crate.Tables.{header_in}
use Rattle.determine_side_effects.specs.graph_crate.Check.{graph_in, walked, runtime_normal, check_of}
use Rattle.determine_side_effects.specs.graph_crate.Loaded.{Loaded}
use Rattle.determine_side_effects.proofs.graph_crate.Checking.{few_helpers}
use Rattle.determine_side_effects.proofs.graph_crate.WellFormed.{accepted_is, runtime_is_normal}
use Rattle.determine_side_effects.specs.graph_access_crate.Names.{kind}
use Rattle.determine_side_effects.specs.graph_access_crate.Words.{module_of, normal}

module _ {numbers tables : List ℕ} (t : Loaded numbers tables) where
  pub helpers_few : (header_in numbers).helpers ≤ 32
  unfolding check_of walked
  helpers_few =
      let a = then_got (walked numbers) _ (accepted_is numbers t.accepted).1 in
      let b = then_got (cells header_rules numbers 0) _ a.2 in
      few_helpers numbers b.2

  its_runtime : (b : Bool) → ltb (header_in numbers).runtime (header_in numbers).modules ≡ b → ((header_in numbers).runtime < (header_in numbers).modules) × (normal (graph_in numbers) (header_in numbers).runtime ≡ true)
  unfolding runtime_normal graph_in normal kind module_of kind_of
  its_runtime true e = (ltb-true (header_in numbers).runtime (header_in numbers).modules e, rw (e, runtime_normal) at (runtime_is_normal numbers t.accepted))
  its_runtime false e = absurd (false≢true (rw (e, runtime_normal) at (runtime_is_normal numbers t.accepted)))

  pub runtime_there : ((header_in numbers).runtime < (header_in numbers).modules) × (normal (graph_in numbers) (header_in numbers).runtime ≡ true)
  runtime_there = its_runtime (ltb (header_in numbers).runtime (header_in numbers).modules) refl

  pub runtime_good : (h : Header) → h ≡ header_in numbers → (h.runtime < (header_in numbers).modules) × (normal (graph_in numbers) h.runtime ≡ true)
  runtime_good h e = rw e runtime_there
