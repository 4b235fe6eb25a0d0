-- The three handlers together.
use Rattle.std.proofs.Common.{◌≡◌, ℕ, ◌-◌, true, List, ◌∷◌}
use Rattle.determine_side_effects.specs.graph_crate.Check.{Graph}
use Rattle.determine_side_effects.specs.graph_access_crate.Words.{normal}
use Rattle.determine_side_effects.specs.facts_crate.Facts.{statement_fact, Good}
use Rattle.determine_side_effects.specs.Effects.{last_verdicts}
use Rattle.rust_values.specs.Values.{Pair}
use Rattle.rust_engine.specs.Context.{Context, WorkItem, module_item, symbol_item, statement_item, rest}
use Rattle.rust_engine.specs.Engine.{Orders, Reorders, handle_include_symbol, handle}
use Rattle.rust_engine.proofs.Kept.{fact_of_item, Settled}
use Rattle.rust_engine.proofs.Theorem.{Over, ClosedHere, Within, HasRows, good_over, Onward, Handlers}
use Rattle.rust_engine.proofs.Asking.{grown_rows}
use Rattle.rust_engine.proofs.Handling.{Links}
use Rattle.rust_engine.proofs.HandlingUses.{symbol_grown, symbol-within, symbol-settles}
use Rattle.rust_engine.proofs.HandlingStatements.{statement_rows, statement-within, statement-settles}
use Rattle.rust_engine.proofs.HandlingModules.{module_rows, module-within, module-settles}

module _ (g : Graph) (links : Links g) where
  abbrev v : List ℕ
  v = last_verdicts g

  -- where a good statement's module is normal
  pub handlers : ((m i : ℕ) → Good g (statement_fact m i) → normal g m ≡ true) → Handlers g
  unfolding handle
  handlers own = record { handle_rows = rows; handle_within = within; handle_settles = settles }
    where
      rows : (order : Orders) → Reorders order → (i : WorkItem) (c : Context) → HasRows c (handle g v order i c)
      rows order o (module_item m) c = module_rows g order o m c
      rows order o (symbol_item s x) c = grown_rows g v c (handle_include_symbol g v s x c) (symbol_grown g s x c)
      rows order o (statement_item m i) c = statement_rows g m i c

      within : (S : Over) → ClosedHere g S → (order : Orders) → Reorders order → (i : WorkItem) (c : Context) → HasRows S.base c
          → S.choice (fact_of_item i) → Within g S c → Within g S (handle g v order i c)
      within S k order o (module_item m) c r h w = module-within g links S k order o m c r h w
      within S k order o (symbol_item s x) c r h w = symbol-within g links S k s x c h w
      within S k order o (statement_item m i) c r h w = statement-within g links S k m i c r h w

      settles : (taken : List ℕ) (base : Context) (order : Orders) → Reorders order
          → (i : WorkItem) (is : List WorkItem) (c : Context) (uses : List Pair)
          → c.pending ≡ i ∷ is → Within g (good_over g base) c → Settled g v taken base uses c → Onward g v taken base uses c (handle g v order i (rest is c))
      settles taken base order o (module_item m) is c uses e w h = module-settles g links taken base uses order o c m is e w h
      settles taken base order o (symbol_item s x) is c uses e w h = symbol-settles g links taken base uses c s x is e w h
      settles taken base order o (statement_item m i) is c uses e w h = statement-settles g links own taken base uses c m i is e w h
