-- The queue after an item: a handler takes nothing from it, and a use that is handled puts each use that it gives on it, whether that was handled before
-- or not. So a circle of uses never leaves it (`never_on_circles` of `rust_returns`).
use Rattle.std.proofs.Common.{ℕ, ◌<◌, Bool, true, false, not, List, length, get_or}
use Rattle.determine_side_effects.specs.graph_crate.Check.{Graph}
use Rattle.determine_side_effects.specs.graph_access_crate.Words.{normal}
use Rattle.determine_side_effects.specs.facts_crate.Facts.{use_fact}
use Rattle.determine_side_effects.specs.Effects.{last_verdicts}
use Rattle.keep_rules.specs.Rules.{gives}
use Rattle.keep_record.specs.Lines.{elem}
use Rattle.closed_choices.specs.Choice.{nothing_given}
use Rattle.rust_values.specs.Values.{has_pair, In}
use Rattle.rust_engine.specs.Context.{Context, WorkItem, module_item, symbol_item, statement_item, set_module, set_statement, set_changed, set_deferred}
use Rattle.rust_engine.specs.Engine.{Orders, Reorders, drain_deferred, module_body, handle_include_module, handle_include_symbol, handle_include_statement, handle}
use Rattle.rust_engine.proofs.Asking.{QueuedUse, of_queue, grown_refl}
use Rattle.rust_engine.proofs.Symbols.{asks-symbol}
use Rattle.rust_engine.proofs.Statements.{statement_body, asks_statement}
use Rattle.rust_engine.proofs.Modules.{asks-module}
use Rattle.rust_engine.proofs.Handling.{quiet}
use Rattle.rust_engine.proofs.Links.{links}
use Rattle.rust_engine.proofs.HandlingUses.{symbol_grown}
use Rattle.rust_engine.proofs.Waiting.{asks-joined}

module _ (g : Graph) where
  abbrev v : List ℕ
  v = last_verdicts g

  -- a handler takes nothing from the queue
  abbrev pub Onto : Context → Context → Type 0
  Onto c d = (j : WorkItem) → In j c.pending → In j d.pending

  statement_queue : (m i : ℕ) (c : Context) → Onto c (handle_include_statement g v m i c)
  unfolding handle_include_statement set_statement
  statement_queue m i c = go (normal g m) (has_pair m i c.statements)
    where
      go : (a b : Bool) → Onto c (elim a [ true ↦ elim b [ true ↦ c | false ↦ statement_body g m i (set_statement m i c) ] | false ↦ c ])
      go true true j h = h
      go true false j h = (asks_statement g m i (set_statement m i c)).grown.pending-sub j h
      go false b j h = h

  module_queue : (order : Orders) → Reorders order → (m : ℕ) (c : Context) → Onto c (handle_include_module g v order m c)
  unfolding handle_include_module set_deferred set_changed set_module
  module_queue order o m c = go (normal g m) (elem m c.modules) (not (quiet g m))
    where
      y : Context
      y = drain_deferred g m (set_changed true (set_module m c))

      joined : Onto c y
      joined j h = (asks-joined g m c).grown.pending-sub j h

      go : (a b q : Bool) → Onto c (elim a [ true ↦ elim b [ true ↦ c | false ↦ elim q [ true ↦ module_body g v order m y | false ↦ y ] ] | false ↦ c ])
      go true true q j h = h
      go true false true j h = (asks-module g order o m y).grown.pending-sub j (joined j h)
      go true false false j h = joined j h
      go false b q j h = h

  pub handle_queue : (order : Orders) → Reorders order → (i : WorkItem) (c : Context) → Onto c (handle g v order i c)
  unfolding handle
  handle_queue order o (module_item m) c = module_queue order o m c
  handle_queue order o (symbol_item s x) c = (symbol_grown g s x c).pending-sub
  handle_queue order o (statement_item m i) c = statement_queue m i c

  -- a use that is handled puts each use that it gives on the queue
  pub use_queued : (s x : ℕ) (c : Context) (k : ℕ) → k < length (gives g v (use_fact s x))
      → QueuedUse g v (handle_include_symbol g v s x c) (get_or (gives g v (use_fact s x)) k nothing_given).fact
  use_queued s x c k u =
      let d = handle_include_symbol g v s x c in
      ((links g).symbol_to (of_queue g v d) s x (λ q. (asks-symbol g v s x c q).pushes d (grown_refl g v d))).0 k u
