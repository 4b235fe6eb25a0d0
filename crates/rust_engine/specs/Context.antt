-- `IncludeContext` of include_statements.rs (000), and what its functions do to it. A `&mut IncludeContext` is a Context before and one
-- after; a set is the list of what was inserted, asked by `elem`; `c ▷ f` is the statement f after what was done to c.
use Rattle.std.specs.Prelude.{ℕ, Bool, true, false, List, [], ◌∷◌}
use Rattle.rust_values.specs.Values.{Pair, pair}

-- A unit of inclusion work (000:171-179)
pub data WorkItem : Type 0 where
  module_item : ℕ → WorkItem
  symbol_item : ℕ → ℕ → WorkItem
  statement_item : ℕ → ℕ → WorkItem

-- IncludeContext (000:64-116)
pub record Context : Type 0 where
  -- work queue, the top first (000:115)
  pub pending : List WorkItem
  -- `is_module_included_vec`
  pub modules : List ℕ
  -- `is_included_vec`
  pub statements : List Pair
  -- `used_symbol_refs_builder`
  pub used : List ℕ
  -- `used_external_symbols`
  pub external : List ℕ
  -- `module_namespace_included_reason`: (module, 1 Unknown or 2 ReExportDynamicExports)
  pub reasons : List Pair
  -- `json_module_none_self_reference_included_symbol`: (module, symbol)
  pub json : List Pair
  -- `bailout_cjs_tree_shaking_modules`
  pub bailouts : List ℕ
  -- `body_demand_swept`
  pub swept : List ℕ
  -- `deferred_forwarding_refs`, keyed by the symbol's owner (000:534); each key's in the order of first insertion
  pub deferred : List ℕ
  -- `module_inclusion_changed`
  pub changed : Bool

-- `IncludeContext::new` (000:120-163) over the rows that it borrows: the module and statement bits, the used and the external symbols and the
-- namespace reasons are as they were lent, its own sets are empty.
unfoldable pub new_context : Context → Context
new_context b = record { pending = []; modules = b.modules; statements = b.statements; used = b.used; external = b.external; reasons = b.reasons; json = []; bailouts = []; swept = []; deferred = []; changed = false }

-- over empty rows (000:265-309)
abbrev pub empty : Context
empty = record { pending = []; modules = []; statements = []; used = []; external = []; reasons = []; json = []; bailouts = []; swept = []; deferred = []; changed = false }

-- ctx.pending.push
unfoldable pub push : WorkItem → Context → Context
push i c = record { pending = i ∷ c.pending; modules = c.modules; statements = c.statements; used = c.used; external = c.external; reasons = c.reasons; json = c.json; bailouts = c.bailouts; swept = c.swept; deferred = c.deferred; changed = c.changed }

-- the queue after a pop
unfoldable pub rest : List WorkItem → Context → Context
rest is c = record { pending = is; modules = c.modules; statements = c.statements; used = c.used; external = c.external; reasons = c.reasons; json = c.json; bailouts = c.bailouts; swept = c.swept; deferred = c.deferred; changed = c.changed }

-- set_bit of a module, of a statement
unfoldable pub set_module : ℕ → Context → Context
set_module m c = record { pending = c.pending; modules = m ∷ c.modules; statements = c.statements; used = c.used; external = c.external; reasons = c.reasons; json = c.json; bailouts = c.bailouts; swept = c.swept; deferred = c.deferred; changed = c.changed }

unfoldable pub set_statement : ℕ → ℕ → Context → Context
set_statement m i c = record { pending = c.pending; modules = c.modules; statements = pair m i ∷ c.statements; used = c.used; external = c.external; reasons = c.reasons; json = c.json; bailouts = c.bailouts; swept = c.swept; deferred = c.deferred; changed = c.changed }

-- insertions
unfoldable pub insert_used : ℕ → Context → Context
insert_used s c = record { pending = c.pending; modules = c.modules; statements = c.statements; used = s ∷ c.used; external = c.external; reasons = c.reasons; json = c.json; bailouts = c.bailouts; swept = c.swept; deferred = c.deferred; changed = c.changed }

unfoldable pub insert_external : ℕ → Context → Context
insert_external s c = record { pending = c.pending; modules = c.modules; statements = c.statements; used = c.used; external = s ∷ c.external; reasons = c.reasons; json = c.json; bailouts = c.bailouts; swept = c.swept; deferred = c.deferred; changed = c.changed }

unfoldable pub insert_reason : ℕ → ℕ → Context → Context
insert_reason m b c = record { pending = c.pending; modules = c.modules; statements = c.statements; used = c.used; external = c.external; reasons = pair m b ∷ c.reasons; json = c.json; bailouts = c.bailouts; swept = c.swept; deferred = c.deferred; changed = c.changed }

unfoldable pub insert_json : ℕ → ℕ → Context → Context
insert_json m s c = record { pending = c.pending; modules = c.modules; statements = c.statements; used = c.used; external = c.external; reasons = c.reasons; json = pair m s ∷ c.json; bailouts = c.bailouts; swept = c.swept; deferred = c.deferred; changed = c.changed }

unfoldable pub insert_bailout : ℕ → Context → Context
insert_bailout m c = record { pending = c.pending; modules = c.modules; statements = c.statements; used = c.used; external = c.external; reasons = c.reasons; json = c.json; bailouts = m ∷ c.bailouts; swept = c.swept; deferred = c.deferred; changed = c.changed }

-- std::mem::take (000:351)
unfoldable pub take_bailouts : Context → Context
take_bailouts c = record { pending = c.pending; modules = c.modules; statements = c.statements; used = c.used; external = c.external; reasons = c.reasons; json = c.json; bailouts = []; swept = c.swept; deferred = c.deferred; changed = c.changed }

unfoldable pub insert_swept : ℕ → Context → Context
insert_swept m c = record { pending = c.pending; modules = c.modules; statements = c.statements; used = c.used; external = c.external; reasons = c.reasons; json = c.json; bailouts = c.bailouts; swept = m ∷ c.swept; deferred = c.deferred; changed = c.changed }

unfoldable pub set_deferred : List ℕ → Context → Context
set_deferred ss c = record { pending = c.pending; modules = c.modules; statements = c.statements; used = c.used; external = c.external; reasons = c.reasons; json = c.json; bailouts = c.bailouts; swept = c.swept; deferred = ss; changed = c.changed }

unfoldable pub set_changed : Bool → Context → Context
set_changed b c = record { pending = c.pending; modules = c.modules; statements = c.statements; used = c.used; external = c.external; reasons = c.reasons; json = c.json; bailouts = c.bailouts; swept = c.swept; deferred = c.deferred; changed = b }

infixl 20 ◌▷◌
abbrev pub ◌▷◌ : Context → (Context → Context) → Context
c ▷ f = f c

abbrev pub when : Bool → (Context → Context) → Context → Context
when b f c = elim b [ true ↦ f c | false ↦ c ]

-- .iter().for_each
unfoldable pub for_each : {A : Type 0} → (A → Context → Context) → List A → Context → Context
for_each f [] c = c
for_each f (x ∷ xs) c = for_each f xs (f x c)
