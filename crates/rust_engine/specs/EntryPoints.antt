-- T11 for the engine: whatever the Rust has included when its queue is empty is what the smallest closed choice that holds the starts so far
-- shows. A context may be made over rows that an earlier one has filled, its base (000:454): then closed but for the base.
use Rattle.std.specs.Prelude.{◌≡◌, ℕ, zero, suc, ◌+◌, ◌-◌, ◌*◌, ◌<◌, Bool, true, false, ◌⊎◌, ◌↔◌, List, [], ◌∷◌, ◌++◌, map, length, get_or, slice_index_or}
use Rattle.determine_side_effects.specs.graph_crate.Check.{Graph}
use Rattle.determine_side_effects.specs.graph_access_crate.Names.{owner, declaring_statements, only}
use Rattle.determine_side_effects.specs.graph_access_crate.Words.{symbol_of, normal}
use Rattle.determine_side_effects.specs.facts_crate.declared.Fact.{Fact}
use Rattle.determine_side_effects.specs.facts_crate.declared.Fact.TheVariants.{Module, Statement, Use, CheckedUse, Forward, Bailout}
use Rattle.determine_side_effects.specs.facts_crate.Facts.{module_fact, statement_fact, use_fact, checked_fact, forward_fact, bailout_fact}
use Rattle.determine_side_effects.specs.Effects.{last_verdicts}
use Rattle.keep_rules.specs.Rules.{gives}
use Rattle.keep_record.specs.Lines.{elem}
use Rattle.answer_rows.specs.declared.Row.{Row}
use Rattle.answer_rows.specs.declared.Row.TheVariants.{Modules, Statements, Used, External, Json, NamespaceReason}
use Rattle.answer_rows.specs.Shown.{shows}
use Rattle.closed_choices.specs.Choice.{Choice, HoldsStarts, nothing_given}
use Rattle.rust_values.specs.Values.{Pair, pair, In}
use Rattle.rust_engine.specs.Context.{Context, new_context, WorkItem, module_item, symbol_item, statement_item, push, insert_bailout, take_bailouts, set_changed}
use Rattle.rust_engine.specs.Tables.{owner_of}
use Rattle.rust_engine.specs.Engine.{Drains, enqueue_declaring_statements, push_symbol_and_check_cjs_bailout}

-- The course -----------------------------------------------------------------------------------------------------------------------------

-- the statements that `include_declaring_statements` starts from
unfoldable pub declared_facts : Graph → ℕ → List Fact
declared_facts g s = elim (normal g (owner_of g s)) [ true ↦ map (λ row. statement_fact (owner_of g s) (only row)) (declaring_statements (symbol_of g s)) | false ↦ [] ]

-- The contexts between the public entry points of 000, from a new one over base b: what was started from, the latest first, and the bailouts
-- that rounds have taken. Each entry point has returned.
pub data Reached (g : Graph) (v : List ℕ) (b : Context) : List Fact → List ℕ → Context → Type 0 where
  at_first : Reached g v b [] [] (new_context b)
  -- context.bailout_cjs_tree_shaking_modules.insert (000:324)
  bails_out : (ss : List Fact) (taken : List ℕ) (c : Context) (m : ℕ) → Reached g v b ss taken c → Reached g v b (bailout_fact m ∷ ss) taken (insert_bailout m c)
  -- include_declaring_statements (000:497-502)
  include_declaring : (ss : List Fact) (taken : List ℕ) (c d : Context) (s : ℕ) → Reached g v b ss taken c → Drains g v (enqueue_declaring_statements g s c) d
      → Reached g v b (declared_facts g s ++ ss) taken d
  -- include_symbol_and_check_cjs_bailout (000:201-210)
  include_checked : (ss : List Fact) (taken : List ℕ) (c d : Context) (s x : ℕ) → Reached g v b ss taken c → Drains g v (push_symbol_and_check_cjs_bailout g s x c) d
      → Reached g v b (checked_fact s x ∷ ss) taken d
  -- include_symbol (000:677-686), include_module (000:538-543), include_statement (000:1012-1021)
  include_symbol : (ss : List Fact) (taken : List ℕ) (c d : Context) (s x : ℕ) → Reached g v b ss taken c → Drains g v (push (symbol_item s x) c) d
      → Reached g v b (use_fact s x ∷ ss) taken d
  include_module : (ss : List Fact) (taken : List ℕ) (c d : Context) (m : ℕ) → Reached g v b ss taken c → Drains g v (push (module_item m) c) d
      → Reached g v b (module_fact m ∷ ss) taken d
  include_statement : (ss : List Fact) (taken : List ℕ) (c d : Context) (m i : ℕ) → Reached g v b ss taken c → Drains g v (push (statement_item m i) c) d
      → Reached g v b (statement_fact m i ∷ ss) taken d
  -- std::mem::take (000:351), context.module_inclusion_changed = false (000:345)
  takes : (ss : List Fact) (taken : List ℕ) (c : Context) → Reached g v b ss taken c → Reached g v b ss (c.bailouts ++ taken) (take_bailouts c)
  begins_round : (ss : List Fact) (taken : List ℕ) (c : Context) → Reached g v b ss taken c → Reached g v b ss taken (set_changed false c)

-- Closed but for a base ------------------------------------------------------------------------------------------------------------------

-- the facts of rows: their modules and statements
abbrev pub InRows : Context → Choice
InRows b (Module m) = In m.0 b.modules
InRows b (Statement m i) = In (pair m.0 i.0) b.statements
InRows b (Use s x) = ⊥
InRows b (CheckedUse s x) = ⊥
InRows b (Forward s) = ⊥
InRows b (Bailout m) = ⊥

-- K1 joins any two of the choice; K2 to K14 go from the facts that are not in the base
pub record ClosedOver (g : Graph) (B C : Choice) : Type 0 where
  pub by_K1 : (m s i : ℕ) → C (module_fact m) → C (forward_fact s) → owner (symbol_of g s) ≡ m → i < length (declaring_statements (symbol_of g s))
      → C (statement_fact m (only (slice_index_or (declaring_statements (symbol_of g s)) i [])))
  pub by_K2_to_K14 : (f : Fact) (k : ℕ) → C f → (B f → ⊥) → k < length (gives g (last_verdicts g) f) → C (get_or (gives g (last_verdicts g) f) k nothing_given).fact

-- it has the base and the starts, is closed so, and lies in every other such choice
pub record SmallestOver (g : Graph) (B : Choice) (starts : List Fact) (C : Choice) : Type 1 where
  pub holds_base : (f : Fact) → B f → C f
  pub holds_starts : HoldsStarts starts C
  pub closed : ClosedOver g B C
  pub inside_each : (D : Choice) → ((f : Fact) → B f → D f) → HoldsStarts starts D → ClosedOver g B D → (f : Fact) → C f → D f

-- What a choice shows --------------------------------------------------------------------------------------------------------------------

-- some fact of the choice shows bit j of the row
abbrev pub ShownBy : Graph → Choice → Row → ℕ → Type 0
ShownBy g C row j = (f : Fact) × C f × (elem j (shows g row f) ≡ true)

-- a reason of module m, 1 Unknown or 2 ReExportDynamicExports, that a fact of the choice shows
abbrev pub ReasonBy : Graph → Choice → ℕ → ℕ → Type 0
ReasonBy g C m r = ((r ≡ 1) × ShownBy g C NamespaceReason (8 * m)) ⊎ ((r ≡ 2) × ShownBy g C NamespaceReason (8 * m + 1))

-- the facts of a choice that are not in the base
abbrev pub Beyond : Choice → Choice → Choice
Beyond B C f = C f × (B f → ⊥)

-- The sets of a context over base b are what the choice shows beyond what they were lent as, and nothing else. (A reason's bit 8 m is Unknown
-- of module m, 8 m + 1 its ReExportDynamicExports.)
pub record Exactly (g : Graph) (b : Context) (C : Choice) (taken : List ℕ) (c : Context) : Type 0 where
  pub modules_are : (m : ℕ) → In m c.modules ↔ C (module_fact m)
  pub statements_are : (m i : ℕ) → In (pair m i) c.statements ↔ C (statement_fact m i)
  pub used_are : (s : ℕ) → In s c.used ↔ (In s b.used ⊎ ShownBy g (Beyond (InRows b) C) Used s)
  pub external_are : (s : ℕ) → In s c.external ↔ (In s b.external ⊎ ShownBy g (Beyond (InRows b) C) External s)
  pub json_are : (m s : ℕ) → In (pair m s) c.json ↔ ((m ≡ owner (symbol_of g s)) × ShownBy g (Beyond (InRows b) C) Json s)
  pub reasons_are : (m r : ℕ) → In (pair m r) c.reasons ↔ (In (pair m r) b.reasons ⊎ ReasonBy g (Beyond (InRows b) C) m r)
  pub bailouts_are : (m : ℕ) → (In m c.bailouts ⊎ In m taken) ↔ C (bailout_fact m)
