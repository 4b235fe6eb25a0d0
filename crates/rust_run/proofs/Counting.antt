-- Over a whole round: `module_inclusion_changed` is set exactly if a module was included in it.
use Rattle.std.proofs.Common.{ℕ, Bool, List}
use Rattle.determine_side_effects.specs.graph_crate.Check.{Graph}
use Rattle.determine_side_effects.specs.graph_access_crate.Names.{entry_references, export_symbol, only}
use Rattle.determine_side_effects.specs.graph_access_crate.Words.{module_of}
use Rattle.determine_side_effects.specs.Effects.{last_verdicts}
use Rattle.rust_values.specs.Values.{Pair}
use Rattle.rust_engine.specs.Context.{Context, module_item, push}
use Rattle.rust_engine.specs.Engine.{enqueue_declaring_statements, push_symbol_and_check_cjs_bailout}
use Rattle.rust_engine.proofs.Inserting.{asks_push}
use Rattle.rust_engine.proofs.Forwarding.{asks_declaring}
use Rattle.rust_engine.proofs.Bailing.{asks_checked}
use Rattle.rust_engine.proofs.Changed.{Counted, counted_refl, counted_trans, enters_counted}
use Rattle.rust_order.specs.DynamicEntries.{entry_idx}
use Rattle.rust_run.specs.DynamicEntries as tries
use Rattle.rust_run.specs.Passes as passes
use Rattle.rust_run.specs.IncludeStatements as whole

module _ (g : Graph) where
  abbrev v : List ℕ
  v = last_verdicts g

  references_counted : (rows : List (List ℕ)) (c d : Context) → tries.References g v rows c d → Counted c d
  references_counted rows c d (tries.References.no_more _) = counted_refl c
  references_counted rows c d (tries.References.of_external row rows' _ _ n more) = references_counted rows' c d more
  references_counted rows c d (tries.References.of_normal row rows' _ c₁ c₂ _ n a b more) =
      counted_trans c c₁ d (enters_counted g c (enqueue_declaring_statements g (only row) c) c₁ (asks_declaring g v (only row) c).grown a)
      (counted_trans c₁ c₂ d (enters_counted g c₁ (push_symbol_and_check_cjs_bailout g (only row) 2 c₁) c₂ (asks_checked g (only row) 2 c₁).grown b) (references_counted rows' c₂ d more))

  entry_counted : (m : ℕ) (c d : Context) → tries.IncludesEntry g v m c d → Counted c d
  entry_counted m c d s =
      counted_trans c s.between d (references_counted (entry_references (module_of g m)) c s.between s.of_references)
      (enters_counted g s.between (push (module_item m) s.between) d (asks_push g v (module_item m) s.between).grown s.of_module)

  exports_counted : (rows : List (List ℕ)) (c d : Context) → passes.IncludesExports g v rows c d → Counted c d
  exports_counted rows c d (passes.IncludesExports.no_more _) = counted_refl c
  exports_counted rows c d (passes.IncludesExports.not_from_commonjs row rows' _ _ n more) = exports_counted rows' c d more
  exports_counted rows c d (passes.IncludesExports.from_commonjs row rows' _ c₁ _ n e more) =
      counted_trans c c₁ d (enters_counted g c (push_symbol_and_check_cjs_bailout g (export_symbol row) 1 c) c₁ (asks_checked g (export_symbol row) 1 c).grown e) (exports_counted rows' c₁ d more)

  bailouts_counted : (ms : List ℕ) (c d : Context) → passes.IncludesBailouts g v ms c d → Counted c d
  bailouts_counted ms c d (passes.IncludesBailouts.no_more _) = counted_refl c
  bailouts_counted ms c d (passes.IncludesBailouts.one m ms' order _ c₁ _ s x more) = counted_trans c c₁ d (exports_counted order c c₁ x) (bailouts_counted ms' c₁ d more)

  process_counted : (cycled : List ℕ) (e : ℕ) (c : Context) (dead : List Pair) (d : Context) (dead' : List Pair) (b : Bool) → tries.ProcessAndRetainDynamicEntry g v cycled e c dead d dead' b → Counted c d
  process_counted cycled e c dead d dead' b (tries.ProcessAndRetainDynamicEntry.is_dead ret n a) = counted_refl c
  process_counted cycled e c dead d dead' b (tries.ProcessAndRetainDynamicEntry.is_external a n) = counted_refl c
  process_counted cycled e c dead d dead' b (tries.ProcessAndRetainDynamicEntry.includes _ a n s) = entry_counted (entry_idx g e) c d s

  tries_counted : (cycled es : List ℕ) (r z : whole.Rounding) → whole.ProcessesDynamic g v cycled es r z → Counted r.context z.context
  tries_counted cycled es r z (whole.ProcessesDynamic.no_more _) = counted_refl r.context
  tries_counted cycled es r z (whole.ProcessesDynamic.was_included e es' _ _ a more) = tries_counted cycled es' r z more
  tries_counted cycled es r z (whole.ProcessesDynamic.processes e es' _ _ c dead b a p more) =
      counted_trans r.context c z.context (process_counted cycled e r.context r.dead c dead b p)
      (tries_counted cycled es' (whole.rounding c (whole.insert_if b (entry_idx g e) r.included) dead) z more)

  -- from the context that the round begins with
  pub round_counted : (cycled sorted ms : List ℕ) (b c : Context) (included : List ℕ) (dead : List Pair) (z : whole.Rounding) → passes.IncludeCjsBailoutExports g v ms b c
      → whole.ProcessesDynamic g v cycled sorted (whole.rounding c included dead) z → Counted b z.context
  round_counted cycled sorted ms b c included dead z x p =
      counted_trans b c z.context (bailouts_counted x.order b c x.includes) (tries_counted cycled sorted (whole.rounding c included dead) z p)
