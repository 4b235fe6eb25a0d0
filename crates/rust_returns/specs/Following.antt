-- Everything chosen that the relation leaves open: the hash orders, which are the hasher's and may differ from run to run, and petgraph's components.
-- Which derivation goes by these choices.
use Rattle.std.specs.Prelude.{ℕ, ◌≡◌, List, [], Bool, false}
use Rattle.determine_side_effects.specs.graph_crate.Check.{Graph}
use Rattle.determine_side_effects.specs.graph_access_crate.Names.{resolved_exports, entry_references}
use Rattle.determine_side_effects.specs.graph_access_crate.Words.{flag, tabulate, module_of}
use Rattle.rust_values.specs.Values.{Pair, SameMembers, filter}
use Rattle.rust_engine.specs.Context.{Context, WorkItem, rest, module_item, push, take_bailouts, set_changed, new_context, empty}
use Rattle.rust_engine.specs.Engine.{Orders, Reorders, Drains, returns, pops, handle}
use Rattle.rust_order.specs.DynamicEntries.{entry_idx, SortDynamicEntriesByTopologicalOrder}
use Rattle.rust_run.specs.DynamicEntries.{References, IncludesEntry, ProcessAndRetainDynamicEntry}
use Rattle.rust_run.specs.Passes.{IncludesExports, IncludesBailouts, collect_depended_runtime_helpers, IncludesHelpers, IncludeRuntimeSymbol}
use Rattle.rust_run.specs.IncludeStatements.{user_defined_entries, dynamic_entries, IncludesUserDefined, Rounding, rounding, insert_if, ProcessesDynamic, Round, Rounds, Outcome, Returns}

-- an order for each walk over a hash set or map that pushes items, from what is at hand: at a pop, of a module's exports, of the bailouts that a round
-- takes; of helpers; and the entries sorted, by any components that are right. That the same context gets the same order takes nothing away (docs/DECISIONS.md, "All orders
-- chosen at once").
pub record Choosing (g : Graph) : Type 0 where
  pub at_pop : Context → WorkItem → Orders
  pub at_pop_any : (c : Context) (i : WorkItem) → Reorders (at_pop c i)
  pub exports : Context → ℕ → List (List ℕ)
  pub exports_any : (c : Context) (m : ℕ) → SameMembers (exports c m) (resolved_exports (module_of g m))
  pub bailouts : Context → List ℕ → List ℕ
  pub bailouts_any : (c : Context) (ms : List ℕ) → SameMembers (bailouts c ms) ms
  pub helpers : ℕ → List ℕ
  pub helpers_any : (word : ℕ) → SameMembers (helpers word) (filter (λ h. flag h word) (tabulate (λ h. h) 0 g.header.helpers))
  pub sorted : List ℕ
  pub cycled : List ℕ
  pub sorts : SortDynamicEntriesByTopologicalOrder g (dynamic_entries g) sorted cycled

-- a derivation goes by them
module _ (g : Graph) (v : List ℕ) (ch : Choosing g) where
  abbrev pub DrainsBy : (c d : Context) → Drains g v c d → Type 0
  DrainsBy c d (returns _ e) = Unit {0}
  DrainsBy c d (pops _ _ i is order o e more) = (order ≡ ch.at_pop c i) × DrainsBy (handle g v order i (rest is c)) d more

  abbrev pub ReferencesBy : (rows : List (List ℕ)) (c d : Context) → References g v rows c d → Type 0
  ReferencesBy rows c d (References.no_more _) = Unit {0}
  ReferencesBy rows c d (References.of_external row rows' _ _ n more) = ReferencesBy rows' c d more
  ReferencesBy rows c d (References.of_normal row rows' _ c₁ c₂ _ n x y more) = DrainsBy _ c₁ x × (DrainsBy _ c₂ y × ReferencesBy rows' c₂ d more)

  abbrev pub EntryBy : (m : ℕ) (c d : Context) → IncludesEntry g v m c d → Type 0
  EntryBy m c d x = ReferencesBy (entry_references (module_of g m)) c x.between x.of_references × DrainsBy (push (module_item m) x.between) d x.of_module

  abbrev pub UsersBy : (es : List ℕ) (c d : Context) → IncludesUserDefined g v es c d → Type 0
  UsersBy es c d (IncludesUserDefined.no_more _) = Unit {0}
  UsersBy es c d (IncludesUserDefined.of_external e es' _ _ n more) = UsersBy es' c d more
  UsersBy es c d (IncludesUserDefined.of_normal e es' _ c₁ _ n x more) = EntryBy (entry_idx g e) _ c₁ x × UsersBy es' c₁ d more

  abbrev pub ExportsBy : (rows : List (List ℕ)) (c d : Context) → IncludesExports g v rows c d → Type 0
  ExportsBy rows c d (IncludesExports.no_more _) = Unit {0}
  ExportsBy rows c d (IncludesExports.not_from_commonjs row rows' _ _ n more) = ExportsBy rows' c d more
  ExportsBy rows c d (IncludesExports.from_commonjs row rows' _ c₁ _ n x more) = DrainsBy _ c₁ x × ExportsBy rows' c₁ d more

  abbrev pub BailoutsBy : (ms : List ℕ) (c d : Context) → IncludesBailouts g v ms c d → Type 0
  BailoutsBy ms c d (IncludesBailouts.no_more _) = Unit {0}
  BailoutsBy ms c d (IncludesBailouts.one m ms' order _ c₁ _ s x more) = (order ≡ ch.exports c m) × (ExportsBy order c c₁ x × BailoutsBy ms' c₁ d more)

  abbrev pub TryBy : (cycled : List ℕ) (e : ℕ) (c : Context) (dead : List Pair) (d : Context) (dead' : List Pair) (b : Bool)
      → ProcessAndRetainDynamicEntry g v cycled e c dead d dead' b → Type 0
  TryBy cycled e c dead d dead' b (ProcessAndRetainDynamicEntry.is_dead ret n a) = Unit {0}
  TryBy cycled e c dead d dead' b (ProcessAndRetainDynamicEntry.is_external a n) = Unit {0}
  TryBy cycled e c dead d dead' b (ProcessAndRetainDynamicEntry.includes _ a n x) = EntryBy (entry_idx g e) c d x

  abbrev pub TriesBy : (cycled es : List ℕ) (r z : Rounding) → ProcessesDynamic g v cycled es r z → Type 0
  TriesBy cycled es r z (ProcessesDynamic.no_more _) = Unit {0}
  TriesBy cycled es r z (ProcessesDynamic.was_included e es' _ _ n more) = TriesBy cycled es' r z more
  TriesBy cycled es r z (ProcessesDynamic.processes e es' _ _ c dead b n x more) =
      TryBy cycled e r.context r.dead c dead b x × TriesBy cycled es' (rounding c (insert_if b (entry_idx g e) r.included) dead) z more

  abbrev pub RoundBy : (cycled sorted : List ℕ) (r z : Rounding) → Round g v cycled sorted r z → Type 0
  RoundBy cycled sorted r z x =
      (x.includes.order ≡ ch.bailouts r.context r.context.bailouts)
      × (BailoutsBy x.includes.order (take_bailouts (set_changed false r.context)) x.context x.includes.includes
      × TriesBy cycled sorted (rounding x.context r.included r.dead) z x.processes)

  abbrev pub RoundsBy : (cycled sorted : List ℕ) (n : ℕ) (r z : Rounding) → Rounds g v cycled sorted n r z → Type 0
  RoundsBy cycled sorted n r z (Rounds.breaks _ _ x e) = RoundBy cycled sorted r z x
  RoundsBy cycled sorted n r z (Rounds.goes_on n' _ y _ x e more) = RoundBy cycled sorted r y x × RoundsBy cycled sorted n' y z more

  abbrev pub HelpersBy : (hs : List ℕ) (c d : Context) → IncludesHelpers g v hs c d → Type 0
  HelpersBy hs c d (IncludesHelpers.no_more _) = Unit {0}
  HelpersBy hs c d (IncludesHelpers.one h hs' _ c₁ _ x more) = DrainsBy _ c₁ x × HelpersBy hs' c₁ d more

  abbrev pub RuntimeBy : (word : ℕ) (c d : Context) → IncludeRuntimeSymbol g v word c d → Type 0
  RuntimeBy word c d (IncludeRuntimeSymbol.runtime_with_effects _ e h x) = DrainsBy _ d x
  RuntimeBy word c d (IncludeRuntimeSymbol.no_helper e h) = Unit {0}
  RuntimeBy word c d (IncludeRuntimeSymbol.some_helper _ order e s x) = (order ≡ ch.helpers word) × HelpersBy order c d x

-- the whole
abbrev pub Follows : (g : Graph) (ch : Choosing g) (o : Outcome) → Returns g o → Type 0
Follows g ch o r =
    let i = r.include_statements in
    ((i.sorted ≡ ch.sorted) × (i.cycled ≡ ch.cycled)) × (UsersBy g o.verdicts ch (user_defined_entries g) empty i.users i.includes_users
    × (RoundsBy g o.verdicts ch i.cycled i.sorted o.rounds (rounding i.users [] []) (rounding o.main o.included o.dead) i.makes_rounds
    × RuntimeBy g o.verdicts ch (collect_depended_runtime_helpers g o.main o.helpers) (new_context o.main) o.context i.includes_runtime))
