-- The runtime stage: the Rust's second context over the rows of the first, beside the run's lines behind those of its main part.
use Rattle.std.proofs.Common.{◌≡◌, ℕ, zero, suc, ◌+◌, ◌-◌, ◌*◌, ◌<◌, ◌≤◌, Bool, true, false, eqb, ◌⊎◌, ◌↔◌, List, [], ◌∷◌, ◌++◌, map, length, get_or, sym, refl, ap, ◌∙◌, subst, inl, inr, arith}
use mathlib.Core.Bool.{false≢true}
use Rattle.determine_side_effects.specs.graph_crate.Check.{Graph, graph_in, check_of, answer_of}
use Rattle.determine_side_effects.specs.graph_access_crate.Names.{only}
use Rattle.determine_side_effects.specs.graph_access_crate.Words.{flag, tabulate, normal}
use Rattle.determine_side_effects.specs.facts_crate.declared.Fact.{Fact}
use Rattle.determine_side_effects.specs.facts_crate.declared.Fact.TheVariants.{Module, Statement, Use, CheckedUse, Forward, Bailout}
use Rattle.determine_side_effects.specs.facts_crate.Facts.{module_fact, statement_fact, use_fact, Good, mark_of}
use Rattle.determine_side_effects.specs.Effects.{effectful, has_effects, last_verdicts}
use Rattle.keep_record.specs.declared.Line.{Line}
use Rattle.keep_record.specs.Lines.{elem, stays, marks_from, marks_of, has}
use Rattle.worklist.specs.Drain.{fact_at, drained_all}
use Rattle.entry_order.specs.Order.{those}
use Rattle.passes.specs.Helpers.{runtime_starts}
use Rattle.closed_choices.specs.Choice.{Choice, HasLine, HoldsStarts}
use Rattle.closed_choices.proofs.Every.{Every, every_at, every_by}
use Rattle.closed_choices.proofs.Smallest.{marked_line}
use Rattle.closed_choices.proofs.Handling.{no_line}
use Rattle.run_choices.proofs.GoodStarts.{runtime_starts_good}
use Rattle.rust_values.specs.Values.{Pair, pair, filter, In}
use Rattle.rust_values.proofs.Members.{elem_in, in_elem}
use Rattle.rust_engine.specs.Context.{Context, new_context}
use Rattle.rust_engine.specs.Tables.{has_side_effects}
use Rattle.rust_engine.specs.EntryPoints.{Reached, at_first, include_symbol, include_module, InRows, SmallestOver, Exactly}
use Rattle.rust_engine.proofs.OfAccepted.{engine_shows}
use Rattle.rust_run.specs.Passes.{IncludesHelpers, no_more, one, IncludeRuntimeSymbol, runtime_with_effects, no_helper, some_helper}
use Rattle.rust_run.proofs.Starting.{Alike, alike_refl, Onward, onward_none, onward_then}
use Rattle.rust_run.proofs.Stage.{HasStage, stage_smallest}
use Rattle.rust_run.proofs.Grouping.{filter_those}
use Rattle.rust_run.proofs.Level.{Level, loaded, every_onto, level-good, level-whole, level-exactly}
use Rattle.rust_run.proofs.Tried.{both, lines-has}
use Rattle.std.specs.Prelude.{Ok}

-- what include_runtime_symbol starts
module _ (g : Graph) (v : List ℕ) (b : Context) where
  abbrev pub helper_uses : List ℕ → List Fact
  helper_uses hs = map (λ h. use_fact (only (get_or g.helpers h [])) 1) hs

  helpers_onward : (hs : List ℕ) (c d : Context) → IncludesHelpers g v hs c d → (ss : List Fact) (taken : List ℕ) → Reached g v b ss taken c → Onward g v b ss taken d (helper_uses hs)
  helpers_onward hs c d (no_more _) ss taken r = onward_none g v b ss taken c r
  helpers_onward hs c d (one h hs' _ c₁ _ x more) ss taken r =
      let f = use_fact (only (get_or g.helpers h [])) 1 in
      let o : Onward g v b ss taken c₁ (f ∷ []) = record { gs = f ∷ []; reached = include_symbol ss taken c c₁ (only (get_or g.helpers h [])) 1 r x; alike = alike_refl (f ∷ []) } in
      onward_then g v b ss taken c₁ d (f ∷ []) (helper_uses hs') o (helpers_onward hs' c₁ d more (f ∷ ss) taken o.reached)

  -- the same helpers in another order
  use_of : (P : Fact → Type 0) (hs : List ℕ) → Every P (helper_uses hs) → (h : ℕ) → In h hs → P (use_fact (only (get_or g.helpers h [])) 1)
  use_of P [] a h q = absurd q
  use_of P (k ∷ hs) a h (inl e) = subst (λ n. P (use_fact (only (get_or g.helpers n [])) 1)) (sym e) a.0
  use_of P (k ∷ hs) a h (inr q) = use_of P hs a.1 h q

  pub uses_moved : (P : Fact → Type 0) (xs ys : List ℕ) → ((h : ℕ) → In h ys → In h xs) → Every P (helper_uses xs) → Every P (helper_uses ys)
  uses_moved P xs [] s a = tt
  uses_moved P xs (y ∷ ys) s a = (use_of P xs a y (s y (inl refl)), uses_moved P xs ys (λ h q. s h (inr q)) a)

  pub effects_same : (m : ℕ) → has_side_effects v m ≡ has_effects v m
  unfolding has_side_effects has_effects effectful
  effects_same m = refl

  pub starts_runtime : (word : ℕ) → eqb word 0 ≡ true → has_effects v g.header.runtime ≡ true → runtime_starts g v word ≡ module_fact g.header.runtime ∷ []
  unfolding runtime_starts
  starts_runtime word e h = rw (e, h, runtime_starts)

  starts_nothing : (word : ℕ) → eqb word 0 ≡ true → has_effects v g.header.runtime ≡ false → runtime_starts g v word ≡ []
  unfolding runtime_starts
  starts_nothing word e h = rw (e, h, runtime_starts)

  pub starts_helpers : (word : ℕ) → eqb word 0 ≡ false → runtime_starts g v word ≡ helper_uses (those (λ h. flag h word) (tabulate (λ h. h) 0 g.header.helpers))
  unfolding runtime_starts
  starts_helpers word e = rw (e, runtime_starts)

  pub runtime_onward : (word : ℕ) (d : Context) → IncludeRuntimeSymbol g v word (new_context b) d → Onward g v b [] [] d (runtime_starts g v word)
  runtime_onward word _ (runtime_with_effects d e h x) =
      let m = g.header.runtime in
      subst (λ (l : List Fact). Onward g v b [] [] d l) (sym (starts_runtime word e (sym (effects_same m) ∙ h)))
      (record { gs = module_fact m ∷ []; reached = include_module [] [] (new_context b) d m at_first x; alike = alike_refl (module_fact m ∷ []) })
  runtime_onward word _ (no_helper e h) =
      subst (λ (l : List Fact). Onward g v b [] [] (new_context b) l) (sym (starts_nothing word e (sym (effects_same g.header.runtime) ∙ h))) (onward_none g v b [] [] (new_context b) at_first)
  runtime_onward word _ (some_helper d order e m x) =
      let hs = tabulate (λ h. h) 0 g.header.helpers in
      let same : filter (λ h. flag h word) hs ≡ those (λ h. flag h word) hs = filter_those (λ h. flag h word) (λ h. flag h word) hs (λ h q. refl) in
      let o = helpers_onward order (new_context b) d x [] [] at_first in
      subst (λ (l : List Fact). Onward g v b [] [] d l) (ap helper_uses same ∙ sym (starts_helpers word e))
      (record {
        gs = o.gs;
        reached = o.reached;
        alike =
            record {
              there = λ P h. uses_moved P order (filter (λ h. flag h word) hs) m.back (o.alike.there P h);
              back = λ P h. o.alike.back P (uses_moved P (filter (λ h. flag h word) hs) order m.from h);
            };
      })

module _ (numbers : List ℕ) (ok : answer_of (check_of numbers) ≡ Ok tt) where
  abbrev g' : Graph
  g' = graph_in numbers

  abbrev v' : List ℕ
  v' = last_verdicts (graph_in numbers)

  -- a mark below the module count is that of a module
  module_mark : (f : Fact) (m : ℕ) → m < g'.header.modules → m ≡ mark_of g' f → f ≡ module_fact m
  unfolding mark_of
  module_mark (Module n) m h e = ap module_fact (sym e)
  module_mark (Bailout n) m h e = absurd (omega (arith, h, e))
  module_mark (Statement n i) m h e = absurd (omega (arith, h, e))
  module_mark (Forward s) m h e = absurd (omega (arith, h, e))
  module_mark (Use s x) m h e = absurd (omega (arith, h, e))
  module_mark (CheckedUse s x) m h e = absurd (omega (arith, h, e))

  module _ {c : Context} {lines : List Line} {taken : List ℕ} (l : Level numbers ok c lines taken) where
    -- the module bits
    marked-module : (m : ℕ) → m < g'.header.modules → has g' 0 lines (module_fact m) ≡ true → HasLine lines (module_fact m)
    unfolding has marks_from mark_of
    marked-module m h e =
        let k = marked_line g' lines m e in
        record { number = k.0; inside = k.1; is = module_mark (fact_at lines k.0) m h k.2 }

    pub module_bit : (m : ℕ) → m < g'.header.modules → elem m c.modules ≡ has g' 0 lines (module_fact m)
    module_bit m h =
        let e = (level-exactly numbers ok l).modules_are m in
        both (elem m c.modules) (has g' 0 lines (module_fact m))
        (λ q. let z = e.0 (elem_in m c.modules q) in (lines-has numbers ok l (module_fact m) (level-good numbers ok l (module_fact m) z)).1 z)
        (λ q. in_elem m c.modules (e.1 (marked-module m h q)))

    -- the base of the stage: the modules and the statements of the lines
    pub base-is : (f : Fact) → InRows c f ↔ (HasLine lines f × (stays f ≡ true))
    base-is (Module m) = (λ q. (((level-exactly numbers ok l).modules_are m.0).0 q, refl), λ q. ((level-exactly numbers ok l).modules_are m.0).1 q.0)
    base-is (Statement m i) = (λ q. (((level-exactly numbers ok l).statements_are m.0 i.0).0 q, refl), λ q. ((level-exactly numbers ok l).statements_are m.0 i.0).1 q.0)
    base-is (Use s x) = (λ q. absurd q, λ q. absurd (false≢true q.1))
    base-is (CheckedUse s x) = (λ q. absurd q, λ q. absurd (false≢true q.1))
    base-is (Forward s) = (λ q. absurd q, λ q. absurd (false≢true q.1))
    base-is (Bailout m) = (λ q. absurd q, λ q. absurd (false≢true q.1))

    -- the sets of the second context are what both stages' lines show
    pub runtime-exactly : (word : ℕ) (d : Context) → IncludeRuntimeSymbol g' v' word (new_context c) d
        → Exactly g' c (HasStage (length lines) (drained_all g' v' (length lines) (runtime_starts g' v' word) lines)) [] d
    runtime-exactly word d x =
        engine_shows numbers ok c (λ f q. level-good numbers ok l f ((base-is f).0 q).0) (o.gs ++ []) [] d o.reached (gs-hold (Good g') good)
        C (record {
          holds_base = s.holds_base;
          holds_starts = gs-hold C (every_by C fs (module_fact 0) s.holds_starts);
          closed = s.closed;
          inside_each = λ D hb hs k f q. s.inside_each D hb (every_at D fs (module_fact 0) (o.alike.there D (gs-all D hs))) k f q;
        })
      where
        fs : List Fact
        fs = runtime_starts g' v' word

        good : Every (Good g') fs
        good = runtime_starts_good (loaded numbers ok) v' word

        o : Onward g' v' c [] [] d fs
        o = runtime_onward g' v' c word d x

        C : Choice
        C = HasStage (length lines) (drained_all g' v' (length lines) fs lines)

        s : SmallestOver g' (InRows c) fs C
        s = stage_smallest (loaded numbers ok) lines (level-whole numbers ok l) fs good (InRows c) base-is

        joined : (P : Fact → Type 0) (xs : List Fact) → Every P xs → Every P (xs ++ [])
        joined P [] a = tt
        joined P (x ∷ xs) a = (a.0, joined P xs a.1)

        parted : (P : Fact → Type 0) (xs : List Fact) → Every P (xs ++ []) → Every P xs
        parted P [] a = tt
        parted P (x ∷ xs) a = (a.0, parted P xs a.1)

        gs-hold : (P : Fact → Type 0) → Every P fs → HoldsStarts (o.gs ++ []) P
        gs-hold P a = every_at P (o.gs ++ []) (module_fact 0) (joined P o.gs (o.alike.back P a))

        gs-all : (P : Fact → Type 0) → HoldsStarts (o.gs ++ []) P → Every P o.gs
        gs-all P a = parted P o.gs (every_by P (o.gs ++ []) (module_fact 0) a)
