-- The tries of dynamic entries: the Rust's beside the run's.
use Rattle.std.proofs.Common.{◌≡◌, ℕ, zero, suc, ◌<◌, Bool, true, false, ◌||◌, eqb, ◌⊎◌, ◌↔◌, List, [], ◌∷◌, ◌++◌, length, sym, refl, ap, ◌∙◌, subst, inl, inr, eq-eqb, eqb-true}
use mathlib.Core.Bool.{false≢true}
use Rattle.determine_side_effects.specs.graph_crate.Check.{Graph, graph_in, check_of, answer_of}
use Rattle.determine_side_effects.specs.graph_access_crate.Names.{related}
use Rattle.determine_side_effects.specs.graph_access_crate.Words.{normal, entry_of, statement_list}
use Rattle.determine_side_effects.specs.facts_crate.declared.Fact.{Fact}
use Rattle.determine_side_effects.specs.facts_crate.Facts.{module_fact, statement_fact, Good}
use Rattle.determine_side_effects.specs.Effects.{last_verdicts}
use Rattle.keep_record.specs.declared.Line.{Line}
use Rattle.keep_record.specs.Lines.{elem, marks_from, has}
use Rattle.worklist.specs.Drain.{drained_all}
use Rattle.entry_order.specs.Order.{module_of_entry, is_dynamic}
use Rattle.entry_starts.specs.Starts.{module_starts}
use Rattle.dynamic_entries.specs.Sorted.{on_cycle}
use Rattle.dynamic_entries.specs.Alive as own
use Rattle.dynamic_entries.specs.Tries.{Progress, starting, lives, now_live, now_dead, tried, tries}
use Rattle.closed_choices.specs.Choice.{HasLine}
use Rattle.closed_choices.proofs.Every.{Every}
use Rattle.closed_choices.proofs.Smallest.{has_line, line_marked}
use Rattle.run_choices.proofs.GoodStarts.{module_starts_good}
use Rattle.rust_values.specs.Values.{Pair, pair, has_pair, In}
use Rattle.rust_values.proofs.Members.{in_append, in_append_left, in_append_right}
use Rattle.rust_engine.specs.Context.{Context, empty}
use Rattle.rust_engine.proofs.HandlingStatements.{pair_in, in_pair}
use Rattle.rust_order.specs.DynamicEntries.{entry_idx}
use Rattle.rust_run.specs.DynamicEntries.{is_alive, is_dynamic_entry_alive, any_lived, Unused, alive, unused, passes, ProcessAndRetainDynamicEntry, is_dead, is_external, includes}
use Rattle.rust_run.specs.IncludeStatements.{Rounding, rounding, insert_if, ProcessesDynamic, no_more, was_included, processes}
use Rattle.rust_run.proofs.Starting.{entry_onward}
use Rattle.rust_run.proofs.Level.{Level, loaded, level-whole, level-exactly, level-onward}
use Rattle.rust_run.proofs.Trying.{dead_pairs, entry_unused, alive_same}
use Rattle.std.specs.Prelude.{Ok}

pub both : (b c : Bool) → (b ≡ true → c ≡ true) → (c ≡ true → b ≡ true) → b ≡ c
both true c f h = sym (f refl)
both false true f h = h refl
both false false f h = refl

module _ (numbers : List ℕ) (ok : answer_of (check_of numbers) ≡ Ok tt) where
  abbrev g : Graph
  g = graph_in numbers

  abbrev v : List ℕ
  v = last_verdicts (graph_in numbers)

  -- bits of the context, and marks of the lines
  module _ {c : Context} {lines : List Line} {taken : List ℕ} (l : Level numbers ok c lines taken) where
    pub lines-has : (f : Fact) → Good g f → (has g 0 lines f ≡ true) ↔ HasLine lines f
    unfolding has marks_from
    lines-has f h = (has_line (loaded numbers ok) lines f (level-whole numbers ok l).sound.good h, λ q. line_marked g lines f q)

    pub statement_bit : (m i : ℕ) → m < g.header.modules → i < length (statement_list g m) → has_pair m i c.statements ≡ has g 0 lines (statement_fact m i)
    statement_bit m i a u =
        let e = (level-exactly numbers ok l).statements_are m i in
        let h = lines-has (statement_fact m i) (a, u) in
        both (has_pair m i c.statements) (has g 0 lines (statement_fact m i)) (λ q. h.1 (e.0 (pair_in m i c.statements q))) (λ q. in_pair m i c.statements (e.1 (h.0 q)))

  -- a record that a try of an entry found dead has marked
  abbrev pub DeadBy : (ℕ → Bool) → ℕ → ℕ → Type 0
  DeadBy dead m k = (e : ℕ) × (e < g.header.entries) × (dead e ≡ true) × In (pair m k) (dead_pairs g v (related (entry_of g e)))

  -- the Rust in its loop beside the run's progress
  pub record Beside (r : Rounding) (p : Progress) (taken : List ℕ) : Type 1 where
    pub level : Level numbers ok r.context p.lines taken
    pub live_same : (m : ℕ) → elem m r.included ≡ p.live m
    pub dead_same : (m k : ℕ) → In (pair m k) r.dead ↔ DeadBy p.dead m k

  -- a dynamic entry
  pub record Dynamic (e : ℕ) : Type 0 where
    pub inside : e < g.header.entries
    pub is_dynamic_lem : is_dynamic g e ≡ true

  module _ (cycled : List ℕ) (cycles : (m : ℕ) → elem m cycled ≡ on_cycle g m) where
    pub lives_same : (e : ℕ) → Dynamic e → (r : Rounding) (p : Progress) (taken : List ℕ) → Beside r p taken → passes g v cycled r.context e ≡ lives g v p e
    unfolding passes lives entry_idx module_of_entry
    lives_same e d r p taken b =
        rw (cycles (entry_idx g e), alive_same numbers ok v r.context e d.inside d.is_dynamic_lem (has g 0 p.lines) (statement_bit b.level)) refl

    -- the three ways of a try
    pub tried_live : (e : ℕ) (p : Progress) → p.live (module_of_entry g e) ≡ true → tried g v e p ≡ p
    unfolding tried
    tried_live e p q = rw (q, tried)

    tried_dead : (e : ℕ) (p : Progress) → p.live (module_of_entry g e) ≡ false → lives g v p e ≡ false → tried g v e p ≡ now_dead e p
    unfolding tried
    tried_dead e p q a = rw (q, a, tried)

    pub tried-starts : (e : ℕ) (p : Progress) → p.live (module_of_entry g e) ≡ false → lives g v p e ≡ true → tried g v e p ≡ starting g v (module_starts g (module_of_entry g e)) (now_live g e p)
    unfolding tried
    tried-starts e p q a = rw (q, a, tried)

    -- dead: its records are marked for good
    module _ (e : ℕ) (d : Dynamic e) (r : Rounding) (p : Progress) (taken : List ℕ) (b : Beside r p taken) (ret : List Pair) (is : is_dynamic_entry_alive g v r.context e ≡ unused ret) where
      ret-is : ret ≡ dead_pairs g v (related (entry_of g e))
      ret-is = entry_unused g v r.context e d.is_dynamic_lem ret is

      to-dead : (m k : ℕ) → In (pair m k) r.dead ⊎ In (pair m k) ret → DeadBy (now_dead e p).dead m k
      unfolding now_dead
      to-dead m k (inl q) = let z = (b.dead_same m k).0 q in (z.0, z.1, later (eqb z.0 e) z.2, z.3)
        where
          later : (x : Bool) → p.dead ((b.dead_same m k).0 q).0 ≡ true → (x || p.dead ((b.dead_same m k).0 q).0) ≡ true
          later true h = refl
          later false h = h
      to-dead m k (inr q) = (e, d.inside, now, subst (λ ps. In (pair m k) ps) ret-is q)
        where
          now : (eqb e e || p.dead e) ≡ true
          now = rw (eq-eqb e e refl) refl

      from-dead : (m k : ℕ) → DeadBy (now_dead e p).dead m k → In (pair m k) r.dead ⊎ In (pair m k) ret
      unfolding now_dead
      from-dead m k z = go (eqb z.0 e) refl z.2
        where
          go : (x : Bool) → eqb z.0 e ≡ x → (x || p.dead z.0) ≡ true → In (pair m k) r.dead ⊎ In (pair m k) ret
          go true q h = inr (subst (λ ps. In (pair m k) ps) (sym ret-is) (subst (λ x. In (pair m k) (dead_pairs g v (related (entry_of g x)))) (eqb-true z.0 e q) z.3))
          go false q h = inl ((b.dead_same m k).1 (z.0, z.1, h, z.3))

      pub beside-dead : Beside (rounding r.context (insert_if false (entry_idx g e) r.included) (r.dead ++ ret)) (now_dead e p) taken
      unfolding now_dead insert_if
      beside-dead =
          record {
            level = b.level;
            live_same = b.live_same;
            dead_same = λ m k. (λ q. to-dead m k (in_append (pair m k) r.dead ret q), λ q. joined m k (from-dead m k q));
          }
        where
          joined : (m k : ℕ) → In (pair m k) r.dead ⊎ In (pair m k) ret → In (pair m k) (r.dead ++ ret)
          joined m k (inl q) = in_append_left (pair m k) r.dead ret q
          joined m k (inr q) = in_append_right (pair m k) r.dead ret q

    -- live: it starts, or nothing does for an external one
    module _ (e : ℕ) (r : Rounding) (p : Progress) (taken : List ℕ) (b : Beside r p taken) where
      abbrev m : ℕ
      m = module_of_entry g e

      abbrev fs : List Fact
      fs = module_starts g m

      live_now : (x : ℕ) → elem x (insert_if true (entry_idx g e) r.included) ≡ (eqb x m || p.live x)
      unfolding insert_if elem entry_idx module_of_entry
      live_now x = rw (b.live_same x) refl

      pub beside-starts : (d : Context) → Level numbers ok d (drained_all g v 0 fs p.lines) taken
          → Beside (rounding d (insert_if true (entry_idx g e) r.included) r.dead) (starting g v fs (now_live g e p)) taken
      unfolding starting now_live
      beside-starts d l = record { level = l; live_same = live_now; dead_same = b.dead_same }

      external_none : normal g m ≡ false → fs ≡ []
      unfolding module_starts
      external_none n = rw (n, module_starts)

      pub level-external : normal g m ≡ false → Level numbers ok r.context (drained_all g v 0 fs p.lines) taken
      unfolding drained_all
      level-external n = rw (external_none n) b.level

    -- one try
    pub try-beside : (e : ℕ) → Dynamic e → (r : Rounding) (p : Progress) (taken : List ℕ) → Beside r p taken → elem (entry_idx g e) r.included ≡ false
        → (c : Context) (dead : List Pair) (x : Bool) → ProcessAndRetainDynamicEntry g v cycled e r.context r.dead c dead x
        → Beside (rounding c (insert_if x (entry_idx g e) r.included) dead) (tried g v e p) taken
    unfolding entry_idx module_of_entry passes is_alive
    try-beside e d r p taken b n _ _ _ (is_dead ret k a) =
        let no : passes g v cycled r.context e ≡ false = rw (k, a) refl in
        subst (λ q. Beside (rounding r.context (insert_if false (entry_idx g e) r.included) (r.dead ++ ret)) q taken)
        (sym (tried_dead e p (sym (b.live_same (entry_idx g e)) ∙ n) (sym (lives_same e d r p taken b) ∙ no))) (beside-dead e d r p taken b ret a)
    try-beside e d r p taken b n _ _ _ (is_external a k) =
        subst (λ q. Beside (rounding r.context (insert_if true (entry_idx g e) r.included) r.dead) q taken)
        (sym (tried-starts e p (sym (b.live_same (entry_idx g e)) ∙ n) (sym (lives_same e d r p taken b) ∙ a))) (beside-starts e r p taken b r.context (level-external e r p taken b k))
    try-beside e d r p taken b n c _ _ (includes _ a k s) =
        subst (λ q. Beside (rounding c (insert_if true (entry_idx g e) r.included) r.dead) q taken)
        (sym (tried-starts e p (sym (b.live_same (entry_idx g e)) ∙ n) (sym (lives_same e d r p taken b) ∙ a)))
        (beside-starts e r p taken b c
        (level-onward numbers ok b.level (module_starts g (module_of_entry g e)) (module_starts_good (loaded numbers ok) (module_of_entry g e)) c
        (entry_onward g v empty (entry_idx g e) r.context c k s b.level.ss taken b.level.reached)))

    -- all of them
    pub tries-beside : (es : List ℕ) → Every Dynamic es → (r z : Rounding) (p : Progress) (taken : List ℕ) → Beside r p taken → ProcessesDynamic g v cycled es r z → Beside z (tries g v es p) taken
    unfolding tries entry_idx module_of_entry
    tries-beside es a r z p taken b (no_more _) = b
    tries-beside es a r z p taken b (was_included e es' _ _ n more) =
        tries-beside es' a.1 r z (tried g v e p) taken (subst (λ q. Beside r q taken) (sym (tried_live e p (sym (b.live_same (entry_idx g e)) ∙ n))) b) more
    tries-beside es a r z p taken b (processes e es' _ _ c dead x n q more) =
        tries-beside es' a.1 (rounding c (insert_if x (entry_idx g e) r.included) dead) z (tried g v e p) taken (try-beside e a.0 r p taken b n c dead x q) more
