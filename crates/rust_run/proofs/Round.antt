-- A whole round: the Rust beside the run from its beginning to its end, and that both see whether a module became kept.
use Rattle.std.proofs.Common.{◌≡◌, ℕ, zero, suc, ◌+◌, ◌-◌, ◌<◌, ◌≤◌, Bool, true, false, eqb, ◌⊎◌, ◌↔◌, List, [], ◌∷◌, ◌++◌, length, get_or, drop, sym, refl, ap, ◌∙◌, subst, inl, inr, le_refl, arith}
use mathlib.Core.Bool.{false≢true}
use native.Mathlib.Decide.{dec_lt}
use Rattle.determine_side_effects.specs.graph_crate.Check.{Graph, graph_in, check_of, answer_of}
use Rattle.determine_side_effects.specs.facts_crate.declared.Fact.{Fact}
use Rattle.determine_side_effects.specs.facts_crate.declared.Fact.TheVariants.{Module, Statement, Use, CheckedUse, Forward, Bailout}
use Rattle.determine_side_effects.specs.facts_crate.Facts.{module_fact, bailout_fact, kind_of}
use Rattle.determine_side_effects.specs.Effects.{last_verdicts}
use Rattle.determine_side_effects.proofs.Lists.{some_found, some_holds}
use Rattle.keep_record.specs.declared.Line.{Line}
use Rattle.keep_record.proofs.Counting.{lines_apart}
use Rattle.worklist.specs.Drain.{fact_at, drained_all}
use Rattle.entry_order.specs.Order.{module_of_entry}
use Rattle.entry_starts.specs.Starts.{module_starts}
use Rattle.dynamic_entries.specs.Sorted.{on_cycle, sorted_entries}
use Rattle.dynamic_entries.specs.Tries.{Progress, starting, lives, now_live, now_dead, tried, tries}
use Rattle.passes.specs.Bailouts.{bailouts_starts}
use Rattle.tree_shaking.specs.Rounds.{bailed, round, kept_module}
use Rattle.closed_choices.specs.Choice.{HasLine}
use Rattle.closed_choices.proofs.Every.{Every}
use Rattle.closed_choices.proofs.Handling.{no_line}
use Rattle.keep_record.specs.Lines.{elem}
use Rattle.rust_values.specs.Values.{Pair, In}
use Rattle.rust_engine.specs.Context.{Context, take_bailouts, set_changed}
use Rattle.rust_engine.proofs.Changed.{Counted}
use Rattle.rust_run.specs.IncludeStatements.{Rounding, rounding}
use Rattle.rust_run.specs.IncludeStatements as whole
use Rattle.rust_run.proofs.Stage.{Prefix, stage_prefix}
use Rattle.rust_run.proofs.Level.{Level, every_onto, level-whole, level-exactly}
use Rattle.rust_run.proofs.Tried.{both, Beside, Dynamic, tries-beside}
use Rattle.rust_run.proofs.Rounding.{drop_at, drop-long, long-drop, exports_of, Exported, exported-now, level-bailed}
use Rattle.rust_run.proofs.Counting.{round_counted}
use Rattle.std.specs.Prelude.{Ok}

-- lines only grow
pub prefix_refl : (xs : List Line) → Prefix xs xs
prefix_refl xs = record { longer = le_refl (length xs); same = λ i h. refl }

pub prefix_trans : (xs ys zs : List Line) → Prefix xs ys → Prefix ys zs → Prefix xs zs
prefix_trans xs ys zs p q = record { longer = omega (arith, p.longer, q.longer); same = λ i h. q.same i (omega (arith, h, p.longer)) ∙ p.same i h }

pub prefix_line : (xs ys : List Line) → Prefix xs ys → (f : Fact) → HasLine xs f → HasLine ys f
prefix_line xs ys p f h = record { number = h.number; inside = omega (arith, h.inside, p.longer); is = p.same h.number h.inside ∙ h.is }

abbrev lines_in : Progress → List Line
lines_in p = p.lines

module _ (g : Graph) (v : List ℕ) where
  pub tried_prefix : (e : ℕ) (p : Progress) → Prefix p.lines (tried g v e p).lines
  unfolding tried starting now_live now_dead
  tried_prefix e p = go (p.live (module_of_entry g e)) (lives g v p e)
    where
      go : (a b : Bool) → Prefix p.lines (lines_in (elim a [ true ↦ p | false ↦ elim b [ true ↦ starting g v (module_starts g (module_of_entry g e)) (now_live g e p) | false ↦ now_dead e p ] ]))
      go true b = prefix_refl p.lines
      go false true = stage_prefix g v 0 (module_starts g (module_of_entry g e)) p.lines
      go false false = prefix_refl p.lines

  pub tries_prefix : (es : List ℕ) (p : Progress) → Prefix p.lines (tries g v es p).lines
  unfolding tries
  tries_prefix [] p = prefix_refl p.lines
  tries_prefix (e ∷ es) p = prefix_trans p.lines (tried g v e p).lines (tries g v es (tried g v e p)).lines (tried_prefix e p) (tries_prefix es (tried g v e p))

-- a line of a module
module_kind : (f : Fact) → eqb (kind_of f) 1 ≡ true → (m : ℕ) × (f ≡ module_fact m)
module_kind (Module m) e = (m.0, refl)
module_kind (Statement m i) e = absurd (false≢true e)
module_kind (Use s x) e = absurd (false≢true e)
module_kind (CheckedUse s x) e = absurd (false≢true e)
module_kind (Forward s) e = absurd (false≢true e)
module_kind (Bailout m) e = absurd (false≢true e)

module _ (numbers : List ℕ) (ok : answer_of (check_of numbers) ≡ Ok tt) where
  abbrev g : Graph
  g = graph_in numbers

  abbrev v : List ℕ
  v = last_verdicts (graph_in numbers)

  -- where a round begins: the bailouts of the first k lines were taken
  pub record AtRound (r : Rounding) (p : Progress) (k : ℕ) : Type 1 where
    pub taken : List ℕ
    pub beside : Beside numbers ok r p taken
    pub exported : Exported numbers ok k p.lines

  module _ (cycled : List ℕ) (cycles : (m : ℕ) → elem m cycled ≡ on_cycle g m) (dynamic : Every (Dynamic numbers ok) (sorted_entries g))
      (r z : Rounding) (p : Progress) (k : ℕ) (a : AtRound r p k) (x : whole.Round g v cycled (sorted_entries g) r z) where
    abbrev next : Progress
    next = round g v k p

    level-now : Level numbers ok r.context p.lines a.taken
    level-now = a.beside.level

    abbrev bailed-lines : List Line
    bailed-lines = (bailed g v k p).lines

    after-bailouts : Beside numbers ok (rounding x.context r.included r.dead) (bailed g v k p) (r.context.bailouts ++ a.taken)
    unfolding bailed starting
    after-bailouts = record { level = level-bailed numbers ok level-now k a.exported x.context x.includes; live_same = a.beside.live_same; dead_same = a.beside.dead_same }

    after-tries : Beside numbers ok z next (r.context.bailouts ++ a.taken)
    unfolding round
    after-tries = tries-beside numbers ok cycled cycles (sorted_entries g) dynamic (rounding x.context r.included r.dead) z (bailed g v k p) (r.context.bailouts ++ a.taken) after-bailouts x.processes

    bailed-prefix : Prefix p.lines bailed-lines
    unfolding bailed starting
    bailed-prefix = stage_prefix g v 0 (bailouts_starts g (drop k p.lines)) p.lines

    tried-on : Prefix bailed-lines next.lines
    unfolding round
    tried-on = tries_prefix g v (sorted_entries g) (bailed g v k p)

    round-prefix : Prefix p.lines next.lines
    round-prefix = prefix_trans p.lines bailed-lines next.lines bailed-prefix tried-on

    exported-here : (i m : ℕ) → i < length p.lines → fact_at p.lines i ≡ bailout_fact m → Every (HasLine bailed-lines) (exports_of g m)
    unfolding bailed starting
    exported-here i m h e = exported-now numbers ok level-now k a.exported i m h e

    exported-after : Exported numbers ok (length p.lines) next.lines
    exported-after i m h u e =
        every_onto (HasLine bailed-lines) (HasLine next.lines) (prefix_line bailed-lines next.lines tried-on) (exports_of g m) (exported-here i m h (sym (round-prefix.same i h) ∙ e))

    pub round-on : AtRound z next (length p.lines)
    round-on = record { taken = r.context.bailouts ++ a.taken; beside = after-tries; exported = exported-after }

    -- the flag: the context that the round begins with has it unset, and the modules of the one before
    abbrev begun : Context
    begun = take_bailouts (set_changed false r.context)

    unset-first : begun.changed ≡ false
    unfolding take_bailouts set_changed
    unset-first = refl

    same-modules : begun.modules ≡ r.context.modules
    unfolding take_bailouts set_changed
    same-modules = refl

    module-line : (m : ℕ) → In m z.context.modules → HasLine next.lines (module_fact m)
    module-line m q = ((level-exactly numbers ok after-tries.level).modules_are m).0 q

    line-module : (m : ℕ) → HasLine next.lines (module_fact m) → In m z.context.modules
    line-module m h = ((level-exactly numbers ok after-tries.level).modules_are m).1 h

    module-before : (m : ℕ) → HasLine p.lines (module_fact m) → In m r.context.modules
    module-before m h = ((level-exactly numbers ok level-now).modules_are m).1 h

    line_before : (m : ℕ) → In m r.context.modules → HasLine p.lines (module_fact m)
    line_before m q = ((level-exactly numbers ok level-now).modules_are m).0 q

    -- a module's line behind the lines of the round before is no line of these
    behind-only : (m n : ℕ) → length p.lines ≤ n → n < length next.lines → fact_at next.lines n ≡ module_fact m → HasLine p.lines (module_fact m) → ⊥
    unfolding fact_at
    behind-only m n b u e h =
        lines_apart g no_line 0 next.lines (level-whole numbers ok after-tries.level).sound.apart h.number n (omega (arith, h.inside, b)) u
        (λ w. absurd (omega (arith, w))) (round-prefix.same h.number h.inside ∙ h.is ∙ sym e)

    counted : Counted begun z.context
    counted = round_counted g cycled (sorted_entries g) r.context.bailouts begun x.context r.included r.dead z x.includes x.processes

    -- a module became kept: the flag is set
    new-sets : kept_module (length p.lines) next.lines ≡ true → z.context.changed ≡ true
    unfolding kept_module fact_at
    new-sets e = go z.context.changed refl
      where
        go : (b : Bool) → z.context.changed ≡ b → z.context.changed ≡ true
        go true q = q
        go false q =
            let f = some_found (λ l. eqb (kind_of l.fact) 1) no_line (drop (length p.lines) next.lines) e in
            let n = length p.lines + f.0 in
            let at : get_or (drop (length p.lines) next.lines) f.0 no_line ≡ get_or next.lines n no_line = drop_at (length p.lines) f.0 next.lines in
            let w = module_kind (get_or next.lines n no_line).fact (subst (λ l. eqb (kind_of l.fact) 1 ≡ true) at f.2) in
            let u : n < length next.lines = drop-long (length p.lines) f.0 next.lines f.1 in
            let there : In w.0 z.context.modules = line-module w.0 (record { number = n; inside = u; is = w.1 }) in
            let old : In w.0 r.context.modules = subst (λ ms. In w.0 ms) (counted.unset q ∙ same-modules) there in
            absurd (behind-only w.0 n (omega arith) u w.1 (line_before w.0 old))

    -- the flag is set: a module became kept
    set_new : z.context.changed ≡ true → kept_module (length p.lines) next.lines ≡ true
    unfolding kept_module fact_at
    set_new e =
        let s = counted.set unset-first e in
        let h = module-line s.0 s.1 in
        by h (dec_lt h.number (length p.lines)) (λ q. s.2 (subst (λ ms. In s.0 ms) (sym same-modules) q))
      where
        m : ℕ
        m = (counted.set unset-first e).0

        by : (h : HasLine next.lines (module_fact m)) → Dec (h.number < length p.lines) → (In m r.context.modules → ⊥) → kept_module (length p.lines) next.lines ≡ true
        by h (yes l) new = absurd (new (module-before m (record { number = h.number; inside = l; is = sym (round-prefix.same h.number l) ∙ h.is })))
        by h (no l) new =
            let j = h.number - length p.lines in
            let s : length p.lines + j ≡ h.number = omega (arith, l) in
            some_holds (λ l. eqb (kind_of l.fact) 1) no_line (drop (length p.lines) next.lines) j (long-drop (length p.lines) j next.lines (omega (arith, s, h.inside)))
            (subst (λ l. eqb (kind_of l.fact) 1 ≡ true) (sym (drop_at (length p.lines) j next.lines ∙ ap (λ i. get_or next.lines i no_line) s)) (subst (λ f. eqb (kind_of f) 1 ≡ true) (sym h.is) refl))

    pub changed_is : kept_module (length p.lines) next.lines ≡ z.context.changed
    changed_is = both (kept_module (length p.lines) next.lines) z.context.changed new-sets set_new
