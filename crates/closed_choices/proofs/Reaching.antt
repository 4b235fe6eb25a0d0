-- A drain stays inside every closed choice that holds its starts.
use Prim.Native.Nat.{ℕ, zero, suc, ◌+◌, ◌<◌}
use mathlib.Core.Path.{◌≡◌, refl, ap, sym, subst}
use mathlib.Core.Bool.{Bool, true, false, false≢true}
use mathlib.Core.List.{List, [], ◌∷◌, ◌++◌}
use native.Mathlib.Omega.{arith}
use borrow.Author.Tests.{eqb-true, eqb-false, ltb-true}
use lib.Dec.{eqb, ltb}
use lib.ListN.{length, get_or, take, drop}
use Rattle.determine_side_effects.specs.graph_crate.Check.{Graph}
use Rattle.determine_side_effects.specs.graph_access_crate.Names.{owner, declaring_statements, only}
use Rattle.determine_side_effects.specs.facts_crate.declared.Fact.{Fact}
use Rattle.determine_side_effects.specs.facts_crate.declared.Fact.TheVariants.{Module, Statement, Use, CheckedUse, Forward, Bailout}
use Rattle.determine_side_effects.specs.facts_crate.Facts.{module_fact, statement_fact, forward_fact, first_part, mark_count}
use Rattle.determine_side_effects.specs.graph_access_crate.Words.{symbol_of}
use Rattle.determine_side_effects.specs.Effects.{last_verdicts}
use Rattle.keep_rules.specs.Rules.{gives}
use Rattle.keep_record.specs.declared.Line.{Line}
use Rattle.keep_record.specs.Lines.{has, added, adds}
use Rattle.worklist.specs.Drain.{line, fact_at, followed, joined, is_forward_of, is_the_module, forwards_to, is_module, joins_all, module_line, name_of, joined_to, joins, news, drained, started, drained_all, drain_of}
use Rattle.closed_choices.specs.Choice.{Choice, nothing_given, Closed, HoldsStarts}
use Rattle.closed_choices.proofs.Every.{Every, every_append, every_at, every_by, every_tabulate, every_map, every_take, every_drop}

-- what a true test says of a fact
pub forward_there : (g : Graph) (m : ℕ) (f : Fact) → is_forward_of g m f ≡ true → (f ≡ forward_fact (first_part f)) × (owner (symbol_of g (first_part f)) ≡ m)
forward_there g m (Module n) e = absurd (false≢true e)
forward_there g m (Statement n i) e = absurd (false≢true e)
forward_there g m (Use s x) e = absurd (false≢true e)
forward_there g m (CheckedUse s x) e = absurd (false≢true e)
forward_there g m (Forward s) e = (refl, eqb-true (owner (symbol_of g s.0)) m e)
forward_there g m (Bailout n) e = absurd (false≢true e)

pub module_there : (m : ℕ) (f : Fact) → is_the_module m f ≡ true → f ≡ module_fact m
module_there m (Module n) e = ap (λ x. module_fact x) (eqb-true n.0 m e)
module_there m (Statement n i) e = absurd (false≢true e)
module_there m (Use s x) e = absurd (false≢true e)
module_there m (CheckedUse s x) e = absurd (false≢true e)
module_there m (Forward s) e = absurd (false≢true e)
module_there m (Bailout n) e = absurd (false≢true e)

module _ (g : Graph) (C : Choice) (closed : Closed g C) where
  abbrev In : Line → Type 0
  In l = C l.fact

  -- K1
  joined_in : (s m a b : ℕ) → C (module_fact m) → C (forward_fact s) → owner (symbol_of g s) ≡ m → Every In (joined g s a b)
  unfolding joined
  joined_in s m a b hm hs e =
      every_tabulate In (λ i. line (statement_fact (owner (symbol_of g s)) (only (get_or (declaring_statements (symbol_of g s)) i []))) 1 a b) 0 (length (declaring_statements (symbol_of g s)))
      (λ k l u. subst (λ o. C (statement_fact o (only (get_or (declaring_statements (symbol_of g s)) k [])))) (sym e) (closed.by_K1 m s k hm hs e (omega (arith, u))))

  joins_all_in : (m k i : ℕ) (ls : List Line) → C (module_fact m) → Every In ls → Every In (joins_all g m k i ls)
  unfolding joins_all forwards_to
  joins_all_in m k i [] hm h = tt
  joins_all_in m k i (l ∷ ls) hm h = go (is_forward_of g m l.fact) refl (joins_all_in m k (i + 1) ls hm h.1)
    where
      go : (b : Bool) → is_forward_of g m l.fact ≡ b → Every In (joins_all g m k (i + 1) ls)
          → Every In (elim b [ true ↦ joined g (first_part l.fact) (k + 1) (i + 1) ++ joins_all g m k (i + 1) ls | false ↦ joins_all g m k (i + 1) ls ])
      go true e r =
          let f = forward_there g m l.fact e in
          every_append In (joined g (first_part l.fact) (k + 1) (i + 1)) (joins_all g m k (i + 1) ls)
          (joined_in (first_part l.fact) m (k + 1) (i + 1) hm (subst (λ x. C x) f.0 h.0) f.1) r
      go false e r = r

  -- a module that has a line is in the choice
  module_in : (m i : ℕ) (ls : List Line) → Every In ls → (module_line m i ls ≡ 0 → ⊥) → C (module_fact m)
  unfolding module_line is_module
  module_in m i [] h n = absurd (n refl)
  module_in m i (l ∷ ls) h n = go (is_the_module m l.fact) refl (λ e. module_in m (i + 1) ls h.1 e)
    where
      go : (b : Bool) → is_the_module m l.fact ≡ b → ((module_line m (i + 1) ls ≡ 0 → ⊥) → C (module_fact m)) → C (module_fact m)
      go true e r = subst (λ x. C x) (module_there m l.fact e) h.0
      go false e r = r (λ z. n (rw (e, module_line) z))

  joined_to_in : (base s k n : ℕ) → (eqb n 0 ≡ false → C (module_fact (owner (symbol_of g s)))) → C (forward_fact s) → Every In (joined_to g base s k n)
  unfolding joined_to
  joined_to_in base s k n hm hs = go (eqb n 0) refl
    where
      go : (b : Bool) → eqb n 0 ≡ b → Every In (elim b [ true ↦ [] | false ↦ joined g s (k + 1) (name_of base n) ])
      go true e = tt
      go false e = joined_in s (owner (symbol_of g s)) (k + 1) (name_of base n) (hm e) hs refl

  followed_in : (k : ℕ) (f : Fact) → C f → Every In (followed g (last_verdicts g) k f)
  unfolding followed
  followed_in k f c = every_map In (λ x. line x.fact x.rule (k + 1) 0) nothing_given (gives g (last_verdicts g) f) (λ i u. closed.by_K2_to_K14 f i c u)

  module _ (base : ℕ) where
    joins_in : (lines : List Line) (k : ℕ) (f : Fact) → Every In lines → C f → Every In (joins g base lines k f)
    unfolding joins
    joins_in lines k (Module m) h c = joins_all_in m.0 k base (drop base (take k lines)) c (every_drop In base (take k lines) (every_take In k lines h))
    joins_in lines k (Statement m i) h c = tt
    joins_in lines k (Use s x) h c = tt
    joins_in lines k (CheckedUse s x) h c = tt
    joins_in lines k (Forward s) h c =
        joined_to_in base s.0 k (module_line (owner (symbol_of g s.0)) 0 (take k lines))
        (λ e. module_in (owner (symbol_of g s.0)) 0 (take k lines) (every_take In k lines h) (eqb-false (module_line (owner (symbol_of g s.0)) 0 (take k lines)) 0 e)) c
    joins_in lines k (Bailout m) h c = tt

    pub news-in : (lines : List Line) (k : ℕ) → k < length lines → Every In lines → Every In (news g (last_verdicts g) base lines k)
    unfolding news fact_at
    news-in lines k u h =
        let c : C (fact_at lines k) = every_at In lines (line (module_fact 0) 0 0 0) h k u in
        every_append In (joins g base lines k (fact_at lines k)) (followed g (last_verdicts g) k (fact_at lines k)) (joins_in lines k (fact_at lines k) h c) (followed_in k (fact_at lines k) c)

    added-in : (lines : List Line) (l : Line) → Every In lines → C l.fact → Every In (added g base lines l)
    unfolding added
    added-in lines l h c = go (has g base lines l.fact)
      where
        go : (b : Bool) → Every In (elim b [ true ↦ lines | false ↦ lines ++ (l ∷ []) ])
        go true = h
        go false = every_append In lines (l ∷ []) h (c, tt)

    pub adds-in : (lines ls : List Line) → Every In lines → Every In ls → Every In (adds g base lines ls)
    unfolding adds
    adds-in lines [] h a = h
    adds-in lines (l ∷ ls) h a = adds-in (added g base lines l) ls (added-in lines l h a.0) a.1

    drained-in : (fuel k : ℕ) (lines : List Line) → Every In lines → Every In (drained g (last_verdicts g) base fuel k lines)
    unfolding drained
    drained-in zero k lines h = h
    drained-in (suc fuel) k lines h =
        go (ltb k (length lines)) refl (λ u. drained-in fuel (k + 1) (adds g base lines (news g (last_verdicts g) base lines k)) (adds-in lines (news g (last_verdicts g) base lines k) h (news-in lines k u h)))
      where
        go : (b : Bool) → ltb k (length lines) ≡ b → (k < length lines → Every In (drained g (last_verdicts g) base fuel (k + 1) (adds g base lines (news g (last_verdicts g) base lines k))))
            → Every In (elim b [ true ↦ drained g (last_verdicts g) base fuel (k + 1) (adds g base lines (news g (last_verdicts g) base lines k)) | false ↦ lines ])
        go true e r = r (ltb-true k (length lines) e)
        go false e r = h

    started-in : (lines : List Line) (f : Fact) → Every In lines → C f → Every In (started g (last_verdicts g) base lines f)
    unfolding started
    started-in lines f h c = drained-in (mark_count g) (length lines) (added g base lines (line f 0 0 0)) (added-in lines (line f 0 0 0) h c)

    drained-all-in : (starts : List Fact) (lines : List Line) → Every C starts → Every In lines → Every In (drained_all g (last_verdicts g) base starts lines)
    unfolding drained_all
    drained-all-in [] lines a h = h
    drained-all-in (f ∷ fs) lines a h =
        drained-all-in fs (started g (last_verdicts g) base lines f) a.1 (started-in lines f h a.0)

  -- all facts of a drain are in the choice
  pub drain_in : (starts : List Fact) → HoldsStarts starts C → Every In (drain_of g (last_verdicts g) starts)
  unfolding drain_of
  drain_in starts h = drained-all-in 0 starts [] (every_by C starts (module_fact 0) h) tt
