-- A drain over a base stays inside every choice that has the base and the starts and is closed but for the base.
use Rattle.std.proofs.Common.{◌≡◌, ℕ, zero, suc, ◌+◌, ◌-◌, ◌<◌, ◌≤◌, Bool, true, false, eqb, ltb, ◌↔◌, List, [], ◌∷◌, ◌++◌, length, get_or, take, drop, sym, refl, ap, ◌∙◌, subst, append_assoc, append-nil, arith, length-append, get_or-append-add, ltb-true}
use borrow.Author.Tests.{eqb-false}
use lib.Seq.{drop-append_seam}
use Rattle.determine_side_effects.specs.graph_crate.Check.{Graph}
use Rattle.determine_side_effects.specs.graph_access_crate.Names.{owner, declaring_statements, only}
use Rattle.determine_side_effects.specs.graph_access_crate.Words.{symbol_of}
use Rattle.determine_side_effects.specs.facts_crate.declared.Fact.{Fact}
use Rattle.determine_side_effects.specs.facts_crate.declared.Fact.TheVariants.{Module, Statement, Use, CheckedUse, Forward, Bailout}
use Rattle.determine_side_effects.specs.facts_crate.Facts.{module_fact, statement_fact, forward_fact, first_part, mark_count}
use Rattle.determine_side_effects.specs.Effects.{last_verdicts}
use Rattle.keep_rules.specs.Rules.{gives}
use Rattle.keep_record.specs.declared.Line.{Line}
use Rattle.keep_record.specs.Lines.{stays, marks_from, has, added, adds}
use Rattle.keep_record.specs.Held.{Distinct}
use Rattle.keep_record.proofs.Adding.{added_distinct, added_old, added_new}
use Rattle.keep_record.proofs.Counting.{lines_apart}
use Rattle.worklist.specs.Drain.{line, fact_at, followed, joined, is_forward_of, is_the_module, forwards_to, is_module, joins_all, module_line, name_of, joined_to, joins, news, drained, started, drained_all}
use Rattle.closed_choices.specs.Choice.{Choice, nothing_given, HasLine}
use Rattle.closed_choices.proofs.Every.{Every, every_append, every_at, every_by, every_tabulate, every_map, every_take}
use Rattle.closed_choices.proofs.Reaching.{forward_there, module_there}
use Rattle.closed_choices.proofs.Handling.{no_line, fact_front}
use Rattle.rust_engine.specs.EntryPoints.{ClosedOver}

drop_take_every : (P : Line → Type 0) (n k : ℕ) (xs : List Line) → Every P (drop n xs) → Every P (drop n (take k xs))
drop_take_every P zero k xs a = every_take P k xs a
drop_take_every P (suc n) zero xs a = tt
drop_take_every P (suc n) (suc k) [] a = tt
drop_take_every P (suc n) (suc k) (x ∷ xs) a = drop_take_every P n k xs a

module _ (g : Graph) (B D : Choice) (closed : ClosedOver g B D) where
  abbrev In : Line → Type 0
  In l = D l.fact

  -- of the base only what stays
  abbrev Staying : Line → Type 0
  Staying l = stays l.fact ≡ true → D l.fact

  -- K1
  joined_in : (s m a b : ℕ) → D (module_fact m) → D (forward_fact s) → owner (symbol_of g s) ≡ m → Every In (joined g s a b)
  unfolding joined
  joined_in s m a b hm hs e =
      every_tabulate In (λ i. line (statement_fact (owner (symbol_of g s)) (only (get_or (declaring_statements (symbol_of g s)) i []))) 1 a b) 0 (length (declaring_statements (symbol_of g s)))
      (λ k l u. subst (λ o. D (statement_fact o (only (get_or (declaring_statements (symbol_of g s)) k [])))) (sym e) (closed.by_K1 m s k hm hs e (omega (arith, u))))

  joins_all_in : (m k i : ℕ) (ls : List Line) → D (module_fact m) → Every In ls → Every In (joins_all g m k i ls)
  unfolding joins_all forwards_to
  joins_all_in m k i [] hm h = tt
  joins_all_in m k i (l ∷ ls) hm h = go (is_forward_of g m l.fact) refl (joins_all_in m k (i + 1) ls hm h.1)
    where
      go : (b : Bool) → is_forward_of g m l.fact ≡ b → Every In (joins_all g m k (i + 1) ls)
          → Every In (elim b [ true ↦ joined g (first_part l.fact) (k + 1) (i + 1) ++ joins_all g m k (i + 1) ls | false ↦ joins_all g m k (i + 1) ls ])
      go true e r =
          let f = forward_there g m l.fact e in
          every_append In (joined g (first_part l.fact) (k + 1) (i + 1)) (joins_all g m k (i + 1) ls)
          (joined_in (first_part l.fact) m (k + 1) (i + 1) hm (subst (λ x. D x) f.0 h.0) f.1) r
      go false e r = r

  -- a module that has a line is in the choice, of the base or not: modules stay
  module_in : (m i : ℕ) (ls : List Line) → Every Staying ls → (module_line m i ls ≡ 0 → ⊥) → D (module_fact m)
  unfolding module_line is_module
  module_in m i [] h n = absurd (n refl)
  module_in m i (l ∷ ls) h n = go (is_the_module m l.fact) refl (λ e. module_in m (i + 1) ls h.1 e)
    where
      go : (b : Bool) → is_the_module m l.fact ≡ b → ((module_line m (i + 1) ls ≡ 0 → ⊥) → D (module_fact m)) → D (module_fact m)
      go true e r = let q = module_there m l.fact e in subst (λ x. D x) q (h.0 (ap stays q))
      go false e r = r (λ z. n (rw (e, module_line) z))

  joined_to_in : (base s k n : ℕ) → (eqb n 0 ≡ false → D (module_fact (owner (symbol_of g s)))) → D (forward_fact s) → Every In (joined_to g base s k n)
  unfolding joined_to
  joined_to_in base s k n hm hs = go (eqb n 0) refl
    where
      go : (b : Bool) → eqb n 0 ≡ b → Every In (elim b [ true ↦ [] | false ↦ joined g s (k + 1) (name_of base n) ])
      go true e = tt
      go false e = joined_in s (owner (symbol_of g s)) (k + 1) (name_of base n) (hm e) hs refl

  joins_in : (base : ℕ) (lines : List Line) (k : ℕ) (f : Fact) → Every Staying lines → Every In (drop base lines) → D f → Every In (joins g base lines k f)
  unfolding joins
  joins_in base lines k (Module m) h a c = joins_all_in m.0 k base (drop base (take k lines)) c (drop_take_every In base k lines a)
  joins_in base lines k (Statement m i) h a c = tt
  joins_in base lines k (Use s x) h a c = tt
  joins_in base lines k (CheckedUse s x) h a c = tt
  joins_in base lines k (Forward s) h a c =
      joined_to_in base s.0 k (module_line (owner (symbol_of g s.0)) 0 (take k lines))
      (λ e. module_in (owner (symbol_of g s.0)) 0 (take k lines) (every_take Staying k lines h) (eqb-false (module_line (owner (symbol_of g s.0)) 0 (take k lines)) 0 e)) c
  joins_in base lines k (Bailout m) h a c = tt

  -- K2 to K14
  followed_in : (k : ℕ) (f : Fact) → D f → (B f → ⊥) → Every In (followed g (last_verdicts g) k f)
  unfolding followed
  followed_in k f c n = every_map In (λ x. line x.fact x.rule (k + 1) 0) nothing_given (gives g (last_verdicts g) f) (λ i u. closed.by_K2_to_K14 f i c n u)

  module _ (main : List Line) (base-is : (f : Fact) → B f ↔ (HasLine main f × (stays f ≡ true))) (base-in : (f : Fact) → B f → D f) where
    abbrev base : ℕ
    base = length main

    abbrev v : List ℕ
    v = last_verdicts g

    -- lines between: the base, and behind it facts of the choice, each once
    record Going (lines : List Line) : Type 0 where
      rest : List Line
      is : lines ≡ main ++ rest
      apart : Distinct (marks_from g (length main) lines)
      inside : Every In rest

    -- the staying facts of the base are in the choice
    base-staying : Every Staying main
    unfolding fact_at
    base-staying =
        every_by Staying main no_line
        (λ k u s. base-in (get_or main k no_line).fact ((base-is (get_or main k no_line).fact).1 (record { number = k; inside = u; is = refl }, s)))

    inside-staying : (ls : List Line) → Every In ls → Every Staying ls
    inside-staying [] h = tt
    inside-staying (l ∷ ls) h = ((λ s. h.0), inside-staying ls h.1)

    -- the fact of a line behind the base is in the choice, and not of the base
    fact_in_lem : (lines : List Line) → Going lines → (k : ℕ) → base ≤ k → k < length lines → D (fact_at lines k)
    unfolding fact_at
    fact_in_lem lines w k b u = subst (λ (x : Line). D x.fact) (sym there) (every_at In w.rest no_line w.inside (k - base) low)
      where
        low : k - base < length w.rest
        low = omega (arith, b, u, ap length w.is, length-append main w.rest)

        place : k ≡ base + (k - base)
        place = omega (arith, b)

        there : get_or lines k no_line ≡ get_or w.rest (k - base) no_line
        there = ap (λ (xs : List Line). get_or xs k no_line) w.is ∙ ap (λ (i : ℕ). get_or (main ++ w.rest) i no_line) place ∙ get_or-append-add main w.rest (k - base) no_line

    fact-new : (lines : List Line) → Going lines → (k : ℕ) → base ≤ k → k < length lines → B (fact_at lines k) → ⊥
    unfolding fact_at
    fact-new lines w k b u h =
        let p = (base-is (fact_at lines k)).0 h in
        let e : fact_at lines p.0.number ≡ fact_at lines k =
        ap (λ (xs : List Line). fact_at xs p.0.number) w.is ∙ fact_front main w.rest p.0.number p.0.inside ∙ p.0.is in
        lines_apart g no_line base lines w.apart p.0.number k (omega (arith, b, p.0.inside)) u (λ q. ap stays e ∙ p.1) e

    news-in : (lines : List Line) → Going lines → (k : ℕ) → base ≤ k → k < length lines → Every In (news g v base lines k)
    unfolding news
    news-in lines w k b u =
        every_append In (joins g base lines k (fact_at lines k)) (followed g v k (fact_at lines k)) (joins_in base lines k (fact_at lines k) all behind (fact_in_lem lines w k b u))
        (followed_in k (fact_at lines k) (fact_in_lem lines w k b u) (fact-new lines w k b u))
      where
        all : Every Staying lines
        all = subst (λ (xs : List Line). Every Staying xs) (sym w.is) (every_append Staying main w.rest base-staying (inside-staying w.rest w.inside))

        behind : Every In (drop base lines)
        behind = subst (λ (xs : List Line). Every In xs) (sym (ap (λ (xs : List Line). drop base xs) w.is ∙ drop-append_seam main w.rest)) w.inside

    going-longer : (lines : List Line) → Going lines → base ≤ length lines
    going-longer lines w = omega (arith, ap length w.is, length-append main w.rest)

    -- lines added
    going-added : (lines : List Line) (l : Line) → Going lines → D l.fact → Going (added g base lines l)
    going-added lines l w c = go (has g base lines l.fact) refl
      where
        go : (b : Bool) → has g base lines l.fact ≡ b → Going (added g base lines l)
        go true e = subst (λ (xs : List Line). Going xs) (sym (added_old g base lines l e)) w
        go false e =
            record {
              rest = w.rest ++ (l ∷ []);
              is = added_new g base lines l e ∙ ap (λ (xs : List Line). xs ++ (l ∷ [])) w.is ∙ append_assoc main w.rest (l ∷ []);
              apart = added_distinct g base lines l (going-longer lines w) w.apart;
              inside = every_append In w.rest (l ∷ []) w.inside (c, tt);
            }

    going-adds : (lines ls : List Line) → Going lines → Every In ls → Going (adds g base lines ls)
    unfolding adds
    going-adds lines [] w a = w
    going-adds lines (l ∷ ls) w a = going-adds (added g base lines l) ls (going-added lines l w a.0) a.1

    -- lines handled
    going-drained : (fuel k : ℕ) (lines : List Line) → base ≤ k → Going lines → Going (drained g v base fuel k lines)
    unfolding drained
    going-drained zero k lines b w = w
    going-drained (suc fuel) k lines b w =
        go (ltb k (length lines)) refl
        (λ u. going-drained fuel (k + 1) (adds g base lines (news g v base lines k)) (omega (arith, b)) (going-adds lines (news g v base lines k) w (news-in lines w k b u)))
      where
        go : (c : Bool) → ltb k (length lines) ≡ c → (k < length lines → Going (drained g v base fuel (k + 1) (adds g base lines (news g v base lines k))))
            → Going (elim c [ true ↦ drained g v base fuel (k + 1) (adds g base lines (news g v base lines k)) | false ↦ lines ])
        go true e r = r (ltb-true k (length lines) e)
        go false e r = w

    going-started : (lines : List Line) (f : Fact) → Going lines → D f → Going (started g v base lines f)
    unfolding started
    going-started lines f w c = going-drained (mark_count g) (length lines) (added g base lines (line f 0 0 0)) (going-longer lines w) (going-added lines (line f 0 0 0) w c)

    going-all : (starts : List Fact) (lines : List Line) → Every D starts → Going lines → Going (drained_all g v base starts lines)
    unfolding drained_all
    going-all [] lines a w = w
    going-all (f ∷ fs) lines a w = going-all fs (started g v base lines f) a.1 (going-started lines f w a.0)

    -- every line from the base on has its fact in the choice
    pub stage-inside : (starts : List Fact) → Every D starts → Distinct (marks_from g (length main) main) → (k : ℕ) → length main ≤ k
        → k < length (drained_all g (last_verdicts g) (length main) starts main) → D (fact_at (drained_all g (last_verdicts g) (length main) starts main) k)
    stage-inside starts a apart k b u =
        fact_in_lem (drained_all g v base starts main) (going-all starts main a (record { rest = []; is = sym (append-nil main); apart = apart; inside = tt })) k b u
