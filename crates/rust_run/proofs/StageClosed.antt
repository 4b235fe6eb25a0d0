-- The lines of a stage with all that follows from them: K1 to K14 give only what is there. What K1 and K2 to K14 give is good.
use Rattle.std.proofs.Common.{◌≡◌, ℕ, zero, suc, ◌+◌, ◌-◌, ◌<◌, ◌≤◌, Bool, true, false, eqb, List, [], ◌∷◌, ◌++◌, length, get_or, take, drop, sym, refl, ap, ◌∙◌, subst, arith, length-drop, length-take-le, get_or-drop, get_or-take, eq-eqb, eqb-true}
use native.Mathlib.Decide.{dec_lt}
use Rattle.determine_side_effects.specs.graph_tables_crate.Tables.{header_in}
use Rattle.determine_side_effects.specs.graph_crate.Check.{Graph, graph_in}
use Rattle.determine_side_effects.specs.graph_crate.Loaded.{Loaded}
use Rattle.determine_side_effects.specs.graph_access_crate.Names.{owner, declaring_statements, only}
use Rattle.determine_side_effects.specs.graph_access_crate.Words.{symbol_of}
use Rattle.determine_side_effects.proofs.graph_access_crate.Indexes as index
use Rattle.determine_side_effects.specs.facts_crate.declared.Fact.{Fact}
use Rattle.determine_side_effects.specs.facts_crate.Facts.{module_fact, statement_fact, forward_fact, first_part, kind_of, Good}
use Rattle.determine_side_effects.specs.Effects.{last_verdicts}
use Rattle.keep_rules.specs.Rules.{gives}
use Rattle.keep_record.specs.declared.Line.{Line}
use Rattle.keep_record.specs.Lines.{has}
use Rattle.worklist.specs.Drain.{line, fact_at, followed, joined, is_forward_of, is_the_module, forwards_to, is_module, joins_all, module_line, name_of, joined_to, joins, news}
use Rattle.closed_choices.specs.Choice.{nothing_given}
use Rattle.closed_choices.proofs.Every.{Every, every_left, every_right, every_at, tabulate_every, map_every}
use Rattle.closed_choices.proofs.GoodGives.{consequences_good, good_statement}
use Rattle.closed_choices.proofs.Handling.{no_line, Handled}

-- the i-th statement that declares symbol s, of module m
abbrev pub declares : Graph → ℕ → ℕ → ℕ → Fact
declares g m s i = statement_fact m (only (get_or (declaring_statements (symbol_of g s)) i []))

-- what K1 gives is there, where all that it gives for a list of lines is
module _ (g : Graph) (Q : Fact → Type 0) where
  abbrev Has : Line → Type 0
  Has l = Q l.fact

  from_joined : (s a b : ℕ) → Every Has (joined g s a b) → (i : ℕ) → i < length (declaring_statements (symbol_of g s)) → Q (declares g (owner (symbol_of g s)) s i)
  unfolding joined
  from_joined s a b h i u =
      subst (λ j. Q (declares g (owner (symbol_of g s)) s j)) (same i)
      (tabulate_every Has (λ i. line (declares g (owner (symbol_of g s)) s i) 1 a b) 0 (length (declaring_statements (symbol_of g s))) h i u)
    where
      same : (i : ℕ) → 0 + i ≡ i
      same i = omega arith

  forward_is : (m s : ℕ) (f : Fact) → f ≡ forward_fact s → owner (symbol_of g s) ≡ m → (is_forward_of g m f ≡ true) × (first_part f ≡ s)
  forward_is m s f e o = rw (e) (rw (o) (eq-eqb m m refl), refl)

  from_joins_all : (m k i : ℕ) (ls : List Line) → Every Has (joins_all g m k i ls) → (b s : ℕ) → b < length ls → fact_at ls b ≡ forward_fact s → owner (symbol_of g s) ≡ m
      → (j : ℕ) → j < length (declaring_statements (symbol_of g s)) → Q (declares g (owner (symbol_of g s)) s j)
  unfolding joins_all forwards_to fact_at
  from_joins_all m k i [] h b s u e o j w = absurd (omega arith)
  from_joins_all m k i (l ∷ ls) h zero s u e o j w =
      let f = forward_is m s l.fact e o in
      let p : Every Has (joined g (first_part l.fact) (k + 1) (i + 1) ++ joins_all g m k (i + 1) ls) = rw (f.0, joins_all) at h in
      let q = every_left Has (joined g (first_part l.fact) (k + 1) (i + 1)) (joins_all g m k (i + 1) ls) p in
      from_joined s (k + 1) (i + 1) (subst (λ x. Every Has (joined g x (k + 1) (i + 1))) f.1 q) j w
  from_joins_all m k i (l ∷ ls) h (suc b) s u e o j w = from_joins_all m k (i + 1) ls (behind (is_forward_of g m l.fact) refl) b s (omega (arith, u)) e o j w
    where
      behind : (c : Bool) → is_forward_of g m l.fact ≡ c → Every Has (joins_all g m k (i + 1) ls)
      behind true q =
          let p : Every Has (joined g (first_part l.fact) (k + 1) (i + 1) ++ joins_all g m k (i + 1) ls) = rw (q, joins_all) at h in
          every_right Has (joined g (first_part l.fact) (k + 1) (i + 1)) (joins_all g m k (i + 1) ls) p
      behind false q = rw (q, joins_all) at h

module_found : (m i : ℕ) (ls : List Line) (a : ℕ) → a < length ls → fact_at ls a ≡ module_fact m → module_line m i ls ≡ 0 → ⊥
unfolding module_line is_module fact_at
module_found m i [] a u e z = omega (arith, u)
module_found m i (l ∷ ls) zero u e z =
    let q : is_the_module m l.fact ≡ true = rw (e) (eq-eqb m m refl) in
    let w : i + 1 ≡ 0 = rw (q, module_line) at z in
    omega (arith, w)
module_found m i (l ∷ ls) (suc a) u e z = go (is_the_module m l.fact) refl (λ w. module_found m (i + 1) ls a (omega (arith, u)) e w)
  where
    go : (c : Bool) → is_the_module m l.fact ≡ c → (module_line m (i + 1) ls ≡ 0 → ⊥) → ⊥
    go true q r = let w : i + 1 ≡ 0 = rw (q, module_line) at z in omega (arith, w)
    go false q r = r (rw (q, module_line) at z)

-- a line's fact in the first lines, and in those of them behind the base
in_front : (lines : List Line) (k n : ℕ) (f : Fact) → n < k → fact_at lines n ≡ f → fact_at (take k lines) n ≡ f
unfolding fact_at
in_front lines k n f h e = ap (λ l. l.fact) (get_or-take k lines n no_line h) ∙ e

behind_base : (lines : List Line) (base k n : ℕ) (f : Fact) → base ≤ n → n < k → fact_at lines n ≡ f → fact_at (drop base (take k lines)) (n - base) ≡ f
unfolding fact_at
behind_base lines base k n f b h e =
    let z : base + (n - base) ≡ n = omega (arith, b) in
    ap (λ l. l.fact) (get_or-drop base (take k lines) (n - base) no_line ∙ ap (λ i. get_or (take k lines) i no_line) z) ∙ in_front lines k n f h e

-- where all lines from the base on are handled
module _ (g : Graph) (v : List ℕ) (base : ℕ) (lines : List Line) (handled : Handled g v base lines (length lines)) where
  abbrev There : Line → Type 0
  There l = has g base lines l.fact ≡ true

  news_there : (k : ℕ) → base ≤ k → k < length lines → Every There (joins g base lines k (fact_at lines k) ++ followed g v k (fact_at lines k))
  unfolding news
  news_there k b u = handled k b u

  joins_there : (k : ℕ) (f : Fact) → base ≤ k → k < length lines → fact_at lines k ≡ f → Every There (joins g base lines k f)
  joins_there k f b u e =
      subst (λ x. Every There (joins g base lines k x)) e (every_left There (joins g base lines k (fact_at lines k)) (followed g v k (fact_at lines k)) (news_there k b u))

  -- K2 to K14
  pub followed_there : (f : Fact) (n : ℕ) → base ≤ n → n < length lines → fact_at lines n ≡ f → (k : ℕ) → k < length (gives g v f)
      → has g base lines (get_or (gives g v f) k nothing_given).fact ≡ true
  unfolding followed
  followed_there f n b u e k w =
      map_every There (λ x. line x.fact x.rule (n + 1) 0) nothing_given (gives g v f)
      (subst (λ x. Every There (followed g v n x)) e (every_right There (joins g base lines n (fact_at lines n)) (followed g v n (fact_at lines n)) (news_there n b u))) k w

  -- K1: the module's line before that of the forward, of the base or not, and the other way round
  module_first : (m s a b : ℕ) → base ≤ b → a < b → b < length lines → fact_at lines a ≡ module_fact m → fact_at lines b ≡ forward_fact s → owner (symbol_of g s) ≡ m
      → (i : ℕ) → i < length (declaring_statements (symbol_of g s)) → has g base lines (declares g (owner (symbol_of g s)) s i) ≡ true
  unfolding joins joined_to
  module_first m s a b late l u ea eb o i w = go (eqb n 0) refl (joins_there b (forward_fact s) late u eb)
    where
      n : ℕ
      n = module_line (owner (symbol_of g s)) 0 (take b lines)

      found : n ≡ 0 → ⊥
      found z =
          module_found m 0 (take b lines) a (omega (arith, l, length-take-le b lines (omega (arith, u)))) (in_front lines b a (module_fact m) l ea)
          (subst (λ x. module_line x 0 (take b lines) ≡ 0) o z)

      go : (c : Bool) → eqb n 0 ≡ c → Every There (elim (eqb n 0) [ true ↦ [] | false ↦ joined g s (b + 1) (name_of base n) ])
          → has g base lines (declares g (owner (symbol_of g s)) s i) ≡ true
      go true q h = absurd (found (eqb-true n 0 q))
      go false q h = from_joined g (λ f. has g base lines f ≡ true) s (b + 1) (name_of base n) (rw (q) at h) i w

  forward_first : (m s a b : ℕ) → base ≤ b → b < a → a < length lines → fact_at lines a ≡ module_fact m → fact_at lines b ≡ forward_fact s → owner (symbol_of g s) ≡ m
      → (i : ℕ) → i < length (declaring_statements (symbol_of g s)) → has g base lines (declares g (owner (symbol_of g s)) s i) ≡ true
  unfolding joins
  forward_first m s a b late l u ea eb o i w =
      from_joins_all g (λ f. has g base lines f ≡ true) m a base (drop base (take a lines)) (joins_there a (module_fact m) (omega (arith, late, l)) u ea) (b - base) s
      (omega (arith, late, l, length-drop base (take a lines), length-take-le a lines (omega (arith, u)))) (behind_base lines base a b (forward_fact s) late l eb) o i w

  pub k1_there : (m s a b : ℕ) → base ≤ b → a < length lines → b < length lines → fact_at lines a ≡ module_fact m → fact_at lines b ≡ forward_fact s → owner (symbol_of g s) ≡ m
      → (i : ℕ) → i < length (declaring_statements (symbol_of g s)) → has g base lines (declares g m s i) ≡ true
  k1_there m s a b late ua ub ea eb o i w = subst (λ x. has g base lines (declares g x s i) ≡ true) o (go (dec_lt a b) (dec_lt b a))
    where
      same : a ≡ b → ⊥
      same e =
          let k : kind_of (module_fact m) ≡ kind_of (forward_fact s) = ap kind_of (sym ea ∙ (ap (λ x. fact_at lines x) e ∙ eb)) in
          omega (arith, k)

      go : Dec (a < b) → Dec (b < a) → has g base lines (declares g (owner (symbol_of g s)) s i) ≡ true
      go (yes l) r = module_first m s a b late l ub ea eb o i w
      go (no n) (yes l) = forward_first m s a b late l ua ea eb o i w
      go (no n) (no r) = absurd (same (omega arith))

-- what the rules give from good facts is good
module _ {numbers tables : List ℕ} (t : Loaded numbers tables) where
  symbol_good : (s : ℕ) → Good (graph_in numbers) (forward_fact s) → s < (header_in numbers).symbols
  unfolding graph_in
  symbol_good s h = h

  pub k1_good : (m s i : ℕ) → Good (graph_in numbers) (forward_fact s) → owner (symbol_of (graph_in numbers) s) ≡ m → i < length (declaring_statements (symbol_of (graph_in numbers) s))
      → Good (graph_in numbers) (declares (graph_in numbers) m s i)
  k1_good m s i h e u =
      subst (λ o. Good (graph_in numbers) (declares (graph_in numbers) o s i)) e
      (good_statement numbers (owner (symbol_of (graph_in numbers) s)) (only (get_or (declaring_statements (symbol_of (graph_in numbers) s)) i [])) (index.owner_below t s (symbol_good s h))
      (index.declared_below t s i (symbol_good s h) u))

  pub gives_good : (f : Fact) (k : ℕ) → Good (graph_in numbers) f → k < length (gives (graph_in numbers) (last_verdicts (graph_in numbers)) f)
      → Good (graph_in numbers) (get_or (gives (graph_in numbers) (last_verdicts (graph_in numbers)) f) k nothing_given).fact
  gives_good f k h u =
      every_at (λ x. Good (graph_in numbers) x.fact) (gives (graph_in numbers) (last_verdicts (graph_in numbers)) f) nothing_given (consequences_good t (last_verdicts (graph_in numbers)) f h) k u
