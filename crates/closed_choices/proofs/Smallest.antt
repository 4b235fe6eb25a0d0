-- T5: the facts of a drain's lines are the smallest closed choice that holds its starts.
use Prim.Native.Nat.{ℕ, zero, suc, ◌+◌, ◌<◌, ◌≤◌}
use mathlib.Core.Path.{◌≡◌, refl, ap, ◌∙◌, sym, subst}
use mathlib.Core.Bool.{Bool, true, false}
use mathlib.Core.List.{List, [], ◌∷◌, ◌++◌}
use native.Mathlib.Decide.{dec_lt}
use native.Mathlib.Omega.{arith}
use borrow.Author.Tests.{eqb-true, eq-eqb}
use lib.Dec.{eqb, ltb}
use lib.ListN.{length, get_or, take}
use lib.Seq.{get_or-take, length-take-le}
use Rattle.determine_side_effects.specs.graph_tables_crate.Tables.{header_in}
use Rattle.determine_side_effects.specs.graph_crate.Check.{Graph, graph_in}
use Rattle.determine_side_effects.specs.graph_access_crate.Names.{owner, declaring_statements, only}
use Rattle.determine_side_effects.specs.facts_crate.declared.Fact.{Fact}
use Rattle.determine_side_effects.specs.facts_crate.Facts.{module_fact, statement_fact, forward_fact, first_part, kind_of, Good, mark_of, mark_count}
use Rattle.determine_side_effects.specs.graph_access_crate.Words.{symbol_of}
use Rattle.determine_side_effects.specs.graph_crate.Loaded.{Loaded}
use Rattle.determine_side_effects.proofs.graph_access_crate.Indexes as index
use Rattle.determine_side_effects.proofs.facts_crate.Marks.{mark_below, mark_injective}
use Rattle.determine_side_effects.specs.Effects.{last_verdicts}
use Rattle.keep_rules.specs.Rules.{gives}
use Rattle.keep_record.specs.declared.Line.{Line}
use Rattle.keep_record.specs.Lines.{elem, marks_of, marks_from, has, added, adds}
use Rattle.keep_record.proofs.Adding.{elem_at, added_longer, added_has, has_kept, marks-length, marks_at}
use Rattle.keep_record.proofs.Counting.{elem_place}
use Rattle.worklist.specs.Drain.{line, fact_at, followed, joined, is_forward_of, is_the_module, forwards_to, is_module, joins_all, module_line, name_of, joined_to, joins, news, drained, started, drained_all, drain_of}
use Rattle.worklist.proofs.Ends.{started_longer}
use Rattle.closed_choices.specs.Choice.{Choice, nothing_given, Closed, HoldsStarts, Smallest, HasLine}
use Rattle.closed_choices.proofs.Every.{Every, every_left, every_right, every_at, every_by, tabulate_every, map_every}
use Rattle.closed_choices.proofs.GoodGives.{consequences_good, good_statement}
use Rattle.closed_choices.proofs.Reaching.{news-in, adds-in, drain_in}
use Rattle.closed_choices.proofs.Handling.{no_line, Handled, Sound, sound-few, all-handled}

-- what K1 gives has a line, where all that it gives for a list of lines has one
module _ (g : Graph) (Q : Fact → Type 0) where
  abbrev Has : Line → Type 0
  Has l = Q l.fact

  from_joined : (s a b : ℕ) → Every Has (joined g s a b) → (i : ℕ) → i < length (declaring_statements (symbol_of g s)) → Q (statement_fact (owner (symbol_of g s)) (only (get_or (declaring_statements (symbol_of g s)) i [])))
  unfolding joined
  from_joined s a b h i u =
      subst (λ j. Q (statement_fact (owner (symbol_of g s)) (only (get_or (declaring_statements (symbol_of g s)) j [])))) (same i)
      (tabulate_every Has (λ i. line (statement_fact (owner (symbol_of g s)) (only (get_or (declaring_statements (symbol_of g s)) i []))) 1 a b) 0 (length (declaring_statements (symbol_of g s))) h i u)
    where
      same : (i : ℕ) → 0 + i ≡ i
      same i = omega arith

  forward_is : (m s : ℕ) (f : Fact) → f ≡ forward_fact s → owner (symbol_of g s) ≡ m → (is_forward_of g m f ≡ true) × (first_part f ≡ s)
  forward_is m s f e o = rw (e) (rw (o) (eq-eqb m m refl), refl)

  from_joins_all : (m k i : ℕ) (ls : List Line) → Every Has (joins_all g m k i ls) → (b s : ℕ) → b < length ls → fact_at ls b ≡ forward_fact s → owner (symbol_of g s) ≡ m
      → (j : ℕ) → j < length (declaring_statements (symbol_of g s)) → Q (statement_fact (owner (symbol_of g s)) (only (get_or (declaring_statements (symbol_of g s)) j [])))
  unfolding joins_all forwards_to fact_at
  from_joins_all m k i [] h b s u e o j w = absurd (omega arith)
  from_joins_all m k i (l ∷ ls) h zero s u e o j w =
      let f = forward_is m s l.fact e o in
      let p : Every Has (joined g (first_part l.fact) (k + 1) (i + 1) ++ joins_all g m k (i + 1) ls) = rw (f.0, joins_all) at h in
      let q = every_left Has (joined g (first_part l.fact) (k + 1) (i + 1)) (joins_all g m k (i + 1) ls) p in
      from_joined s (k + 1) (i + 1) (subst (λ x. Every Has (joined g x (k + 1) (i + 1))) f.1 q) j w
  from_joins_all m k i (l ∷ ls) h (suc b) s u e o j w = from_joins_all m k (i + 1) ls (behind (is_forward_of g m l.fact) refl) b s (omega (arith, u)) e o j w
    where
      behind : (c : Bool) → is_forward_of g m l.fact ≡ c → Every Has (joins_all g m k (i + 1) ls)
      behind true q = let p : Every Has (joined g (first_part l.fact) (k + 1) (i + 1) ++ joins_all g m k (i + 1) ls) = rw (q, joins_all) at h in every_right Has (joined g (first_part l.fact) (k + 1) (i + 1)) (joins_all g m k (i + 1) ls) p
      behind false q = rw (q, joins_all) at h

module_found : (m i : ℕ) (ls : List Line) (a : ℕ) → a < length ls → fact_at ls a ≡ module_fact m → module_line m i ls ≡ 0 → ⊥
unfolding module_line is_module fact_at
module_found m i [] a u e z = omega (arith, u)
module_found m i (l ∷ ls) zero u e z =
    let q : is_the_module m l.fact ≡ true = rw (e) (eq-eqb m m refl) in
    let w : i + 1 ≡ 0 = rw (q, module_line) at z in
    omega (arith, w)
module_found m i (l ∷ ls) (suc a) u e z = go (is_the_module m l.fact) refl (λ w. module_found m (i + 1) ls a (omega (arith, u)) e w)
  where
    go : (c : Bool) → is_the_module m l.fact ≡ c → (module_line m (i + 1) ls ≡ 0 → ⊥) → ⊥
    go true q r = let w : i + 1 ≡ 0 = rw (q, module_line) at z in omega (arith, w)
    go false q r = r (rw (q, module_line) at z)

-- a fact that is there stays
module _ (g : Graph) (v : List ℕ) (base : ℕ) where
  drained_keeps : (f : Fact) (fuel k : ℕ) (lines : List Line) → has g base lines f ≡ true → has g base (drained g v base fuel k lines) f ≡ true
  unfolding drained
  drained_keeps f zero k lines h = h
  drained_keeps f (suc fuel) k lines h = go (ltb k (length lines)) (drained_keeps f fuel (k + 1) (adds g base lines (news g v base lines k)) (has_kept g base lines (news g v base lines k) f h))
    where
      go : (b : Bool) → has g base (drained g v base fuel (k + 1) (adds g base lines (news g v base lines k))) f ≡ true
          → has g base (elim b [ true ↦ drained g v base fuel (k + 1) (adds g base lines (news g v base lines k)) | false ↦ lines ]) f ≡ true
      go true r = r
      go false r = h

  started_keeps : (f e : Fact) (lines : List Line) → has g base lines f ≡ true → has g base (started g v base lines e) f ≡ true
  unfolding started adds
  started_keeps f e lines h = drained_keeps f (mark_count g) (length lines) (added g base lines (line e 0 0 0)) (has_kept g base lines (line e 0 0 0 ∷ []) f h)

  all_keep : (f : Fact) (starts : List Fact) (lines : List Line) → has g base lines f ≡ true → has g base (drained_all g v base starts lines) f ≡ true
  unfolding drained_all
  all_keep f [] lines h = h
  all_keep f (e ∷ es) lines h = all_keep f es (started g v base lines e) (started_keeps f e lines h)

  started_there : (lines : List Line) (f : Fact) → base ≤ length lines → has g base (started g v base lines f) f ≡ true
  unfolding started
  started_there lines f b = drained_keeps f (mark_count g) (length lines) (added g base lines (line f 0 0 0)) (added_has g base lines (line f 0 0 0) b)

  starts_there : (starts : List Fact) (lines : List Line) (i : ℕ) → base ≤ length lines → i < length starts → has g base (drained_all g v base starts lines) (get_or starts i (module_fact 0)) ≡ true
  unfolding drained_all
  starts_there [] lines i b u = absurd (omega arith)
  starts_there (f ∷ fs) lines zero b u = all_keep f fs (started g v base lines f) (started_there lines f b)
  starts_there (f ∷ fs) lines (suc i) b u =
      let longer : base ≤ length (started g v base lines f) = omega (arith, b, added_longer g base lines (line f 0 0 0), started_longer g v base lines f) in
      starts_there fs (started g v base lines f) i longer (omega (arith, u))

-- a line's fact in the first lines
in_front : (lines : List Line) (k n : ℕ) (f : Fact) → n < k → fact_at lines n ≡ f → fact_at (take k lines) n ≡ f
unfolding fact_at
in_front lines k n f h e = ap (λ l. l.fact) (get_or-take k lines n no_line h) ∙ e

-- a mark of the lines is that of a line, and each line has its mark
pub marked_line : (g : Graph) (lines : List Line) (j : ℕ) → elem j (marks_of g lines) ≡ true → (k : ℕ) × (k < length lines) × (j ≡ mark_of g (fact_at lines k))
unfolding fact_at
marked_line g lines j e =
    let p = elem_place j (marks_of g lines) e in
    let u : p.0 < length lines = omega (arith, p.1, marks-length g lines) in
    (p.0, u, p.2 ∙ marks_at g lines p.0 no_line u)

pub line_marked : (g : Graph) (lines : List Line) (f : Fact) → HasLine lines f → elem (mark_of g f) (marks_of g lines) ≡ true
unfolding fact_at
line_marked g lines f h =
    let u : h.number < length (marks_of g lines) = omega (arith, marks-length g lines, h.inside) in
    subst (λ j. elem j (marks_of g lines) ≡ true) (marks_at g lines h.number no_line h.inside ∙ ap (λ e. mark_of g e) h.is) (elem_at (marks_of g lines) h.number u)

module _ {numbers tables : List ℕ} (t : Loaded numbers tables) where
  abbrev g : Graph
  g = graph_in numbers

  abbrev v : List ℕ
  v = last_verdicts (graph_in numbers)

  symbol_good : (s : ℕ) → Good g (forward_fact s) → s < (header_in numbers).symbols
  unfolding graph_in
  symbol_good s h = h

  -- the good facts are a closed choice
  good_closed : Closed g (Good g)
  good_closed =
      record {
        by_K1 = λ m s i hm hs e u. k1 m s i hs e u;
        by_K2_to_K14 = λ f k h u. every_at (λ x. Good g x.fact) (gives g v f) nothing_given (consequences_good t v f h) k u;
      }
    where
      k1 : (m s i : ℕ) → Good g (forward_fact s) → owner (symbol_of g s) ≡ m → i < length (declaring_statements (symbol_of g s)) → Good g (statement_fact m (only (get_or (declaring_statements (symbol_of g s)) i [])))
      k1 m s i hs e u =
          subst (λ o. Good g (statement_fact o (only (get_or (declaring_statements (symbol_of g s)) i [])))) e
          (good_statement numbers (owner (symbol_of g s)) (only (get_or (declaring_statements (symbol_of g s)) i [])) (index.owner_below t s (symbol_good s hs)) (index.declared_below t s i (symbol_good s hs) u))

  -- a good fact that is marked has a line
  pub has_line : (lines : List Line) (f : Fact) → Every (λ l. Good g l.fact) lines → Good g f → has g 0 lines f ≡ true → HasLine lines f
  unfolding has fact_at marks_from
  has_line lines f a h e =
      let p = marked_line g lines (mark_of g f) e in
      record { number = p.0; inside = p.1; is = sym (mark_injective t f (fact_at lines p.0) h (every_at (λ l. Good g l.fact) lines no_line a p.0 p.1) p.2) }

  module _ (starts : List Fact) (good : HoldsStarts starts (Good g)) where
    abbrev lines : List Line
    lines = drain_of g v starts

    pub good-lines : Every (λ l. Good g l.fact) lines
    good-lines = drain_in g (Good g) good_closed starts good

    good_next : (ls : List Line) (k : ℕ) → k < length ls → Every (λ l. Good g l.fact) ls → Every (λ l. Good g l.fact) (adds g 0 ls (news g v 0 ls k))
    good_next ls k u h = adds-in g (Good g) good_closed 0 ls (news g v 0 ls k) h (news-in g (Good g) good_closed 0 ls k u h)

    ended : Handled g v 0 lines (length lines) × Sound g v 0 lines
    unfolding drain_of marks_of marks_from
    ended = all-handled g v 0 (λ f h. mark_below t f h) good_next starts [] (omega arith) (every_by (Good g) starts (module_fact 0) good) (record { good = tt; apart = tt }) (λ i b u. absurd (omega (arith, u)))

    -- so many lines always suffice
    pub lines-suffice : length lines ≤ mark_count g
    lines-suffice = omega (arith, sound-few g v 0 (λ f h. mark_below t f h) good_next lines ended.1)

    -- every consequence of a line has a line
    news_there : (k : ℕ) → k < length lines → Every (λ l. has g 0 lines l.fact ≡ true) (joins g 0 lines k (fact_at lines k) ++ followed g v k (fact_at lines k))
    unfolding news
    news_there k u = ended.0 k (omega arith) u

    pub good_fact : (f : Fact) → HasLine lines f → Good g f
    unfolding fact_at
    good_fact f h = subst (λ x. Good g x) h.is (every_at (λ l. Good g l.fact) lines no_line good-lines h.number h.inside)

    joins_there : (k : ℕ) (f : Fact) → k < length lines → fact_at lines k ≡ f → Every (λ l. has g 0 lines l.fact ≡ true) (joins g 0 lines k f)
    joins_there k f u e =
        subst (λ x. Every (λ l. has g 0 lines l.fact ≡ true) (joins g 0 lines k x)) e
        (every_left (λ l. has g 0 lines l.fact ≡ true) (joins g 0 lines k (fact_at lines k)) (followed g v k (fact_at lines k)) (news_there k u))

    -- the line of the module before that of the forward, and the other way round
    module_first : (m s a b : ℕ) → a < b → b < length lines → fact_at lines a ≡ module_fact m → fact_at lines b ≡ forward_fact s → owner (symbol_of g s) ≡ m
        → (i : ℕ) → i < length (declaring_statements (symbol_of g s)) → has g 0 lines (statement_fact (owner (symbol_of g s)) (only (get_or (declaring_statements (symbol_of g s)) i []))) ≡ true
    unfolding joins joined_to
    module_first m s a b l u ea eb o i w = go (eqb n 0) refl (joins_there b (forward_fact s) u eb)
      where
        n : ℕ
        n = module_line (owner (symbol_of g s)) 0 (take b lines)

        found : n ≡ 0 → ⊥
        found z =
            module_found m 0 (take b lines) a (omega (arith, l, length-take-le b lines (omega (arith, u)))) (in_front lines b a (module_fact m) l ea)
            (subst (λ x. module_line x 0 (take b lines) ≡ 0) o z)

        go : (c : Bool) → eqb n 0 ≡ c → Every {A = Line} (λ l. has g 0 lines l.fact ≡ true) (elim (eqb n 0) [ true ↦ [] | false ↦ joined g s (b + 1) (name_of 0 n) ])
            → has g 0 lines (statement_fact (owner (symbol_of g s)) (only (get_or (declaring_statements (symbol_of g s)) i []))) ≡ true
        go true q h = absurd (found (eqb-true n 0 q))
        go false q h = from_joined g (λ f. has g 0 lines f ≡ true) s (b + 1) (name_of 0 n) (rw (q) at h) i w

    forward_first : (m s a b : ℕ) → b < a → a < length lines → fact_at lines a ≡ module_fact m → fact_at lines b ≡ forward_fact s → owner (symbol_of g s) ≡ m
        → (i : ℕ) → i < length (declaring_statements (symbol_of g s)) → has g 0 lines (statement_fact (owner (symbol_of g s)) (only (get_or (declaring_statements (symbol_of g s)) i []))) ≡ true
    unfolding joins
    forward_first m s a b l u ea eb o i w =
        from_joins_all g (λ f. has g 0 lines f ≡ true) m a 0 (take a lines) (joins_there a (module_fact m) u ea) b s (omega (arith, l, length-take-le a lines (omega (arith, u)))) (in_front lines a b (forward_fact s) l eb) o i w

    k1_there : (m s a b : ℕ) → a < length lines → b < length lines → fact_at lines a ≡ module_fact m → fact_at lines b ≡ forward_fact s → owner (symbol_of g s) ≡ m
        → (i : ℕ) → i < length (declaring_statements (symbol_of g s)) → has g 0 lines (statement_fact m (only (get_or (declaring_statements (symbol_of g s)) i []))) ≡ true
    k1_there m s a b ua ub ea eb o i w = subst (λ x. has g 0 lines (statement_fact x (only (get_or (declaring_statements (symbol_of g s)) i []))) ≡ true) o (go (dec_lt a b) (dec_lt b a))
      where
        same : a ≡ b → ⊥
        same e =
            let k : kind_of (module_fact m) ≡ kind_of (forward_fact s) = ap kind_of (sym ea ∙ (ap (λ x. fact_at lines x) e ∙ eb)) in
            omega (arith, k)

        go : Dec (a < b) → Dec (b < a) → has g 0 lines (statement_fact (owner (symbol_of g s)) (only (get_or (declaring_statements (symbol_of g s)) i []))) ≡ true
        go (yes l) r = module_first m s a b l ub ea eb o i w
        go (no n) (yes l) = forward_first m s a b l ua ea eb o i w
        go (no n) (no r) = absurd (same (omega arith))

    followed_there : (f : Fact) (n : ℕ) → n < length lines → fact_at lines n ≡ f → (k : ℕ) → k < length (gives g v f) → has g 0 lines (get_or (gives g v f) k nothing_given).fact ≡ true
    unfolding followed
    followed_there f n u e k w =
        map_every (λ l. has g 0 lines l.fact ≡ true) (λ x. line x.fact x.rule (n + 1) 0) nothing_given (gives g v f)
        (subst (λ x. Every (λ l. has g 0 lines l.fact ≡ true) (followed g v n x)) e
        (every_right (λ l. has g 0 lines l.fact ≡ true) (joins g 0 lines n (fact_at lines n)) (followed g v n (fact_at lines n)) (news_there n u))) k w

    inside : (D : Choice) → HoldsStarts starts D → Closed g D → (f : Fact) → HasLine lines f → D f
    unfolding fact_at
    inside D hd cd f h = subst (λ x. D x) h.is (every_at (λ l. D l.fact) lines no_line (drain_in g D cd starts hd) h.number h.inside)

    facts-closed : Closed g (HasLine lines)
    facts-closed = record { by_K1 = k1; by_K2_to_K14 = rest }
      where
        k1 : (m s i : ℕ) → HasLine lines (module_fact m) → HasLine lines (forward_fact s) → owner (symbol_of g s) ≡ m → i < length (declaring_statements (symbol_of g s)) → HasLine lines (statement_fact m (only (get_or (declaring_statements (symbol_of g s)) i [])))
        k1 m s i hm hs o w =
            has_line lines (statement_fact m (only (get_or (declaring_statements (symbol_of g s)) i []))) good-lines (good_closed.by_K1 m s i (good_fact (module_fact m) hm) (good_fact (forward_fact s) hs) o w)
            (k1_there m s hm.number hs.number hm.inside hs.inside hm.is hs.is o i w)

        rest : (f : Fact) (k : ℕ) → HasLine lines f → k < length (gives g v f) → HasLine lines (get_or (gives g v f) k nothing_given).fact
        rest f k h w =
            has_line lines (get_or (gives g v f) k nothing_given).fact good-lines (good_closed.by_K2_to_K14 f k (good_fact f h) w) (followed_there f h.number h.inside h.is k w)

    -- the drain's facts are the smallest closed choice that holds its starts
    pub drain_smallest : Smallest g starts (HasLine lines)
    unfolding drain_of
    drain_smallest =
        record {
          holds_starts = λ i u. has_line lines (get_or starts i (module_fact 0)) good-lines (good i u) (starts_there g v 0 starts [] i (omega arith) u);
          closed = facts-closed;
          inside_each = inside;
        }
