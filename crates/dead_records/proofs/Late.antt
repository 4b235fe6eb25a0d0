-- The words of the statements: cleared, and set for those that have one of the late lines. What is marked and not late has an earlier line (`late_kept`).
use Prim.Native.Nat.{ℕ, zero, suc, ◌+◌, ◌*◌, ◌-◌, ◌<◌, ◌≤◌}
use mathlib.Core.Path.{◌≡◌, refl, ap, ◌∙◌, sym}
use mathlib.Core.Bool.{Bool, true, false, not, ◌||◌, ◌&&◌, true≢false}
use mathlib.Core.Logic.{◌⊎◌, inl, inr, ⊎_elim}
use mathlib.Core.List.{List, [], ◌∷◌, ◌++◌}
use native.Mathlib.Decide.{ℕ_discrete}
use native.Mathlib.Omega.{arith}
use borrow.Author.Tests.{eq-eqb, ne_eqb, eqb-true}
use lib.Dec.{eqb}
use borrow.Rule.Slice.PartMut.{mid_of, put_mid, post_of}
use lib.ListN.{length, get_or, set, take, drop, replicate, length-set, length-drop, length-replicate, get_or-replicate}
use Rattle.std.proofs.lemmas.List.{length-take-le, get_or_append_left, get_or-append_right}
use lib.Seq.{get_or-set_same, get_or-set_other, get_or-take}
use Rattle.determine_side_effects.specs.index_crate.declared.ModuleIdx.{ModuleIdx}
use Rattle.determine_side_effects.specs.index_crate.declared.SymbolIdx.{SymbolIdx}
use Rattle.determine_side_effects.specs.graph_format_crate.declared.Header.{Header}
use Rattle.determine_side_effects.specs.graph_tables_crate.Tables.{header_in}
use Rattle.determine_side_effects.specs.graph_crate.Check.{Graph, graph_in}
use Rattle.determine_side_effects.specs.graph_crate.Loaded.{Loaded}
use Rattle.determine_side_effects.specs.graph_access_crate.Words.{statement_list, tabulate}
use Rattle.determine_side_effects.specs.facts_crate.declared.Reason.{Reason}
use Rattle.determine_side_effects.specs.facts_crate.declared.Fact.{Fact}
use Rattle.determine_side_effects.specs.facts_crate.declared.Fact.TheVariants.{Module, Statement, Use, CheckedUse, Forward, Bailout}
use Rattle.determine_side_effects.specs.facts_crate.Facts.{mark_of, statement_fact, Good}
use Rattle.keep_record.specs.declared.Line.{Line}
use Rattle.keep_record.specs.Lines.{elem, stays, marks_of, marks_from, has}
use Rattle.keep_record.specs.Held.{line_at, lines_of, Distinct, Held}
use Rattle.keep_record.proofs.Adding.{elem-append, elem_more, from_stays, from_goes, own-append, right_false}
use Rattle.keep_record.proofs.Rows.{tabulate_more, lines-length, lines_at}
use Rattle.marked.specs.Marked.{marked}
use Rattle.dead_records.specs.Parts.{is_late, lines_between, HasLate, kept_before}
use Rattle.dead_records.proofs.Exempting.{statement_place}

-- the header that the code reads is the graph's
module _ (numbers : List ℕ) (h : Header) (e : h ≡ header_in numbers) where
  pub modules_read : h.modules ≡ (header_in numbers).modules
  modules_read = ap (λ (x : Header). x.modules) e

  pub statements_read : h.statements ≡ (header_in numbers).statements
  statements_read = ap (λ (x : Header). x.statements) e

-- A part of the words that was filled with zeros: those below `first` stay, those of the part are 0.
module _ (first k : ℕ) (before part : List ℕ) (inside : first + k ≤ length before) (zeros : part ≡ replicate (length (mid_of first k before)) 0) where
  front : length (take first before) ≡ first
  front = length-take-le first before (omega (arith, inside))

  middle : length (mid_of first k before) ≡ k
  middle = length-take-le k (drop first before) (omega (arith, length-drop first before, inside))

  pub filled_below : (j : ℕ) → j < first → get_or (put_mid first k before part) j 0 ≡ get_or before j 0
  filled_below j l = get_or_append_left (take first before) (part ++ post_of first k before) 0 j (omega (arith, front, l)) ∙ get_or-take first before j 0 l

  pub filled_part : (j : ℕ) → first ≤ j → j < first + k → get_or (put_mid first k before part) j 0 ≡ 0
  filled_part j l u =
      get_or-append_right (take first before) (part ++ post_of first k before) first j 0 front l
      ∙ get_or_append_left part (post_of first k before) 0 (j - first) (omega (arith, l, u, middle, ap length zeros, length-replicate {A = ℕ} (length (mid_of first k before)) 0))
      ∙ ap (λ (x : List ℕ). get_or x (j - first) 0) zeros ∙ get_or-replicate {A = ℕ} (length (mid_of first k before)) (j - first) 0 0 (omega (arith, l, u, middle))

-- the marks of one more line
marks_more : (g : Graph) (ls : List Line) (l : Line) → marks_of g (ls ++ (l ∷ [])) ≡ marks_of g ls ++ (mark_of g l.fact ∷ [])
unfolding marks_of
marks_more g [] l = refl
marks_more g (x ∷ ls) l = ap (λ (xs : List ℕ). mark_of g x.fact ∷ xs) (marks_more g ls l)

-- from one line on
module _ (g : Graph) (row : List ℕ) (from : ℕ) where
  next_mark : (k x : ℕ) → from ≤ k → elem x (marks_of g (lines_between from (k + 1) row)) ≡ (eqb x (mark_of g (line_at row k).fact) || elem x (marks_of g (lines_between from k row)))
  next_mark k x l =
      let more : k + 1 - from ≡ k - from + 1 = omega arith in
      let last : from + (k - from) ≡ k = omega arith in
      ap (λ n. elem x (marks_of g (tabulate (line_at row) from n))) more ∙ ap (λ (ls : List Line). elem x (marks_of g ls)) (tabulate_more (line_at row) from (k - from))
      ∙ ap (λ n. elem x (marks_of g (lines_between from k row ++ (line_at row n ∷ [])))) last
      ∙ ap (λ (xs : List ℕ). elem x xs) (marks_more g (lines_between from k row) (line_at row k))
      ∙ elem_more x (mark_of g (line_at row k).fact) (marks_of g (lines_between from k row))

  no_mark : (x : ℕ) → elem x (marks_of g (lines_between from from row)) ≡ false
  unfolding elem marks_of tabulate
  no_mark x = let z : from - from ≡ 0 = omega arith in ap (λ n. elem x (marks_of g (tabulate (line_at row) from n))) z

-- whether a mark is none of a statement's
abbrev pub Elsewhere : Graph → Fact → Type 0
Elsewhere g f = (mark_of g f < 2 * g.header.modules) ⊎ (2 * g.header.modules + g.header.statements ≤ mark_of g f)

module _ (g : Graph) (f : Fact) (good : Good g f) where
  pub elsewhere_module : (m : ModuleIdx) → f ≡ Module m → Elsewhere g f
  unfolding mark_of
  elsewhere_module m e = rw e (let b : Good g (Module m) = rw e at good in inl (omega (arith, b.0)))

  pub elsewhere_use : (s : SymbolIdx) (x : Reason) → f ≡ Use s x → Elsewhere g f
  unfolding mark_of
  elsewhere_use s x e = rw e (inr (omega arith))

  pub elsewhere_checked : (s : SymbolIdx) (x : Reason) → f ≡ CheckedUse s x → Elsewhere g f
  unfolding mark_of
  elsewhere_checked s x e = rw e (inr (omega arith))

  pub elsewhere_forward : (s : SymbolIdx) → f ≡ Forward s → Elsewhere g f
  unfolding mark_of
  elsewhere_forward s e = rw e (inr (omega arith))

  pub elsewhere_bailout : (m : ModuleIdx) → f ≡ Bailout m → Elsewhere g f
  unfolding mark_of
  elsewhere_bailout m e = rw e (let b : Good g (Bailout m) = rw e at good in inl (omega (arith, b)))

-- In the loop over the lines: the words of the statements that have one of the lines up to k are set.
pub record Noting (g : Graph) (row : List ℕ) (from to : ℕ) (before scratch : List ℕ) (k : ℕ) : Type 0 where
  pub same_length : length scratch ≡ length before
  pub begun : from ≤ k
  pub inside : k ≤ to
  pub stays : (j : ℕ) → j < g.header.modules → get_or scratch j 0 ≡ get_or before j 0
  pub words : (j : ℕ) → g.header.modules ≤ j → j < g.header.modules + g.header.statements → eqb (get_or scratch j 0) 1 ≡ elem (j + g.header.modules) (marks_of g (lines_between from k row))

module _ (g : Graph) (row : List ℕ) (from to : ℕ) (before : List ℕ) where
  pub noting_none : from ≤ to → ((j : ℕ) → g.header.modules ≤ j → j < g.header.modules + g.header.statements → get_or before j 0 ≡ 0) → Noting g row from to before before from
  noting_none l z =
      record {
        same_length = refl;
        begun = omega arith;
        inside = l;
        stays = λ j u. refl;
        words = λ j a b. ap (λ n. eqb n 1) (z j a b) ∙ sym (no_mark g row from (j + g.header.modules));
      }

  module _ (scratch : List ℕ) (k : ℕ) (s : Noting g row from to before scratch k) (l : k < to) where
    -- a line of another kind
    pub noting-passed : (f : Fact) (after : List ℕ) → f ≡ (line_at row k).fact → Elsewhere g f → after ≡ scratch → Noting g row from to before after (k + 1)
    noting-passed f after is e now =
        record {
          same_length = ap length now ∙ s.same_length;
          begun = omega (arith, s.begun);
          inside = omega (arith, l);
          stays = λ j u. ap (λ (x : List ℕ). get_or x j 0) now ∙ s.stays j u;
          words = λ j a b.
              ap (λ (x : List ℕ). eqb (get_or x j 0) 1) now ∙ s.words j a b ∙ ap (λ t. t || elem (j + g.header.modules) (marks_of g (lines_between from k row))) (sym (other j a b))
              ∙ sym (next_mark g row from k (j + g.header.modules) s.begun);
        }
      where
        other : (j : ℕ) → g.header.modules ≤ j → j < g.header.modules + g.header.statements → eqb (j + g.header.modules) (mark_of g (line_at row k).fact) ≡ false
        other j a b =
            let at : mark_of g f ≡ mark_of g (line_at row k).fact = ap (mark_of g) is in
            ne_eqb (j + g.header.modules) (mark_of g (line_at row k).fact) (λ q. ⊎_elim (λ w. omega (arith, w, at, q, a)) (λ w. omega (arith, w, at, q, b)) e)

    -- a statement's line
    pub noting-set : (f : Fact) (mark first : ℕ) (after : List ℕ) → f ≡ (line_at row k).fact → mark ≡ mark_of g f → first ≡ g.header.modules
        → 2 * g.header.modules ≤ mark → mark < 2 * g.header.modules + g.header.statements → g.header.modules + g.header.statements ≤ length before
        → after ≡ set scratch (mark - first) 1 → Noting g row from to before after (k + 1)
    noting-set f mark first after is marked fi low high long now =
        record {
          same_length = ap length now ∙ length-set scratch (mark - first) 1 ∙ s.same_length;
          begun = omega (arith, s.begun);
          inside = omega (arith, l);
          stays = λ j u. ap (λ (x : List ℕ). get_or x j 0) now ∙ get_or-set_other scratch (mark - first) j 1 0 (λ q. omega (arith, q, u, fi, low)) ∙ s.stays j u;
          words = λ j a b. ap (λ (x : List ℕ). eqb (get_or x j 0) 1) now ∙ word j a b (ℕ_discrete j (mark - first)) ∙ sym (next_mark g row from k (j + g.header.modules) s.begun);
        }
      where
        at : mark ≡ mark_of g (line_at row k).fact
        at = marked ∙ ap (mark_of g) is

        inner : mark - first < length scratch
        inner = omega (arith, s.same_length, fi, low, high, long)

        word : (j : ℕ) → g.header.modules ≤ j → j < g.header.modules + g.header.statements → Dec (j ≡ mark - first)
            → eqb (get_or (set scratch (mark - first) 1) j 0) 1 ≡ (eqb (j + g.header.modules) (mark_of g (line_at row k).fact) || elem (j + g.header.modules) (marks_of g (lines_between from k row)))
        word j a b (yes q) =
            let one : get_or (set scratch (mark - first) 1) j 0 ≡ 1 = ap (λ i. get_or (set scratch (mark - first) 1) i 0) q ∙ get_or-set_same scratch (mark - first) 1 0 inner in
            let same : j + g.header.modules ≡ mark_of g (line_at row k).fact = omega (arith, q, at, fi, low) in
            rw (one, eq-eqb (j + g.header.modules) (mark_of g (line_at row k).fact) same)
        word j a b (no q) =
            let apart : eqb (j + g.header.modules) (mark_of g (line_at row k).fact) ≡ false = ne_eqb (j + g.header.modules) (mark_of g (line_at row k).fact) (λ z. q (omega (arith, z, at, fi))) in
            rw (get_or-set_other scratch (mark - first) j 1 0 q, apart) (s.words j a b)

-- at the end
pub noting_done : {numbers tables : List ℕ} (t : Loaded numbers tables) (row : List ℕ) (from to : ℕ) (before scratch : List ℕ) (k : ℕ)
    → Noting (graph_in numbers) row from to before scratch k → to ≤ k → HasLate (graph_in numbers) (lines_between from to row) scratch
unfolding is_late graph_in
noting_done {numbers} t row from to before scratch k s over m i a b =
    let p = statement_place t m i a b in
    let w = s.words (mark_of (graph_in numbers) (statement_fact m i) - (header_in numbers).modules) (omega (arith, p.0)) (omega (arith, p.0, p.1)) in
    let back : mark_of (graph_in numbers) (statement_fact m i) - (header_in numbers).modules + (header_in numbers).modules ≡ mark_of (graph_in numbers) (statement_fact m i) = omega (arith, p.0) in
    let whole : k ≡ to = omega (arith, s.inside) in
    w
    ∙ ap (λ x. elem x (marks_of (graph_in numbers) (lines_between from k row))) back
    ∙ ap (λ n. elem (mark_of (graph_in numbers) (statement_fact m i)) (marks_of (graph_in numbers) (lines_between from n row))) whole

-- lines in two parts
tabulate-parts : {A : Type 0} (f : ℕ → A) (i a b : ℕ) → tabulate f i (a + b) ≡ tabulate f i a ++ tabulate f (i + a) b
unfolding tabulate
tabulate-parts f i zero b =
    let z : 0 + b ≡ b = omega arith in
    let q : i ≡ i + 0 = omega arith in
    ap (λ n. tabulate f i n) z ∙ ap (λ n. tabulate f n b) q
tabulate-parts f i (suc a) b =
    let z : suc a + b ≡ suc (a + b) = omega arith in
    let q : i + 1 + a ≡ i + suc a = omega arith in
    rw z
    (ap (λ l. f i ∷ l) (tabulate-parts f (i + 1) a b ∙ ap (λ n. tabulate f (i + 1) a ++ tabulate f n b) q))

lines_parts : (main count : ℕ) (row : List ℕ) → main ≤ count → lines_of count row ≡ lines_of main row ++ lines_between main count row
unfolding lines_of
lines_parts main count row l =
    let z : count ≡ main + (count - main) = omega arith in
    let q : 0 + main ≡ main = omega arith in
    ap (λ n. tabulate (line_at row) 0 n) z ∙ tabulate-parts (line_at row) 0 main (count - main)
    ∙ ap (λ n. tabulate (line_at row) 0 main ++ tabulate (line_at row) n (count - main)) q

-- a number of the first part is none of the second, where all differ
not_both : (x : ℕ) (xs ys : List ℕ) → Distinct (xs ++ ys) → elem x xs ≡ true → elem x ys ≡ false
unfolding elem
not_both x [] ys d e = absurd (true≢false (sym e))
not_both x (y ∷ xs) ys d e = go (eqb x y) refl e (λ r. not_both x xs ys d.1 r)
  where
    go : (b : Bool) → eqb x y ≡ b → (b || elem x xs) ≡ true → (elem x xs ≡ true → elem x ys ≡ false) → elem x ys ≡ false
    go true q _ _ = right_false (elem x xs) (elem x ys) (sym (elem-append x xs ys) ∙ ap (λ n. elem n (xs ++ ys)) (eqb-true x y q) ∙ d.0)
    go false q r f = f r

first_only : (x : ℕ) (xs ys : List ℕ) → Distinct (xs ++ ys) → (elem x (xs ++ ys) && not (elem x ys)) ≡ elem x xs
first_only x xs ys d = ap (λ b. b && not (elem x ys)) (elem-append x xs ys) ∙ go (elem x xs) (elem x ys) (not_both x xs ys d)
  where
    go : (a b : Bool) → (a ≡ true → b ≡ false) → ((a || b) && not b) ≡ a
    go true true h = sym (h refl)
    go true false h = refl
    go false true h = refl
    go false false h = refl

-- a mark that no fact has which goes: the base loses none of it
base_whole : (g : Graph) (x : ℕ) (d : Line) (n : ℕ) (ls : List Line) → ((k : ℕ) → k < length ls → stays (get_or ls k d).fact ≡ false → eqb x (mark_of g (get_or ls k d).fact) ≡ false)
    → elem x (marks_from g n ls) ≡ elem x (marks_of g ls)
unfolding marks_from marks_of elem
base_whole g x d zero ls h = refl
base_whole g x d (suc n) [] h = refl
base_whole g x d (suc n) (l ∷ ls) h = go (stays l.fact) refl (base_whole g x d n ls (λ k q. h (suc k) (omega (arith, q))))
  where
    go : (b : Bool) → stays l.fact ≡ b → elem x (marks_from g n ls) ≡ elem x (marks_of g ls) → elem x (marks_from g (suc n) (l ∷ ls)) ≡ (eqb x (mark_of g l.fact) || elem x (marks_of g ls))
    go true e r = rw (from_stays g n l ls e) (ap (λ b. eqb x (mark_of g l.fact) || b) r)
    go false e r = rw (from_goes g n l ls e, h 0 (omega arith) e) r

goes_elsewhere : (g : Graph) (f : Fact) → Good g f → stays f ≡ false → Elsewhere g f
goes_elsewhere g (Module m) good e = absurd (true≢false e)
goes_elsewhere g (Statement m i) good e = absurd (true≢false e)
goes_elsewhere g (Use s x) good e = elsewhere_use g (Use s x) good s x refl
goes_elsewhere g (CheckedUse s x) good e = elsewhere_checked g (CheckedUse s x) good s x refl
goes_elsewhere g (Forward s) good e = elsewhere_forward g (Forward s) good s refl
goes_elsewhere g (Bailout m) good e = elsewhere_bailout g (Bailout m) good m refl

-- kept before the runtime stage: by the marks of both stages and the late words, as by the lines of the main stage
pub late_kept : {numbers tables : List ℕ} (t : Loaded numbers tables) (marks row scratch : List ℕ) (main count : ℕ) → Held (graph_in numbers) main marks row count
    → HasLate (graph_in numbers) (lines_between main count row) scratch
    → (m i : ℕ) → m < (graph_in numbers).header.modules → i < length (statement_list (graph_in numbers) m)
    → kept_before (graph_in numbers) marks scratch (statement_fact m i) ≡ has (graph_in numbers) 0 (lines_of main row) (statement_fact m i)
unfolding kept_before marked has marks_from graph_in
late_kept {numbers} t marks row scratch main count h late m i a b =
    ap (λ y. y && not (is_late g scratch (statement_fact m i))) (h.marked x ∙ ap (λ (xs : List ℕ). elem x xs) whole)
    ∙ ap (λ y. elem x (marks_from g main front ++ marks_of g back) && not y) (late m i a b)
    ∙ first_only x (marks_from g main front) (marks_of g back) (rw whole at h.apart)
    ∙ base_whole g x (line_at row 0) main front other
  where
    g : Graph
    g = graph_in numbers

    x : ℕ
    x = mark_of g (statement_fact m i)

    front : List Line
    front = lines_of main row

    back : List Line
    back = lines_between main count row

    whole : marks_from g main (lines_of count row) ≡ marks_from g main front ++ marks_of g back
    whole = ap (λ (ls : List Line). marks_from g main ls) (lines_parts main count row h.base_inside) ∙ own-append g main front back (omega (arith, lines-length main row))

    other : (k : ℕ) → k < length front → stays (get_or front k (line_at row 0)).fact ≡ false → eqb x (mark_of g (get_or front k (line_at row 0)).fact) ≡ false
    other k l e =
        let p = statement_place t m i a b in
        let u : k < main = omega (arith, l, lines-length main row) in
        let is : get_or front k (line_at row 0) ≡ line_at row k = lines_at main row k (line_at row 0) u in
        let good : Good g (get_or front k (line_at row 0)).fact = rw is (h.good k (omega (arith, u, h.base_inside))) in
        let away : Elsewhere g (get_or front k (line_at row 0)).fact = goes_elsewhere g (get_or front k (line_at row 0)).fact good e in
        ne_eqb x (mark_of g (get_or front k (line_at row 0)).fact) (λ q. ⊎_elim (λ w. omega (arith, w, p.0, q)) (λ w. omega (arith, w, p.1, q)) away)
