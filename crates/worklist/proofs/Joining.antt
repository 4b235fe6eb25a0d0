-- The walk through a module's forwards by the table of links.
-- It meets exactly `joins_all`, the forwards on earlier lines in their order.
use Prim.Native.Nat.{ℕ, suc, ◌+◌, ◌*◌, ◌-◌, ◌<◌, ◌≤◌}
use mathlib.Core.Path.{◌≡◌, refl, ap, ◌∙◌, sym, subst}
use mathlib.Core.Logic.{◌≢◌}
use mathlib.Core.Bool.{Bool, true, false}
use mathlib.Core.List.{List, [], ◌∷◌, ◌++◌}
use native.Mathlib.Decide.{ℕ_discrete}
use native.Mathlib.Omega.{arith}
use borrow.Author.Tests.{eq-eqb, ne_eqb}
use lib.Dec.{eqb}
use lib.Seq.{drop-cons, drop-drop, get_or-drop, take-append-le}
use lib.ListN.{length, get_or, take, drop, length-drop}
use Rattle.determine_side_effects.specs.graph_crate.Check.{Graph}
use Rattle.determine_side_effects.specs.graph_access_crate.Names.{owner}
use Rattle.determine_side_effects.specs.index_crate.declared.SymbolIdx.{SymbolIdx}
use Rattle.determine_side_effects.specs.facts_crate.declared.Fact.TheVariants.{Forward}
use Rattle.determine_side_effects.specs.facts_crate.Facts.{Good, first_part}
use Rattle.determine_side_effects.specs.graph_access_crate.Words.{symbol_of}
use Rattle.keep_record.specs.declared.Line.{Line}
use Rattle.keep_record.specs.Lines.{adds}
use Rattle.keep_record.specs.Held.{line_at, lines_of, Held, Grown}
use Rattle.keep_record.proofs.Rows.{lines-length, lines_at, lines-take}
use Rattle.keep_record.proofs.Adding.{adds_prefix, adds_longer, adds-append}
use Rattle.worklist.specs.Drain.{fact_at, joined, forwards_to, joins_all}
use Rattle.worklist.specs.Links.{first_forward, Linked}
use Rattle.include_statements.proofs.Going.{full_more, grown_as}
use Rattle.worklist.proofs.Linking.{no_line, forward_of, first_here, first_there}
use Rattle.std.specs.Prelude.{Result, Ok}
use Rattle.keep_record.specs.declared.Full.{Full}
use Rattle.keep_record.specs.Held.{no_room}

-- the joins of lines, by whether the first of them is a forward to module m
module _ (g : Graph) (m k : ℕ) where
  joins_here : (i : ℕ) (l : Line) (ls : List Line) → forwards_to g m l ≡ true → joins_all g m k i (l ∷ ls) ≡ joined g (first_part l.fact) (k + 1) (i + 1) ++ joins_all g m k (i + 1) ls
  unfolding joins_all
  joins_here i l ls e = rw (e, joins_all)

  joins_there : (i : ℕ) (l : Line) (ls : List Line) → forwards_to g m l ≡ false → joins_all g m k i (l ∷ ls) ≡ joins_all g m k (i + 1) ls
  unfolding joins_all
  joins_there i l ls e = rw (e, joins_all)

  joins_none : (i : ℕ) (ls : List Line) → first_forward g m i ls ≡ 0 → joins_all g m k i ls ≡ []
  unfolding joins_all
  joins_none i [] z = refl
  joins_none i (x ∷ xs) z = go (forwards_to g m x) refl (λ r. joins_none (i + 1) xs r)
    where
      go : (b : Bool) → forwards_to g m x ≡ b → (first_forward g m (i + 1) xs ≡ 0 → joins_all g m k (i + 1) xs ≡ []) → joins_all g m k i (x ∷ xs) ≡ []
      go true q r = absurd (omega (arith, z, first_here g m i x xs q))
      go false q r = joins_there i x xs q ∙ r (sym (first_there g m i x xs q) ∙ z)

-- the first forward to module m among lines that begin with number i
record First (g : Graph) (m k i : ℕ) (ls : List Line) : Type 0 where
  pub number : ℕ
  pub inside : number < length ls
  pub is : first_forward g m i ls ≡ i + number + 1
  pub forward : forwards_to g m (get_or ls number no_line) ≡ true
  pub joins : joins_all g m k i ls ≡ joins_all g m k (i + number) (drop number ls)

first_found : (g : Graph) (m k i : ℕ) (ls : List Line) → first_forward g m i ls ≢ 0 → First g m k i ls
unfolding first_forward
first_found g m k i [] n = absurd (n refl)
first_found g m k i (x ∷ xs) n = go (forwards_to g m x) refl (λ r. first_found g m k (i + 1) xs r)
  where
    go : (b : Bool) → forwards_to g m x ≡ b → (first_forward g m (i + 1) xs ≢ 0 → First g m k (i + 1) xs) → First g m k i (x ∷ xs)
    go true q r =
        let z : i + 1 ≡ i + 0 + 1 = omega arith in
        let y : i ≡ i + 0 = omega arith in
        record { number = 0; inside = omega arith; is = first_here g m i x xs q ∙ z; forward = q; joins = ap (λ j. joins_all g m k j (x ∷ xs)) y }
    go false q r =
        let f = r (λ z. n (first_there g m i x xs q ∙ z)) in
        let z : i + 1 + f.number + 1 ≡ i + suc f.number + 1 = omega arith in
        let y : i + 1 + f.number ≡ i + suc f.number = omega arith in
        record {
          number = suc f.number;
          inside = omega (arith, f.inside);
          is = first_there g m i x xs q ∙ f.is ∙ z;
          forward = f.forward;
          joins = joins_there g m k i x xs q ∙ f.joins ∙ ap (λ j. joins_all g m k j (drop f.number xs)) y;
        }

-- the joins from line `at` - 1 on; none for 0
unfoldable pub from_line : Graph → ℕ → ℕ → ℕ → List Line → List Line
from_line g m k at lines = elim (eqb at 0) [ true ↦ [] | false ↦ joins_all g m k (at - 1) (drop (at - 1) lines) ]

module _ (g : Graph) (m k : ℕ) (lines : List Line) where
  from_none : (at : ℕ) → at ≡ 0 → from_line g m k at lines ≡ []
  unfolding from_line
  from_none at z = rw (eq-eqb at 0 z, from_line)

  from_some : (at : ℕ) → at ≢ 0 → from_line g m k at lines ≡ joins_all g m k (at - 1) (drop (at - 1) lines)
  unfolding from_line
  from_some at z = rw (ne_eqb at 0 z, from_line)

  -- the line is a forward: its joins, and those behind it
  from_step : (at : ℕ) → at ≢ 0 → at - 1 < length lines → forwards_to g m (get_or lines (at - 1) no_line) ≡ true
      → from_line g m k at lines ≡ joined g (first_part (get_or lines (at - 1) no_line).fact) (k + 1) at ++ joins_all g m k at (drop at lines)
  from_step at z h t =
      let y : at - 1 + 1 ≡ at = omega (arith, z) in
      let w : suc (at - 1) ≡ at = omega (arith, z) in
      let e = joins_here g m k (at - 1) (get_or lines (at - 1) no_line) (drop (suc (at - 1)) lines) t in
      from_some at z ∙ ap (joins_all g m k (at - 1)) (drop-cons lines (at - 1) no_line h) ∙ e
      ∙ ap (λ j. joined g (first_part (get_or lines (at - 1) no_line).fact) (k + 1) j ++ joins_all g m k j (drop (suc (at - 1)) lines)) y
      ∙ ap (λ j. joined g (first_part (get_or lines (at - 1) no_line).fact) (k + 1) at ++ joins_all g m k at (drop j lines)) w

  -- the first forward from line p on
  module _ (p at : ℕ) (e : at ≡ first_forward g m p (drop p lines)) where
    found : at ≢ 0 → First g m k p (drop p lines)
    found z = first_found g m k p (drop p lines) (λ q. z (e ∙ q))

    from_first : from_line g m k at lines ≡ joins_all g m k p (drop p lines)
    from_first = go (ℕ_discrete at 0)
      where
        go : Dec (at ≡ 0) → from_line g m k at lines ≡ joins_all g m k p (drop p lines)
        go (yes z) = from_none at z ∙ sym (joins_none g m k p (drop p lines) (sym e ∙ z))
        go (no z) =
            let f = found z in
            let y : at - 1 ≡ p + f.number = omega (arith, e, f.is) in
            from_some at z ∙ ap (λ j. joins_all g m k j (drop j lines)) y ∙ ap (joins_all g m k (p + f.number)) (sym (drop-drop f.number p lines)) ∙ sym f.joins

    first-behind : at ≢ 0 → p < at
    first-behind z = omega (arith, e, (found z).is)

    first_inside : at ≢ 0 → at - 1 < length lines
    first_inside z = let f = found z in omega (arith, e, f.is, f.inside, length-drop p lines)

    first-forward : at ≢ 0 → forwards_to g m (get_or lines (at - 1) no_line) ≡ true
    first-forward z =
        let f = found z in
        let y : at - 1 ≡ p + f.number = omega (arith, e, f.is) in
        ap (λ j. forwards_to g m (get_or lines j no_line)) y ∙ ap (forwards_to g m) (sym (get_or-drop p lines f.number no_line)) ∙ f.forward

-- how many lines can be ahead
unfoldable pub ahead : ℕ → ℕ → ℕ
ahead k at = elim (eqb at 0) [ true ↦ 0 | false ↦ k + 1 - at ]

ahead_none : (k at : ℕ) → at ≡ 0 → ahead k at ≡ 0
unfolding ahead
ahead_none k at z = rw (eq-eqb at 0 z, ahead)

ahead_some : (k at : ℕ) → at ≢ 0 → ahead k at ≡ k + 1 - at
unfolding ahead
ahead_some k at z = rw (ne_eqb at 0 z, ahead)

-- where the walk stands: the next forward is on line `at` - 1, none is left for 0
pub record Walking (g : Graph) (base : ℕ) (row₀ : List ℕ) (count k m : ℕ) (marks row : List ℕ) (c at : ℕ) : Type 0 where
  pub held : Held g base marks row c
  pub more : count ≤ c
  pub same : lines_of k row ≡ lines_of k row₀
  pub left : adds g base (lines_of c row) (from_line g m k at (lines_of k row₀)) ≡ adds g base (lines_of count row₀) (joins_all g m k base (drop base (lines_of k row₀)))
  pub inside : at ≢ 0 → at - 1 < k
  pub own : at ≢ 0 → base < at
  pub forward : at ≢ 0 → forwards_to g m (get_or (lines_of k row₀) (at - 1) no_line) ≡ true

module _ (g : Graph) (base : ℕ) (links row₀ : List ℕ) (count k m : ℕ) (t : Linked g base links (lines_of k row₀)) (small : m < g.header.modules) (b : k < count) where
  size : length (lines_of k row₀) ≡ k
  size = lines-length k row₀

  pub walk_start : (marks : List ℕ) (at : ℕ) → Held g base marks row₀ count → at ≡ get_or links (g.header.modules + m) 0 → Walking g base row₀ count k m marks row₀ count at
  walk_start marks at h e =
      let q : at ≡ first_forward g m base (drop base (lines_of k row₀)) = e ∙ t.firsts m small in
      record {
        held = h;
        more = omega arith;
        same = refl;
        left = ap (adds g base (lines_of count row₀)) (from_first g m k (lines_of k row₀) base at q);
        inside = λ z. omega (arith, size, first_inside g m k (lines_of k row₀) base at q z);
        own = first-behind g m k (lines_of k row₀) base at q;
        forward = first-forward g m k (lines_of k row₀) base at q;
      }

  module _ (marks row : List ℕ) (c at : ℕ) (w : Walking g base row₀ count k m marks row c at) where
    pub walk-done : at ≡ 0 → Grown g base (adds g base (lines_of count row₀) (joins_all g m k base (drop base (lines_of k row₀)))) marks row (Ok c)
    unfolding adds
    walk-done z = grown_as g base _ marks row c (ap (adds g base (lines_of c row)) (sym (from_none g m k (lines_of k row₀) at z)) ∙ w.left) w.held

    -- the forward on line `at` - 1
    module _ (z : at ≢ 0) where
      its-line : get_or (lines_of k row₀) (at - 1) no_line ≡ line_at row (at - 1)
      its-line = ap (λ (x : List Line). get_or x (at - 1) no_line) (sym w.same) ∙ lines_at k row (at - 1) no_line (w.inside z)

      its-forward : (r : SymbolIdx) × ((get_or (lines_of k row₀) (at - 1) no_line).fact ≡ Forward r) × (owner (symbol_of g r.0) ≡ m)
      its-forward = forward_of g m (get_or (lines_of k row₀) (at - 1) no_line) (w.forward z)

      module _ (s : ℕ) (is : s ≡ first_part (line_at row (at - 1)).fact) where
        symbol_is : s ≡ its-forward.0.0
        symbol_is = is ∙ ap (λ (x : Line). first_part x.fact) (sym its-line) ∙ ap first_part its-forward.1

        pub walk-symbol : s < g.header.symbols
        walk-symbol =
            let q : (line_at row (at - 1)).fact ≡ Forward its-forward.0 = ap (λ (x : Line). x.fact) (sym its-line) ∙ its-forward.1 in
            let i = w.inside z in
            let n = w.more in
            let good = subst (λ x. Good g x) q (w.held.good (at - 1) (omega (arith, i, n, b))) in
            omega (arith, symbol_is, good)

        behind : get_or links (3 * g.header.modules + s) 0 ≡ first_forward g m at (drop at (lines_of k row₀))
        unfolding fact_at
        behind =
            let y : at - 1 + 1 ≡ at = omega (arith, z) in
            let i : at - 1 < length (lines_of k row₀) = omega (arith, size, w.inside z) in
            let o : base ≤ at - 1 = omega (arith, w.own z) in
            ap (λ x. get_or links (3 * g.header.modules + x) 0) symbol_is ∙ t.nexts (at - 1) its-forward.0 o i its-forward.1
            ∙ ap (λ j. first_forward g (owner (symbol_of g its-forward.0.0)) j (drop j (lines_of k row₀))) y ∙ ap (λ x. first_forward g x at (drop at (lines_of k row₀))) its-forward.2

        joins-on : from_line g m k at (lines_of k row₀) ≡ joined g s (k + 1) at ++ joins_all g m k at (drop at (lines_of k row₀))
        joins-on =
            let i : at - 1 < length (lines_of k row₀) = omega (arith, size, w.inside z) in
            let e : first_part (get_or (lines_of k row₀) (at - 1) no_line).fact ≡ s = ap first_part its-forward.1 ∙ sym symbol_is in
            from_step g m k (lines_of k row₀) at z i (w.forward z) ∙ ap (λ x. joined g x (k + 1) at ++ joins_all g m k at (drop at (lines_of k row₀))) e

        whole : adds g base (adds g base (lines_of c row) (joined g s (k + 1) at)) (joins_all g m k at (drop at (lines_of k row₀))) ≡ adds g base (lines_of count row₀) (joins_all g m k base (drop base (lines_of k row₀)))
        whole = sym (adds-append g base (lines_of c row) (joined g s (k + 1) at) (joins_all g m k at (drop at (lines_of k row₀)))) ∙ ap (adds g base (lines_of c row)) (sym joins-on) ∙ w.left

        pub walk-full : (marks' row' : List ℕ) → Grown g base (adds g base (lines_of c row) (joined g s (k + 1) at)) marks' row' no_room → Grown g base (adds g base (lines_of count row₀) (joins_all g m k base (drop base (lines_of k row₀)))) marks' row' no_room
        walk-full marks' row' v =
            full_more g base _ _ marks' row' (omega (arith, ap length whole, adds_longer g base (adds g base (lines_of c row) (joined g s (k + 1) at)) (joins_all g m k at (drop at (lines_of k row₀))))) v

        pub walk_step : (marks' row' : List ℕ) (d at' : ℕ) → Grown g base (adds g base (lines_of c row) (joined g s (k + 1) at)) marks' row' (Ok d) → at' ≡ get_or links (3 * g.header.modules + s) 0
            → Walking g base row₀ count k m marks' row' d at'
        walk_step marks' row' d at' v e =
            let h = v.held d refl in
            let q : at' ≡ first_forward g m at (drop at (lines_of k row₀)) = e ∙ behind in
            let n = w.more in
            let longer : c ≤ d = omega (arith, lines-length d row', lines-length c row, ap length h.0, adds_longer g base (lines_of c row) (joined g s (k + 1) at)) in
            record {
              held = h.1;
              more = omega (arith, n, longer);
              same = kept longer h.0 ∙ w.same;
              left = ap (λ x. adds g base x (from_line g m k at' (lines_of k row₀))) h.0 ∙ ap (adds g base (adds g base (lines_of c row) (joined g s (k + 1) at))) (from_first g m k (lines_of k row₀) at at' q) ∙ whole;
              inside = λ y. omega (arith, size, first_inside g m k (lines_of k row₀) at at' q y);
              own = λ y. omega (arith, w.own z, first-behind g m k (lines_of k row₀) at at' q y);
              forward = first-forward g m k (lines_of k row₀) at at' q;
            }
          where
            kept : c ≤ d → lines_of d row' ≡ adds g base (lines_of c row) (joined g s (k + 1) at) → lines_of k row' ≡ lines_of k row
            kept l a =
                let p = adds_prefix g base (lines_of c row) (joined g s (k + 1) at) in
                let n = w.more in
                let y : k ≤ length (lines_of c row) = omega (arith, lines-length c row, n, b) in
                sym (lines-take d row' k (omega (arith, l, n, b))) ∙ ap (take k) (a ∙ p.1) ∙ take-append-le k (lines_of c row) p.0 y ∙ lines-take c row k (omega (arith, n, b))

        -- the next one stands behind this one
        pub walk-on : (at' : ℕ) → at' ≡ get_or links (3 * g.header.modules + s) 0 → at' ≢ 0 → (at < at') × (at' ≤ k)
        walk-on at' e y =
            let q : at' ≡ first_forward g m at (drop at (lines_of k row₀)) = e ∙ behind in
            (first-behind g m k (lines_of k row₀) at at' q y, omega (arith, size, y, first_inside g m k (lines_of k row₀) at at' q y))

        pub walk-less : (at' : ℕ) → at' ≡ get_or links (3 * g.header.modules + s) 0 → ahead k at' < ahead k at
        walk-less at' e = go (ℕ_discrete at' 0)
          where
            go : Dec (at' ≡ 0) → ahead k at' < ahead k at
            go (yes y) = let i = w.inside z in omega (arith, ahead_none k at' y, ahead_some k at z, i, z)
            go (no y) = let o = walk-on at' e y in omega (arith, ahead_some k at' y, ahead_some k at z, o.0, o.1)

-- by the lines of the record
pub walk_table : (g : Graph) (base : ℕ) (links row : List ℕ) (count k : ℕ) → k < count → Linked g base links (take k (lines_of count row)) → Linked g base links (lines_of k row)
walk_table g base links row count k b t = subst (λ x. Linked g base links x) (lines-take count row k (omega (arith, b))) t

pub walk_whole : (g : Graph) (base : ℕ) (row : List ℕ) (count k m : ℕ) → k < count → (marks' row' : List ℕ) (r : Result ℕ Full) → Grown g base (adds g base (lines_of count row) (joins_all g m k base (drop base (lines_of k row)))) marks' row' r
    → Grown g base (adds g base (lines_of count row) (joins_all g m k base (drop base (take k (lines_of count row))))) marks' row' r
walk_whole g base row count k m b marks' row' r v =
    subst (λ x. Grown g base (adds g base (lines_of count row) (joins_all g m k base (drop base x))) marks' row' r) (sym (lines-take count row k (omega (arith, b)))) v
