-- One line more in the rows.
use Prim.Native.Nat.{ℕ, zero, suc, ◌+◌, ◌*◌, ◌-◌, ◌<◌, ◌≤◌}
use mathlib.Core.Path.{◌≡◌, ap, ◌∙◌, sym}
use mathlib.Core.Bool.{Bool, true, false, ◌||◌}
use mathlib.Core.List.{List, [], ◌∷◌, ◌++◌, append_assoc, append-nil}
use native.Mathlib.Omega.{arith}
use borrow.Author.Count.{below_more}
use lib.Dec.{eqb}
use lib.ListN.{length, get_or, set, take, drop, replicate, length-append}
use lib.Seq.{sets-eq, take_at, drop_at, drop-drop, length-take-le}
use Rattle.bit_row.specs.Row.{bit_at}
use Rattle.facts.specs.graph_crate.Check.{Graph, graph_in}
use Rattle.facts.specs.declared.Fact.{Fact}
use Rattle.facts.specs.declared.Fact.TheVariants.{Module, Statement, Use, CheckedUse, Forward, Bailout}
use Rattle.facts.specs.Facts.{kind_of, first_part, second_part, Good, mark_of}
use Rattle.facts.specs.graph_crate.Loaded.{Loaded}
use Rattle.facts.proofs.graph_access_crate.Indexes.{statements_few}
use Rattle.keep_record.specs.declared.Line.{Line}
use Rattle.keep_record.specs.Lines.{numbers_of, written, elem, marks_of, marks_from, has, added}
use Rattle.keep_record.specs.Held.{line_at, lines_of, Held, Grown, Writable}
use Rattle.keep_record.proofs.Rows.{lines-length, lines_at, lines_more, lines_front, line_back, written-length, written-append}
use Rattle.keep_record.proofs.Adding.{own-append, elem_more, added_old, added_new, distinct_last}
use Rattle.keep_record.proofs.Counting.{held_few, marks_few}
use Rattle.std.specs.Prelude.{Ok}
use Rattle.keep_record.specs.Held.{no_room}

-- six numbers written one behind another
pub six_written : (row : List ℕ) (p a b c d e f : ℕ) → p + 6 ≤ length row
    → set (set (set (set (set (set row p a) (p + 1) b) (p + 2) c) (p + 3) d) (p + 4) e) (p + 5) f ≡ take p row ++ ((a ∷ b ∷ c ∷ d ∷ e ∷ f ∷ []) ++ drop (p + 6) row)
six_written row p a b c d e f h =
    let e1 : p + 1 ≡ suc p = omega arith in
    let e2 : p + 2 ≡ suc (suc p) = omega arith in
    let e3 : p + 3 ≡ suc (suc (suc p)) = omega arith in
    let e4 : p + 4 ≡ suc (suc (suc (suc p))) = omega arith in
    let e5 : p + 5 ≡ suc (suc (suc (suc (suc p)))) = omega arith in
    rw (e1, e2, e3, e4, e5) (sets-eq (a ∷ b ∷ c ∷ d ∷ e ∷ f ∷ []) row p h ∙ append_assoc (take p row) (a ∷ b ∷ c ∷ d ∷ e ∷ f ∷ []) (drop (p + 6) row))

-- a line's numbers, written as they come
pub line_written : (row : List ℕ) (k : ℕ) (l : Line) (a b c d e f : ℕ) → 6 * k + 6 ≤ length row → a ≡ kind_of l.fact → b ≡ first_part l.fact → c ≡ second_part l.fact → d ≡ l.rule → e ≡ l.because → f ≡ l.and
    → set (set (set (set (set (set row (6 * k) a) (6 * k + 1) b) (6 * k + 2) c) (6 * k + 3) d) (6 * k + 4) e) (6 * k + 5) f ≡ take (6 * k) row ++ (numbers_of l ++ drop (6 * k + 6) row)
unfolding numbers_of
line_written row k l a b c d e f h p q r s t u = rw (p, q, r, s, t, u) (six_written row (6 * k) (kind_of l.fact) (first_part l.fact) (second_part l.fact) l.rule l.because l.and h)

pub kind_small : (f : Fact) → kind_of f < 7
kind_small (Module m) = omega arith
kind_small (Statement m i) = omega arith
kind_small (Use s x) = omega arith
kind_small (CheckedUse s x) = omega arith
kind_small (Forward s) = omega arith
kind_small (Bailout m) = omega arith

module _ {numbers tables : List ℕ} (t : Loaded numbers tables) where
  parts_small : (f : Fact) → Good (graph_in numbers) f → (first_part f < 4294967296) × (second_part f < 4294967296)
  unfolding graph_in
  parts_small (Module m) g = (omega (arith, g.0, t.few_modules), omega arith)
  parts_small (Statement m i) g = (omega (arith, g.0, t.few_modules), omega (arith, g.1, statements_few t m.0 g.0))
  parts_small (Use s x) g = (omega (arith, g.0, t.few_symbols), omega (arith, g.2))
  parts_small (CheckedUse s x) g = (omega (arith, g.0, t.few_symbols), omega (arith, g.2))
  parts_small (Forward s) g = (omega (arith, g, t.few_symbols), omega arith)
  parts_small (Bailout m) g = (omega (arith, g, t.few_modules), omega arith)

  -- a line that can be written fits the row's numbers
  pub line_small : (base : ℕ) (marks row : List ℕ) (count : ℕ) (l : Line) → Held (graph_in numbers) base marks row count → Writable (graph_in numbers) count l
      → (first_part l.fact < 4294967296) × (second_part l.fact < 4294967296) × (l.rule < 4294967296) × (l.because < 4294967296) × (l.and < 4294967296)
  line_small base marks row count l h w =
      let n : count ≤ 2101248 = omega (arith, held_few t base marks row count h, h.base_few, marks_few t) in
      let p = parts_small l.fact w.good_fact in
      (p.0, p.1, omega (arith, w.rule_small), omega (arith, w.because_earlier, n), omega (arith, w.and_earlier, n))

drop_zeros : (k n : ℕ) → drop {A = ℕ} k (replicate n 0) ≡ replicate (n - k) 0
drop_zeros zero n = let z : n ≡ n - 0 = omega arith in ap (λ i. replicate i 0) z
drop_zeros (suc k) zero = let z : 0 ≡ 0 - suc k = omega arith in ap (λ i. replicate i 0) z
drop_zeros (suc k) (suc n) = let z : n - k ≡ suc n - suc k = omega arith in drop_zeros k n ∙ ap (λ i. replicate i 0) z

module _ (g : Graph) (base : ℕ) (marks row : List ℕ) (count : ℕ) (l : Line) (m : ℕ) (h : Held g base marks row count) (is : m ≡ mark_of g l.fact) where
  has_bit : (b : Bool) → bit_at marks m ≡ b → has g base (lines_of count row) l.fact ≡ b
  unfolding has
  has_bit b e = rw is at (sym (h.marked m) ∙ e)

  pub grown_same : bit_at marks m ≡ true → Grown g base (added g base (lines_of count row) l) marks row (Ok count)
  grown_same e =
      record {
        held = λ c q. let z : count ≡ c = cc in rw (sym z) (sym (added_old g base (lines_of count row) l (has_bit true e)), h);
        full = λ q. let z : ◌≡◌ {A = ℕ} 0 1 = cc in absurd (omega arith);
      }

  pub grown_full : bit_at marks m ≡ false → length row < 6 * count + 6 → Grown g base (added g base (lines_of count row) l) marks row no_room
  grown_full e short =
      record {
        held = λ c q. let z : ◌≡◌ {A = ℕ} 0 1 = cc in absurd (omega arith);
        full = λ q. rw (added_new g base (lines_of count row) l (has_bit false e)) (omega (arith, length-append (lines_of count row) (l ∷ []), lines-length count row));
      }

  inside : base ≤ length (lines_of count row)
  inside = omega (arith, h.base_inside, lines-length count row)

  module _ (marks' row' : List ℕ) (fits : 6 * count + 6 ≤ length row) (now : row' ≡ take (6 * count) row ++ (numbers_of l ++ drop (6 * count + 6) row)) where
    front : length (take (6 * count) row) ≡ 6 * count
    front = length-take-le (6 * count) row (omega arith)

    lines-kept : lines_of count row' ≡ lines_of count row
    lines-kept = lines_front count row' row (rw now (take_at (take (6 * count) row) _ (6 * count) front))

    line-last : line_at row' count ≡ l
    line-last = rw now (line_back (take (6 * count) row) (drop (6 * count + 6) row) count l front)

    lines_now : lines_of (count + 1) row' ≡ lines_of count row ++ (l ∷ [])
    lines_now = lines_more count row' ∙ ap (λ ls. ls ++ (line_at row' count ∷ [])) lines-kept ∙ ap (λ x. lines_of count row ++ (x ∷ [])) line-last

    line_kept : (k : ℕ) → k < count → line_at row' k ≡ line_at row k
    line_kept k b = sym (lines_at count row' k l b) ∙ ap (λ ls. get_or ls k l) lines-kept ∙ lines_at count row k l b

    lines_long : length (written (lines_of count row)) ≡ 6 * count
    lines_long = written-length (lines_of count row) ∙ ap (λ n. 6 * n) (lines-length count row)

    written-front : take (6 * count) row ≡ written (lines_of count row)
    written-front = ap (λ xs. take (6 * count) xs) h.zero_behind ∙ take_at (written (lines_of count row)) _ (6 * count) lines_long

    zeros-behind : drop (6 * count + 6) row ≡ replicate (length row - 6 * (count + 1)) 0
    zeros-behind =
        let rest : drop (6 * count) row ≡ replicate (length row - 6 * count) 0 = ap (λ xs. drop (6 * count) xs) h.zero_behind ∙ drop_at (written (lines_of count row)) _ (6 * count) lines_long in
        let z : length row - 6 * count - 6 ≡ length row - 6 * (count + 1) = omega arith in
        sym (drop-drop 6 (6 * count) row) ∙ ap (λ xs. drop 6 xs) rest ∙ drop_zeros 6 (length row - 6 * count) ∙ ap (λ n. replicate n 0) z

    behind : length row' ≡ length row → row' ≡ written (lines_of (count + 1) row') ++ replicate (length row' - 6 * (count + 1)) 0
    unfolding written
    behind same =
        let one : written (l ∷ []) ≡ numbers_of l = append-nil (numbers_of l) in
        let all : written (lines_of (count + 1) row') ≡ written (lines_of count row) ++ numbers_of l =
        ap written lines_now ∙ written-append (lines_of count row) (l ∷ []) ∙ ap (λ xs. written (lines_of count row) ++ xs) one in
        let left : row' ≡ written (lines_of count row) ++ (numbers_of l ++ replicate (length row - 6 * (count + 1)) 0) =
        now ∙ ap (λ xs. xs ++ (numbers_of l ++ drop (6 * count + 6) row)) written-front ∙ ap (λ xs. written (lines_of count row) ++ (numbers_of l ++ xs)) zeros-behind in
        left
        ∙ sym (append_assoc (written (lines_of count row)) (numbers_of l) (replicate (length row - 6 * (count + 1)) 0))
        ∙ ap (λ xs. xs ++ replicate (length row - 6 * (count + 1)) 0) (sym all)
        ∙ ap (λ n. written (lines_of (count + 1) row') ++ replicate (n - 6 * (count + 1)) 0) (sym same)

    held_more : Good g l.fact → bit_at marks m ≡ false → ((j : ℕ) → bit_at marks' j ≡ (eqb j m || bit_at marks j)) → length marks' ≡ length marks → length row' ≡ length row → Held g base marks' row' (count + 1)
    unfolding marks_of
    held_more good e bits wide same =
        record {
          base_inside = omega (arith, h.base_inside);
          base_few = h.base_few;
          room = omega (arith, same);
          wide = rw wide h.wide;
          marked = λ j.
              bits j
              ∙ ap (λ b. eqb j m || b) (h.marked j)
              ∙ ap (λ k. eqb j k || elem j (marks_from g base (lines_of count row))) is
              ∙ sym (elem_more j (mark_of g l.fact) (marks_from g base (lines_of count row)))
              ∙ ap (λ xs. elem j xs) (sym (own-append g base (lines_of count row) (l ∷ []) inside))
              ∙ ap (λ ls. elem j (marks_from g base ls)) (sym lines_now);
          good = below_more _ count (λ k b. rw (line_kept k b) (h.good k b)) (rw line-last good);
          apart = rw lines_now (distinct_last g base (lines_of count row) l inside h.apart (has_bit false e));
          zero_behind = behind same;
        }

    pub grown-more : Good g l.fact → bit_at marks m ≡ false → ((j : ℕ) → bit_at marks' j ≡ (eqb j m || bit_at marks j)) → length marks' ≡ length marks → length row' ≡ length row
        → Grown g base (added g base (lines_of count row) l) marks' row' (Ok (count + 1))
    grown-more good e bits wide same =
        record {
          held = λ c q. let z : count + 1 ≡ c = cc in rw (sym z) (lines_now ∙ sym (added_new g base (lines_of count row) l (has_bit false e)), held_more good e bits wide same);
          full = λ q. let z : ◌≡◌ {A = ℕ} 0 1 = cc in absurd (omega arith);
        }
