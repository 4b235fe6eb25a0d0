-- Lines that are written as numbers are those lines again.
use Prim.Native.Nat.{ℕ, zero, suc, ◌+◌, ◌*◌, ◌/◌, ◌%◌, ◌<◌}
use mathlib.Core.Path.{◌≡◌, ap, ◌∙◌, sym}
use mathlib.Core.List.{List, [], ◌∷◌, ◌++◌}
use native.Mathlib.Omega.{arith}
use lib.ListN.{length, get_or, get_or-append}
use lib.Seq.{get_or-append-add, ext_get_or}
use Rattle.determine_side_effects.specs.facts_crate.Facts.{kind_of, first_part, second_part}
use Rattle.determine_side_effects.proofs.facts_crate.Marks.{fact_back}
use Rattle.keep_record.specs.declared.Line.{Line}
use Rattle.keep_record.specs.Lines.{numbers_of, written}
use Rattle.keep_record.specs.Held.{line_at, lines_of}
use Rattle.keep_record.proofs.Rows.{lines-length, lines_at, written-length}
use Rattle.closed_choices.proofs.Handling.{no_line}
use Rattle.judged_records.specs.Sentence.{kind_at, first_at, second_at, rule_at, because_at, and_at, fact_in}

-- how many numbers, and number j of line k
six_each : (n m : ℕ) → m ≡ 6 * n → (m % 6 ≡ 0) × (m / 6 ≡ n)
six_each n m e = (omega (arith, e), omega (arith, e))

pub written_whole : (ls : List Line) → length (written ls) % 6 ≡ 0
written_whole ls = (six_each (length ls) (length (written ls)) (written-length ls)).0

pub written_many : (ls : List Line) → length (written ls) / 6 ≡ length ls
written_many ls = (six_each (length ls) (length (written ls)) (written-length ls)).1

number_at : (ls : List Line) (k j : ℕ) → k < length ls → j < 6 → get_or (written ls) (6 * k + j) 0 ≡ get_or (numbers_of (get_or ls k no_line)) j 0
unfolding written numbers_of
number_at [] k j h l = absurd (omega arith)
number_at (x ∷ ls) zero j h l =
    let z : 6 * 0 + j ≡ j = omega arith in
    ap (λ i. get_or (numbers_of x ++ written ls) i 0) z ∙ get_or-append (numbers_of x) (written ls) 0 j l
number_at (x ∷ ls) (suc k) j h l =
    let z : 6 * suc k + j ≡ 6 + (6 * k + j) = omega arith in
    ap (λ i. get_or (numbers_of x ++ written ls) i 0) z ∙ get_or-append-add (numbers_of x) (written ls) (6 * k + j) 0 ∙ number_at ls k j (omega arith) l

-- line k of a row is this line
pub record LineIs (row : List ℕ) (k : ℕ) (l : Line) : Type 0 where
  pub kind_is : kind_at row k ≡ kind_of l.fact
  pub first_is : first_at row k ≡ first_part l.fact
  pub second_is : second_at row k ≡ second_part l.fact
  pub rule_is : rule_at row k ≡ l.rule
  pub because_is : because_at row k ≡ l.because
  pub and_is : and_at row k ≡ l.and

pub written_at : (ls : List Line) (k : ℕ) → k < length ls → LineIs (written ls) k (get_or ls k no_line)
unfolding numbers_of
written_at ls k h =
    let z : 6 * k ≡ 6 * k + 0 = omega arith in
    record {
      kind_is = ap (λ i. get_or (written ls) i 0) z ∙ number_at ls k 0 h (omega arith);
      first_is = number_at ls k 1 h (omega arith);
      second_is = number_at ls k 2 h (omega arith);
      rule_is = number_at ls k 3 h (omega arith);
      because_is = number_at ls k 4 h (omega arith);
      and_is = number_at ls k 5 h (omega arith);
    }

pub fact_is : (row : List ℕ) (k : ℕ) (l : Line) → LineIs row k l → fact_in row k ≡ l.fact
fact_is row k l p = rw (p.kind_is, p.first_is, p.second_is) (sym (fact_back l.fact))

line_is : (row : List ℕ) (k : ℕ) (l : Line) → LineIs row k l → line_at row k ≡ l
unfolding line_at
line_is row k l p = rw (fact_is row k l p, p.rule_is, p.because_is, p.and_is)

-- the lines of the row
pub lines_back : (ls : List Line) → lines_of (length (written ls) / 6) (written ls) ≡ ls
lines_back ls =
    ap (λ n. lines_of n (written ls)) (written_many ls)
    ∙ ext_get_or no_line (lines_of (length ls) (written ls)) ls (lines-length (length ls) (written ls))
    (λ i h. let u : i < length ls = omega (arith, h, lines-length (length ls) (written ls)) in
    lines_at (length ls) (written ls) i no_line u ∙ line_is (written ls) i (get_or ls i no_line) (written_at ls i u))
