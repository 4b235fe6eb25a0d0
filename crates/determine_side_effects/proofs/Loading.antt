-- The operation's answer and row, by their cases.
use Prim.Native.Nat.{ℕ, ◌<◌, ◌≤◌}
use mathlib.Core.Path.{◌≡◌, refl, ap, ◌∙◌, sym}
use mathlib.Core.Bool.{Bool, true, false}
use mathlib.Core.List.{List, ◌++◌}
use native.Mathlib.Omega.{arith}
use borrow.Author.Tests.{lt-ltb, le-ltb, ltb-false}
use lib.Dec.{ltb}
use lib.Seq.{drop_at}
use lib.ListN.{length, drop, length-append, length-drop}
use Rattle.facts.specs.rows_crate.Walk.{Parsed, got, fault}
use Rattle.facts.specs.graph_tables_crate.Tables.{header_in}
use Rattle.facts.specs.graph_crate.Check.{Graph, check_of, answer_of, graph_in}
use Rattle.facts.proofs.graph_crate.Checking.{once_refused}
use Rattle.facts.proofs.graph_crate.WellFormed.{accepted_is}
use Rattle.determine_side_effects.specs.Effects.{first_verdict, first_verdicts, last_verdicts}
use Rattle.determine_side_effects.specs.Operation.{effects_answer, effects_row}
use Rattle.determine_side_effects.proofs.Lists.{length-tabulate}
use Rattle.determine_side_effects.proofs.Settled.{settle-length}
use Rattle.std.specs.Prelude.{Result, Ok, Err}
use Rattle.facts.specs.refusal_crate.declared.Refusal.{Refusal}
use Rattle.facts.specs.refusal_crate.declared.Refusal.TheVariants.{NoRoom}

pub last-length : (g : Graph) → length (last_verdicts g) ≡ g.header.modules
unfolding last_verdicts first_verdicts
last-length g = settle-length g (first_verdicts g) ∙ length-tabulate (first_verdict g) 0 g.header.modules

-- numbers that are refused
module _ (numbers : List ℕ) {why : Refusal} (e : answer_of (check_of numbers) ≡ Err why) where
  pub refused_answer : (room : ℕ) → Err why ≡ effects_answer numbers room
  unfolding effects_answer answer_of
  refused_answer room = go (check_of numbers) refl
    where
      go : (x : Parsed Graph) → check_of numbers ≡ x → Err why ≡ effects_answer numbers room
      go (got g q) i = absurd ((once_refused ⊥).known (sym e ∙ ap answer_of i))
      go (fault why) i = let a : Err why ≡ effects_answer numbers room = rw (i, effects_answer) in sym e ∙ ap answer_of i ∙ a

  pub refused_row : (row : List ℕ) → row ≡ effects_row numbers row
  unfolding effects_row answer_of
  refused_row row = go (check_of numbers) refl
    where
      go : (x : Parsed Graph) → check_of numbers ≡ x → row ≡ effects_row numbers row
      go (got g q) i = absurd ((once_refused ⊥).known (sym e ∙ ap answer_of i))
      go (fault why) i = rw (i, effects_row)

-- numbers that are accepted
module _ (numbers : List ℕ) (e : answer_of (check_of numbers) ≡ Ok tt) where
  pub short_answer : (room : ℕ) → room < (header_in numbers).modules → Err NoRoom ≡ effects_answer numbers room
  unfolding effects_answer graph_in
  short_answer room l = rw ((accepted_is numbers e).1, effects_answer, lt-ltb room (header_in numbers).modules l)

  pub short_row : (row : List ℕ) → length row < (header_in numbers).modules → row ≡ effects_row numbers row
  unfolding effects_row graph_in
  short_row row l = rw ((accepted_is numbers e).1, effects_row, lt-ltb (length row) (header_in numbers).modules l)

  pub long_answer : (room : ℕ) → (header_in numbers).modules ≤ room → (Ok tt) ≡ effects_answer numbers room
  unfolding effects_answer graph_in
  long_answer room l = rw ((accepted_is numbers e).1, effects_answer, le-ltb room (header_in numbers).modules l)

  pub long_row : (row : List ℕ) → (header_in numbers).modules ≤ length row → last_verdicts (graph_in numbers) ++ drop (header_in numbers).modules row ≡ effects_row numbers row
  unfolding effects_row graph_in
  long_row row l = rw ((accepted_is numbers e).1, effects_row, le-ltb (length row) (header_in numbers).modules l)

-- the row by its cases
module _ (numbers row : List ℕ) where
  row_refused : {why : Refusal} → check_of numbers ≡ fault why → effects_row numbers row ≡ row
  unfolding effects_row
  row_refused i = rw (i, effects_row)

  module _ {g : Graph} {q : ℕ} (i : check_of numbers ≡ got g q) where
    row-short : ltb (length row) g.header.modules ≡ true → effects_row numbers row ≡ row
    unfolding effects_row
    row-short t = rw (i, effects_row, t)

    row-long : ltb (length row) g.header.modules ≡ false → effects_row numbers row ≡ last_verdicts g ++ drop g.header.modules row
    unfolding effects_row
    row-long t = rw (i, effects_row, t)

-- the row keeps its length
pub row-length : (numbers row : List ℕ) → length (effects_row numbers row) ≡ length row
row-length numbers row = go (check_of numbers) refl
  where
    more : (g : Graph) (q : ℕ) → check_of numbers ≡ got g q → (b : Bool) → ltb (length row) g.header.modules ≡ b → length (effects_row numbers row) ≡ length row
    more g q i true t = ap length (row-short numbers row i t)
    more g q i false t =
        let a = length-append (last_verdicts g) (drop g.header.modules row) in
        let b = ltb-false (length row) g.header.modules t in
        ap length (row-long numbers row i t) ∙ omega (arith, a, b, last-length g, length-drop g.header.modules row)

    go : (x : Parsed Graph) → check_of numbers ≡ x → length (effects_row numbers row) ≡ length row
    go (got g q) i = more g q i (ltb (length row) g.header.modules) refl
    go (fault why) i = ap length (row_refused numbers row i)

-- the operation once more changes nothing
pub row_again : (numbers row : List ℕ) → effects_row numbers (effects_row numbers row) ≡ effects_row numbers row
row_again numbers row = go (check_of numbers) refl
  where
    more : (g : Graph) (q : ℕ) → check_of numbers ≡ got g q → (b : Bool) → ltb (length row) g.header.modules ≡ b → effects_row numbers (effects_row numbers row) ≡ effects_row numbers row
    more g q i true t = ap (λ w. effects_row numbers w) (row-short numbers row i t)
    more g q i false t =
        let l : ltb (length (effects_row numbers row)) g.header.modules ≡ false = ap (λ k. ltb k g.header.modules) (row-length numbers row) ∙ t in
        row-long numbers (effects_row numbers row) i l
        ∙ ap (λ w. last_verdicts g ++ drop g.header.modules w) (row-long numbers row i t)
        ∙ ap (λ w. last_verdicts g ++ w) (drop_at (last_verdicts g) (drop g.header.modules row) g.header.modules (last-length g))
        ∙ sym (row-long numbers row i t)

    go : (x : Parsed Graph) → check_of numbers ≡ x → effects_row numbers (effects_row numbers row) ≡ effects_row numbers row
    go (got g q) i = more g q i (ltb (length row) g.header.modules) refl
    go (fault why) i = ap (λ w. effects_row numbers w) (row_refused numbers row i)

-- answer and row of the operation, done twice
pub done_again : (numbers row once twice : List ℕ) (r : Result Unit Refusal) → once ≡ effects_row numbers row → (r ≡ effects_answer numbers (length once)) × (twice ≡ effects_row numbers once)
    → (r ≡ effects_answer numbers (length row)) × (twice ≡ effects_row numbers row)
done_again numbers row once twice r e f =
    (f.0 ∙ ap (λ w. effects_answer numbers (length w)) e ∙ ap (λ k. effects_answer numbers k) (row-length numbers row), f.1 ∙ ap (λ w. effects_row numbers w) e ∙ row_again numbers row)
