-- The numbers of refusals of a read, of the effects and of the judge, by their definitions.
use Prim.Native.Nat.{ℕ, zero, suc, ◌+◌, ◌-◌, ◌/◌, ◌%◌}
use mathlib.Core.Path.{◌≡◌, refl, ap, sym}
use mathlib.Core.Logic.{◌⊎◌, inl, inr}
use mathlib.Core.List.{List, [], ◌∷◌}
use native.Mathlib.Omega.{arith}
use lib.Dec.{eqb, ltb}
use lib.ListN.{length, drop}
use Rattle.leb128.specs.Groups.{groups, good}
use Rattle.leb128.specs.Read.{Decoded, all, refused, before, numbers_from, read_of}
use Rattle.determine_side_effects.specs.rows_crate.Walk.{Parsed, got, fault}
use Rattle.determine_side_effects.specs.graph_crate.Check.{Graph, check_of}
use Rattle.determine_side_effects.specs.Effects.{last_verdicts}
use Rattle.determine_side_effects.specs.Operation.{effects_answer}
use Rattle.determine_side_effects.specs.facts_crate.declared.Fact.{Fact}
use Rattle.keep_record.specs.declared.Line.{Line}
use Rattle.keep_record.specs.Lines.{has}
use Rattle.starts.specs.Starts.{starts_fault, starts_walk, starts_of}
use Rattle.completeness.specs.Complete.{is_complete}
use Rattle.judge_parts.specs.Operation.{judged_whole, judged_at, judged_lines, judged_in, judge_of}
use Rattle.host_answers.specs.Numbers.{OneOf}
use Rattle.host_answers.proofs.Faults.{Faults, by_test}
use Rattle.host_answers.proofs.GraphFaults.{check_faults}
use Rattle.std.specs.Prelude.{Result, Ok, Err}
use Rattle.determine_side_effects.specs.refusal_crate.declared.Refusal.{Refusal}
use Rattle.determine_side_effects.specs.refusal_crate.declared.Refusal.TheVariants.{NoNumber, OutOfRange, WrongLength, NoRoom, Unjustified}
use Rattle.determine_side_effects.specs.refusal_crate.Number.{number_of}

-- a number by another name, of one refusal and of the other, and within more
pub same : {low high m n : ℕ} → OneOf low high m → m ≡ n → OneOf low high n
same o e = record { least = omega arith; most = omega arith }

pub of_same : {low high : ℕ} {why other : Refusal} → OneOf low high (number_of why) → why ≡ other → OneOf low high (number_of other)
of_same o e = same o (ap number_of e)

pub to_5 : {n : ℕ} → OneOf 2 4 n → OneOf 2 5 n
to_5 o = record { least = o.least; most = omega arith }

pub three : OneOf 2 4 3
three = record { least = omega arith; most = omega arith }

pub four : OneOf 2 4 4
four = record { least = omega arith; most = omega arith }

pub five : OneOf 2 5 5
five = record { least = omega arith; most = omega arith }

-- what begins with a check
pub by_check : {X : Type 0} (P : X → Type 0) (x : Parsed Graph) (f : Graph → X) (h : Refusal → X) → Faults x → ((g : Graph) → P (f g)) → ((why : Refusal) → OneOf 2 4 (number_of why) → P (h why))
    → P (elim x [ got g q ↦ f g | fault why ↦ h why ])
by_check P (got g q) f h i a b = a g
by_check P (fault why) f h i a b = b why (i.numbers why refl)

-- Read -----------------------------------------------------------------------------------------------------------------------------------

pub record Reads (d : Decoded) : Type 0 where
  pub numbers : (why : Refusal) → d ≡ refused why → (number_of why ≡ 1) ⊎ (number_of why ≡ 5)

reads_all : {xs : List ℕ} → Reads (all xs)
reads_all = record { numbers = λ why e. cc }

reads_1 : {q : ℕ} → Reads (refused (NoNumber q))
reads_1 {q} = record { numbers = λ why e. let i : NoNumber q ≡ why = cc in inl (sym (ap number_of i)) }

reads_5 : Reads (refused NoRoom)
reads_5 = record { numbers = λ why e. let i : NoRoom ≡ why = cc in inr (sym (ap number_of i)) }

reads_before : (x : ℕ) (d : Decoded) → Reads d → Reads (before x d)
unfolding before
reads_before x (all xs) r = reads_all
reads_before x (refused why) r = r

reads_from : (fuel : ℕ) (xs : List ℕ) (at room : ℕ) → Reads (numbers_from fuel xs at room)
unfolding numbers_from
reads_from zero xs at room = reads_all
reads_from (suc fuel) [] at room = reads_all
reads_from (suc fuel) (b ∷ bs) at room =
    by_test Reads (good (groups (b ∷ bs)))
    (by_test Reads (ltb 0 room) (reads_before _ _ (reads_from fuel (drop (length (groups (b ∷ bs))) (b ∷ bs)) (at + length (groups (b ∷ bs))) (room - 1))) reads_5)
    reads_1

pub reads_of : (file : List ℕ) (room : ℕ) → Reads (read_of file room)
unfolding read_of
reads_of file room = reads_from (length file) file 0 room

-- Effects --------------------------------------------------------------------------------------------------------------------------------

pub record Effects (c : Result Unit Refusal) : Type 0 where
  pub numbers : (why : Refusal) → c ≡ Err why → OneOf 2 5 (number_of why)

effects_accepted : Effects (Ok tt)
effects_accepted = record { numbers = λ why e. cc }

effects_refused : {why : Refusal} → OneOf 2 5 (number_of why) → Effects (Err why)
effects_refused {why} o = record { numbers = λ other e. let i : why ≡ other = cc in of_same o i }

pub effects_in : (numbers : List ℕ) (room : ℕ) → Effects (effects_answer numbers room)
unfolding effects_answer
effects_in numbers room =
    by_check Effects (check_of numbers) _ _ (check_faults numbers)
    (λ g. by_test Effects (ltb room g.header.modules) (effects_refused five) effects_accepted)
    (λ why o. effects_refused (to_5 o))

-- Judge ----------------------------------------------------------------------------------------------------------------------------------

pub record Judges (j : Result Unit Refusal) : Type 0 where
  pub numbers : (why : Refusal) → j ≡ Err why → OneOf 2 4 (number_of why) ⊎ (number_of why ≡ 6)

judges_passed : Judges (Ok tt)
judges_passed = record { numbers = λ why e. cc }

judges_refused : {why : Refusal} → OneOf 2 4 (number_of why) → Judges (Err why)
judges_refused {why} o = record { numbers = λ other e. let i : why ≡ other = cc in inl (of_same o i) }

judges_6 : {q : ℕ} → Judges (Err (Unjustified q))
judges_6 {q} = record { numbers = λ why e. let i : Unjustified q ≡ why = cc in inr (sym (ap number_of i)) }

judges_whole : (g : Graph) (given : List Fact) (lines : List Line) → Judges (judged_whole g given lines)
unfolding judged_whole
judges_whole g given lines = by_test Judges (is_complete g (last_verdicts g) (has g 0 lines) given lines) judges_passed judges_6

judges_at : (g : Graph) (given : List Fact) (row : List ℕ) (n bad : ℕ) → Judges (judged_at g given row n bad)
unfolding judged_at
judges_at g given row n bad = by_test Judges (eqb bad n) (judges_whole g given _) judges_6

judges_lines : (g : Graph) (given : List Fact) (row : List ℕ) → Judges (judged_lines g given row)
unfolding judged_lines
judges_lines g given row = judges_at g given row _ _

-- a walk over starts
pub record Walks (w : Result ℕ Refusal) : Type 0 where
  pub numbers : (why : Refusal) → w ≡ Err why → OneOf 2 4 (number_of why)

walks_starts : (g : Graph) (given : List ℕ) → Walks (starts_walk g given)
unfolding starts_walk
walks_starts g given =
    by_test Walks (eqb (length given % 3) 0)
    (by_test Walks (eqb (starts_fault g given 0 (length given / 3)) 0)
    (record { numbers = λ why e. cc })
    (record { numbers = λ why e. let i : OutOfRange (starts_fault g given 0 (length given / 3) - 1) ≡ why = cc in of_same three i }))
    (record { numbers = λ why e. let i : WrongLength (length given) ≡ why = cc in of_same four i })

by_walk : (w : Result ℕ Refusal) (j : Result Unit Refusal) → Walks w → Judges j → Judges (elim w [ Ok p ↦ j | Err why ↦ Err why ])
by_walk (Ok p) j i h = h
by_walk (Err why) j i h = judges_refused (i.numbers why refl)

judges_in : (g : Graph) (given row : List ℕ) → Judges (judged_in g given row)
unfolding judged_in
judges_in g given row =
    by_walk (starts_walk g given) _ (walks_starts g given)
    (by_test Judges (eqb (length row % 6) 0) (judges_lines g (starts_of given) row) (judges_refused four))

pub judges_of : (numbers given row : List ℕ) → Judges (judge_of numbers given row)
unfolding judge_of
judges_of numbers given row =
    by_check Judges (check_of numbers) _ _ (check_faults numbers) (λ g. judges_in g given row) (λ why o. judges_refused o)
