-- The starts of a drain (docs/OPERATIONS.md, Starts, and the order of refusals under Drain).
use Rattle.std.specs.Prelude.{ℕ, zero, suc, ◌+◌, ◌*◌, ◌-◌, ◌/◌, ◌%◌, ◌<◌, Bool, true, false, ◌&&◌, ◌||◌, List, eqb, ltb, length, get_or}
use Rattle.determine_side_effects.specs.graph_crate.Check.{Graph}
use Rattle.determine_side_effects.specs.graph_access_crate.Words.{tabulate, statement_list, normal}
use Rattle.determine_side_effects.specs.facts_crate.declared.Fact.{Fact}
use Rattle.determine_side_effects.specs.facts_crate.Facts.{Good, fact_of, module_fact}
use Rattle.std.specs.Prelude.{Result, Ok, Err}
use Rattle.determine_side_effects.specs.refusal_crate.declared.Refusal.{Refusal}
use Rattle.determine_side_effects.specs.refusal_crate.declared.Refusal.TheVariants.{OutOfRange, WrongLength}

-- a part that is not used is 0; 3 stands for the third number of a triple, 0 for no fault
unfoldable pub unused_fault : ℕ → ℕ
unused_fault b = elim (eqb b 0) [ true ↦ 0 | false ↦ 3 ]

-- the index of a module, which has to be normal where a module or a statement is meant: the second number
unfoldable pub is_normal_index : Graph → ℕ → Bool
is_normal_index g m = ltb m g.header.modules && normal g m

-- the faulty number of a triple, counted from 1, or 0: kinds 0, 5 and over 6 are no starts
unfoldable pub start_fault : Graph → ℕ → ℕ → ℕ → ℕ
start_fault g kind a b =
    elim (eqb kind 1) [
      | true ↦ elim (is_normal_index g a) [ true ↦ unused_fault b | false ↦ 2 ]
      | false ↦ elim (eqb kind 2) [
        | true ↦ elim (is_normal_index g a) [ true ↦ elim (ltb b (length (statement_list g a))) [ true ↦ 0 | false ↦ 3 ] | false ↦ 2 ]
        | false ↦ elim (eqb kind 3 || eqb kind 4) [
          | true ↦ elim (ltb a g.header.symbols) [ true ↦ elim (ltb 0 b && ltb b 32) [ true ↦ 0 | false ↦ 3 ] | false ↦ 2 ]
          | false ↦ elim (eqb kind 6) [ true ↦ elim (ltb a g.header.modules) [ true ↦ unused_fault b | false ↦ 2 ] | false ↦ 1 ]
        ]
      ]
    ]

-- of n triples from triple i on, 1 more than the place of the first faulty number; 0 if there is none
unfoldable pub starts_fault : Graph → List ℕ → ℕ → ℕ → ℕ
starts_fault g starts i zero = 0
starts_fault g starts i (suc n) =
    elim (eqb (start_fault g (get_or starts (3 * i) 0) (get_or starts (3 * i + 1) 0) (get_or starts (3 * i + 2) 0)) 0) [
      | true ↦ starts_fault g starts (i + 1) n
      | false ↦ 3 * i + start_fault g (get_or starts (3 * i) 0) (get_or starts (3 * i + 1) 0) (get_or starts (3 * i + 2) 0)
    ]

-- the check of starts: 4 at their length unless they are in threes, then 3 at the first faulty number
unfoldable pub starts_walk : Graph → List ℕ → Result ℕ Refusal
starts_walk g starts =
    elim (eqb (length starts % 3) 0) [
      | true ↦ elim (eqb (starts_fault g starts 0 (length starts / 3)) 0) [ true ↦ Ok 0 | false ↦ Err (OutOfRange (starts_fault g starts 0 (length starts / 3) - 1)) ]
      | false ↦ Err (WrongLength (length starts))
    ]

-- the facts of starts
unfoldable pub starts_of : List ℕ → List Fact
starts_of starts = tabulate (λ i. fact_of (get_or starts (3 * i) 0) (get_or starts (3 * i + 1) 0) (get_or starts (3 * i + 2) 0)) 0 (length starts / 3)

-- every start is a good fact
abbrev pub StartsGood : Graph → List Fact → Type 0
StartsGood g starts = (i : ℕ) → i < length starts → Good g (get_or starts i (module_fact 0))
