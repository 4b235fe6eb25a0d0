-- The refusals of what reads numbers from the left (`rows`): 2, 3 or 4, whatever is read.
use Prim.Native.Nat.{ℕ, zero, suc}
use mathlib.Core.Path.{◌≡◌, refl, subst}
use mathlib.Core.Bool.{Bool, true, false}
use mathlib.Core.List.{List, [], ◌∷◌, map}
use native.Mathlib.Omega.{arith}
use lib.Dec.{ltb, leb}
use lib.ListN.{length, get_or}
use Rattle.determine_side_effects.specs.rows_crate.Walk.{Parsed, got, fault, and_then, Rule, value, count, below, within, obeys, number, cells, many, ListRule, list, firsts, plain_row, repeated, distinct_row, lists, item}
use Rattle.host_answers.specs.Numbers.{OneOf}
use Rattle.determine_side_effects.specs.refusal_crate.declared.Refusal.{Refusal}
use Rattle.determine_side_effects.specs.refusal_crate.declared.Refusal.TheVariants.{OverLimit, OutOfRange, WrongLength}
use Rattle.determine_side_effects.specs.refusal_crate.Number.{number_of}

-- where reading ends in a fault, its number is one of these
pub record Faults {A : Type 0} (x : Parsed A) : Type 0 where
  pub numbers : (why : Refusal) → x ≡ fault why → OneOf 2 4 (number_of why)

pub of_got : {A : Type 0} {a : A} {q : ℕ} → Faults (got a q)
of_got = record { numbers = λ why e. cc }

pub of_fault : {A : Type 0} {why : Refusal} → OneOf 2 4 (number_of why) → Faults {A = A} (fault why)
of_fault {A} {why} o = record { numbers = λ other e. let i : why ≡ other = cc in subst (λ (r : Refusal). OneOf 2 4 (number_of r)) i o }

pub too_many : {A : Type 0} {q : ℕ} → Faults {A = A} (fault (OverLimit q))
too_many = of_fault (record { least = omega arith; most = omega arith })

pub no_such : {A : Type 0} {q : ℕ} → Faults {A = A} (fault (OutOfRange q))
no_such = of_fault (record { least = omega arith; most = omega arith })

pub cut_short : {A : Type 0} {q : ℕ} → Faults {A = A} (fault (WrongLength q))
cut_short = of_fault (record { least = omega arith; most = omega arith })

-- one after another, and by a test
pub of_then : {A B : Type 0} {x : Parsed A} {k : A → ℕ → Parsed B} → Faults x → ((a : A) (q : ℕ) → Faults (k a q)) → Faults (and_then x k)
unfolding and_then
of_then {A} {B} {x} {k} f h = go x f
  where
    go : (y : Parsed A) → Faults y → Faults (and_then y k)
    go (got a q) i = h a q
    go (fault why) i = of_fault (i.numbers why refl)

pub by_test : {X : Type 0} (P : X → Type 0) (b : Bool) {x y : X} → P x → P y → P (elim b [ true ↦ x | false ↦ y ])
by_test P true f h = f
by_test P false f h = h

pub of_test : {A : Type 0} (b : Bool) {x y : Parsed A} → Faults x → Faults y → Faults {A = A} (elim b [ true ↦ x | false ↦ y ])
of_test {A} b f h = by_test (Faults {A = A}) b f h

-- one number
of_within : (low limit x at : ℕ) → Faults (within low limit x at)
unfolding within
of_within low limit x at = of_test (ltb x low) no_such (of_test (leb limit x) no_such of_got)

of_rule : (r : Rule) (x at : ℕ) → Faults (obeys r x at)
unfolding obeys
of_rule (value low limit) x at = of_within low limit x at
of_rule (count most low limit) x at = of_test (ltb most x) too_many (of_within low limit x at)

pub of_number : (r : Rule) (numbers : List ℕ) (at : ℕ) → Faults (number r numbers at)
unfolding number
of_number r numbers at = of_test (ltb at (length numbers)) (of_rule r (get_or numbers at 0) at) cut_short

-- rows
pub of_cells : (rules : List Rule) (numbers : List ℕ) (at : ℕ) → Faults (cells rules numbers at)
unfolding cells
of_cells [] numbers at = of_got
of_cells (r ∷ rs) numbers at = of_then (of_number r numbers at) (λ x q. of_then (of_cells rs numbers q) (λ xs p. of_got))

pub of_many : {S A : Type 0} (step : S → ℕ → Parsed A) (next : S → A → S) → ((s : S) (at : ℕ) → Faults (step s at)) → (k : ℕ) (s : S) (at : ℕ) → Faults (many step next k s at)
unfolding many
of_many step next h zero s at = of_got
of_many step next h (suc k) s at = of_then (h s at) (λ a q. of_then (of_many step next h k (next s a) q) (λ xs p. of_got))

pub of_plain : (columns numbers seen : List ℕ) (at : ℕ) → Faults (plain_row columns numbers seen at)
unfolding plain_row
of_plain columns numbers seen at = of_cells (map (λ l. below l) columns) numbers at

pub of_distinct : (columns numbers seen : List ℕ) (at : ℕ) → Faults (distinct_row columns numbers seen at)
unfolding distinct_row
of_distinct columns numbers seen at = of_test (repeated numbers seen at) no_such (of_plain columns numbers seen at)

-- lists, by the rows that their rules read
pub record RowFaults (r : ListRule) : Type 0 where
  pub rows : (seen : List ℕ) (at : ℕ) → Faults (r.row seen at)

pub data AllRows : List ListRule → Type 0 where
  none : AllRows []
  more : {r : ListRule} {rs : List ListRule} → RowFaults r → AllRows rs → AllRows (r ∷ rs)

pub of_list : (r : ListRule) → RowFaults r → (numbers : List ℕ) (at : ℕ) → Faults (list r numbers at)
unfolding list
of_list r h numbers at = of_then (of_number (count 16384 0 r.counts) numbers at) (λ c q. of_many r.row firsts h.rows c [] q)

of_lists : (rs : List ListRule) → AllRows rs → (numbers : List ℕ) (at : ℕ) → Faults (lists rs numbers at)
unfolding lists
of_lists [] none numbers at = of_got
of_lists (r ∷ rs) (more h hs) numbers at = of_then (of_list r h numbers at) (λ l q. of_then (of_lists rs hs numbers q) (λ ls p. of_got))

pub of_item : (rules : List Rule) (rest : List ℕ → List ListRule) → ((head : List ℕ) → AllRows (rest head)) → (numbers : List ℕ) (at : ℕ) → Faults (item rules rest numbers at)
unfolding item
of_item rules rest h numbers at = of_then (of_cells rules numbers at) (λ head q. of_then (of_lists (rest head) (h head) numbers q) (λ ls p. of_got))
