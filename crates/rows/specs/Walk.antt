-- Reading numbers from the left, up to the first fault. `numbers` is the whole input and `at` the place of the next number.
use Rattle.std.specs.Prelude.{ℕ, zero, suc, ◌+◌, ◌*◌, Bool, true, false, List, [], ◌∷◌, map, ltb, leb, eqb, length, get_or, take}
use Rattle.std.specs.Prelude.{Result, Ok, Err}
use Rattle.refusal.specs.declared.Refusal.{Refusal}
use Rattle.refusal.specs.declared.Refusal.TheVariants.{OverLimit, OutOfRange, WrongLength}

-- what was read and the place of the number behind it; or a refusal's number and its place
pub data Parsed (A : Type 0) : Type 0 where
  got : A → ℕ → Parsed A
  fault : Refusal → Parsed A

-- reads on, unless there was a fault
unfoldable pub and_then : {A B : Type 0} → Parsed A → (A → ℕ → Parsed B) → Parsed B
and_then (got a q) f = f a q
and_then (fault why) f = fault why

-- What may stand at one place. A value is from `low` on and below `limit`, else the refusal is 3; a count that is over
-- `most` is refused 2 before that (docs/OPERATIONS.md, Check).
pub data Rule : Type 0 where
  value : ℕ → ℕ → Rule
  count : ℕ → ℕ → ℕ → Rule

-- a value below a limit
abbrev pub below : ℕ → Rule
below limit = value 0 limit

-- any number
abbrev pub any : ℕ
any = 4294967296

unfoldable pub within : ℕ → ℕ → ℕ → ℕ → Parsed ℕ
within low limit x at =
    elim (ltb x low) [ true ↦ fault (OutOfRange at) | false ↦ elim (leb limit x) [ true ↦ fault (OutOfRange at) | false ↦ got x (at + 1) ] ]

unfoldable pub obeys : Rule → ℕ → ℕ → Parsed ℕ
obeys (value low limit) x at = within low limit x at
obeys (count most low limit) x at = elim (ltb most x) [ true ↦ fault (OverLimit at) | false ↦ within low limit x at ]

-- one number, which may be missing
unfoldable pub number : Rule → List ℕ → ℕ → Parsed ℕ
number rule numbers at = elim (ltb at (length numbers)) [ true ↦ obeys rule (get_or numbers at 0) at | false ↦ fault (WrongLength at) ]

-- a number for each rule
unfoldable pub cells : List Rule → List ℕ → ℕ → Parsed (List ℕ)
cells [] numbers at = got [] at
cells (r ∷ rs) numbers at = and_then (number r numbers at) (λ x q. and_then (cells rs numbers q) (λ xs p. got (x ∷ xs) p))

-- `k` things, each read by `step` from what `next` keeps of those before it
unfoldable pub many : {S A : Type 0} → (S → ℕ → Parsed A) → (S → A → S) → ℕ → S → ℕ → Parsed (List A)
many step next zero s at = got [] at
many step next (suc k) s at = and_then (step s at) (λ a q. and_then (many step next k (next s a) q) (λ xs p. got (a ∷ xs) p))

unfoldable pub elem : ℕ → List ℕ → Bool
elem x [] = false
elem x (y ∷ ys) = elim (eqb x y) [ true ↦ true | false ↦ elem x ys ]

-- A list: a count, at most 16,384 and here below `counts`, then as many rows. A row is read with the first numbers of the rows
-- before it at hand, the latest first.
pub record ListRule : Type 0 where
  pub counts : ℕ
  pub row : List ℕ → ℕ → Parsed (List ℕ)

-- the first numbers of the rows so far
unfoldable pub firsts : List ℕ → List ℕ → List ℕ
firsts seen row = get_or row 0 0 ∷ seen

unfoldable pub list : ListRule → List ℕ → ℕ → Parsed (List (List ℕ))
list rule numbers at = and_then (number (count 16384 0 rule.counts) numbers at) (λ c q. many rule.row firsts c [] q)

-- rows of fixed width, with a limit for each column
unfoldable pub plain_row : List ℕ → List ℕ → List ℕ → ℕ → Parsed (List ℕ)
plain_row columns numbers seen at = cells (map (λ l. below l) columns) numbers at

-- the number at `at`, if there is one, is among those seen
unfoldable pub repeated : List ℕ → List ℕ → ℕ → Bool
repeated numbers seen at = elim (ltb at (length numbers)) [ true ↦ elem (get_or numbers at 0) seen | false ↦ false ]

-- the same, where the first number of a row is in no row before it
unfoldable pub distinct_row : List ℕ → List ℕ → List ℕ → ℕ → Parsed (List ℕ)
distinct_row columns numbers seen at =
    elim (repeated numbers seen at) [ true ↦ fault (OutOfRange at) | false ↦ plain_row columns numbers seen at ]

-- the rule of a list of such rows, with any count that lists may have
abbrev pub plain : List ℕ → List ℕ → ListRule
plain numbers columns = record { counts = 16385; row = plain_row columns numbers }

abbrev pub distinct : List ℕ → List ℕ → ListRule
distinct numbers columns = record { counts = 16385; row = distinct_row columns numbers }

-- lists, one behind another
unfoldable pub lists : List ListRule → List ℕ → ℕ → Parsed (List (List (List ℕ)))
lists [] numbers at = got [] at
lists (r ∷ rs) numbers at = and_then (list r numbers at) (λ l q. and_then (lists rs numbers q) (λ ls p. got (l ∷ ls) p))

-- what is made of leading numbers and lists of rows, and the place where it begins
pub record Item : Type 0 where
  pub place : ℕ
  pub head : List ℕ
  pub rows : List (List (List ℕ))

abbrev pub no_item : Item
no_item = record { place = 0; head = []; rows = [] }

-- an item: its leading numbers, then its lists, whose rules may go by the leading numbers
unfoldable pub item : List Rule → (List ℕ → List ListRule) → List ℕ → ℕ → Parsed Item
item rules rest numbers at =
    and_then (cells rules numbers at)
    (λ h q. and_then (lists (rest h) numbers q) (λ ls p. got (record { place = at; head = h; rows = ls }) p))

-- where reading ends, without what was read
unfoldable pub walk_of : {A : Type 0} → Parsed A → Result ℕ Refusal
walk_of (got a q) = Ok q
walk_of (fault why) = Err why

-- the walk goes on from where it is, or has ended in a fault
unfoldable pub onward : Result ℕ Refusal → (ℕ → Result ℕ Refusal) → Result ℕ Refusal
onward (Ok q) f = f q
onward (Err why) f = Err why

-- the rules of a row of up to three columns, and of a list of such rows, as the code hands them on
unfoldable pub columns_of : ℕ → ℕ → ℕ → ℕ → List ℕ
columns_of width a b c = take width (a ∷ b ∷ c ∷ [])

unfoldable pub row_of : Bool → List ℕ → List ℕ → List ℕ → ℕ → Parsed (List ℕ)
row_of true columns numbers = distinct_row columns numbers
row_of false columns numbers = plain_row columns numbers

-- the first numbers of k rows of `width` numbers from `at` on, the latest first
unfoldable pub firsts_at : List ℕ → ℕ → ℕ → ℕ → List ℕ
firsts_at numbers at width zero = []
firsts_at numbers at width (suc k) = get_or numbers (at + width * k) 0 ∷ firsts_at numbers at width k
