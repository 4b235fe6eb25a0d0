-- Words for the parts of a decoded graph, and for the bits of a number.
use Rattle.std.specs.Prelude.{ℕ, zero, suc, ◌+◌, ◌/◌, ◌%◌, ◌^◌, Bool, true, false, List, [], ◌∷◌, eqb, get_or}
use Rattle.graph.specs.rows_crate.Walk.{Item, no_item}
use Rattle.graph.specs.Check.{Graph}
use Rattle.graph_access.specs.Names.{kind}

-- bit k of a number
unfoldable pub flag : ℕ → ℕ → Bool
flag k x = eqb (x / 2 ^ k % 2) 1

-- f i, f (i + 1) and so on, n of them
unfoldable pub tabulate : {A : Type 0} → (ℕ → A) → ℕ → ℕ → List A
tabulate f i zero = []
tabulate f i (suc n) = f i ∷ tabulate f (i + 1) n

-- whether one of the list's elements passes the test
unfoldable pub some : {A : Type 0} → (A → Bool) → List A → Bool
some test [] = false
some test (x ∷ xs) = elim (test x) [ true ↦ true | false ↦ some test xs ]

unfoldable pub module_of : Graph → ℕ → Item
module_of g m = get_or g.modules m no_item

unfoldable pub symbol_of : Graph → ℕ → Item
symbol_of g s = get_or g.symbols s no_item

-- the statements of module m, and statement i of it
unfoldable pub statement_list : Graph → ℕ → List Item
statement_list g m = get_or g.statements m []

unfoldable pub statement_of : Graph → ℕ → ℕ → Item
statement_of g m i = get_or (statement_list g m) i no_item

-- a normal module, not an external one
unfoldable pub normal : Graph → ℕ → Bool
normal g m = eqb (kind (module_of g m)) 1

-- bit k of the options
unfoldable pub option : Graph → ℕ → Bool
option g k = flag k g.header.options

-- entry e
unfoldable pub entry_of : Graph → ℕ → Item
entry_of g e = get_or g.entries e no_item

-- a symbol's canonical symbol: its root, which is its own root (L9 follows links here)
unfoldable pub root_of : List Item → ℕ → ℕ
root_of symbols s = get_or (get_or symbols s no_item).head 2 0
