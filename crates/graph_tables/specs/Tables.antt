-- The parts of a graph, and tables of where each module, symbol, statement and entry begins.
use Rattle.std.specs.Prelude.{ℕ, zero, suc, ◌+◌, List, [], ◌∷◌, take}
use Rattle.tables.specs.refusal_crate.Number.{place_of}
use Rattle.tables.specs.rows_crate.Walk.{Parsed, got, fault, Item}
use Rattle.tables.specs.graph_format_crate.declared.Header.{Header}
use Rattle.tables.specs.graph_format_crate.Format.{header_of, modules_at, symbols_at, statements_at, entries_at, statements_of}

-- what was read, and nothing where there was a fault; where reading ended
unfoldable pub items_of : {A : Type 0} → Parsed (List A) → List A
items_of (got xs q) = xs
items_of (fault why) = []

unfoldable pub end_of : {A : Type 0} → Parsed A → ℕ
end_of (got x q) = q
end_of (fault why) = place_of why

-- the header of a graph; its modules, behind the header and the helper symbols; and each part behind the one before it
unfoldable pub header_in : List ℕ → Header
header_in numbers = header_of (take 7 numbers)

unfoldable pub modules_read : List ℕ → Parsed (List Item)
modules_read numbers = modules_at (header_in numbers) numbers (7 + (header_in numbers).helpers)

unfoldable pub modules_in : List ℕ → List Item
modules_in numbers = items_of (modules_read numbers)

unfoldable pub symbols_read : List ℕ → Parsed (List Item)
symbols_read numbers = symbols_at (header_in numbers) (modules_in numbers) numbers (end_of (modules_read numbers))

unfoldable pub symbols_in : List ℕ → List Item
symbols_in numbers = items_of (symbols_read numbers)

unfoldable pub statements_read : List ℕ → Parsed (List (List Item))
statements_read numbers = statements_at (header_in numbers) (modules_in numbers) numbers (end_of (symbols_read numbers))

unfoldable pub statements_in : List ℕ → List (List Item)
statements_in numbers = items_of (statements_read numbers)

unfoldable pub entries_read : List ℕ → Parsed (List Item)
entries_read numbers = entries_at (header_in numbers) (modules_in numbers) numbers (end_of (statements_read numbers))

unfoldable pub entries_in : List ℕ → List Item
entries_in numbers = items_of (entries_read numbers)

-- how many statements the first m modules have
unfoldable pub first_of : List Item → ℕ → ℕ
first_of ms zero = 0
first_of [] (suc m) = 0
first_of (x ∷ ms) (suc m) = statements_of x + first_of ms m
