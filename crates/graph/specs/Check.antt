-- What `check` answers: the first fault from the left, then the rules that read a later number, then numbers left over.
use Rattle.std.specs.Prelude.{ℕ, ◌+◌, ◌-◌, ◌≡◌, Bool, true, false, List, [], ◌∷◌, ltb, eqb, length, get_or}
use Rattle.graph_entries.specs.rows_crate.Walk.{Parsed, got, fault, and_then, cells, many, firsts, plain_row, Item, no_item, walk_of, onward}
use Rattle.graph_entries.specs.graph_format_crate.declared.Header.{Header}
use Rattle.graph_entries.specs.graph_format_crate.Format.{header_rules, header_of, modules_at, symbols_at, statements_at, entries_at, kind_of}
use Rattle.graph_entries.specs.graph_tables_crate.Tables.{items_of, header_in, modules_in, symbols_in, statements_in, entries_in}
use Rattle.std.specs.Prelude.{Result, Ok, Err}
use Rattle.graph_entries.specs.refusal_crate.declared.Refusal.{Refusal}
use Rattle.graph_entries.specs.refusal_crate.declared.Refusal.TheVariants.{OutOfRange, WrongLength}

-- the decoded graph: the header's numbers, the helper symbols, the modules, the symbols, the statements by module, the entries
pub record Graph : Type 0 where
  pub header : Header
  pub helpers : List (List ℕ)
  pub modules : List Item
  pub symbols : List Item
  pub statements : List (List Item)
  pub entries : List Item

-- the helper symbols behind the header's seven numbers, a row for each
unfoldable pub helpers_at : Header → List ℕ → ℕ → Parsed (List (List ℕ))
helpers_at h numbers at = many (plain_row (h.symbols ∷ []) numbers) firsts h.helpers [] at

-- all parts, from the left
unfoldable pub graph_at : Header → List ℕ → ℕ → Parsed Graph
graph_at h numbers at =
    and_then (helpers_at h numbers at)
    (λ hs p. and_then (modules_at h numbers p)
    (λ ms q. and_then (symbols_at h ms numbers q)
    (λ ys r. and_then (statements_at h ms numbers r)
    (λ ss s. and_then (entries_at h ms numbers s)
    (λ es t. got (record { header = h; helpers = hs; modules = ms; symbols = ys; statements = ss; entries = es }) t)))))

unfoldable pub walked : List ℕ → Parsed Graph
walked numbers = and_then (cells header_rules numbers 0) (λ h q. graph_at (header_of h) numbers q)

-- The rules that read a later number. Each item passes `test`, by its number and itself; the first that does not is refused 3, at
-- the number `offset` behind its first.
unfoldable pub each : (ℕ → Item → Bool) → ℕ → ℕ → List Item → Parsed ℕ
each test offset i [] = got i 0
each test offset i (x ∷ xs) = elim (test i x) [ true ↦ each test offset (i + 1) xs | false ↦ fault (OutOfRange (x.place + offset)) ]

-- the runtime module is a normal one
unfoldable pub runtime_normal : Graph → Bool
runtime_normal g =
    elim (ltb g.header.runtime g.header.modules) [
      | true ↦ eqb (kind_of (get_or g.modules g.header.runtime no_item)) 1
      | false ↦ false
    ]

-- a module's namespace, if it has one, is a symbol that it owns
unfoldable pub owns_namespace : List Item → ℕ → Item → Bool
owns_namespace symbols m x =
    elim (eqb (get_or x.head 7 0) 0) [
      | true ↦ true
      | false ↦ eqb (get_or (get_or symbols (get_or x.head 7 0 - 1) no_item).head 0 0) m
    ]

-- a symbol's root is its own root
unfoldable pub root_is_root : List Item → ℕ → Item → Bool
root_is_root symbols s x = eqb (get_or (get_or symbols (get_or x.head 2 0) no_item).head 2 0) (get_or x.head 2 0)

unfoldable pub later_rules : Graph → Parsed ℕ
later_rules g =
    elim (runtime_normal g) [
      | true ↦ and_then (each (owns_namespace g.symbols) 7 0 g.modules) (λ i p. each (root_is_root g.symbols) 2 0 g.symbols)
      | false ↦ fault (OutOfRange 1)
    ]

unfoldable pub check_of : List ℕ → Parsed Graph
check_of numbers =
    and_then (walked numbers)
    (λ g q. and_then (later_rules g) (λ i p. elim (ltb q (length numbers)) [ true ↦ fault (WrongLength q) | false ↦ got g q ]))

-- the answer without the graph
unfoldable pub answer_of : Parsed Graph → Result Unit Refusal
answer_of (got g q) = Ok tt
answer_of (fault why) = Err why

-- the graph that the numbers stand for, where they are accepted
unfoldable pub graph_in : List ℕ → Graph
graph_in numbers =
    record {
      header = header_in numbers;
      helpers = items_of (helpers_at (header_in numbers) numbers 7);
      modules = modules_in numbers;
      symbols = symbols_in numbers;
      statements = statements_in numbers;
      entries = entries_in numbers;
    }

-- where reading ends that begins at the statements, and at the symbols
unfoldable pub tail_walk : List ℕ → ℕ → Result ℕ Refusal
tail_walk numbers at =
    onward (walk_of (statements_at (header_in numbers) (modules_in numbers) numbers at)) (λ q. walk_of (entries_at (header_in numbers) (modules_in numbers) numbers q))

unfoldable pub body_walk : List ℕ → ℕ → Result ℕ Refusal
body_walk numbers at = onward (walk_of (symbols_at (header_in numbers) (modules_in numbers) numbers at)) (λ q. tail_walk numbers q)

-- what is known of a walk that has not ended in a fault
pub record OnceRead (r : Result ℕ Refusal) (X : Type 0) : Type 0 where
  pub known : (q : ℕ) → r ≡ Ok q → X

-- of numbers that are accepted
pub record OnceAccepted (r : Result Unit Refusal) (X : Type 0) : Type 0 where
  pub known : r ≡ Ok tt → X

-- the header has been read without a fault, and this is it
pub record HeaderRead (numbers : List ℕ) (h : Header) : Type 0 where
  pub end : ℕ
  pub read : walk_of (cells header_rules numbers 0) ≡ Ok end
  pub is : h ≡ header_in numbers
