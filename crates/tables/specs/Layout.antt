-- One slice for all tables of a graph. Its first eleven words, the layout, say where each of ten sections begins, and where the last ends.
-- A further table is one more size here, and one more word of the layout.
use Rattle.std.specs.Prelude.{ℕ, zero, suc, ◌+◌, ◌-◌, ◌<◌, ◌≤◌, ◌≡◌, List, [], ◌∷◌, length, get_or, take, drop}
use Rattle.graph_format.specs.declared.Header.{Header}
use Rattle.tables.specs.declared.Size.{Size}
use Rattle.tables.specs.declared.Size.TheVariants.{Small, Middle, Large, Largest}

-- how many words each section has, for a graph of these counts
unfoldable pub sizes : Header → List ℕ
sizes h =
    h.modules ∷ h.symbols ∷ h.modules ∷ h.statements ∷ h.entries ∷ h.modules ∷ h.modules ∷ h.symbols ∷ h.symbols ∷ h.modules ∷ []

-- The sections by number: the places of the modules, of the symbols, by module the number of its first statement, the places of the statements and of
-- the entries; by module its last verdict and whether it is included on demand; by symbol the body that it is a key of and the CommonJS module that it is
-- a namespace of; by module its first byte in the row of statements. A number is also how many sections stand in front.
abbrev pub at_modules : ℕ
at_modules = 0

abbrev pub at_symbols : ℕ
at_symbols = 1

abbrev pub at_first_statements : ℕ
at_first_statements = 2

abbrev pub at_statements : ℕ
at_statements = 3

abbrev pub at_entries : ℕ
at_entries = 4

abbrev pub at_verdicts : ℕ
at_verdicts = 5

abbrev pub at_on_demand : ℕ
at_on_demand = 6

abbrev pub at_bodies : ℕ
at_bodies = 7

abbrev pub at_namespaces : ℕ
at_namespaces = 8

abbrev pub at_first_bytes : ℕ
at_first_bytes = 9

abbrev pub all_sections : ℕ
all_sections = 10

-- where section k begins, if the first begins at `at`
unfoldable pub start_from : ℕ → List ℕ → ℕ → ℕ
start_from at counts zero = at
start_from at [] (suc k) = at
start_from at (c ∷ counts) (suc k) = start_from (at + c) counts k

unfoldable pub start_of : Header → ℕ → ℕ
start_of h k = start_from 11 (sizes h) k

-- section k: from the word that number k of the layout names up to the one that number k + 1 does
abbrev pub section : ℕ → List ℕ → List ℕ
section k tables = take (get_or tables (k + 1) 0 - get_or tables k 0) (drop (get_or tables k 0) tables)

-- The sections by name: the places of the modules and of the symbols; by module the number of its first statement among all, and the
-- places of all statements; the places of the entries;
abbrev pub module_places : List ℕ → List ℕ
module_places = section at_modules

abbrev pub symbol_places : List ℕ → List ℕ
symbol_places = section at_symbols

abbrev pub first_statements : List ℕ → List ℕ
first_statements = section at_first_statements

abbrev pub statement_places : List ℕ → List ℕ
statement_places = section at_statements

abbrev pub entry_places : List ℕ → List ℕ
entry_places = section at_entries

-- by module its last verdict and whether it is included on demand; by symbol the body that it is a key of, and the CommonJS module that it
-- is a namespace of; by module its first byte in the row of statements.
abbrev pub verdicts_in : List ℕ → List ℕ
verdicts_in = section at_verdicts

abbrev pub on_demand_in : List ℕ → List ℕ
on_demand_in = section at_on_demand

abbrev pub bodies_in : List ℕ → List ℕ
bodies_in = section at_bodies

abbrev pub namespaces_in : List ℕ → List ℕ
namespaces_in = section at_namespaces

abbrev pub first_bytes_in : List ℕ → List ℕ
first_bytes_in = section at_first_bytes

-- the layout of a graph of these counts, whose first n sections are inside the slice
pub record Laid (h : Header) (n : ℕ) (tables : List ℕ) : Type 0 where
  pub known : n ≤ all_sections
  pub few : length tables < 4294967296
  pub starts : (k : ℕ) → k ≤ all_sections → get_or tables k 0 ≡ start_of h k
  pub fits : start_of h n ≤ length tables

-- section k is inside the slice
pub record Inside (k : ℕ) (tables : List ℕ) : Type 0 where
  pub layout : k + 1 < length tables
  pub few : length tables < 4294967296
  pub up : get_or tables k 0 ≤ get_or tables (k + 1) 0
  pub ends : get_or tables (k + 1) 0 ≤ length tables

-- nothing in front of word n was written
pub record Kept (n : ℕ) (before after : List ℕ) : Type 0 where
  pub same_length : length after ≡ length before
  pub front : take n after ≡ take n before

-- the counts of a graph that the tables of a size hold
abbrev pub Counts : Header → ℕ → ℕ → ℕ → ℕ → Type 0
Counts h modules symbols statements entries = (h.modules ≤ modules) × (h.symbols ≤ symbols) × (h.statements ≤ statements) × (h.entries ≤ entries)

abbrev pub FitsSize : Header → Size → Type 0
FitsSize h Small = Counts h 16 64 64 16
FitsSize h Middle = Counts h 128 1024 1024 128
FitsSize h Large = Counts h 1024 4096 4096 1024
FitsSize h Largest = Counts h 1024 16384 16384 1024
