-- How many statements the modules of an accepted graph have, and where each module's first one is.
use Prim.Native.Nat.{ℕ, ◌+◌, ◌<◌, ◌≤◌}
use mathlib.Core.Path.{◌≡◌, refl}
use mathlib.Core.List.{List}
use native.Mathlib.Omega.{arith}
use lib.ListN.{length, get_or}
use Rattle.graph.specs.rows_crate.Walk.{no_item}
use Rattle.graph.specs.graph_format_crate.declared.Header.{Header}
use Rattle.graph.specs.graph_format_crate.Format.{statements_of}
use Rattle.graph.specs.graph_tables_crate.Tables.{header_in, modules_in, first_of}
use Rattle.graph.proofs.graph_tables_crate.ByModule.{in_table}
use Rattle.graph.specs.Check.{graph_in}
use Rattle.graph_access.specs.Words.{statement_list}
use Rattle.graph.specs.Loaded.{Loaded}
use Rattle.graph.specs.tables_crate.Layout.{first_statements}
use Rattle.graph_access.proofs.OfStatements.{all_long as all_are, in_first as first_is}

module _ {numbers tables : List ℕ} (t : Loaded numbers tables) where
  module _ (m : ℕ) (h : m < (header_in numbers).modules) where
    pub all_long : length (statement_list (graph_in numbers) m) ≡ get_or (get_or (modules_in numbers) m no_item).head 9 0
    unfolding statements_of statement_list graph_in
    all_long = all_are numbers _ _ _ t.of_modules t.of_statements m h

    pub in_first : get_or (first_statements tables) m 0 ≡ first_of (modules_in numbers) m
    in_first = first_is numbers _ _ _ t.of_modules t.of_statements m h

    -- a statement's number is one of those that the header counts
    pub number-below : (i : ℕ) → i < length (statement_list (graph_in numbers) m) → first_of (modules_in numbers) m + i < (header_in numbers).statements
    number-below i l = omega (arith, in_table numbers _ t.of_modules m _ h refl, all_long, l)

  -- the header, as it was read
  pub small : (h : Header) → h ≡ header_in numbers → (h.modules ≤ 1024) × (h.symbols ≤ 16384) × (h.statements ≤ 16384)
  small h e = rw e (t.few_modules, t.few_symbols, t.few_statements)
