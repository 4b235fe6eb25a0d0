-- The section of each part, once it is read, and the accepted graph with all of them.
use Prim.Native.Nat.{ℕ, ◌+◌}
use mathlib.Core.Path.{◌≡◌, ap, ◌∙◌, sym}
use mathlib.Core.List.{List, [], ◌∷◌}
use native.Mathlib.Nat.{one-mul}
use native.Mathlib.Omega.{arith}
use Rattle.graph_entries.specs.rows_crate.Walk.{Parsed, got, and_then, many, firsts, plain_row, columns_of, walk_of, onward, Item, Rule, cells, number}
use Rattle.graph_entries.proofs.graph_format_crate.Chains.{onward_end}
use Rattle.graph_entries.proofs.rows_crate.Walks.{clash, cells_cons, at_got, fault_is, walk_then, walk-map, onward_at, onward_fault}
use Rattle.graph_entries.proofs.rows_crate.Items.{rows_end, plain_plain, many-length}
use Rattle.graph_entries.specs.graph_format_crate.declared.Header.{Header}
use Rattle.graph_entries.specs.graph_format_crate.Format.{modules_at, symbols_at, statements_at, entries_at}
use Rattle.graph_entries.specs.tables_crate.Layout.{sizes, start_of, module_places, symbol_places, first_statements, statement_places, entry_places, Laid, at_modules, at_symbols, at_entries, at_verdicts}
use Rattle.graph_entries.proofs.tables_crate.Sections.{section-length}
use Rattle.graph_entries.specs.graph_tables_crate.Tables.{items_of, end_of, header_in, modules_read, modules_in, symbols_read, symbols_in, statements_read, statements_in, entries_read, entries_in}
use Rattle.graph_entries.specs.graph_tables_crate.Places.{Filled, StatementsFilled, ModuleTable, SymbolTable, StatementTable, EntryTable}
use Rattle.graph_entries.proofs.graph_tables_crate.Sections.{placed_whole}
use Rattle.graph_entries.proofs.Parts.{then_fault, then_at}
use Rattle.graph.specs.Check.{Graph, helpers_at, graph_at, tail_walk, body_walk, check_of, answer_of, OnceRead, HeaderRead}
use Rattle.graph.specs.Loaded.{Places, Loaded}
use Rattle.graph.proofs.Checking.{seven, bounded}
use Rattle.std.specs.Prelude.{Result, Ok, Err}
use Rattle.graph_entries.specs.refusal_crate.declared.Refusal.{Refusal}

-- what was read, by where it ended
pub read_as : {A : Type 0} (x : Parsed (List A)) {q : ℕ} → walk_of x ≡ Ok q → x ≡ got (items_of x) q
unfolding items_of
read_as x {q} e = let t = at_got x q e in rw t.1

pub end_is : {A : Type 0} (x : Parsed A) {q : ℕ} → walk_of x ≡ Ok q → end_of x ≡ q
unfolding end_of
end_is x {q} e = let t = at_got x q e in rw t.1

module _ (numbers : List ℕ) (h : Header) (is : h ≡ header_in numbers) where
  -- each part, by the header at hand and where the part before it ended
  pub modules_part : (at : ℕ) → at ≡ 7 + h.helpers → modules_at h numbers at ≡ modules_read numbers
  unfolding modules_read
  modules_part at e = rw (e, is)

  pub symbols_part : (at : ℕ) → at ≡ end_of (modules_read numbers) → symbols_at h (modules_in numbers) numbers at ≡ symbols_read numbers
  unfolding symbols_read
  symbols_part at e = rw (e, is)

  pub statements_part : (at : ℕ) → at ≡ end_of (symbols_read numbers) → statements_at h (modules_in numbers) numbers at ≡ statements_read numbers
  unfolding statements_read
  statements_part at e = rw (e, is)

  pub entries_part : (at : ℕ) → at ≡ end_of (statements_read numbers) → entries_at h (modules_in numbers) numbers at ≡ entries_read numbers
  unfolding entries_read
  entries_part at e = rw (e, is)

  -- each section, once its part is read
  module _ (tables : List ℕ) (t : Laid h at_verdicts tables) where
    pub module-table : (at q : ℕ) → at ≡ 7 + h.helpers → walk_of (modules_at h numbers at) ≡ Ok q → Filled (modules_at h numbers at) (start_of h at_modules) tables → ModuleTable numbers (module_places tables)
    unfolding modules_in modules_read modules_at sizes
    module-table at q s e f =
        let r = read_as (modules_read numbers) (rw (modules_part at s) at e) in
        let n = many-length _ _ _ _ _ r in
        let l = ap (λ x. x.modules) is in
        record {
          end = q;
          read = r;
          places = placed_whole t 0 (omega arith) (modules_in numbers) (omega (arith, n, l)) (rw r at (rw (modules_part at s) at f));
          long = omega (arith, section-length t 0 (omega arith), l);
        }

    pub symbol-table : (at q : ℕ) → at ≡ end_of (modules_read numbers) → walk_of (symbols_at h (modules_in numbers) numbers at) ≡ Ok q
        → Filled (symbols_at h (modules_in numbers) numbers at) (start_of h at_symbols) tables → SymbolTable numbers (symbol_places tables)
    unfolding symbols_in symbols_read symbols_at sizes
    symbol-table at q s e f =
        let r = read_as (symbols_read numbers) (rw (symbols_part at s) at e) in
        let n = many-length _ _ _ _ _ r in
        let l = ap (λ x. x.symbols) is in
        record {
          end = q;
          read = r;
          places = placed_whole t 1 (omega arith) (symbols_in numbers) (omega (arith, n, l)) (rw r at (rw (symbols_part at s) at f));
          long = omega (arith, section-length t 1 (omega arith), l);
        }

    pub statement-table : (at q : ℕ) → at ≡ end_of (symbols_read numbers) → walk_of (statements_at h (modules_in numbers) numbers at) ≡ Ok q
        → StatementsFilled (modules_in numbers) (statements_at h (modules_in numbers) numbers at) (first_statements tables) (statement_places tables)
        → StatementTable numbers (first_statements tables) (statement_places tables)
    unfolding statements_in sizes
    statement-table at q s e f =
        let r = read_as (statements_read numbers) (rw (statements_part at s) at e) in
        record {
          end = q;
          read = r;
          placed = rw r at (rw (statements_part at s) at f);
          long = omega (arith, section-length t 2 (omega arith), ap (λ x. x.modules) is);
          wide = omega (arith, section-length t 3 (omega arith), ap (λ x. x.statements) is);
        }

    pub entry-table : (at q : ℕ) → at ≡ end_of (statements_read numbers) → walk_of (entries_at h (modules_in numbers) numbers at) ≡ Ok q
        → Filled (entries_at h (modules_in numbers) numbers at) (start_of h at_entries) tables → EntryTable numbers (entry_places tables)
    unfolding entries_in entries_read entries_at sizes
    entry-table at q s e f =
        let r = read_as (entries_read numbers) (rw (entries_part at s) at e) in
        let n = many-length _ _ _ _ _ r in
        let l = ap (λ x. x.entries) is in
        record {
          end = q;
          read = r;
          places = placed_whole t 4 (omega arith) (entries_in numbers) (omega (arith, n, l)) (rw r at (rw (entries_part at s) at f));
          long = omega (arith, section-length t 4 (omega arith), l);
        }

  -- the walk from the statements on
  pub tail_stop : (at : ℕ) {why : Refusal} → walk_of (statements_at h (modules_in numbers) numbers at) ≡ Err why → tail_walk numbers at ≡ Err why
  unfolding tail_walk
  tail_stop at e = onward_fault _ (rw is at e)

  pub tail_go : (at : ℕ) {q : ℕ} → walk_of (statements_at h (modules_in numbers) numbers at) ≡ Ok q → tail_walk numbers at ≡ walk_of (entries_at h (modules_in numbers) numbers q)
  unfolding tail_walk
  tail_go at e = onward_at _ (rw is at e) ∙ rw is

  pub body_stop : (at : ℕ) {why : Refusal} → walk_of (symbols_at h (modules_in numbers) numbers at) ≡ Err why → body_walk numbers at ≡ Err why
  unfolding body_walk
  body_stop at e = onward_fault _ (rw is at e)

  pub body_go : (at : ℕ) {q : ℕ} → walk_of (symbols_at h (modules_in numbers) numbers at) ≡ Ok q → body_walk numbers at ≡ tail_walk numbers q
  unfolding body_walk
  body_go at e = onward_at _ (rw is at e)

  -- the whole walk behind the header
  abbrev helped : ℕ → Result ℕ Refusal
  helped at = walk_of (many (plain_row (columns_of 1 h.symbols 0 0) numbers) firsts h.helpers [] at)

  pub helpers_end : {q : ℕ} → helped 7 ≡ Ok q → q ≡ 7 + h.helpers
  unfolding columns_of
  helpers_end {q} e =
      let t = at_got _ q e in
      let r = rows_end (h.symbols ∷ []) numbers _ (plain_plain (h.symbols ∷ []) numbers) h.helpers [] 7 t.1 in
      r ∙ ap (λ j. 7 + j) (one-mul h.helpers)

  pub graph_stop_helpers : {why : Refusal} → helped 7 ≡ Err why → walk_of (graph_at h numbers 7) ≡ Err why
  unfolding graph_at helpers_at columns_of walk_of
  graph_stop_helpers {why} e = ap walk_of (then_fault _ (fault_is _ why e))

  pub graph_stop_modules : {q : ℕ} {why : Refusal} → helped 7 ≡ Ok q → walk_of (modules_at h numbers q) ≡ Err why → walk_of (graph_at h numbers 7) ≡ Err why
  unfolding graph_at helpers_at columns_of walk_of
  graph_stop_modules {q} {why} e f = ap walk_of (then_at _ (at_got _ q e).1 ∙ then_fault _ (fault_is _ why f))

  rest : (hs : List (List ℕ)) (ms : List Item) (at : ℕ)
      → walk_of {A = Graph} (and_then (symbols_at h ms numbers at) (λ ys r. and_then (statements_at h ms numbers r) (λ ss s. and_then (entries_at h ms numbers s) (λ es t. got (record { header = h; helpers = hs; modules = ms; symbols = ys; statements = ss; entries = es }) t))))
      ≡ onward (walk_of (symbols_at h ms numbers at)) (λ r. onward (walk_of (statements_at h ms numbers r)) (λ s. walk_of (entries_at h ms numbers s)))
  rest hs ms at =
      walk_then (symbols_at h ms numbers at) _ _
      (λ ys r e. walk_then (statements_at h ms numbers r) _ _ (λ ss s f. walk-map (entries_at h ms numbers s) (λ es. record { header = h; helpers = hs; modules = ms; symbols = ys; statements = ss; entries = es })))

  modules_same : (q p : ℕ) → q ≡ 7 + h.helpers → walk_of (modules_at h numbers q) ≡ Ok p → modules_at h numbers q ≡ got (modules_in numbers) p
  unfolding modules_in
  modules_same q p s g = modules_part q s ∙ read_as (modules_read numbers) (rw (modules_part q s) at g)

  pub graph_go : {q p : ℕ} → helped 7 ≡ Ok q → walk_of (modules_at h numbers q) ≡ Ok p → walk_of (graph_at h numbers 7) ≡ body_walk numbers p
  unfolding graph_at helpers_at columns_of body_walk tail_walk
  graph_go {q} {p} e f =
      let a = at_got _ q e in
      ap walk_of (then_at _ a.1 ∙ then_at _ (modules_same q p (helpers_end e) f)) ∙ rest a.0 (modules_in numbers) p ∙ rw is

pub cells_one : (r : Rule) (numbers : List ℕ) (at : ℕ) → walk_of (cells (r ∷ []) numbers at) ≡ walk_of (number r numbers at)
unfolding cells walk_of
cells_one r numbers at = cells_cons r [] numbers at ∙ onward_end _

-- nothing is asked of a walk that ended in a fault
pub once_fault : {why : Refusal} (X : Type 0) → OnceRead (Err why) X
once_fault X = record { known = λ q e. absurd (clash (sym e)) }

-- the parts that are read behind a part, and then all
pub once_more : {r : Result ℕ Refusal} {X Y Z : Type 0} → X → OnceRead r (Y × Z) → OnceRead r (X × Y × Z)
once_more x o = record { known = λ q e. let t = o.known q e in (x, t.0, t.1) }

pub once_places : {r : Result ℕ Refusal} {numbers tables : List ℕ} → ModuleTable numbers (module_places tables)
    → OnceRead r (SymbolTable numbers (symbol_places tables) × StatementTable numbers (first_statements tables) (statement_places tables) × EntryTable numbers (entry_places tables))
    → OnceRead r (Places numbers tables)
once_places m o = record { known = λ q e. let t = o.known q e in record { of_modules = m; of_symbols = t.0; of_statements = t.1; of_entries = t.2 } }

-- an accepted graph with its tables
pub loaded : (numbers tables : List ℕ) (h : Header) → answer_of (check_of numbers) ≡ Ok tt → HeaderRead numbers h → Laid h at_verdicts tables → Places numbers tables → Loaded numbers tables
loaded numbers tables h a r t p =
    let b = bounded numbers h r in
    let e = r.is in
    record {
      accepted = a;
      long = seven numbers (at_got _ r.end r.read).1;
      laid = rw e at t;
      of_modules = p.of_modules;
      of_symbols = p.of_symbols;
      of_statements = p.of_statements;
      of_entries = p.of_entries;
      few_modules = rw e at b.0;
      few_symbols = rw e at b.1;
      few_statements = rw e at b.2;
      few_entries = rw e at b.3;
    }
