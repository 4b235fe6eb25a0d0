-- The answer of the check, by its parts.
-- Accepted numbers stand for `graph_in numbers` (`check-graph`).
use Prim.Native.Nat.{ℕ, ◌+◌, ◌<◌, ◌≤◌}
use mathlib.Core.Path.{◌≡◌, ap, ◌∙◌, sym}
use mathlib.Core.List.{List, [], ◌∷◌}
use native.Mathlib.Nat.{zero-add}
use native.Mathlib.Omega.{arith}
use borrow.Author.Tests.{lt-ltb, le-ltb}
use lib.ListN.{length, get_or, take}
use lib.Seq.{get_or-take}
use Rattle.graph_entries.specs.rows_crate.Walk.{Parsed, got, fault, cells, walk_of, Item}
use Rattle.graph_entries.proofs.rows_crate.Walks.{at_got, fault_is}
use Rattle.graph_entries.proofs.rows_crate.Cells.{Cells, cells_got, then_got}
use Rattle.graph_entries.proofs.rows_crate.Items.{got_same, rows_end, plain_plain}
use Rattle.graph_entries.specs.graph_format_crate.declared.Header.{Header}
use Rattle.graph_entries.specs.graph_format_crate.Format.{header_rules, header_of, modules_at, symbols_at, statements_at, entries_at}
use Rattle.graph_entries.specs.graph_tables_crate.Tables.{items_of, end_of, header_in, modules_read, modules_in, symbols_read, symbols_in, statements_read, statements_in, entries_read, entries_in}
use Rattle.graph_entries.proofs.Parts.{then_fault, then_at}
use Rattle.graph.specs.Check.{Graph, helpers_at, graph_at, walked, later_rules, check_of, answer_of, graph_in, HeaderRead, OnceAccepted}
use native.Mathlib.Nat.{one-mul}
use Rattle.std.specs.Prelude.{Result, Ok, Err}
use Rattle.graph_entries.specs.refusal_crate.declared.Refusal.{Refusal}
use Rattle.graph_entries.specs.refusal_crate.declared.Refusal.TheVariants.{WrongLength}

-- the header's numbers are the first seven
module _ (numbers : List ℕ) {head : List ℕ} {q : ℕ} (e : cells header_rules numbers 0 ≡ got head q) where
  read : Cells header_rules numbers 0 head q
  read = cells_got header_rules numbers 0 e

  pub seven : 7 ≤ length numbers
  unfolding header_rules
  seven = omega (arith, read.inside 6 (omega arith))

  pub ends_at_seven : q ≡ 7
  unfolding header_rules
  ends_at_seven = read.next

  first : (i : ℕ) → i < 7 → get_or head i 0 ≡ get_or (take 7 numbers) i 0
  unfolding header_rules
  first i l = read.same i l ∙ ap (λ j. get_or numbers j 0) (zero-add i) ∙ sym (get_or-take 7 numbers i 0 l)

  pub header_same : header_of head ≡ header_in numbers
  unfolding header_of header_in
  header_same = cc (first 0 (omega arith), first 1 (omega arith), first 2 (omega arith), first 3 (omega arith), first 4 (omega arith), first 5 (omega arith), first 6 (omega arith))

  pub few_modules : (header_in numbers).modules ≤ 1024
  unfolding header_rules header_in header_of
  few_modules = omega (arith, first 2 (omega arith), (read.good 2 (omega arith)).0)

  pub few_symbols : (header_in numbers).symbols ≤ 16384
  unfolding header_rules header_in header_of
  few_symbols = omega (arith, first 3 (omega arith), (read.good 3 (omega arith)).0)

  pub few_statements : (header_in numbers).statements ≤ 16384
  unfolding header_rules header_in header_of
  few_statements = omega (arith, first 4 (omega arith), (read.good 4 (omega arith)).0)

  pub few_entries : (header_in numbers).entries ≤ 1024
  unfolding header_rules header_in header_of
  few_entries = omega (arith, first 5 (omega arith), (read.good 5 (omega arith)).0)

  pub few_helpers : (header_in numbers).helpers ≤ 32
  unfolding header_rules header_in header_of
  few_helpers = omega (arith, first 6 (omega arith), (read.good 6 (omega arith)).0)

  pub walked_is : walked numbers ≡ graph_at (header_in numbers) numbers 7
  unfolding walked
  walked_is = then_at _ e ∙ rw (header_same, ends_at_seven)

pub check_stop_header : (numbers : List ℕ) {why : Refusal} → walk_of (cells header_rules numbers 0) ≡ Err why → answer_of (check_of numbers) ≡ Err why
unfolding answer_of check_of walked
check_stop_header numbers {why} e = ap answer_of (then_fault _ (then_fault _ (fault_is _ why e)))

-- the parts of a graph that was read are the parts of the graph that the numbers stand for
itself : {A : Type 0} (x : Parsed (List A)) {xs : List A} {q : ℕ} → x ≡ got xs q → (xs ≡ items_of x) × (q ≡ end_of x)
unfolding items_of end_of
itself x e = (rw e, rw e)

module _ (numbers : List ℕ) (hs : List (List ℕ)) (p : ℕ) (ms : List Item) (q₁ : ℕ) (ys : List Item) (q₂ : ℕ) (ss : List (List Item)) (q₃ : ℕ) (es : List Item) (q₄ : ℕ)
    (a : helpers_at (header_in numbers) numbers 7 ≡ got hs p) (z : p ≡ 7 + (header_in numbers).helpers) (b : modules_at (header_in numbers) numbers p ≡ got ms q₁)
    (c : symbols_at (header_in numbers) ms numbers q₁ ≡ got ys q₂) (d : statements_at (header_in numbers) ms numbers q₂ ≡ got ss q₃)
    (f : entries_at (header_in numbers) ms numbers q₃ ≡ got es q₄) where
  of_modules : (ms ≡ modules_in numbers) × (q₁ ≡ end_of (modules_read numbers))
  unfolding modules_in modules_read
  of_modules = itself _ (rw z at b)

  of_symbols : (ys ≡ symbols_in numbers) × (q₂ ≡ end_of (symbols_read numbers))
  unfolding symbols_in symbols_read
  of_symbols = itself _ (rw (of_modules.0, of_modules.1) at c)

  of_statements : (ss ≡ statements_in numbers) × (q₃ ≡ end_of (statements_read numbers))
  unfolding statements_in statements_read
  of_statements = itself _ (rw (of_modules.0, of_symbols.1) at d)

  of_entries : (es ≡ entries_in numbers) × (q₄ ≡ end_of (entries_read numbers))
  unfolding entries_in entries_read
  of_entries = itself _ (rw (of_modules.0, of_statements.1) at f)

  all_same : record { header = header_in numbers; helpers = hs; modules = ms; symbols = ys; statements = ss; entries = es } ≡ graph_in numbers
  unfolding graph_in
  all_same = cc ((itself _ a).0, of_modules.0, of_symbols.0, of_statements.0, of_entries.0)

pub graph_is : (numbers : List ℕ) {g : Graph} {q : ℕ} → graph_at (header_in numbers) numbers 7 ≡ got g q → g ≡ graph_in numbers
unfolding graph_at helpers_at
graph_is numbers {g} {q} e =
    let a = then_got (helpers_at (header_in numbers) numbers 7) _ e in
    let b = then_got (modules_at (header_in numbers) numbers a.1) _ a.3 in
    let c = then_got (symbols_at (header_in numbers) b.0 numbers b.1) _ b.3 in
    let d = then_got (statements_at (header_in numbers) b.0 numbers c.1) _ c.3 in
    let f = then_got (entries_at (header_in numbers) b.0 numbers d.1) _ d.3 in
    let r = rows_end ((header_in numbers).symbols ∷ []) numbers _ (plain_plain ((header_in numbers).symbols ∷ []) numbers) (header_in numbers).helpers [] 7 a.2 in
    sym (got_same f.3).0 ∙ all_same numbers a.0 a.1 b.0 b.1 c.0 c.1 d.0 d.1 f.0 f.1 a.2 (r ∙ ap (λ j. 7 + j) (one-mul (header_in numbers).helpers)) b.2 c.2 d.2 f.2

-- the check of numbers whose header is good
module _ (numbers : List ℕ) (h : Header) (good : HeaderRead numbers h) where
  header_got : (head : List ℕ) × (cells header_rules numbers 0 ≡ got head good.end)
  header_got = at_got _ good.end good.read

  whole : walked numbers ≡ graph_at h numbers 7
  whole = walked_is numbers header_got.1 ∙ ap (λ x. graph_at x numbers 7) (sym good.is)

  pub bounded : (h.modules ≤ 1024) × (h.symbols ≤ 16384) × (h.statements ≤ 16384) × (h.entries ≤ 1024)
  bounded = rw good.is (few_modules numbers header_got.1, few_symbols numbers header_got.1, few_statements numbers header_got.1, few_entries numbers header_got.1)

  pub check_stop_parts : {why : Refusal} → walk_of (graph_at h numbers 7) ≡ Err why → answer_of (check_of numbers) ≡ Err why
  unfolding answer_of check_of
  check_stop_parts {why} e = ap answer_of (then_fault _ (whole ∙ fault_is _ why e))

  module _ {q : ℕ} (e : walk_of (graph_at h numbers 7) ≡ Ok q) where
    the-graph : walked numbers ≡ got (graph_in numbers) q
    the-graph =
        let t = at_got _ q e in
        whole ∙ t.1 ∙ ap (λ g. got g q) (graph_is numbers (ap (λ x. graph_at x numbers 7) (sym good.is) ∙ t.1))

    pub check-stop-later : {why : Refusal} → walk_of (later_rules (graph_in numbers)) ≡ Err why → answer_of (check_of numbers) ≡ Err why
    unfolding answer_of check_of
    check-stop-later {why} f = ap answer_of (then_at _ the-graph ∙ then_fault _ (fault_is _ why f))

    module _ {o : ℕ} (f : walk_of (later_rules (graph_in numbers)) ≡ Ok o) where
      over-is : q < length numbers → check_of numbers ≡ fault (WrongLength q)
      unfolding check_of
      over-is l = then_at _ the-graph ∙ then_at _ (at_got _ o f).1 ∙ rw (lt-ltb q (length numbers) l)

      pub check-graph : length numbers ≤ q → check_of numbers ≡ got (graph_in numbers) q
      unfolding check_of
      check-graph l = then_at _ the-graph ∙ then_at _ (at_got _ o f).1 ∙ rw (le-ltb q (length numbers) l)

      pub check-over : q < length numbers → answer_of (check_of numbers) ≡ Err (WrongLength q)
      unfolding answer_of
      check-over l = ap answer_of (over-is l)

      pub check-good : length numbers ≤ q → answer_of (check_of numbers) ≡ Ok tt
      unfolding answer_of
      check-good l = ap answer_of (check-graph l)

-- nothing is asked of numbers that are refused
pub once_refused : {why : Refusal} (X : Type 0) → OnceAccepted (Err why) X
once_refused X = record { known = λ e. absurd (refused-not e) }
  where
    refused-not : {why : Refusal} → ◌≡◌ {A = Result Unit Refusal} (Err why) (Ok tt) → ⊥
    refused-not e = cc
