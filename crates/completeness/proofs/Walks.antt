-- Walks that stop at the first element that fails a test: what is left, from here, is the whole answer.
use Prim.Native.Nat.{ℕ, ◌+◌, ◌*◌, ◌/◌, ◌<◌, ◌≤◌}
use mathlib.Core.Path.{◌≡◌, refl, ap, ◌∙◌, sym}
use mathlib.Core.Bool.{Bool, true, false, and-true}
use mathlib.Core.List.{List, []}
use native.Mathlib.Numerals.{add-one}
use native.Mathlib.Omega.{arith}
use borrow.Author.Tests.{eq-eqb, ne_eqb}
use lib.Dec.{eqb}
use lib.Seq.{drop-cons}
use lib.ListN.{length, get_or, drop, drop_of_length-le}
use Rattle.determine_side_effects.specs.graph_tables_crate.Tables.{header_in}
use Rattle.determine_side_effects.specs.graph_crate.Check.{Graph, graph_in}
use Rattle.determine_side_effects.specs.graph_access_crate.Names.{owner, declaring_statements, only}
use Rattle.determine_side_effects.specs.graph_access_crate.Words.{symbol_of, statement_list, normal}
use Rattle.determine_side_effects.specs.Effects.{last_verdicts}
use Rattle.determine_side_effects.specs.index_crate.declared.ModuleIdx.{ModuleIdx}
use Rattle.determine_side_effects.specs.index_crate.declared.StmtIdx.{StmtIdx}
use Rattle.determine_side_effects.specs.index_crate.declared.SymbolIdx.{SymbolIdx}
use Rattle.determine_side_effects.specs.facts_crate.declared.Reason.{Reason}
use Rattle.determine_side_effects.specs.facts_crate.declared.Fact.{Fact}
use Rattle.determine_side_effects.specs.facts_crate.declared.Fact.TheVariants.{Module, Statement, Use, CheckedUse, Forward, Bailout}
use Rattle.determine_side_effects.specs.facts_crate.Facts.{fact_of, module_fact, statement_fact, Good}
use Rattle.keep_rules.specs.declared.Candidate.TheVariants.{Gives, Nothing}
use Rattle.keep_rules.specs.Rules.{segments_of, given_by, gives}
use Rattle.consequences.specs.Cursors.{segments_in, segment_in, left, Placed}
use Rattle.consequences.proofs.Walking.{left_found, left_skips, left_ended, left_none}
use Rattle.keep_record.specs.declared.Line.{Line}
use Rattle.keep_record.specs.Held.{line_at, lines_of}
use Rattle.keep_record.proofs.Rows.{tabulate-length, tabulate-at, lines_at}
use Rattle.starts.specs.Starts.{starts_of, StartsGood}
use Rattle.completeness.specs.Complete.{all, is_closed_at, are_declared, is_joined_at, is_closed_fact, are_closed}

-- over a list of n elements, from element k on
module _ {A : Type 0} (test : A → Bool) (xs : List A) (n : ℕ) (size : n ≡ length xs) (k : ℕ) (whole : Bool) (rest : all test (drop k xs) ≡ whole) where
  pub all_end : n ≤ k → true ≡ whole
  unfolding all
  all_end h = let l : length xs ≤ k = omega (arith, h, size) in rw (drop_of_length-le xs l, all) at rest

  module _ (h : k < n) (d : A) (t : Bool) (is : t ≡ test (get_or xs k d)) where
    inside : k < length xs
    inside = omega (arith, h, size)

    pub all_stop : t ≡ false → false ≡ whole
    unfolding all
    all_stop e = rw (drop-cons xs k d inside, sym is ∙ e, all) at rest

    pub all-next : t ≡ true → all test (drop (k + 1) xs) ≡ whole
    unfolding all
    all-next e = ap (λ j. all test (drop j xs)) (add-one k) ∙ (rw (drop-cons xs k d inside, sym is ∙ e, all) at rest)

-- the starts
module _ (starts : List ℕ) where
  pub starts-length : length (starts_of starts) ≡ length starts / 3
  unfolding starts_of
  starts-length = tabulate-length _ 0 (length starts / 3)

  pub starts_at : (i : ℕ) → i < length starts / 3 → get_or (starts_of starts) i (module_fact 0) ≡ fact_of (get_or starts (3 * i) 0) (get_or starts (3 * i + 1) 0) (get_or starts (3 * i + 2) 0)
  unfolding starts_of
  starts_at i h =
      let z : 0 + i ≡ i = omega arith in
      tabulate-at (λ j. fact_of (get_or starts (3 * j) 0) (get_or starts (3 * j + 1) 0) (get_or starts (3 * j + 2) 0)) 0 (length starts / 3) i (module_fact 0) h
      ∙ ap (λ j. fact_of (get_or starts (3 * j) 0) (get_or starts (3 * j + 1) 0) (get_or starts (3 * j + 2) 0)) z

  module _ (i : ℕ) (h : i < length starts / 3) (f : Fact) (is : f ≡ fact_of (get_or starts (3 * i) 0) (get_or starts (3 * i + 1) 0) (get_or starts (3 * i + 2) 0)) where
    pub start_is : f ≡ get_or (starts_of starts) i (module_fact 0)
    start_is = is ∙ sym (starts_at i h)

    pub start_good : (g : Graph) → StartsGood g (starts_of starts) → Good g f
    start_good g s = rw start_is (s i (omega (arith, h, starts-length)))

-- the consequences of a fact
pub placed_first : (numbers : List ℕ) (f : Fact) → Placed numbers f 0 0
placed_first numbers f = record { known = λ m i k e z. absurd (omega (arith, z)) }

pub closed_start : (numbers : List ℕ) (kept : Fact → Bool) (f : Fact) → all (λ x. kept x.fact) (left numbers f 0 0) ≡ is_closed_at (graph_in numbers) (last_verdicts (graph_in numbers)) kept f
unfolding is_closed_at gives left segments_in
closed_start numbers kept f = refl

module _ (numbers : List ℕ) (kept : Fact → Bool) (f : Fact) (j c : ℕ) (whole : Bool) (rest : all (λ x. kept x.fact) (left numbers f j c) ≡ whole) (n : ℕ) (size : n ≡ length (segments_in numbers f)) where
  pub segments_done : n ≤ j → true ≡ whole
  unfolding all
  segments_done h = let past : length (segments_in numbers f) ≤ j = omega (arith, size, h) in rw (left_none numbers f j c past, all) at rest

  module _ (inside : j < n) (m : ℕ) (many : m ≡ (segment_in numbers f j).count) where
    in-segments : j < length (segments_in numbers f)
    in-segments = omega (arith, size, inside)

    pub segment_done : m ≤ c → all (λ x. kept x.fact) (left numbers f (j + 1) 0) ≡ whole
    segment_done b = rw (left_ended numbers f j c in-segments (omega (arith, b, many))) at rest

    module _ (b : c < m) where
      pub segment-skips : Nothing ≡ (segment_in numbers f j).candidate c → all (λ x. kept x.fact) (left numbers f j (c + 1)) ≡ whole
      segment-skips q = rw (left_skips numbers f j c in-segments (omega (arith, b, many)) q) at rest

      module _ (e : Fact) (q : Gives e ≡ (segment_in numbers f j).candidate c) (t : Bool) (k : t ≡ kept e) where
        pub segment-stop : t ≡ false → false ≡ whole
        unfolding all
        segment-stop z = rw (left_found numbers f j c e in-segments (omega (arith, b, many)) q, sym k ∙ z, all) at rest

        pub segment-next : t ≡ true → all (λ x. kept x.fact) (left numbers f j (c + 1)) ≡ whole
        unfolding all
        segment-next z = rw (left_found numbers f j c e in-segments (omega (arith, b, many)) q, sym k ∙ z, all) at rest

-- the statements that declare a symbol
unfoldable pub statement_kept : Graph → (Fact → Bool) → ℕ → List ℕ → Bool
statement_kept g kept s row = kept (statement_fact (owner (symbol_of g s)) (only row))

module _ (g : Graph) (kept : Fact → Bool) (s : ℕ) (o : ModuleIdx) (is : o.0 ≡ owner (symbol_of g s)) where
  pub declaring_kept : (i : ℕ) (x : StmtIdx) → x.0 ≡ only (get_or (declaring_statements (symbol_of g s)) i []) → (t : Bool) → t ≡ kept (Statement o x)
      → t ≡ statement_kept g kept s (get_or (declaring_statements (symbol_of g s)) i [])
  unfolding statement_kept
  declaring_kept i x e t k = k ∙ ap (λ m. kept (statement_fact m x.0)) is ∙ ap (λ y. kept (statement_fact (owner (symbol_of g s)) y)) e

  pub declaring_good : o.0 < g.header.modules → (x : StmtIdx) → x.0 < length (statement_list g (owner (symbol_of g s))) → Good g (Statement o x)
  declaring_good l x h = (l, rw is h)

  module _ (t : Bool) (n : t ≡ normal g o.0) where
    pub owner-external : t ≡ false → true ≡ are_declared g kept s
    unfolding are_declared
    owner-external z = rw (ap (normal g) (sym is) ∙ sym n ∙ z, are_declared)

    module _ (y : t ≡ true) (u : Bool) (k : u ≡ kept (Module o)) where
      pub owner-absent : u ≡ false → true ≡ are_declared g kept s
      unfolding are_declared
      owner-absent z = rw (ap (normal g) (sym is) ∙ sym n ∙ y, ap (λ m. kept (module_fact m)) (sym is) ∙ sym k ∙ z, are_declared)

      pub owner-kept : u ≡ true → all (statement_kept g kept s) (declaring_statements (symbol_of g s)) ≡ are_declared g kept s
      unfolding are_declared statement_kept
      owner-kept z = rw (ap (normal g) (sym is) ∙ sym n ∙ y, ap (λ m. kept (module_fact m)) (sym is) ∙ sym k ∙ z, are_declared)

-- a fact, by its kind
pub forward_symbol : (numbers : List ℕ) (f : Fact) → Good (graph_in numbers) f → (s : SymbolIdx) → f ≡ Forward s → s.0 < (header_in numbers).symbols
unfolding graph_in
forward_symbol numbers f h s is = rw is at h

module _ (g : Graph) (v : List ℕ) (kept : Fact → Bool) (f : Fact) (r : Bool) where
  pub forward_closed : (s : SymbolIdx) → f ≡ Forward s → r ≡ are_declared g kept s.0 → r ≡ is_closed_fact g v kept f
  unfolding is_closed_fact is_closed_at gives segments_of given_by all
  forward_closed s is e = rw is (e ∙ sym (and-true (are_declared g kept s.0)))

  pub bailout_closed : (m : ModuleIdx) → f ≡ Bailout m → true ≡ is_closed_fact g v kept f
  unfolding is_closed_fact is_closed_at gives segments_of given_by all
  bailout_closed m is = rw is

  module _ (e : r ≡ is_closed_at g v kept f) where
    alone-closed : is_joined_at g kept f ≡ true → r ≡ is_closed_fact g v kept f
    unfolding is_closed_fact
    alone-closed j = rw j e

    pub module-closed : (m : ModuleIdx) → f ≡ Module m → r ≡ is_closed_fact g v kept f
    module-closed m is = alone-closed (ap (λ x. is_joined_at g kept x) is)

    pub statement-closed : (m : ModuleIdx) (i : StmtIdx) → f ≡ Statement m i → r ≡ is_closed_fact g v kept f
    statement-closed m i is = alone-closed (ap (λ x. is_joined_at g kept x) is)

    pub use-closed : (s : SymbolIdx) (x : Reason) → f ≡ Use s x → r ≡ is_closed_fact g v kept f
    use-closed s x is = alone-closed (ap (λ x. is_joined_at g kept x) is)

    pub checked-closed : (s : SymbolIdx) (x : Reason) → f ≡ CheckedUse s x → r ≡ is_closed_fact g v kept f
    checked-closed s x is = alone-closed (ap (λ x. is_joined_at g kept x) is)

-- the lines
unfoldable pub fact_closed : Graph → List ℕ → (Fact → Bool) → Line → Bool
fact_closed g v kept l = is_closed_fact g v kept l.fact

module _ (g : Graph) (v : List ℕ) (kept : Fact → Bool) (row : List ℕ) (n : ℕ) where
  pub lines_start : all (fact_closed g v kept) (lines_of n row) ≡ are_closed g v kept (lines_of n row)
  unfolding are_closed fact_closed
  lines_start = refl

  pub line_closed : (k : ℕ) → k < n → (f : Fact) → f ≡ (line_at row k).fact → (t : Bool) → t ≡ is_closed_fact g v kept f → t ≡ fact_closed g v kept (get_or (lines_of n row) k (line_at row 0))
  unfolding fact_closed
  line_closed k h f is t e = e ∙ ap (λ x. is_closed_fact g v kept x) is ∙ ap (λ l. is_closed_fact g v kept l.fact) (sym (lines_at n row k (line_at row 0) h))

pub line_good : (g : Graph) (row : List ℕ) (n : ℕ) → ((k : ℕ) → k < n → Good g (line_at row k).fact) → (k : ℕ) → k < n → (f : Fact) → f ≡ (line_at row k).fact → Good g f
line_good g row n good k h f is = rw is (good k h)

-- the number of the first open line, beside the number of lines
pub open_at : (k n : ℕ) (whole : Bool) → k < n → false ≡ whole → eqb k n ≡ whole
open_at k n whole h e = ne_eqb k n (λ q. absurd (omega (arith, h, q))) ∙ e

pub none_open : (k n : ℕ) (whole : Bool) → k ≤ n → n ≤ k → true ≡ whole → eqb k n ≡ whole
none_open k n whole h l e = eq-eqb k n (omega (arith, h, l)) ∙ e
