-- K1 at a line, by the kind of its fact.
use Prim.Native.Nat.{ℕ, ◌+◌, ◌<◌, ◌≤◌}
use mathlib.Core.Path.{◌≡◌, refl, ap, ◌∙◌, sym}
use mathlib.Core.Bool.{Bool, true, false}
use mathlib.Core.List.{List, [], ◌∷◌}
use native.Mathlib.Decide.{dec_lt}
use native.Mathlib.Omega.{arith}
use borrow.Author.Tests.{ne_eqb, le-leb, lt-leb}
use lib.ListN.{length, get_or, take, drop, length-take}
use Rattle.determine_side_effects.specs.graph_tables_crate.Tables.{header_in}
use Rattle.determine_side_effects.specs.graph_crate.Check.{Graph, graph_in}
use Rattle.determine_side_effects.specs.graph_access_crate.Names.{owner}
use Rattle.determine_side_effects.specs.index_crate.declared.ModuleIdx.{ModuleIdx}
use Rattle.determine_side_effects.specs.index_crate.declared.SymbolIdx.{SymbolIdx}
use Rattle.determine_side_effects.specs.index_crate.declared.StmtIdx.{StmtIdx}
use Rattle.determine_side_effects.specs.facts_crate.declared.Reason.{Reason}
use Rattle.determine_side_effects.specs.facts_crate.declared.Fact.{Fact}
use Rattle.determine_side_effects.specs.facts_crate.declared.Fact.TheVariants.{Module, Statement, Use, CheckedUse, Forward, Bailout}
use Rattle.determine_side_effects.specs.facts_crate.Facts.{Good}
use Rattle.determine_side_effects.specs.graph_access_crate.Words.{symbol_of}
use Rattle.keep_record.specs.declared.Line.{Line}
use Rattle.keep_record.specs.Lines.{adds}
use Rattle.keep_record.specs.Held.{lines_of, Held, Grown}
use Rattle.keep_record.proofs.Rows.{lines-length}
use Rattle.worklist.specs.Drain.{joined, joins_all, is_module, module_line, name_of, joined_to, joins}
use Rattle.worklist.specs.Links.{Linked}
use Rattle.include_statements.proofs.Going.{grown_as}
use Rattle.std.specs.Prelude.{Result, Ok}
use Rattle.keep_record.specs.declared.Full.{Full}

-- the indexes of a good fact
pub good_module : (numbers : List ℕ) (f : Fact) → Good (graph_in numbers) f → (m : ModuleIdx) → f ≡ Module m → m.0 < (header_in numbers).modules
unfolding graph_in
good_module numbers f g m e = (rw e at g).0

pub good_forward : (numbers : List ℕ) (f : Fact) → Good (graph_in numbers) f → (s : SymbolIdx) → f ≡ Forward s → s.0 < (header_in numbers).symbols
unfolding graph_in
good_forward numbers f g s e = rw e at g

-- a module's line is one of the lines
pub module_line_low : (m i : ℕ) (ls : List Line) → module_line m i ls ≤ i + length ls
unfolding module_line
module_line_low m i [] = omega arith
module_line_low m i (l ∷ ls) = go (is_module m l) refl (module_line_low m (i + 1) ls)
  where
    go : (b : Bool) → is_module m l ≡ b → module_line m (i + 1) ls ≤ i + 1 + length ls → module_line m i (l ∷ ls) ≤ i + length (l ∷ ls)
    go true e r = rw (e, module_line) (omega arith)
    go false e r = rw (e, module_line) (omega (arith, r))

-- a line's name: its own, or 0 for one of an earlier stage
module _ (base n : ℕ) where
  pub name_old : n ≤ base → name_of base n ≡ 0
  unfolding name_of
  name_old h = rw (le-leb n base h, name_of)

  pub name_own : base < n → name_of base n ≡ n
  unfolding name_of
  name_own h = rw (lt-leb n base h, name_of)

  pub name_low : name_of base n ≤ n
  name_low = go (dec_lt base n)
    where
      go : Dec (base < n) → name_of base n ≤ n
      go (yes h) = omega (arith, name_own h)
      go (no h) = omega (arith, name_old (omega arith))

module _ (g : Graph) (base k : ℕ) (f : Fact) (marks row : List ℕ) (count : ℕ) where
  pub join_module : (m : ModuleIdx) → f ≡ Module m → (marks' row' : List ℕ) (r : Result ℕ Full) → Grown g base (adds g base (lines_of count row) (joins_all g m.0 k base (drop base (take k (lines_of count row))))) marks' row' r
      → Grown g base (adds g base (lines_of count row) (joins g base (lines_of count row) k f)) marks' row' r
  unfolding joins
  join_module m e marks' row' r w = rw e w

  join_none : joins g base (lines_of count row) k f ≡ [] → Held g base marks row count → Grown g base (adds g base (lines_of count row) (joins g base (lines_of count row) k f)) marks row (Ok count)
  unfolding adds
  join_none e h = rw e (grown_as g base (lines_of count row) marks row count refl h)

  pub join_statement : (m : ModuleIdx) (i : StmtIdx) → f ≡ Statement m i → Held g base marks row count → Grown g base (adds g base (lines_of count row) (joins g base (lines_of count row) k f)) marks row (Ok count)
  unfolding joins
  join_statement m i e = join_none (ap (joins g base (lines_of count row) k) e)

  pub join_use : (s : SymbolIdx) (x : Reason) → f ≡ Use s x → Held g base marks row count → Grown g base (adds g base (lines_of count row) (joins g base (lines_of count row) k f)) marks row (Ok count)
  unfolding joins
  join_use s x e = join_none (ap (joins g base (lines_of count row) k) e)

  pub join_checked : (s : SymbolIdx) (x : Reason) → f ≡ CheckedUse s x → Held g base marks row count → Grown g base (adds g base (lines_of count row) (joins g base (lines_of count row) k f)) marks row (Ok count)
  unfolding joins
  join_checked s x e = join_none (ap (joins g base (lines_of count row) k) e)

  pub join_bailout : (m : ModuleIdx) → f ≡ Bailout m → Held g base marks row count → Grown g base (adds g base (lines_of count row) (joins g base (lines_of count row) k f)) marks row (Ok count)
  unfolding joins
  join_bailout m e = join_none (ap (joins g base (lines_of count row) k) e)

  -- the owner's line, by the table
  module _ (links : List ℕ) (t : Linked g base links (take k (lines_of count row))) (s : SymbolIdx) (e : f ≡ Forward s) (o : ModuleIdx) (is : o.0 ≡ owner (symbol_of g s.0)) (in-range : o.0 < g.header.modules) where
    found : get_or links o.0 0 ≡ module_line (owner (symbol_of g s.0)) 0 (take k (lines_of count row))
    found = t.module_lines o.0 in-range ∙ ap (λ m. module_line m 0 (take k (lines_of count row))) is

    pub line_low : k < count → get_or links o.0 0 ≤ count
    line_low l =
        omega (arith, found, module_line_low (owner (symbol_of g s.0)) 0 (take k (lines_of count row)), length-take k (lines_of count row), lines-length count row)

    pub join-alone : get_or links o.0 0 ≡ 0 → Held g base marks row count → Grown g base (adds g base (lines_of count row) (joins g base (lines_of count row) k f)) marks row (Ok count)
    unfolding joins joined_to
    join-alone z h =
        let n : module_line (owner (symbol_of g s.0)) 0 (take k (lines_of count row)) ≡ 0 = sym found ∙ z in
        join_none (ap (joins g base (lines_of count row) k) e ∙ ap (joined_to g base s.0 k) n) h

    pub join-forward : (get_or links o.0 0 ≡ 0 → ⊥) → (name : ℕ) → name ≡ name_of base (get_or links o.0 0) → (marks' row' : List ℕ) (r : Result ℕ Full) → Grown g base (adds g base (lines_of count row) (joined g s.0 (k + 1) name)) marks' row' r
        → Grown g base (adds g base (lines_of count row) (joins g base (lines_of count row) k f)) marks' row' r
    unfolding joins joined_to
    join-forward z name q marks' row' r w =
        let n = get_or links o.0 0 in
        let one : joined_to g base s.0 k n ≡ joined g s.0 (k + 1) (name_of base n) = rw (ne_eqb n 0 z, joined_to) in
        let all : joins g base (lines_of count row) k f ≡ joined g s.0 (k + 1) name =
        ap (joins g base (lines_of count row) k) e ∙ ap (joined_to g base s.0 k) (sym found) ∙ one ∙ ap (joined g s.0 (k + 1)) (sym q) in
        rw all w

-- the table has a place for each module
pub owner_linked : (numbers : List ℕ) (base : ℕ) (links : List ℕ) (lines : List Line) → Linked (graph_in numbers) base links lines → (o : ℕ) → o < (header_in numbers).modules → o < length links
unfolding graph_in
owner_linked numbers base links lines t o h = omega (arith, t.long, h)
