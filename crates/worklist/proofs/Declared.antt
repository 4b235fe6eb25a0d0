-- K1's statements, one after another.
use Prim.Native.Nat.{ℕ, ◌+◌, ◌-◌, ◌<◌, ◌≤◌}
use mathlib.Core.Path.{◌≡◌, ap, ◌∙◌, sym}
use mathlib.Core.List.{List, [], ◌∷◌}
use native.Mathlib.Omega.{arith}
use lib.ListN.{length, get_or}
use Rattle.determine_side_effects.specs.graph_tables_crate.Tables.{header_in}
use Rattle.determine_side_effects.specs.graph_crate.Check.{Graph, graph_in}
use Rattle.determine_side_effects.specs.graph_access_crate.Names.{owner, declaring_statements, only}
use Rattle.determine_side_effects.specs.index_crate.declared.ModuleIdx.{ModuleIdx}
use Rattle.determine_side_effects.specs.index_crate.declared.StmtIdx.{StmtIdx}
use Rattle.determine_side_effects.specs.facts_crate.declared.Fact.TheVariants.{Statement}
use Rattle.determine_side_effects.specs.facts_crate.Facts.{statement_fact}
use Rattle.determine_side_effects.specs.graph_access_crate.Words.{tabulate, symbol_of, statement_list}
use Rattle.determine_side_effects.proofs.facts_crate.Folds.{tabulate_next, tabulate-none}
use Rattle.keep_record.specs.declared.Line.{Line}
use Rattle.keep_record.specs.Lines.{added, adds}
use Rattle.keep_record.specs.Held.{lines_of, Held, Grown, Writable}
use Rattle.worklist.specs.Drain.{line, joined}
use Rattle.include_statements.proofs.Going.{Going, go_start, go_step, go_full, go_done}
use Rattle.std.specs.Prelude.{Ok}
use Rattle.keep_record.specs.Held.{no_room}

-- statement i of those that declare symbol s, and those from i on
unfoldable pub joined_at : Graph → ℕ → ℕ → ℕ → ℕ → Line
joined_at g s a b i = line (statement_fact (owner (symbol_of g s)) (only (get_or (declaring_statements (symbol_of g s)) i []))) 1 a b

unfoldable pub joined_from : Graph → ℕ → ℕ → ℕ → ℕ → ℕ → List Line
joined_from g s a b n i = tabulate (joined_at g s a b) i (n - i)

module _ (numbers : List ℕ) (s a b n : ℕ) (size : n ≡ length (declaring_statements (symbol_of (graph_in numbers) s))) where
  pub joined_whole : joined_from (graph_in numbers) s a b n 0 ≡ joined (graph_in numbers) s a b
  unfolding joined joined_from joined_at
  joined_whole = let z : n - 0 ≡ length (declaring_statements (symbol_of (graph_in numbers) s)) = omega (arith, size) in rw z

  pub joined_none : (i : ℕ) → n ≤ i → joined_from (graph_in numbers) s a b n i ≡ []
  unfolding joined_from
  joined_none i h = tabulate-none _ n i h

  module _ (i : ℕ) (h : i < n) (o : ModuleIdx) (x : StmtIdx) (e : o.0 ≡ owner (symbol_of (graph_in numbers) s)) (q : x.0 ≡ only (get_or (declaring_statements (symbol_of (graph_in numbers) s)) i [])) where
    -- as the code writes it
    pub joined_line : ◌≡◌ {A = Line} (record { fact = Statement o x; rule = 1; because = a; and = b }) (joined_at (graph_in numbers) s a b i)
    unfolding joined_at
    joined_line = ap (λ m. line (statement_fact m x.0) 1 a b) e ∙ ap (λ y. line (statement_fact (owner (symbol_of (graph_in numbers) s)) y) 1 a b) q

    pub joined-next : joined_from (graph_in numbers) s a b n i ≡ record { fact = Statement o x; rule = 1; because = a; and = b } ∷ joined_from (graph_in numbers) s a b n (i + 1)
    unfolding joined_from
    joined-next = tabulate_next (joined_at (graph_in numbers) s a b) n i h ∙ ap (λ l. l ∷ joined_from (graph_in numbers) s a b n (i + 1)) (sym joined_line)

    pub joined-writable : o.0 < (header_in numbers).modules → x.0 < length (statement_list (graph_in numbers) (owner (symbol_of (graph_in numbers) s))) → (c : ℕ) → a ≤ c → b ≤ c
        → Writable (graph_in numbers) c (record { fact = Statement o x; rule = 1; because = a; and = b })
    unfolding graph_in
    joined-writable m l c p r = record { good_fact = (m, rw e l); rule_small = omega arith; because_earlier = p; and_earlier = r }

  module _ (base : ℕ) (out : List Line) (count : ℕ) (marks row : List ℕ) (c i : ℕ) (go : Going (graph_in numbers) base out (joined_from (graph_in numbers) s a b n i) count marks row c) where
    pub declare-step : i < n → (o : ModuleIdx) (x : StmtIdx) → o.0 ≡ owner (symbol_of (graph_in numbers) s) → x.0 ≡ only (get_or (declaring_statements (symbol_of (graph_in numbers) s)) i [])
        → (marks' row' : List ℕ) (d : ℕ) → Grown (graph_in numbers) base (added (graph_in numbers) base (lines_of c row) (record { fact = Statement o x; rule = 1; because = a; and = b })) marks' row' (Ok d)
        → Going (graph_in numbers) base out (joined_from (graph_in numbers) s a b n (i + 1)) count marks' row' d
    declare-step h o x e q marks' row' d w = go_step _ base out count marks row c _ _ (rw (joined-next i h o x e q) at go) marks' row' d w

    pub declare-full : i < n → (o : ModuleIdx) (x : StmtIdx) → o.0 ≡ owner (symbol_of (graph_in numbers) s) → x.0 ≡ only (get_or (declaring_statements (symbol_of (graph_in numbers) s)) i [])
        → (marks' row' : List ℕ) → Grown (graph_in numbers) base (added (graph_in numbers) base (lines_of c row) (record { fact = Statement o x; rule = 1; because = a; and = b })) marks' row' no_room
        → Grown (graph_in numbers) base out marks' row' no_room
    declare-full h o x e q marks' row' w = go_full _ base out count marks row c _ _ (rw (joined-next i h o x e q) at go) marks' row' w

    pub declare-done : n ≤ i → Grown (graph_in numbers) base out marks row (Ok c)
    declare-done h = go_done _ base out count marks row c (rw (joined_none i h) at go)

  pub declare_start : (base : ℕ) (marks row : List ℕ) (c : ℕ) → Held (graph_in numbers) base marks row c
      → Going (graph_in numbers) base (adds (graph_in numbers) base (lines_of c row) (joined (graph_in numbers) s a b)) (joined_from (graph_in numbers) s a b n 0) c marks row c
  declare_start base marks row c h = rw joined_whole (go_start _ base _ marks row c h)
