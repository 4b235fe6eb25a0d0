-- The statements that declare a symbol, started one after another.
use Prim.Native.Nat.{ℕ, ◌+◌, ◌<◌, ◌≤◌}
use mathlib.Core.Path.{◌≡◌, refl, ap, ◌∙◌, sym}
use mathlib.Core.List.{List, [], ◌∷◌, ◌++◌, map}
use native.Mathlib.Numerals.{add-one}
use native.Mathlib.Omega.{arith}
use lib.ListN.{length, get_or, drop, drop_of_length-le}
use lib.Seq.{drop-cons}
use Rattle.determine_side_effects.specs.graph_crate.Check.{Graph}
use Rattle.determine_side_effects.specs.graph_access_crate.Names.{owner, declaring_statements, only}
use Rattle.determine_side_effects.specs.graph_access_crate.Words.{symbol_of, statement_list}
use Rattle.determine_side_effects.specs.index_crate.declared.ModuleIdx.{ModuleIdx}
use Rattle.determine_side_effects.specs.index_crate.declared.StmtIdx.{StmtIdx}
use Rattle.determine_side_effects.specs.facts_crate.declared.Fact.{Fact}
use Rattle.determine_side_effects.specs.facts_crate.declared.Fact.TheVariants.{Statement}
use Rattle.determine_side_effects.specs.facts_crate.Facts.{statement_fact, Good}
use Rattle.determine_side_effects.specs.Effects.{last_verdicts}
use Rattle.keep_record.specs.declared.Line.{Line}
use Rattle.keep_record.specs.Held.{lines_of}
use Rattle.worklist.specs.Drain.{drained_all}
use Rattle.entry_starts.specs.Starts.{declared}
use Rattle.entry_starts.specs.Working.{Working, Started}
use Rattle.entry_starts.proofs.Together.{Along, along_start, along_step, along_full, along_done, along_as}
use Rattle.std.specs.Prelude.{Ok}
use Rattle.keep_record.specs.Held.{no_room}

-- those from number i on
unfoldable pub declared_from : Graph → ℕ → ℕ → List Fact
declared_from g s i = map (λ row. statement_fact (owner (symbol_of g s)) (only row)) (drop i (declaring_statements (symbol_of g s)))

module _ (g : Graph) (s n : ℕ) (size : n ≡ length (declaring_statements (symbol_of g s))) where
  pub declared_whole : declared_from g s 0 ≡ declared g s
  unfolding declared_from declared
  declared_whole = refl

  pub declared_over : (i : ℕ) → n ≤ i → declared_from g s i ≡ []
  unfolding declared_from
  declared_over i h = let l : length (declaring_statements (symbol_of g s)) ≤ i = omega (arith, size) in rw (drop_of_length-le (declaring_statements (symbol_of g s)) l)

  module _ (i : ℕ) (h : i < n) (o : ModuleIdx) (x : StmtIdx) (e : o.0 ≡ owner (symbol_of g s)) (q : x.0 ≡ only (get_or (declaring_statements (symbol_of g s)) i [])) where
    -- as the code writes it
    pub declared-fact : Statement o x ≡ statement_fact (owner (symbol_of g s)) (only (get_or (declaring_statements (symbol_of g s)) i []))
    declared-fact = ap (λ m. statement_fact m x.0) e ∙ ap (λ y. statement_fact (owner (symbol_of g s)) y) q

    pub declared-next : declared_from g s i ≡ (Statement o x ∷ []) ++ declared_from g s (i + 1)
    unfolding declared_from
    declared-next =
        let l : i < length (declaring_statements (symbol_of g s)) = omega (arith, size) in
        rw (declared-fact, add-one i, drop-cons (declaring_statements (symbol_of g s)) i [] l)

    pub declared_good : o.0 < g.header.modules → x.0 < length (statement_list g (owner (symbol_of g s))) → Good g (Statement o x)
    declared_good a b = (a, rw e b)

  module _ (base : ℕ) (facts : List Fact) (before : List Line) (p m row : List ℕ) (c i : ℕ) (a : Along g base (drained_all g (last_verdicts g) base facts before) (declared_from g s i) p m row c) where
    pub declaring-step : i < n → (o : ModuleIdx) (x : StmtIdx) → o.0 ≡ owner (symbol_of g s) → x.0 ≡ only (get_or (declaring_statements (symbol_of g s)) i [])
        → (p' m' row' : List ℕ) (d : ℕ) → Started g base (Statement o x ∷ []) (lines_of c row) p' m' row' (Ok d)
        → Along g base (drained_all g (last_verdicts g) base facts before) (declared_from g s (i + 1)) p' m' row' d
    declaring-step h o x e q p' m' row' d t = along_step g base _ _ _ p m row c (along_as g base _ _ _ p m row c (declared-next i h o x e q) a) p' m' row' d t

    pub declaring-full : i < n → (o : ModuleIdx) (x : StmtIdx) → o.0 ≡ owner (symbol_of g s) → x.0 ≡ only (get_or (declaring_statements (symbol_of g s)) i [])
        → (p' m' row' : List ℕ) → Started g base (Statement o x ∷ []) (lines_of c row) p' m' row' no_room → Started g base facts before p' m' row' no_room
    declaring-full h o x e q p' m' row' t = along_full g base facts before _ _ p m row c (along_as g base _ _ _ p m row c (declared-next i h o x e q) a) p' m' row' t

    pub declaring-done : n ≤ i → Started g base facts before p m row (Ok c)
    declaring-done h = along_done g base facts before p m row c (along_as g base _ _ _ p m row c (declared_over i h) a)

  pub declaring_start : (base : ℕ) (p m row : List ℕ) (c : ℕ) → Working g base p m row c
      → Along g base (drained_all g (last_verdicts g) base (declared g s) (lines_of c row)) (declared_from g s 0) p m row c
  declaring_start base p m row c w = along_as g base _ _ _ p m row c (sym declared_whole) (along_start g base (declared g s) p m row c w)
