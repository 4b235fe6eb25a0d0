-- The modules' verdicts on side effects, as 002 (determine_side_effects.rs) settles them.
use Rattle.std.specs.Prelude.{ℕ, zero, suc, ◌-◌, Bool, true, false, ◌&&◌, ◌||◌, not, List, eqb, get_or, take, set}
use Rattle.facts.specs.graph_crate.Check.{Graph}
use Rattle.facts.specs.graph_access_crate.Names.{effects, flags, wrap, scan_effects, scan_statement_count, import_records, import_record_target, import_record_kind, import_record_bits, statement_bits}
use Rattle.facts.specs.graph_access_crate.Words.{flag, tabulate, some, module_of, statement_list, normal}

-- verdicts 1 Analyzed(true), 3 UserDefined(true) and 4 NoTreeshake are effects
unfoldable pub effectful : ℕ → Bool
effectful v = eqb v 1 || (eqb v 3 || eqb v 4)

-- an import record that re-exports all of a normal module that is wrapped or has dynamic exports (002:42-51)
unfoldable pub seeds : Graph → List ℕ → Bool
seeds g row =
    elim (eqb (import_record_target row) 0) [
      | true ↦ false
      | false ↦ eqb (import_record_kind row) 0 && (flag 0 (import_record_bits row) && (normal g (import_record_target row - 1)
          && (not (eqb (wrap (module_of g (import_record_target row - 1))) 0) || flag 3 (flags (module_of g (import_record_target row - 1))))))
    ]

-- an import record that is resolved to a module with effects
unfoldable pub reaches : List ℕ → List ℕ → Bool
reaches v row = elim (eqb (import_record_target row) 0) [ true ↦ false | false ↦ effectful (get_or v (import_record_target row - 1) 0) ]

-- module m is normal and Analyzed(false), and one of its import records seeds it or reaches effects
unfoldable pub moves : Graph → List ℕ → ℕ → Bool
moves g v m = normal g m && (eqb (get_or v m 0) 0 && some (λ row. seeds g row || reaches v row) (import_records (module_of g m)))

-- module m once: it becomes Analyzed(true) where it moves
unfoldable pub moved : Graph → List ℕ → ℕ → List ℕ
moved g v m = elim (moves g v m) [ true ↦ set v m 1 | false ↦ v ]

-- the first k modules once each, the last of them first
unfoldable pub pass : Graph → ℕ → List ℕ → List ℕ
pass g zero v = v
pass g (suc k) v = pass g k (moved g v k)

-- n passes over all modules
unfoldable pub passes : Graph → ℕ → List ℕ → List ℕ
passes g zero v = v
passes g (suc n) v = passes g n (pass g g.header.modules v)

-- As many passes as there are modules: nothing moves in a further one (`settled_still` in Settled.antt).
unfoldable pub settle : Graph → List ℕ → List ℕ
settle g v = passes g g.header.modules v

-- some module was relaxed, an external one too (002:90)
unfoldable pub relaxed : Graph → Bool
relaxed g = some (λ x. flag 5 (flags x)) g.modules

-- the verdict of a relaxed Analyzed(true) module: whether one of its scan-time statements has UnknownSideEffect (002:99-103)
unfoldable pub rescanned : Graph → ℕ → ℕ
rescanned g m = elim (some (λ x. flag 1 (statement_bits x)) (take (scan_statement_count (module_of g m)) (statement_list g m))) [ true ↦ 1 | false ↦ 0 ]

-- a module's verdict after the recomputation: a normal module's is the one at scan time, or recomputed (002:93-107)
unfoldable pub recomputed : Graph → ℕ → ℕ
recomputed g m =
    elim (normal g m) [
      | true ↦ elim (eqb (scan_effects (module_of g m)) 1 && flag 5 (flags (module_of g m))) [ true ↦ rescanned g m | false ↦ scan_effects (module_of g m) ]
      | false ↦ effects (module_of g m)
    ]

-- The verdicts before the last settling. 002 settles before the recomputation too; that leaves external modules as they are, and the
-- recomputation gives every normal module another verdict, so nothing of it remains (`recomputed_anyway` in ByPaths.antt).
unfoldable pub first_verdict : Graph → ℕ → ℕ
first_verdict g m = elim (relaxed g) [ true ↦ recomputed g m | false ↦ effects (module_of g m) ]

-- of all modules
unfoldable pub first_verdicts : Graph → List ℕ
first_verdicts g = tabulate (first_verdict g) 0 g.header.modules

-- the last verdicts
unfoldable pub last_verdicts : Graph → List ℕ
last_verdicts g = settle g (first_verdicts g)

-- module m has effects by these verdicts
unfoldable pub has_effects : List ℕ → ℕ → Bool
has_effects v m = effectful (get_or v m 0)
