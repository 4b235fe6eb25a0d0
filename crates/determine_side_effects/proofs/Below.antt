-- Every verdict is below 5.
use Prim.Native.Nat.{ℕ, zero, suc, ◌<◌}
use mathlib.Core.Path.{◌≡◌, refl, ap}
use mathlib.Core.Bool.{Bool, true, false, ◌&&◌}
use mathlib.Core.List.{List}
use native.Mathlib.Decide.{ℕ_discrete, dec_lt}
use native.Mathlib.Nat.{zero-add}
use native.Mathlib.Omega.{arith}
use lib.Dec.{eqb}
use lib.Seq.{get_or-set_same, get_or-set_other, set_out}
use lib.ListN.{length, get_or, take, set, get_or-eq_default}
use Rattle.facts.specs.graph_format_crate.Format.{module_rules}
use Rattle.facts.specs.graph_tables_crate.Tables.{header_in}
use Rattle.facts.proofs.graph_tables_crate.Facts.{its-read}
use Rattle.facts.specs.graph_crate.Check.{Graph, graph_in}
use Rattle.facts.specs.graph_crate.Loaded.{Loaded}
use Rattle.facts.specs.graph_access_crate.Names.{effects, flags, scan_effects, scan_statement_count, statement_bits}
use Rattle.facts.specs.graph_access_crate.Words.{flag, some, module_of, normal, statement_list}
use Rattle.determine_side_effects.specs.Effects.{moves, moved, pass, passes, settle, rescanned, recomputed, relaxed, first_verdict, first_verdicts, last_verdicts}
use Rattle.determine_side_effects.proofs.Lists.{length-tabulate, get_d_tabulate}
use Rattle.determine_side_effects.proofs.Settled.{moved_true, moved_false}

abbrev Below : List ℕ → Type 0
Below v = (i : ℕ) → get_or v i 0 < 5

set_below : (v : List ℕ) (m : ℕ) → Below v → Below (set v m 1)
set_below v m b i = go (ℕ_discrete i m) (dec_lt m (length v))
  where
    go : Dec (i ≡ m) → Dec (m < length v) → get_or (set v m 1) i 0 < 5
    go (no n) l = omega (arith, get_or-set_other v m i 1 0 n, b i)
    go (yes e) (yes l) = rw e (omega (arith, get_or-set_same v m 1 0 l))
    go (yes e) (no l) = rw (set_out v m 1 (omega (arith, l))) (b i)

-- settling
module _ (g : Graph) where
  moved_below : (v : List ℕ) (m : ℕ) → Below v → Below (moved g v m)
  moved_below v m b i = go (moves g v m) refl
    where
      go : (t : Bool) → moves g v m ≡ t → get_or (moved g v m) i 0 < 5
      go true e = rw (moved_true g v m e) (set_below v m b i)
      go false e = rw (moved_false g v m e) (b i)

  pass_below : (k : ℕ) (v : List ℕ) → Below v → Below (pass g k v)
  unfolding pass
  pass_below zero v b = b
  pass_below (suc k) v b = pass_below k (moved g v k) (moved_below v k b)

  passes_below : (n : ℕ) (v : List ℕ) → Below v → Below (passes g n v)
  unfolding passes
  passes_below zero v b = b
  passes_below (suc n) v b = passes_below n (pass g g.header.modules v) (pass_below g.header.modules v b)

  rescanned_below : (m : ℕ) → rescanned g m < 5
  unfolding rescanned
  rescanned_below m = go (some (λ x. flag 1 (statement_bits x)) (take (scan_statement_count (module_of g m)) (statement_list g m)))
    where
      go : (t : Bool) → elim t [ true ↦ 1 | false ↦ 0 ] < 5
      go true = omega arith
      go false = omega arith

  -- a first verdict is one of these
  module _ (m : ℕ) (given : effects (module_of g m) < 5) (scanned : scan_effects (module_of g m) < 5) where
    recomputed-below : recomputed g m < 5
    unfolding recomputed
    recomputed-below = go (normal g m)
      where
        more : (t : Bool) → elim t [ true ↦ rescanned g m | false ↦ scan_effects (module_of g m) ] < 5
        more true = rescanned_below m
        more false = scanned

        go : (t : Bool) → elim t [ true ↦ elim (eqb (scan_effects (module_of g m)) 1 && flag 5 (flags (module_of g m))) [ true ↦ rescanned g m | false ↦ scan_effects (module_of g m) ] | false ↦ effects (module_of g m) ] < 5
        go true = more (eqb (scan_effects (module_of g m)) 1 && flag 5 (flags (module_of g m)))
        go false = given

    first_below : first_verdict g m < 5
    unfolding first_verdict
    first_below = go (relaxed g)
      where
        go : (t : Bool) → elim t [ true ↦ recomputed g m | false ↦ effects (module_of g m) ] < 5
        go true = recomputed-below
        go false = given

-- of a graph that is accepted
module _ {numbers tables : List ℕ} (o : Loaded numbers tables) where
  given_below : (m : ℕ) → m < (header_in numbers).modules → effects (module_of (graph_in numbers) m) < 5
  unfolding module_rules effects module_of graph_in
  given_below m h = ((its-read numbers _ o.of_modules m h).read.head.good 1 (omega arith)).1

  scanned_below : (m : ℕ) → m < (header_in numbers).modules → scan_effects (module_of (graph_in numbers) m) < 5
  unfolding module_rules scan_effects module_of graph_in
  scanned_below m h = ((its-read numbers _ o.of_modules m h).read.head.good 10 (omega arith)).1

  firsts_below : Below (first_verdicts (graph_in numbers))
  unfolding first_verdicts graph_in
  firsts_below i = go (dec_lt i (header_in numbers).modules)
    where
      go : Dec (i < (header_in numbers).modules) → get_or (first_verdicts (graph_in numbers)) i 0 < 5
      go (yes h) = omega (arith, get_d_tabulate (first_verdict (graph_in numbers)) 0 (header_in numbers).modules i 0 h, ap (first_verdict (graph_in numbers)) (zero-add i), first_below (graph_in numbers) i (given_below i h) (scanned_below i h))
      go (no h) =
          let l = length-tabulate (first_verdict (graph_in numbers)) 0 (header_in numbers).modules in
          omega (arith, get_or-eq_default (first_verdicts (graph_in numbers)) 0 {n = i} (omega (arith, h, l)))

  pub last_below : (m : ℕ) → get_or (last_verdicts (graph_in numbers)) m 0 < 5
  unfolding last_verdicts settle
  last_below = passes_below (graph_in numbers) (graph_in numbers).header.modules (first_verdicts (graph_in numbers)) firsts_below
