-- What a run starts: statements of normal modules, checked uses, modules, bailouts.
use Prim.Native.Nat.{ℕ, zero, suc, ◌+◌}
use mathlib.Core.Path.{◌≡◌, refl}
use mathlib.Core.Bool.{Bool, true, false}
use mathlib.Core.List.{List, [], ◌∷◌, ◌++◌, map}
use lib.Dec.{eqb}
use lib.ListN.{length, drop}
use Rattle.determine_side_effects.specs.graph_crate.Check.{Graph}
use Rattle.determine_side_effects.specs.graph_access_crate.Names.{owner, declaring_statements, entry_references, resolved_exports, export_symbol, export_from_common_js, only}
use Rattle.determine_side_effects.specs.graph_access_crate.Words.{module_of, symbol_of, normal}
use Rattle.determine_side_effects.specs.facts_crate.declared.Fact.{Fact}
use Rattle.determine_side_effects.specs.facts_crate.declared.Fact.TheVariants.{Module, Statement, Use, CheckedUse, Forward, Bailout}
use Rattle.determine_side_effects.specs.facts_crate.Facts.{module_fact, statement_fact, checked_fact, bailout_fact}
use Rattle.keep_record.specs.declared.Line.{Line}
use Rattle.entry_order.specs.Order.{module_of_entry, user_entries}
use Rattle.entry_starts.specs.Starts.{declared, reference_starts, references_starts, module_starts, user_starts}
use Rattle.dynamic_entries.specs.Sorted.{sorted_entries}
use Rattle.dynamic_entries.specs.Tries.{Progress, lives, tried}
use Rattle.passes.specs.Bailouts.{export_starts, bailout_starts, bailouts_starts}
use Rattle.tree_shaking.specs.Rounds.{bailed, round, goes_on, rounds_fuel, begun}
use Rattle.tree_shaking.specs.Own.{Party, Start, entry, bailouts, by, of_users, of_try, of_tries, of_round, of_rounds, own_starts, run_starts}
use Rattle.closed_choices.proofs.Every.{Every, every_append, every_map, every_if}
use Rattle.judged_records.proofs.RunTriples.{Startable}

-- the image of a list
mapped : {A B : Type 0} (P : B → Type 0) (f : A → B) (xs : List A) → Every (λ x. P (f x)) xs → Every P (map f xs)
mapped P f [] a = tt
mapped P f (x ∷ xs) a = (a.0, mapped P f xs a.1)

-- entries and bailouts
module _ (g : Graph) where
  abbrev Fit : Fact → Type 0
  Fit = Startable g

  reference_fit : (s : ℕ) → Every Fit (reference_starts g s)
  unfolding reference_starts declared
  reference_fit s = go (normal g (owner (symbol_of g s))) refl
    where
      go : (b : Bool) → normal g (owner (symbol_of g s)) ≡ b
          → Every Fit (elim b [ true ↦ map (λ row. statement_fact (owner (symbol_of g s)) (only row)) (declaring_statements (symbol_of g s)) ++ checked_fact s 2 ∷ [] | false ↦ [] ])
      go true e =
          every_append Fit (map (λ row. statement_fact (owner (symbol_of g s)) (only row)) (declaring_statements (symbol_of g s))) (checked_fact s 2 ∷ [])
          (every_map Fit (λ row. statement_fact (owner (symbol_of g s)) (only row)) [] (declaring_statements (symbol_of g s)) (λ k u. e)) (tt, tt)
      go false e = tt

  references_fit : (rows : List (List ℕ)) → Every Fit (references_starts g rows)
  unfolding references_starts
  references_fit [] = tt
  references_fit (row ∷ rows) = every_append Fit (reference_starts g (only row)) (references_starts g rows) (reference_fit (only row)) (references_fit rows)

  module_fit : (m : ℕ) → Every Fit (module_starts g m)
  unfolding module_starts
  module_fit m =
      let refs = references_starts g (entry_references (module_of g m)) in
      every_if Fit (normal g m) (refs ++ module_fact m ∷ []) [] (every_append Fit refs (module_fact m ∷ []) (references_fit (entry_references (module_of g m))) (tt, tt)) tt

  user_fit : (m : ℕ) → Every Fit (user_starts g m)
  unfolding user_starts
  user_fit m = every_if Fit (normal g m) (bailout_fact m ∷ module_starts g m) [] (tt, module_fit m) tt

  exports_fit : (rows : List (List ℕ)) → Every Fit (export_starts rows)
  unfolding export_starts
  exports_fit [] = tt
  exports_fit (row ∷ rows) =
      every_if Fit (eqb (export_from_common_js row) 1) (checked_fact (export_symbol row) 1 ∷ export_starts rows) (export_starts rows) (tt, exports_fit rows) (exports_fit rows)

  bailout_fit : (f : Fact) → Every Fit (bailout_starts g f)
  unfolding bailout_starts
  bailout_fit (Module m) = tt
  bailout_fit (Statement m i) = tt
  bailout_fit (Use s x) = tt
  bailout_fit (CheckedUse s x) = tt
  bailout_fit (Forward s) = tt
  bailout_fit (Bailout m) = exports_fit (resolved_exports (module_of g m.0))

  bailouts_fit : (ls : List Line) → Every Fit (bailouts_starts g ls)
  unfolding bailouts_starts
  bailouts_fit [] = tt
  bailouts_fit (l ∷ ls) = every_append Fit (bailout_starts g l.fact) (bailouts_starts g ls) (bailout_fit l.fact) (bailouts_fit ls)

  -- the parties of a run
  module _ (v : List ℕ) where
    abbrev FitStart : Start → Type 0
    FitStart s = Fit s.fact

    by-fit : (party : Party) (facts : List Fact) → Every Fit facts → Every FitStart (by party facts)
    unfolding by
    by-fit party [] a = tt
    by-fit party (f ∷ fs) a = (a.0, by-fit party fs a.1)

    users-fit : (es : List ℕ) → Every FitStart (of_users g es)
    unfolding of_users
    users-fit [] = tt
    users-fit (e ∷ es) =
        every_append FitStart (by (entry e) (user_starts g (module_of_entry g e))) (of_users g es) (by-fit (entry e) (user_starts g (module_of_entry g e)) (user_fit (module_of_entry g e))) (users-fit es)

    try-fit : (e : ℕ) (p : Progress) → Every FitStart (of_try g v e p)
    unfolding of_try
    try-fit e p =
        let one = by (entry e) (module_starts g (module_of_entry g e)) in
        every_if FitStart (p.live (module_of_entry g e)) [] _ tt (every_if FitStart (lives g v p e) one [] (by-fit (entry e) (module_starts g (module_of_entry g e)) (module_fit (module_of_entry g e))) tt)

    tries-fit : (es : List ℕ) (p : Progress) → Every FitStart (of_tries g v es p)
    unfolding of_tries
    tries-fit [] p = tt
    tries-fit (e ∷ es) p = every_append FitStart (of_try g v e p) (of_tries g v es (tried g v e p)) (try-fit e p) (tries-fit es (tried g v e p))

    round-fit : (taken : ℕ) (p : Progress) → Every FitStart (of_round g v taken p)
    unfolding of_round
    round-fit taken p =
        let facts = bailouts_starts g (drop taken p.lines) in
        every_append FitStart (by bailouts facts) (of_tries g v (sorted_entries g) (bailed g v taken p)) (by-fit bailouts facts (bailouts_fit (drop taken p.lines))) (tries-fit (sorted_entries g) (bailed g v taken p))

    rounds-fit : (fuel taken : ℕ) (p : Progress) → Every FitStart (of_rounds g v fuel taken p)
    unfolding of_rounds
    rounds-fit zero taken p = tt
    rounds-fit (suc fuel) taken p =
        let next = of_rounds g v fuel (length p.lines) (round g v taken p) in
        every_append FitStart (of_round g v taken p) _ (round-fit taken p)
        (every_if FitStart (goes_on g p (round g v taken p)) next [] (rounds-fit fuel (length p.lines) (round g v taken p)) tt)

    -- all that a run starts
    pub run-starts-fit : Every (Startable g) (run_starts g v)
    unfolding run_starts own_starts
    run-starts-fit =
        mapped Fit (λ s. s.fact) (own_starts g v)
        (every_append FitStart (of_users g (user_entries g)) (of_rounds g v (rounds_fuel g) 0 (begun g v)) (users-fit (user_entries g)) (rounds-fit (rounds_fuel g) 0 (begun g v)))
