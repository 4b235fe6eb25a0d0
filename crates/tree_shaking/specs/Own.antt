-- The run's own starts, by who brought them: what steps 1, 3 and 4 start, in their order (docs/RULES.md, A run's own starts).
use Rattle.std.specs.Prelude.{ℕ, zero, suc, ◌+◌, Bool, true, false, List, [], ◌∷◌, ◌++◌, map, length, drop}
use Rattle.determine_side_effects.specs.graph_crate.Check.{Graph}
use Rattle.determine_side_effects.specs.facts_crate.declared.Fact.{Fact}
use Rattle.keep_record.specs.declared.Line.{Line}
use Rattle.entry_order.specs.Order.{module_of_entry, user_entries}
use Rattle.entry_starts.specs.Starts.{module_starts, user_starts}
use Rattle.dynamic_entries.specs.Sorted.{sorted_entries}
use Rattle.passes.specs.Bailouts.{bailouts_starts}
use Rattle.dynamic_entries.specs.Tries.{Progress, lives, tried}
use Rattle.tree_shaking.specs.Rounds.{bailed, round, goes_on, rounds_fuel, users_starts, begun}

-- the parties of a run's main part
pub data Party : Type 0 where
  entry : ℕ → Party
  bailouts : Party

pub record Start : Type 0 where
  pub party : Party
  pub fact : Fact

unfoldable pub by : Party → List Fact → List Start
by party facts = map (λ f. record { party = party; fact = f }) facts

unfoldable pub of_users : Graph → List ℕ → List Start
of_users g [] = []
of_users g (e ∷ es) = by (entry e) (user_starts g (module_of_entry g e)) ++ of_users g es

unfoldable pub of_try : Graph → List ℕ → ℕ → Progress → List Start
of_try g v e p =
    elim (p.live (module_of_entry g e)) [
      | true ↦ []
      | false ↦ elim (lives g v p e) [ true ↦ by (entry e) (module_starts g (module_of_entry g e)) | false ↦ [] ]
    ]

unfoldable pub of_tries : Graph → List ℕ → List ℕ → Progress → List Start
of_tries g v [] p = []
of_tries g v (e ∷ es) p = of_try g v e p ++ of_tries g v es (tried g v e p)

unfoldable pub of_round : Graph → List ℕ → ℕ → Progress → List Start
of_round g v taken p = by bailouts (bailouts_starts g (drop taken p.lines)) ++ of_tries g v (sorted_entries g) (bailed g v taken p)

unfoldable pub of_rounds : Graph → List ℕ → ℕ → ℕ → Progress → List Start
of_rounds g v zero taken p = []
of_rounds g v (suc fuel) taken p =
    of_round g v taken p
    ++ elim (goes_on g p (round g v taken p)) [ true ↦ of_rounds g v fuel (length p.lines) (round g v taken p) | false ↦ [] ]

-- all of them in their order, and their facts
unfoldable pub own_starts : Graph → List ℕ → List Start
own_starts g v = of_users g (user_entries g) ++ of_rounds g v (rounds_fuel g) 0 (begun g v)

unfoldable pub run_starts : Graph → List ℕ → List Fact
run_starts g v = map (λ s. s.fact) (own_starts g v)

-- The same by kind, from what a main part leaves, whatever the order in which it came about: what the user-defined entries start, the exports of the
-- bailouts among the lines that were taken, what live modules start, of n modules from number m on. `own-by-kind` and `by_kind_own` in `run_choices` have both as one set.
unfoldable pub live_starts : Graph → (ℕ → Bool) → ℕ → ℕ → List Fact
live_starts g live m zero = []
live_starts g live m (suc n) = elim (live m) [ true ↦ module_starts g m | false ↦ [] ] ++ live_starts g live (m + 1) n

unfoldable pub starts_by_kind : Graph → (ℕ → Bool) → List Line → List Fact
starts_by_kind g live taken = users_starts g (user_entries g) ++ (bailouts_starts g taken ++ live_starts g live 0 g.header.modules)
