-- The run's main part and its runtime stage (docs/RULES.md, The run; 000, `include_statements`).
use Rattle.std.specs.Prelude.{ℕ, zero, suc, ◌+◌, ◌*◌, Bool, true, false, ◌||◌, List, [], ◌∷◌, ◌++◌, eqb, ltb, length, drop}
use Rattle.determine_side_effects.specs.graph_crate.Check.{Graph}
use Rattle.determine_side_effects.specs.graph_access_crate.Words.{some, tabulate, option}
use Rattle.determine_side_effects.specs.facts_crate.declared.Fact.{Fact}
use Rattle.determine_side_effects.specs.facts_crate.Facts.{kind_of}
use Rattle.keep_record.specs.declared.Line.{Line}
use Rattle.worklist.specs.Drain.{drained_all}
use Rattle.entry_order.specs.Order.{those, grouped, module_of_entry, user_entries}
use Rattle.entry_starts.specs.Starts.{user_starts}
use Rattle.dynamic_entries.specs.Sorted.{sorted_entries}
use Rattle.dynamic_entries.specs.Tries.{Progress, starting, tries}
use Rattle.passes.specs.Bailouts.{bailouts_starts}
use Rattle.passes.specs.Helpers.{runtime_starts}

-- Step 3. A round over lines of which the first `taken` were there when the round before began: their bailouts were taken then.
unfoldable pub bailed : Graph → List ℕ → ℕ → Progress → Progress
bailed g v taken p = starting g v (bailouts_starts g (drop taken p.lines)) p

unfoldable pub round : Graph → List ℕ → ℕ → Progress → Progress
round g v taken p = tries g v (sorted_entries g) (bailed g v taken p)

-- a module is among the lines from number k on
unfoldable pub kept_module : ℕ → List Line → Bool
kept_module k lines = some (λ l. eqb (kind_of l.fact) 1) (drop k lines)

-- how many modules are live
unfoldable pub live_count : Graph → (ℕ → Bool) → ℕ
live_count g live = length (those live (tabulate (λ m. m) 0 g.header.modules))

-- What a round from p to q brought. A module became kept (000:370-372: without one the Rust ends its rounds).
unfoldable pub keeps_module : Progress → Progress → Bool
keeps_module p q = kept_module (length p.lines) q.lines

-- A line was written or a module came alive: there are more of them, since lines are only appended and no module ceases to be live. A bailout that a
-- round leaves untaken is among the lines written in it, so it is no test of its own (docs/RULES.md, Step 3; `idle-exactly` in `settled_runs`).
unfoldable pub has_moved : Graph → Progress → Progress → Bool
has_moved g p q = ltb (length p.lines) (length q.lines) || ltb (live_count g p.live) (live_count g q.live)

-- Whether a further round follows. Option 7: rounds go on until nothing moves.
unfoldable pub goes_on : Graph → Progress → Progress → Bool
goes_on g p q = elim (option g 7) [ true ↦ has_moved g p q | false ↦ keeps_module p q ]

-- how many rounds were made, how many lines there were when the last one began (their bailouts are taken), and what the run came to
pub record Ended : Type 0 where
  pub rounds : ℕ
  pub taken : ℕ
  pub end : Progress

abbrev pub ended_at : ℕ → ℕ → Progress → Ended
ended_at n taken p = record { rounds = n; taken = taken; end = p }

-- Each round but the last takes the bailout of a module for the first time or makes a module live, and a module can do either once; so these rounds suffice,
-- with the option and without it (`fuel_never` in `settled_runs`).
abbrev pub rounds_fuel : Graph → ℕ
rounds_fuel g = 2 * g.header.modules + 1

-- Rounds, of which another follows one from p to q if the test says so.
unfoldable pub rounds_from : Graph → List ℕ → (Progress → Progress → Bool) → ℕ → ℕ → ℕ → Progress → Ended
rounds_from g v test zero made taken p = ended_at made taken p
rounds_from g v test (suc fuel) made taken p =
    elim (test p (round g v taken p)) [
      | true ↦ rounds_from g v test fuel (made + 1) (length p.lines) (round g v taken p)
      | false ↦ ended_at (made + 1) (length p.lines) (round g v taken p)
    ]

-- Step 1: the user-defined entries in order
unfoldable pub users_starts : Graph → List ℕ → List Fact
users_starts g [] = []
users_starts g (e ∷ es) = user_starts g (module_of_entry g e) ++ users_starts g es

unfoldable pub no_one : ℕ → Bool
no_one x = false

unfoldable pub begun : Graph → List ℕ → Progress
begun g v = starting g v (users_starts g (user_entries g)) (record { lines = []; live = no_one; dead = no_one })

-- the main part: everything before step 6
unfoldable pub main_part : Graph → List ℕ → Ended
main_part g v = rounds_from g v (goes_on g) (rounds_fuel g) 0 0 (begun g v)

-- Step 5. Option 5: splitting is off.
unfoldable pub final_entries : Graph → (ℕ → Bool) → List ℕ
final_entries g live =
    grouped (module_of_entry g)
    (user_entries g ++ elim (option g 5) [ true ↦ [] | false ↦ those (λ e. live (module_of_entry g e)) (sorted_entries g) ])

-- Step 6: the lines of both stages. The second goes on behind the first, over it as its base.
unfoldable pub runtime_stage : Graph → List ℕ → List Line → ℕ → List Line
runtime_stage g v lines word = drained_all g v (length lines) (runtime_starts g v word) lines
