-- The tries of dynamic entries (docs/RULES.md, Step 4; 003:25-63, `process_and_retain_dynamic_entry`).
use Rattle.std.specs.Prelude.{ℕ, ◌+◌, ◌<◌, ◌≤◌, ◌≡◌, Bool, true, false, ◌||◌, List, [], ◌∷◌, ◌++◌, eqb, length, get_or, take, drop}
use Rattle.determine_side_effects.specs.graph_format_crate.declared.Header.{Header}
use Rattle.determine_side_effects.specs.graph_crate.Check.{Graph}
use Rattle.determine_side_effects.specs.facts_crate.declared.Fact.{Fact}
use Rattle.determine_side_effects.specs.Effects.{last_verdicts}
use Rattle.keep_record.specs.declared.Line.{Line}
use Rattle.keep_record.specs.Lines.{has}
use Rattle.worklist.specs.Drain.{drained_all}
use Rattle.marked.specs.Marked.{marked}
use Rattle.entry_order.specs.Order.{module_of_entry, user_entries}
use Rattle.entry_order.specs.Chains.{Entries}
use Rattle.entry_order.specs.Plan.{live_in, dead_in, cycled_at, dead_at, plan_size, Untouched}
use Rattle.entry_starts.specs.Starts.{module_starts}
use Rattle.dynamic_entries.specs.Sorted.{on_cycle, sorted_entries}
use Rattle.dynamic_entries.specs.Alive.{is_alive}

-- what a run has come to: the lines of its record, the modules that are live as dynamic entries, the entries of which a try was found dead
pub record Progress : Type 0 where
  pub lines : List Line
  pub live : ℕ → Bool
  pub dead : ℕ → Bool

-- some facts started, each with all that follows from it
unfoldable pub starting : Graph → List ℕ → List Fact → Progress → Progress
starting g v facts p = record { lines = drained_all g v 0 facts p.lines; live = p.live; dead = p.dead }

-- Step 4. An entry on a cycle is live, another if a related statement lets it live.
unfoldable pub lives : Graph → List ℕ → Progress → ℕ → Bool
lives g v p e = on_cycle g (module_of_entry g e) || is_alive g v (has g 0 p.lines) e

unfoldable pub now_live : Graph → ℕ → Progress → Progress
now_live g e p = record { lines = p.lines; live = λ m. eqb m (module_of_entry g e) || p.live m; dead = p.dead }

unfoldable pub now_dead : ℕ → Progress → Progress
now_dead e p = record { lines = p.lines; live = p.live; dead = λ x. eqb x e || p.dead x }

-- a try of a dynamic entry whose module is not yet live (003:25-63)
unfoldable pub tried : Graph → List ℕ → ℕ → Progress → Progress
tried g v e p =
    elim (p.live (module_of_entry g e)) [
      | true ↦ p
      | false ↦ elim (lives g v p e) [ true ↦ starting g v (module_starts g (module_of_entry g e)) (now_live g e p) | false ↦ now_dead e p ]
    ]

unfoldable pub tries : Graph → List ℕ → List ℕ → Progress → Progress
tries g v [] p = p
tries g v (e ∷ es) p = tries g v es (tried g v e p)

-- the progress that lines and a plan hold
unfoldable pub progress_in : Header → List Line → List ℕ → Progress
progress_in h lines plan = record { lines = lines; live = live_in h plan; dead = dead_in h plan }

-- The plan's order and its cycles: the user-defined entries, then the dynamic ones as they are sorted.
pub record Planned (g : Graph) (plan : List ℕ) (users : ℕ) : Type 0 where
  pub long : plan_size g.header ≤ length plan
  pub few : length plan < 4294967296
  pub users_are : users ≡ length (user_entries g)
  pub all : length (user_entries g) + length (sorted_entries g) ≡ g.header.entries
  pub order : take g.header.entries plan ≡ user_entries g ++ sorted_entries g
  pub are_entries : Entries g plan g.header.entries
  pub cycles : (m : ℕ) → m < g.header.modules → eqb (get_or plan (cycled_at g.header + m) 0) 1 ≡ on_cycle g m

-- no entry is live, none was found dead
pub record Unlived (g : Graph) (plan : List ℕ) : Type 0 where
  pub unlived : (i : ℕ) → g.header.entries ≤ i → i < cycled_at g.header → get_or plan i 0 ≡ 0

-- The search for the next entry that is live now, from place `from` on: those that were passed over were live as modules or were found dead,
-- and the entry at `to`, if there is one, is neither.
pub record PassedOver (g : Graph) (marks plan₀ plan : List ℕ) (from to : ℕ) : Type 0 where
  pub forward : from ≤ to
  pub inside : to ≤ g.header.entries
  pub written : Untouched (dead_at g.header) (cycled_at g.header) plan₀ plan
  pub on : (lines : List Line) → ◌≡◌ {A = Fact → Bool} (has g 0 lines) (marked g marks)
      → tries g (last_verdicts g) (drop from (take g.header.entries plan₀)) (progress_in g.header lines plan₀)
      ≡ tries g (last_verdicts g) (drop to (take g.header.entries plan)) (progress_in g.header lines plan)
  pub found : to < g.header.entries
      → (live_in g.header plan (module_of_entry g (get_or plan to 0)) ≡ false)
      × ((on_cycle g (module_of_entry g (get_or plan to 0)) || is_alive g (last_verdicts g) (marked g marks) (get_or plan to 0)) ≡ true)
