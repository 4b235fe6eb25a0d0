-- What the parts of a run leave in the lent rows.
use Rattle.std.specs.Prelude.{ℕ, ◌+◌, ◌*◌, ◌<◌, ◌≡◌, Bool, true, List, length, get_or}
use Rattle.determine_side_effects.specs.graph_crate.Check.{Graph}
use Rattle.determine_side_effects.specs.graph_access_crate.Words.{option}
use Rattle.determine_side_effects.specs.Effects.{last_verdicts}
use Rattle.keep_record.specs.declared.Line.{Line}
use Rattle.keep_record.specs.Lines.{has}
use Rattle.keep_record.specs.Held.{lines_of}
use Rattle.entry_order.specs.Plan.{words_at, plan_size, Untouched}
use Rattle.entry_starts.specs.Working.{Working, Started}
use Rattle.dynamic_entries.specs.Tries.{Progress, progress_in, Planned}
use Rattle.passes.specs.Helpers.{helper_word, helper_union, runtime_starts}
use Rattle.tree_shaking.specs.declared.Reached.{Reached}
use Rattle.tree_shaking.specs.Rounds.{live_count, goes_on, Ended}
use Rattle.std.specs.Prelude.{Result, Ok}
use Rattle.keep_record.specs.declared.Full.{Full}
use Rattle.keep_record.specs.Held.{no_room}

-- the rows hold this progress, or its lines are too many for the record
pub record Progressed (g : Graph) (users : ℕ) (p : Progress) (partners marks row plan : List ℕ) (r : Result ℕ Full) : Type 0 where
  pub working : (c : ℕ) → r ≡ Ok c → Working g 0 partners marks row c
  pub is : (c : ℕ) → r ≡ Ok c → progress_in g.header (lines_of c row) plan ≡ p
  pub planned : (c : ℕ) → r ≡ Ok c → Planned g plan users
  pub full : r ≡ no_room → length row < 6 * length p.lines

-- n modules are live before a round; they are counted where the options ask for it
abbrev pub CountsLive : Graph → (ℕ → Bool) → ℕ → Type 0
CountsLive g live n = option g 7 ≡ true → n ≡ live_count g live

-- whether a further round follows one that came to q, said of whatever it began with that has so many lines and live modules
abbrev pub TellsFurther : Graph → ℕ → ℕ → Progress → Bool → Type 0
TellsFurther g count live q r = (p : Progress) → length p.lines ≡ count → CountsLive g p.live live → r ≡ goes_on g p q

-- what the main part has reached, with no line of a runtime stage
abbrev pub reached_by : ℕ → Ended → Reached
reached_by users e =
    record { users = users; rounds = e.rounds; taken = e.taken; main = length e.end.lines; total = length e.end.lines }

-- the same of the whole main part, with what it has reached
pub record MainEnds (g : Graph) (users : ℕ) (e : Ended) (partners marks row plan : List ℕ) (r : Result Reached Full) : Type 0 where
  pub reached : (x : Reached) → r ≡ Ok x → x ≡ reached_by users e
  pub working : (x : Reached) → r ≡ Ok x → Working g 0 partners marks row x.main
  pub is : (x : Reached) → r ≡ Ok x → progress_in g.header (lines_of x.main row) plan ≡ e.end
  pub planned : (x : Reached) → r ≡ Ok x → Planned g plan users
  pub full : r ≡ no_room → length row < 6 * length e.end.lines

-- the runtime stage behind the main part's lines: the words of the helpers are in the plan, and their union was started over these lines
pub record StageEnds (g : Graph) (main : List Line) (plan₀ partners marks row plan : List ℕ) (r : Result ℕ Full) : Type 0 where
  pub started : Started g (length main) (runtime_starts g (last_verdicts g) (helper_union g (has g 0 main))) main partners marks row r
  pub words : (m : ℕ) → m < g.header.modules → (get_or plan (words_at g.header + m) 0 ≡ helper_word g (has g 0 main) m) × (get_or plan (words_at g.header + m) 0 < 4294967296)
  pub others : Untouched (words_at g.header) (plan_size g.header) plan₀ plan
