-- The plan of a run: one slice of words beside the tables. With E entries and M modules it holds the entries in the order in which they are
-- taken, from word 0 on; then for each module whether it is live as a dynamic entry; for each entry whether a try of it was found dead; for
-- each module whether it is on a cycle of dynamic entries, and its word of helpers.
-- The entries are written by `entry_sizes::order_entries`, live modules by `tree_shaking`, dead entries by `entry_liveness::next_live`, modules
-- on a cycle by `cycles::find_cycles`, helpers by `passes::collect_helpers` before the runtime stage. A try that finds an entry dead marks the same
-- import records whenever it happens, so one word an entry is enough.
use Rattle.std.specs.Prelude.{ℕ, ◌+◌, ◌*◌, ◌<◌, ◌≤◌, ◌≡◌, Bool, ◌&&◌, List, eqb, ltb, length, get_or}
use Rattle.facts.specs.graph_format_crate.declared.Header.{Header}

abbrev pub live_at : Header → ℕ
live_at h = h.entries

abbrev pub dead_at : Header → ℕ
dead_at h = h.entries + h.modules

abbrev pub cycled_at : Header → ℕ
cycled_at h = 2 * h.entries + h.modules

abbrev pub words_at : Header → ℕ
words_at h = 2 * h.entries + 2 * h.modules

abbrev pub plan_size : Header → ℕ
plan_size h = 2 * h.entries + 3 * h.modules

-- word i of a part of `count` words that begins at `at` is 1
unfoldable pub is_set : ℕ → ℕ → List ℕ → ℕ → Bool
is_set at count plan i = ltb i count && eqb (get_or plan (at + i) 0) 1

unfoldable pub live_in : Header → List ℕ → ℕ → Bool
live_in h plan m = is_set (live_at h) h.modules plan m

unfoldable pub dead_in : Header → List ℕ → ℕ → Bool
dead_in h plan e = is_set (dead_at h) h.entries plan e

unfoldable pub cycled_in : Header → List ℕ → ℕ → Bool
cycled_in h plan m = is_set (cycled_at h) h.modules plan m

-- only words from `from` up to `to` were written
pub record Untouched (from to : ℕ) (before after : List ℕ) : Type 0 where
  pub same_length : length after ≡ length before
  pub same : (i : ℕ) → (from ≤ i → i < to → ⊥) → get_or after i 0 ≡ get_or before i 0
