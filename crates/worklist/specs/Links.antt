-- The table by which the drain finds K1's partners without a search through the record.
use Rattle.std.specs.Prelude.{ℕ, ◌+◌, ◌*◌, ◌<◌, ◌≤◌, ◌≡◌, true, false, List, [], ◌∷◌, length, get_or, take, drop}
use Rattle.determine_side_effects.specs.graph_format_crate.declared.Header.{Header}
use Rattle.determine_side_effects.specs.graph_crate.Check.{Graph}
use Rattle.determine_side_effects.specs.graph_access_crate.Names.{owner}
use Rattle.determine_side_effects.specs.index_crate.declared.SymbolIdx.{SymbolIdx}
use Rattle.determine_side_effects.specs.facts_crate.declared.Fact.{Fact}
use Rattle.determine_side_effects.specs.facts_crate.declared.Fact.TheVariants.{Forward}
use Rattle.determine_side_effects.specs.graph_access_crate.Words.{symbol_of}
use Rattle.keep_record.specs.declared.Line.{Line}
use Rattle.determine_side_effects.specs.facts_crate.Facts.{Good}
use Rattle.keep_record.specs.Lines.{marks_from}
use Rattle.keep_record.specs.Held.{line_at, lines_of, Distinct}
use Rattle.worklist.specs.Drain.{fact_at, forwards_to, module_line}
use Rattle.std.specs.Prelude.{Result, Ok}
use Rattle.keep_record.specs.declared.Full.{Full}

-- 1 more than the number of the first forward of module m among lines that begin with number i; of the last one, or `none`
unfoldable pub first_forward : Graph → ℕ → ℕ → List Line → ℕ
first_forward g m i [] = 0
first_forward g m i (l ∷ ls) = elim (forwards_to g m l) [ true ↦ i + 1 | false ↦ first_forward g m (i + 1) ls ]

unfoldable pub last_forward : Graph → ℕ → ℕ → ℕ → List Line → ℕ
last_forward g m none i [] = none
last_forward g m none i (l ∷ ls) = last_forward g m (elim (forwards_to g m l) [ true ↦ i + 1 | false ↦ none ]) (i + 1) ls

-- where in the table the first forwards begin, the last ones, the next ones; and its size
abbrev pub firsts_at : Header → ℕ
firsts_at h = h.modules

abbrev pub lasts_at : Header → ℕ
lasts_at h = 2 * h.modules

abbrev pub nexts_at : Header → ℕ
nexts_at h = 3 * h.modules

abbrev pub partners_size : Header → ℕ
partners_size h = 3 * h.modules + h.symbols

-- For M modules and the lines that have been handled: number m is the line of module m, M + m its first forward, 2 M + m its last, each
-- plus 1 or 0; 3 M + s is the forward of the same module behind that of symbol s. Forwards of an earlier stage are not in it.
pub record Linked (g : Graph) (base : ℕ) (links : List ℕ) (lines : List Line) : Type 0 where
  pub long : partners_size g.header ≤ length links
  pub module_lines : (m : ℕ) → m < g.header.modules → get_or links m 0 ≡ module_line m 0 lines
  pub firsts : (m : ℕ) → m < g.header.modules → get_or links (firsts_at g.header + m) 0 ≡ first_forward g m base (drop base lines)
  pub lasts : (m : ℕ) → m < g.header.modules → get_or links (lasts_at g.header + m) 0 ≡ last_forward g m 0 base (drop base lines)
  pub nexts : (k : ℕ) (s : SymbolIdx) → base ≤ k → k < length lines → fact_at lines k ≡ Forward s
      → get_or links (nexts_at g.header + s.0) 0 ≡ first_forward g (owner (symbol_of g s.0)) (k + 1) (drop (k + 1) lines)

-- after an addition, the table is that of the first k lines
pub record StillLinked (g : Graph) (base : ℕ) (links row : List ℕ) (k : ℕ) (r : Result ℕ Full) : Type 0 where
  pub known : (c : ℕ) → r ≡ Ok c → Linked g base links (take k (lines_of c row))

-- of all lines
pub record AllLinked (g : Graph) (base : ℕ) (links row : List ℕ) (r : Result ℕ Full) : Type 0 where
  pub known : (c : ℕ) → r ≡ Ok c → Linked g base links (lines_of c row)

-- line k has this fact, which is good, and the facts that are there differ
pub record LinkReady (g : Graph) (base : ℕ) (row : List ℕ) (count k : ℕ) (f : Fact) : Type 0 where
  pub behind_base : base ≤ k
  pub inside : k < count
  pub room : 6 * count ≤ length row
  pub is : (line_at row k).fact ≡ f
  pub good : (i : ℕ) → i < count → Good g (line_at row i).fact
  pub apart : Distinct (marks_from g base (lines_of count row))
