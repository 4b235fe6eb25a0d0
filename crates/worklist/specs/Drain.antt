-- The drain: lines handled in order, each one's consequences added behind the last; a start waits until all lines of the one before it are
-- handled (docs/OPERATIONS.md, Record).
use Rattle.std.specs.Prelude.{ℕ, zero, suc, ◌+◌, Bool, true, false, List, [], ◌∷◌, ◌++◌, map, eqb, ltb, leb, length, get_or, take, drop}
use Rattle.determine_side_effects.specs.graph_crate.Check.{Graph}
use Rattle.determine_side_effects.specs.graph_access_crate.Names.{owner, declaring_statements, only}
use Rattle.determine_side_effects.specs.facts_crate.declared.Fact.{Fact}
use Rattle.determine_side_effects.specs.facts_crate.declared.Fact.TheVariants.{Module, Statement, Use, CheckedUse, Forward, Bailout}
use Rattle.determine_side_effects.specs.facts_crate.Facts.{first_part, module_fact, statement_fact, mark_count}
use Rattle.determine_side_effects.specs.graph_access_crate.Words.{tabulate, symbol_of}
use Rattle.keep_record.specs.declared.Line.{Line}
use Rattle.keep_record.specs.Lines.{added, adds}
use Rattle.keep_rules.specs.Rules.{gives}

-- a line by its parts, and the fact of line k
abbrev pub line : Fact → ℕ → ℕ → ℕ → Line
line f rule a b = record { fact = f; rule = rule; because = a; and = b }

unfoldable pub fact_at : List Line → ℕ → Fact
fact_at lines k = (get_or lines k (line (module_fact 0) 0 0 0)).fact

-- K2 to K14: the consequences of line k name that line
unfoldable pub followed : Graph → List ℕ → ℕ → Fact → List Line
followed g v k f = map (λ x. line x.fact x.rule (k + 1) 0) (gives g v f)

-- K1 (000:530-536, 553-557): the statements that declare forward s, which name these two lines
unfoldable pub joined : Graph → ℕ → ℕ → ℕ → List Line
joined g s a b =
    tabulate (λ i. line (statement_fact (owner (symbol_of g s)) (only (get_or (declaring_statements (symbol_of g s)) i []))) 1 a b) 0
    (length (declaring_statements (symbol_of g s)))

-- whether a fact is a forward of a symbol that module m owns, and whether it is module m; whether a line's is
abbrev pub is_forward_of : Graph → ℕ → Fact → Bool
is_forward_of g m (Module n) = false
is_forward_of g m (Statement n i) = false
is_forward_of g m (Use s x) = false
is_forward_of g m (CheckedUse s x) = false
is_forward_of g m (Forward s) = eqb (owner (symbol_of g s.0)) m
is_forward_of g m (Bailout n) = false

abbrev pub is_the_module : ℕ → Fact → Bool
is_the_module m (Module n) = eqb n.0 m
is_the_module m (Statement n i) = false
is_the_module m (Use s x) = false
is_the_module m (CheckedUse s x) = false
is_the_module m (Forward s) = false
is_the_module m (Bailout n) = false

unfoldable pub forwards_to : Graph → ℕ → Line → Bool
forwards_to g m l = is_forward_of g m l.fact

unfoldable pub is_module : ℕ → Line → Bool
is_module m l = is_the_module m l.fact

-- K1 at module m's line k: the forwards of the module among lines that begin with number i, in their order
unfoldable pub joins_all : Graph → ℕ → ℕ → ℕ → List Line → List Line
joins_all g m k i [] = []
joins_all g m k i (l ∷ ls) =
    elim (forwards_to g m l) [ true ↦ joined g (first_part l.fact) (k + 1) (i + 1) ++ joins_all g m k (i + 1) ls | false ↦ joins_all g m k (i + 1) ls ]

-- 1 more than the number of module m's line among lines that begin with number i; 0 where it has none
unfoldable pub module_line : ℕ → ℕ → List Line → ℕ
module_line m i [] = 0
module_line m i (l ∷ ls) = elim (is_module m l) [ true ↦ i + 1 | false ↦ module_line m (i + 1) ls ]

-- the name of a line by 1 more than its number: 0 for one of an earlier stage (docs/RULES.md, Step 6)
unfoldable pub name_of : ℕ → ℕ → ℕ
name_of base n = elim (leb n base) [ true ↦ 0 | false ↦ n ]

-- K1 at line k, which has fact f: with its partners on earlier lines; its own line is named first. Forwards of an earlier stage do not
-- count, modules of it do.
unfoldable pub joined_to : Graph → ℕ → ℕ → ℕ → ℕ → List Line
joined_to g base s k n = elim (eqb n 0) [ true ↦ [] | false ↦ joined g s (k + 1) (name_of base n) ]

unfoldable pub joins : Graph → ℕ → List Line → ℕ → Fact → List Line
joins g base lines k (Module m) = joins_all g m.0 k base (drop base (take k lines))
joins g base lines k (Statement m i) = []
joins g base lines k (Use s x) = []
joins g base lines k (CheckedUse s x) = []
joins g base lines k (Forward s) = joined_to g base s.0 k (module_line (owner (symbol_of g s.0)) 0 (take k lines))
joins g base lines k (Bailout m) = []

-- all that follows from line k and the lines before it, in the record's order
unfoldable pub news : Graph → List ℕ → ℕ → List Line → ℕ → List Line
news g v base lines k = joins g base lines k (fact_at lines k) ++ followed g v k (fact_at lines k)

-- The lines from number k on handled in turn, at most `fuel` of them; as many as there are marks always suffice (`drained-handled` in
-- closed_choices).
unfoldable pub drained : Graph → List ℕ → ℕ → ℕ → ℕ → List Line → List Line
drained g v base zero k lines = lines
drained g v base (suc fuel) k lines =
    elim (ltb k (length lines)) [ true ↦ drained g v base fuel (k + 1) (adds g base lines (news g v base lines k)) | false ↦ lines ]

-- one start, and all that follows from it
unfoldable pub started : Graph → List ℕ → ℕ → List Line → Fact → List Line
started g v base lines f = drained g v base (mark_count g) (length lines) (added g base lines (line f 0 0 0))

-- each start in turn, with all that follows from it before the next
unfoldable pub drained_all : Graph → List ℕ → ℕ → List Fact → List Line → List Line
drained_all g v base [] lines = lines
drained_all g v base (f ∷ fs) lines = drained_all g v base fs (started g v base lines f)

-- the drain of a list of starts, over no base
unfoldable pub drain_of : Graph → List ℕ → List Fact → List Line
drain_of g v starts = drained_all g v 0 starts []
