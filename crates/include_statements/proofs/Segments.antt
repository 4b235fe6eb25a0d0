-- A loop over the candidates of one segment, and segments one behind another.
use Prim.Native.Nat.{ℕ, suc, ◌+◌, ◌-◌, ◌<◌, ◌≤◌}
use mathlib.Core.Bool.{true, false}
use mathlib.Core.Path.{◌≡◌, refl, ap, ◌∙◌, sym}
use mathlib.Core.List.{List, [], ◌∷◌, ◌++◌, map}
use native.Mathlib.Omega.{arith}
use Rattle.determine_side_effects.specs.graph_crate.Check.{Graph}
use Rattle.determine_side_effects.specs.index_crate.declared.ModuleIdx.{ModuleIdx}
use Rattle.determine_side_effects.specs.index_crate.declared.SymbolIdx.{SymbolIdx}
use Rattle.determine_side_effects.specs.facts_crate.declared.Reason.{Reason}
use Rattle.determine_side_effects.specs.facts_crate.declared.Fact.{Fact}
use Rattle.determine_side_effects.specs.facts_crate.declared.Fact.TheVariants.{Module, Use}
use Rattle.keep_rules.specs.declared.Candidate.{Candidate}
use Rattle.keep_rules.specs.declared.Candidate.TheVariants.{Gives, Nothing}
use Rattle.keep_rules.specs.Rules.{Segment, Given, quiet_runtime, bypassed, module_segments, use_segments, segments_of, picked, given_by}
use Rattle.keep_record.specs.declared.Line.{Line}
use Rattle.keep_record.specs.Lines.{added, adds}
use Rattle.keep_record.specs.Held.{lines_of, Held, Grown}
use Rattle.include_statements.specs.Following.{line_by, candidate_lines, lines_by}
use lib.ListN.{length}
use Rattle.keep_record.proofs.Rows.{lines-length}
use Rattle.keep_record.proofs.Adding.{adds_longer, adds-append}
use Rattle.include_statements.proofs.Going.{Going, go_start, go_done, grown_longer, full_more, both_full, both_added}
use Rattle.std.specs.Prelude.{Result, Ok}
use Rattle.keep_record.specs.declared.Full.{Full}
use Rattle.keep_record.specs.Held.{no_room}

-- the lines of a segment from candidate c on
unfoldable pub lines_from : ℕ → Segment → ℕ → List Line
lines_from k s c = map (line_by k) (picked s.rule s.candidate c (s.count - c))

map-append : (f : Given → Line) (xs ys : List Given) → map f (xs ++ ys) ≡ map f xs ++ map f ys
map-append f [] ys = refl
map-append f (x ∷ xs) ys = ap (λ l. f x ∷ l) (map-append f xs ys)

append-none : (xs : List Line) → xs ++ [] ≡ xs
append-none [] = refl
append-none (x ∷ xs) = ap (λ l. x ∷ l) (append-none xs)

module _ (k : ℕ) (s : Segment) where
  pub lines_first : (ss : List Segment) → lines_by k (s ∷ ss) ≡ lines_from k s 0 ++ lines_by k ss
  unfolding lines_by lines_from given_by
  lines_first ss = map-append (line_by k) (picked s.rule s.candidate 0 (s.count - 0)) (given_by ss 0)

  pub lines_alone : lines_by k (s ∷ []) ≡ lines_from k s 0
  unfolding lines_by given_by
  lines_alone = lines_first [] ∙ append-none (lines_from k s 0)

  module _ (c n : ℕ) (many : n ≡ s.count) where
    lines_next : c < n → lines_from k s c ≡ candidate_lines k s.rule (s.candidate c) ++ lines_from k s (c + 1)
    unfolding lines_from candidate_lines picked
    lines_next l = let q : s.count - c ≡ suc (s.count - (c + 1)) = omega (arith, many, l) in go (s.candidate c) refl q
      where
        go : (p : Candidate) → s.candidate c ≡ p → s.count - c ≡ suc (s.count - (c + 1))
            → lines_from k s c ≡ candidate_lines k s.rule (s.candidate c) ++ lines_from k s (c + 1)
        go (Gives f) e q = rw (q, e, picked)
        go Nothing e q = rw (q, e, picked)

    lines-over : n ≤ c → lines_from k s c ≡ []
    unfolding lines_from picked
    lines-over l = let q : s.count - c ≡ 0 = omega (arith, many, l) in rw (q, picked)

-- additions of a first part of what is left
module _ (g : Graph) (base : ℕ) (out xs ys : List Line) (count : ℕ) (marks row : List ℕ) (t : ℕ) (go : Going g base out (xs ++ ys) count marks row t) where
  pub go_part : (marks' row' : List ℕ) (d : ℕ) → Grown g base (adds g base (lines_of t row) xs) marks' row' (Ok d) → Going g base out ys count marks' row' d
  go_part marks' row' d w =
      record {
        held = (w.held d refl).1;
        on = ap (λ ls. adds g base ls ys) (w.held d refl).0 ∙ sym (adds-append g base (lines_of t row) xs ys) ∙ go.on;
        more = omega (arith, go.more, grown_longer g base _ marks' row' d w, adds_longer g base (lines_of t row) xs, lines-length t row);
      }

  pub go_part_full : (marks' row' : List ℕ) → Grown g base (adds g base (lines_of t row) xs) marks' row' no_room → Grown g base out marks' row' no_room
  go_part_full marks' row' w =
      full_more g base (adds g base (lines_of t row) xs) out marks' row'
      (omega (arith, ap length (sym (adds-append g base (lines_of t row) xs ys) ∙ go.on), adds_longer g base (adds g base (lines_of t row) xs) ys)) w

-- what stands behind additions
pub grown_on : (g : Graph) (base : ℕ) (xs : List Line) (t : ℕ) (row marks' row' : List ℕ) (d : ℕ) (r : Result ℕ Full) → r ≡ Ok d → Grown g base (adds g base (lines_of t row) xs) marks' row' r → (k : ℕ) → k < t → Held g base marks' row' d × (k < d)
grown_on g base xs t row marks' row' d r told w k l =
    let v : Grown g base (adds g base (lines_of t row) xs) marks' row' (Ok d) = rw told at w in
    ((v.held d refl).1, omega (arith, l, grown_longer g base _ marks' row' d v, adds_longer g base (lines_of t row) xs, lines-length t row))

-- the turns of a loop over a segment's candidates
pub segment_start : (g : Graph) (base k : ℕ) (s : Segment) (marks row : List ℕ) (t : ℕ) → Held g base marks row t
    → Going g base (adds g base (lines_of t row) (lines_by k (s ∷ []))) (lines_from k s 0) t marks row t
segment_start g base k s marks row t h = rw (sym (lines_alone k s)) (go_start g base (lines_by k (s ∷ [])) marks row t h)

module _ (g : Graph) (base k : ℕ) (s : Segment) (out : List Line) (count : ℕ) (marks row : List ℕ) (t c n : ℕ) (go : Going g base out (lines_from k s c) count marks row t) (many : n ≡ s.count) where
  module _ (l : c < n) (p : Candidate) (e : p ≡ s.candidate c) (marks' row' : List ℕ) where
    pub segment-step : (d : ℕ) (r : Result ℕ Full) → r ≡ Ok d → Grown g base (adds g base (lines_of t row) (candidate_lines k s.rule p)) marks' row' r → Going g base out (lines_from k s (c + 1)) count marks' row' d
    segment-step d r told w = go_part g base out _ _ count marks row t (rw (lines_next k s c n many l) at go) marks' row' d (rw (told, e) at w)

    pub segment-full : (r : Result ℕ Full) → r ≡ no_room → Grown g base (adds g base (lines_of t row) (candidate_lines k s.rule p)) marks' row' r → Grown g base out marks' row' no_room
    segment-full r told w = go_part_full g base out _ (lines_from k s (c + 1)) count marks row t (rw (lines_next k s c n many l) at go) marks' row' (rw (told, e) at w)

  pub segment_done : n ≤ c → Grown g base out marks row (Ok t)
  segment_done l = go_done g base out count marks row t (rw (lines-over k s c n many l) at go)

-- one segment behind another
pub segments_start : (g : Graph) (base k : ℕ) (ss : List Segment) (marks row : List ℕ) (t : ℕ) → Held g base marks row t
    → Going g base (adds g base (lines_of t row) (lines_by k ss)) (lines_by k ss) t marks row t
segments_start g base k ss marks row t h = go_start g base (lines_by k ss) marks row t h

pub one_candidate : (k : ℕ) (s : Segment) → s.count ≡ 1 → lines_by k (s ∷ []) ≡ candidate_lines k s.rule (s.candidate 0)
one_candidate k s e =
    lines_alone k s ∙ lines_next k s 0 1 (sym e) (omega arith) ∙ rw (lines-over k s 1 1 (sym e) (omega arith)) (append-none (candidate_lines k s.rule (s.candidate 0)))

module _ (g : Graph) (base k : ℕ) (s : Segment) (ss : List Segment) (out : List Line) (count : ℕ) (marks row : List ℕ) (t : ℕ) (go : Going g base out (lines_by k (s ∷ ss)) count marks row t)
    (marks' row' : List ℕ) where
  pub segments_next : (d : ℕ) (r : Result ℕ Full) → r ≡ Ok d → Grown g base (adds g base (lines_of t row) (lines_by k (s ∷ []))) marks' row' r → Going g base out (lines_by k ss) count marks' row' d
  segments_next d r told w = go_part g base out _ _ count marks row t (rw (lines_first k s ss) at go) marks' row' d (rw (told, lines_alone k s) at w)

  pub segments_full : (r : Result ℕ Full) → r ≡ no_room → Grown g base (adds g base (lines_of t row) (lines_by k (s ∷ []))) marks' row' r → Grown g base out marks' row' no_room
  segments_full r told w = go_part_full g base out _ (lines_by k ss) count marks row t (rw (lines_first k s ss) at go) marks' row' (rw (told, lines_alone k s) at w)

pub segments_none : (g : Graph) (base k : ℕ) (marks row : List ℕ) (t : ℕ) → Held g base marks row t → Grown g base (adds g base (lines_of t row) (lines_by k [])) marks row (Ok t)
unfolding lines_by given_by
segments_none g base k marks row t h = go_done g base _ t marks row t (go_start g base [] marks row t h)

-- one candidate: it gives nothing, or a line
pub give_none : (g : Graph) (base k rule : ℕ) (marks row : List ℕ) (t : ℕ) (p : Candidate) → p ≡ Nothing → Held g base marks row t → Grown g base (adds g base (lines_of t row) (candidate_lines k rule p)) marks row (Ok t)
unfolding candidate_lines
give_none g base k rule marks row t p e h = rw e (go_done g base _ t marks row t (go_start g base [] marks row t h))

pub give_one : (g : Graph) (base k rule : ℕ) (lines : List Line) (f : Fact) (marks row : List ℕ) (r : Result ℕ Full) (p : Candidate) → p ≡ Gives f
    → Grown g base (added g base lines (record { fact = f; rule = rule; because = k + 1; and = 0 })) marks row r → Grown g base (adds g base lines (candidate_lines k rule p)) marks row r
unfolding candidate_lines line_by adds
give_one g base k rule lines f marks row r p e w = rw (e, adds) w

-- the same segments under another name
pub segments_as : (g : Graph) (base k : ℕ) (lines : List Line) (ss ss' : List Segment) (marks row : List ℕ) (r : Result ℕ Full) → ss ≡ ss' → Grown g base (adds g base lines (lines_by k ss')) marks row r
    → Grown g base (adds g base lines (lines_by k ss)) marks row r
segments_as g base k lines ss ss' marks row r e w = rw e w

-- a segment of one candidate
pub given_alone : (g : Graph) (base k : ℕ) (lines : List Line) (s : Segment) → s.count ≡ 1 → (p : Candidate) → p ≡ s.candidate 0 → (marks row : List ℕ) (r : Result ℕ Full)
    → Grown g base (adds g base lines (candidate_lines k s.rule p)) marks row r → Grown g base (adds g base lines (lines_by k (s ∷ []))) marks row r
given_alone g base k lines s one p e marks row r w = rw (one_candidate k s one, ← e) w

-- which segments a module and a use have
pub module_quiet : (g : Graph) (v : List ℕ) (m : ModuleIdx) → quiet_runtime g v m.0 ≡ true → segments_of g v (Module m) ≡ []
unfolding segments_of
module_quiet g v m e = rw (e, segments_of)

pub module_segments_lem : (g : Graph) (v : List ℕ) (m : ModuleIdx) → quiet_runtime g v m.0 ≡ false → segments_of g v (Module m) ≡ module_segments g v m.0
unfolding segments_of
module_segments_lem g v m e = rw (e, segments_of)

pub use_bypassed : (g : Graph) (v : List ℕ) (s : SymbolIdx) (x : Reason) → bypassed g s.0 x.bits ≡ true → segments_of g v (Use s x) ≡ []
unfolding segments_of
use_bypassed g v s x e = rw (e, segments_of)

pub use_segments_lem : (g : Graph) (v : List ℕ) (s : SymbolIdx) (x : Reason) → bypassed g s.0 x.bits ≡ false → segments_of g v (Use s x) ≡ use_segments g v s.0 x.bits
unfolding segments_of
use_segments_lem g v s x e = rw (e, segments_of)

pub no_lines : (k : ℕ) → lines_by k [] ≡ []
unfolding lines_by given_by
no_lines k = refl

-- segments of calls one behind another: the first one's call was full, or a call for the others followed it
module _ (g : Graph) (base k : ℕ) (lines : List Line) (s : Segment) (ss : List Segment) (marks row : List ℕ) where
  pub segments_stop : (r : Result ℕ Full) → r ≡ no_room → Grown g base (adds g base lines (lines_by k (s ∷ []))) marks row r → Grown g base (adds g base lines (lines_by k (s ∷ ss))) marks row no_room
  segments_stop r told w = rw (lines_first k s ss) (both_full g base lines (lines_from k s 0) (lines_by k ss) marks row (rw (told, lines_alone k s) at w))

  pub segments_both : (d : ℕ) (r : Result ℕ Full) → r ≡ Ok d → Grown g base (adds g base lines (lines_by k (s ∷ []))) marks row r → (marks' row' : List ℕ) (r' : Result ℕ Full)
      → Grown g base (adds g base (lines_of d row) (lines_by k ss)) marks' row' r' → Grown g base (adds g base lines (lines_by k (s ∷ ss))) marks' row' r'
  segments_both d r told w marks' row' r' v =
      rw (lines_first k s ss) (both_added g base lines (lines_from k s 0) (lines_by k ss) marks row d marks' row' r' (rw (told, lines_alone k s) at w) v)
