-- Facts that are started leave the lines before them as they are.
use Prim.Native.Nat.{ℕ, zero, suc, ◌+◌, ◌<◌, ◌≤◌}
use mathlib.Core.Path.{◌≡◌, ap, ◌∙◌, sym, subst}
use mathlib.Core.List.{List, [], ◌∷◌, ◌++◌, append-nil, append_assoc}
use native.Mathlib.Decide.{dec_lt}
use native.Mathlib.Omega.{arith}
use lib.ListN.{length, get_or, take}
use lib.Seq.{take-append-le, get_or-take}
use Rattle.determine_side_effects.specs.graph_crate.Check.{Graph}
use Rattle.determine_side_effects.specs.facts_crate.declared.Fact.{Fact}
use Rattle.determine_side_effects.specs.facts_crate.Facts.{mark_count}
use Rattle.determine_side_effects.specs.Effects.{last_verdicts}
use Rattle.keep_record.specs.declared.Line.{Line}
use Rattle.keep_record.specs.Lines.{added, adds}
use Rattle.keep_record.specs.Held.{line_at, lines_of}
use Rattle.keep_record.proofs.Rows.{lines-length, lines_at}
use Rattle.keep_record.proofs.Adding.{added_prefix, adds_prefix}
use Rattle.worklist.specs.Drain.{line, news, drained, started, drained_all}
use Rattle.worklist.proofs.Ends.{drained_stop, drained_next, all_longer}
use Rattle.entry_starts.specs.Working.{Started}
use Rattle.entry_starts.proofs.Together.{Along, lines_after}
use Rattle.std.specs.Prelude.{Ok}

-- lines behind others
Behind : List Line → List Line → Type 0
Behind lines all = (rest : List Line) × (all ≡ lines ++ rest)

behind_both : (a b c : List Line) → Behind a b → Behind b c → Behind a c
unfolding Behind
behind_both a b c p q = (p.0 ++ q.0, q.1 ∙ ap (λ (l : List Line). l ++ q.0) p.1 ∙ append_assoc a p.0 q.0)

module _ (g : Graph) (v : List ℕ) (base : ℕ) where
  drained_behind : (fuel k : ℕ) (lines : List Line) → Behind lines (drained g v base fuel k lines)
  unfolding drained Behind
  drained_behind zero k lines = ([], sym (append-nil lines))
  drained_behind (suc fuel) k lines = go (dec_lt k (length lines)) (drained_behind fuel (k + 1) (adds g base lines (news g v base lines k)))
    where
      go : Dec (k < length lines) → Behind (adds g base lines (news g v base lines k)) (drained g v base fuel (k + 1) (adds g base lines (news g v base lines k))) → Behind lines (drained g v base (suc fuel) k lines)
      go (yes h) q = subst (λ (l : List Line). Behind lines l) (sym (drained_next g v base fuel k lines h)) (behind_both lines (adds g base lines (news g v base lines k)) (drained g v base fuel (k + 1) (adds g base lines (news g v base lines k))) (adds_prefix g base lines (news g v base lines k)) q)
      go (no h) q = let l : length lines ≤ k = omega arith in ([], drained_stop g v base (suc fuel) k lines l ∙ sym (append-nil lines))

  started_behind : (lines : List Line) (f : Fact) → Behind lines (started g v base lines f)
  unfolding started Behind
  started_behind lines f = behind_both lines (added g base lines (line f 0 0 0)) (started g v base lines f) (added_prefix g base lines (line f 0 0 0)) (drained_behind (mark_count g) (length lines) (added g base lines (line f 0 0 0)))

  all_behind : (fs : List Fact) (lines : List Line) → Behind lines (drained_all g v base fs lines)
  unfolding drained_all Behind
  all_behind [] lines = ([], sym (append-nil lines))
  all_behind (f ∷ fs) lines = behind_both lines (started g v base lines f) (drained_all g v base fs (started g v base lines f)) (started_behind lines f) (all_behind fs (started g v base lines f))

  -- the first lines stay
  pub take-drained_all : (fs : List Fact) (lines : List Line) (n : ℕ) → n ≤ length lines → take n (drained_all g v base fs lines) ≡ take n lines
  unfolding Behind
  take-drained_all fs lines n h = let p = all_behind fs lines in ap (take n) p.1 ∙ take-append-le n lines p.0 h

module _ (g : Graph) (base : ℕ) (fs : List Fact) (row : List ℕ) (c : ℕ) (p' m' row' : List ℕ) (d : ℕ) (s : Started g base fs (lines_of c row) p' m' row' (Ok d)) where
  pub started_more : c ≤ d
  started_more = omega (arith, lines-length c row, lines-length d row', ap length (lines_after g base fs (lines_of c row) p' m' row' d s), all_longer g (last_verdicts g) base fs (lines_of c row))

  pub take-started : (n : ℕ) → n ≤ c → take n (lines_of d row') ≡ take n (lines_of c row)
  take-started n h = ap (take n) (lines_after g base fs (lines_of c row) p' m' row' d s) ∙ take-drained_all g (last_verdicts g) base fs (lines_of c row) n (omega (arith, lines-length c row))

-- line k by the first lines
pub line_in_front : (row : List ℕ) (c n k : ℕ) (front : List Line) (z : Line) → take n (lines_of c row) ≡ front → k < n → n ≤ c → line_at row k ≡ get_or front k z
line_in_front row c n k front z e h l = sym (lines_at c row k z (omega arith)) ∙ sym (get_or-take n (lines_of c row) k z h) ∙ ap (λ (ls : List Line). get_or ls k z) e

-- in a loop, of rows that are the same
pub along_same : (g : Graph) (base : ℕ) (out : List Line) (left : List Fact) (p m row : List ℕ) (c : ℕ) → Along g base out left p m row c
    → {p' m' row' : List ℕ} {d : ℕ} → p' ≡ p → m' ≡ m → row' ≡ row → d ≡ c → Along g base out left p' m' row' d
along_same g base out left p m row c a e f h q = rw (e, f, h, q) a
