-- Facts started one after another: what was started so far, and what is still to be.
use Prim.Native.Nat.{ℕ, ◌≤◌}
use mathlib.Core.Path.{◌≡◌, refl, ap, ◌∙◌, sym, subst}
use mathlib.Core.List.{List, [], ◌∷◌, ◌++◌}
use lib.ListN.{length}
use Rattle.determine_side_effects.specs.graph_crate.Check.{Graph}
use Rattle.determine_side_effects.specs.facts_crate.declared.Fact.{Fact}
use Rattle.determine_side_effects.specs.Effects.{last_verdicts}
use Rattle.keep_record.specs.declared.Line.{Line}
use Rattle.keep_record.specs.Held.{lines_of, Grown}
use Rattle.worklist.specs.Drain.{started, drained_all}
use Rattle.worklist.specs.Links.{Linked, AllLinked}
use Rattle.include_statements.proofs.Going.{grown_as, full_more}
use Rattle.worklist.proofs.Ends.{all_longer}
use Rattle.entry_starts.specs.Working.{Working, Started}
use Rattle.std.specs.Prelude.{Result, Ok, Err}
use Rattle.keep_record.specs.declared.Full.{Full}
use Rattle.keep_record.specs.Held.{no_room}

pub all_append : (g : Graph) (v : List ℕ) (base : ℕ) (xs ys : List Fact) (lines : List Line) → drained_all g v base (xs ++ ys) lines ≡ drained_all g v base ys (drained_all g v base xs lines)
unfolding drained_all
all_append g v base [] ys lines = refl
all_append g v base (x ∷ xs) ys lines = all_append g v base xs ys (started g v base lines x)

module _ (g : Graph) (base : ℕ) where
  -- the rows after an addition that found room
  pub working_after : (facts : List Fact) (before : List Line) (partners marks row : List ℕ) (d : ℕ) → Started g base facts before partners marks row (Ok d) → Working g base partners marks row d
  working_after facts before partners marks row d s = record { held = (s.grown.held d refl).1; linked = s.linked.known d refl }

  pub lines_after : (facts : List Fact) (before : List Line) (partners marks row : List ℕ) (d : ℕ) → Started g base facts before partners marks row (Ok d) → lines_of d row ≡ drained_all g (last_verdicts g) base facts before
  lines_after facts before partners marks row d s = (s.grown.held d refl).0

  -- nothing was started
  pub started_none : (partners marks row : List ℕ) (c : ℕ) → Working g base partners marks row c → Started g base [] (lines_of c row) partners marks row (Ok c)
  unfolding drained_all
  started_none partners marks row c w =
      record {
        grown = grown_as g base (lines_of c row) marks row c refl w.held;
        linked = record { known = λ d e. (let q : d ≡ c = sym (lines_same e) in subst (λ (x : ℕ). Linked g base partners (lines_of x row)) (sym q) w.linked) };
      }
    where
      lines_same : {a b : ℕ} → ◌≡◌ {A = Result ℕ Full} (Ok a) (Ok b) → a ≡ b
      lines_same e = cc

  -- one fact, as `worklist::start` leaves the rows
  pub started_one : (f : Fact) (before : List Line) (partners marks row : List ℕ) (r : Result ℕ Full)
      → Grown g base (started g (last_verdicts g) base before f) marks row r × AllLinked g base partners row r → Started g base (f ∷ []) before partners marks row r
  unfolding drained_all
  started_one f before partners marks row r w = record { grown = w.0; linked = w.1 }

  -- some, and then others
  pub started_then : (xs ys : List Fact) (before : List Line) (p m row p' m' row' : List ℕ) (d : ℕ) (r : Result ℕ Full)
      → Started g base xs before p m row (Ok d) → Started g base ys (lines_of d row) p' m' row' r → Started g base (xs ++ ys) before p' m' row' r
  started_then xs ys before p m row p' m' row' d r s t =
      let e : drained_all g (last_verdicts g) base ys (lines_of d row) ≡ drained_all g (last_verdicts g) base (xs ++ ys) before =
      ap (λ (l : List Line). drained_all g (last_verdicts g) base ys l) (lines_after xs before p m row d s) ∙ sym (all_append g (last_verdicts g) base xs ys before) in
      record { grown = subst (λ (l : List Line). Grown g base l m' row' r) e t.grown; linked = t.linked }

  -- some that the record is too short for: too short for those and others
  pub started_full : (xs ys : List Fact) (before : List Line) (p m row : List ℕ) → Started g base xs before p m row no_room → Started g base (xs ++ ys) before p m row no_room
  started_full xs ys before p m row s =
      let l : length (drained_all g (last_verdicts g) base xs before) ≤ length (drained_all g (last_verdicts g) base (xs ++ ys) before) =
      rw (all_append g (last_verdicts g) base xs ys before) (all_longer g (last_verdicts g) base ys (drained_all g (last_verdicts g) base xs before)) in
      record { grown = full_more g base _ _ m row l s.grown; linked = s.linked }

-- In a loop: the rows hold what was started so far, and with what is left comes to the whole.
pub record Along (g : Graph) (base : ℕ) (out : List Line) (left : List Fact) (partners marks row : List ℕ) (c : ℕ) : Type 0 where
  pub working : Working g base partners marks row c
  pub on : drained_all g (last_verdicts g) base left (lines_of c row) ≡ out

module _ (g : Graph) (base : ℕ) where
  pub along_start : (facts : List Fact) (partners marks row : List ℕ) (c : ℕ) → Working g base partners marks row c → Along g base (drained_all g (last_verdicts g) base facts (lines_of c row)) facts partners marks row c
  along_start facts partners marks row c w = record { working = w; on = refl }

  -- the next ones were started
  pub along_step : (out : List Line) (xs left : List Fact) (p m row : List ℕ) (c : ℕ) → Along g base out (xs ++ left) p m row c
      → (p' m' row' : List ℕ) (d : ℕ) → Started g base xs (lines_of c row) p' m' row' (Ok d) → Along g base out left p' m' row' d
  along_step out xs left p m row c a p' m' row' d s =
      record {
        working = working_after g base xs (lines_of c row) p' m' row' d s;
        on = ap (λ (l : List Line). drained_all g (last_verdicts g) base left l) (lines_after g base xs (lines_of c row) p' m' row' d s) ∙ sym (all_append g (last_verdicts g) base xs left (lines_of c row)) ∙ a.on;
      }

  pub along_full : (facts : List Fact) (before : List Line) (xs left : List Fact) (p m row : List ℕ) (c : ℕ) → Along g base (drained_all g (last_verdicts g) base facts before) (xs ++ left) p m row c
      → (p' m' row' : List ℕ) → Started g base xs (lines_of c row) p' m' row' no_room → Started g base facts before p' m' row' no_room
  along_full facts before xs left p m row c a p' m' row' s =
      let t = started_full g base xs left (lines_of c row) p' m' row' s in
      record { grown = subst (λ (l : List Line). Grown g base l m' row' no_room) a.on t.grown; linked = t.linked }

  pub along_done : (facts : List Fact) (before : List Line) (p m row : List ℕ) (c : ℕ) → Along g base (drained_all g (last_verdicts g) base facts before) [] p m row c
      → Started g base facts before p m row (Ok c)
  along_done facts before p m row c a =
      let t = started_none g base p m row c a.working in
      record { grown = subst (λ (l : List Line). Grown g base l m row (Ok c)) a.on t.grown; linked = t.linked }

  -- what is left may be said in another way
  pub along_as : (out : List Line) (left other : List Fact) (p m row : List ℕ) (c : ℕ) → left ≡ other → Along g base out left p m row c → Along g base out other p m row c
  along_as out left other p m row c e a = record { working = a.working; on = ap (λ (l : List Fact). drained_all g (last_verdicts g) base l (lines_of c row)) (sym e) ∙ a.on }
