-- The bailouts of the first lines, in their order, while the record grows behind these lines.
use Prim.Native.Nat.{ℕ, ◌+◌, ◌*◌, ◌<◌, ◌≤◌}
use mathlib.Core.Path.{◌≡◌, refl, ap, ◌∙◌, sym, subst}
use mathlib.Core.List.{List, [], ◌++◌}
use native.Mathlib.Numerals.{add-one}
use native.Mathlib.Omega.{arith}
use lib.ListN.{length, get_or, take, drop, drop_of_length-le}
use lib.Seq.{drop-cons}
use Rattle.determine_side_effects.specs.graph_crate.Check.{Graph}
use Rattle.determine_side_effects.specs.graph_access_crate.Names.{resolved_exports}
use Rattle.determine_side_effects.specs.graph_access_crate.Words.{module_of}
use Rattle.determine_side_effects.specs.facts_crate.declared.Fact.{Fact}
use Rattle.determine_side_effects.specs.facts_crate.declared.Fact.TheVariants.{Module, Statement, Use, CheckedUse, Forward, Bailout}
use Rattle.determine_side_effects.specs.facts_crate.Facts.{kind_of, first_part, module_fact, Good}
use Rattle.determine_side_effects.specs.Effects.{last_verdicts}
use Rattle.keep_record.specs.declared.Line.{Line}
use Rattle.keep_record.specs.Held.{line_at, lines_of}
use Rattle.keep_record.proofs.Rows.{lines-length, lines-take}
use Rattle.worklist.specs.Drain.{line, drained_all}
use Rattle.entry_starts.specs.Working.{Working, Started}
use Rattle.entry_starts.proofs.Together.{Along, along_start, along_step, along_full, along_done, along_as}
use Rattle.passes.specs.Bailouts.{export_starts, bailout_starts, bailouts_starts}
use Rattle.passes.proofs.Staying.{started_more, take-started, line_in_front}
use Rattle.std.specs.Prelude.{Ok}
use Rattle.keep_record.specs.Held.{no_room}

-- a fact of kind 6 is a bailout
bailout_is : (g : Graph) (f : Fact) → kind_of f ≡ 6 → bailout_starts g f ≡ export_starts (resolved_exports (module_of g (first_part f)))
unfolding bailout_starts
bailout_is g (Module m) e = absurd (omega arith)
bailout_is g (Statement m i) e = absurd (omega arith)
bailout_is g (Use s x) e = absurd (omega arith)
bailout_is g (CheckedUse s x) e = absurd (omega arith)
bailout_is g (Forward s) e = absurd (omega arith)
bailout_is g (Bailout m) e = refl

bailout_not : (g : Graph) (f : Fact) → (kind_of f ≡ 6 → ⊥) → bailout_starts g f ≡ []
unfolding bailout_starts
bailout_not g (Module m) e = refl
bailout_not g (Statement m i) e = refl
bailout_not g (Use s x) e = refl
bailout_not g (CheckedUse s x) e = refl
bailout_not g (Forward s) e = refl
bailout_not g (Bailout m) e = absurd (e refl)

bailout_below : (g : Graph) (f : Fact) → kind_of f ≡ 6 → Good g f → first_part f < g.header.modules
bailout_below g (Module m) e h = absurd (omega arith)
bailout_below g (Statement m i) e h = absurd (omega arith)
bailout_below g (Use s x) e h = absurd (omega arith)
bailout_below g (CheckedUse s x) e h = absurd (omega arith)
bailout_below g (Forward s) e h = absurd (omega arith)
bailout_below g (Bailout m) e h = h

-- `front` are the first `count` lines, and its lines from number k on are left
pub record Gathering (g : Graph) (out front : List Line) (count k : ℕ) (p m row : List ℕ) (c : ℕ) : Type 0 where
  pub along : Along g 0 out (bailouts_starts g (drop k front)) p m row c
  pub kept : take count (lines_of c row) ≡ front
  pub more : count ≤ c
  pub size : length front ≡ count

pub gathering_start : (g : Graph) (taken : ℕ) (p m row : List ℕ) (c : ℕ) → Working g 0 p m row c
    → Gathering g (drained_all g (last_verdicts g) 0 (bailouts_starts g (drop taken (lines_of c row))) (lines_of c row)) (lines_of c row) c taken p m row c
gathering_start g taken p m row c w =
    let l : c ≤ c = omega arith in
    record { along = along_start g 0 (bailouts_starts g (drop taken (lines_of c row))) p m row c w; kept = lines-take c row c l; more = l; size = lines-length c row }

module _ (g : Graph) (facts : List Fact) (before front : List Line) (count k : ℕ) (p m row : List ℕ) (c : ℕ) (s : Gathering g (drained_all g (last_verdicts g) 0 facts before) front count k p m row c) where
  -- line k
  pub gathering_room : k < count → 6 * k + 6 ≤ length row
  gathering_room h = omega (arith, s.along.working.held.room, s.more, h)

  pub gathering_over : count ≤ k → Started g 0 facts before p m row (Ok c)
  unfolding bailouts_starts
  gathering_over h =
      let l : length front ≤ k = omega (arith, s.size, h) in
      let e : bailouts_starts g (drop k front) ≡ [] = rw (drop_of_length-le front l) in
      along_done g 0 facts before p m row c (along_as g 0 _ _ _ p m row c e s.along)

  module _ (h : k < count) (f : Fact) (is : f ≡ (line_at row k).fact) where
    z : Line
    z = line (module_fact 0) 0 0 0

    first_is : f ≡ (get_or front k z).fact
    first_is = is ∙ ap (λ (l : Line). l.fact) (line_in_front row c count k front z s.kept h s.more)

    left_is : bailouts_starts g (drop k front) ≡ bailout_starts g f ++ bailouts_starts g (drop (k + 1) front)
    unfolding bailouts_starts
    left_is =
        let l : k < length front = omega (arith, s.size, h) in
        rw (first_is, add-one k, drop-cons front k z l)

    pub gathering-other : (kind_of f ≡ 6 → ⊥) → Gathering g (drained_all g (last_verdicts g) 0 facts before) front count (k + 1) p m row c
    gathering-other e =
        let q : bailouts_starts g (drop k front) ≡ bailouts_starts g (drop (k + 1) front) = left_is ∙ rw (bailout_not g f e) in
        record { along = along_as g 0 _ _ _ p m row c q s.along; kept = s.kept; more = s.more; size = s.size }

    module _ (e : kind_of f ≡ 6) (x : ℕ) (part : x ≡ first_part f) where
      next-is : bailouts_starts g (drop k front) ≡ export_starts (resolved_exports (module_of g x)) ++ bailouts_starts g (drop (k + 1) front)
      next-is =
          left_is
          ∙ ap (λ (fs : List Fact). fs ++ bailouts_starts g (drop (k + 1) front)) (bailout_is g f e)
          ∙ ap (λ (y : ℕ). export_starts (resolved_exports (module_of g y)) ++ bailouts_starts g (drop (k + 1) front)) (sym part)

      pub gathering-below : x < g.header.modules
      gathering-below = rw part (bailout_below g f e (subst (λ (y : Fact). Good g y) (sym is) (s.along.working.held.good k (omega (arith, s.more, h)))))

      pub gathering-step : (p' m' row' : List ℕ) (d : ℕ) → Started g 0 (export_starts (resolved_exports (module_of g x))) (lines_of c row) p' m' row' (Ok d)
          → Gathering g (drained_all g (last_verdicts g) 0 facts before) front count (k + 1) p' m' row' d
      gathering-step p' m' row' d t =
          record {
            along = along_step g 0 _ _ _ p m row c (along_as g 0 _ _ _ p m row c next-is s.along) p' m' row' d t;
            kept = take-started g 0 _ row c p' m' row' d t count s.more ∙ s.kept;
            more = omega (arith, s.more, started_more g 0 _ row c p' m' row' d t);
            size = s.size;
          }

      pub gathering-full : (p' m' row' : List ℕ) → Started g 0 (export_starts (resolved_exports (module_of g x))) (lines_of c row) p' m' row' no_room → Started g 0 facts before p' m' row' no_room
      gathering-full p' m' row' t = along_full g 0 facts before _ _ p m row c (along_as g 0 _ _ _ p m row c next-is s.along) p' m' row' t

-- of rows that are the same
pub gathering_same : (g : Graph) (out front : List Line) (count k : ℕ) (p m row : List ℕ) (c : ℕ) → Gathering g out front count k p m row c
    → {p' m' row' : List ℕ} {d : ℕ} → p' ≡ p → m' ≡ m → row' ≡ row → d ≡ c → Gathering g out front count k p' m' row' d
gathering_same g out front count k p m row c a e f h q = rw (e, f, h, q) a
