-- The exports from CommonJS of a module, used one after another.
use Prim.Native.Nat.{ℕ, suc, ◌+◌, ◌<◌, ◌≤◌}
use mathlib.Core.Path.{◌≡◌, ap, ◌∙◌, sym}
use mathlib.Core.List.{List, [], ◌∷◌, ◌++◌}
use native.Mathlib.Numerals.{add-one}
use native.Mathlib.Omega.{arith}
use borrow.Author.Tests.{eq-eqb, ne_eqb}
use lib.ListN.{length, get_or, drop, drop_of_length-le}
use lib.Seq.{drop-cons}
use Rattle.determine_side_effects.specs.graph_crate.Check.{Graph}
use Rattle.determine_side_effects.specs.graph_access_crate.Names.{export_symbol, export_from_common_js}
use Rattle.determine_side_effects.specs.index_crate.declared.SymbolIdx.{SymbolIdx}
use Rattle.determine_side_effects.specs.facts_crate.declared.Fact.{Fact}
use Rattle.determine_side_effects.specs.facts_crate.declared.Fact.TheVariants.{CheckedUse}
use Rattle.determine_side_effects.specs.facts_crate.Facts.{checked_fact}
use Rattle.determine_side_effects.specs.Effects.{last_verdicts}
use Rattle.keep_record.specs.declared.Line.{Line}
use Rattle.keep_record.specs.Held.{lines_of}
use Rattle.worklist.specs.Drain.{drained_all}
use Rattle.entry_starts.specs.Working.{Working, Started}
use Rattle.entry_starts.proofs.Together.{Along, along_start, along_step, along_full, along_done, along_as}
use Rattle.passes.specs.Bailouts.{export_starts}
use Rattle.std.specs.Prelude.{Ok}
use Rattle.keep_record.specs.Held.{no_room}

module _ (rows : List (List ℕ)) (n : ℕ) (size : n ≡ length rows) (k : ℕ) where
  exports_over : n ≤ k → export_starts (drop k rows) ≡ []
  unfolding export_starts
  exports_over h = let l : length rows ≤ k = omega (arith, size) in rw (drop_of_length-le rows l)

  module _ (h : k < n) (x : ℕ) (is : x ≡ export_from_common_js (get_or rows k [])) where
    exports-here : x ≡ 1 → (s : SymbolIdx) → s.0 ≡ export_symbol (get_or rows k []) → export_starts (drop k rows) ≡ (CheckedUse s (record { bits = 1 }) ∷ []) ++ export_starts (drop (k + 1) rows)
    unfolding export_starts
    exports-here e s q =
        let l : k < length rows = omega (arith, size) in
        let y = eq-eqb (export_from_common_js (get_or rows k [])) 1 (sym is ∙ e) in
        let f : checked_fact (export_symbol (get_or rows k [])) 1 ≡ CheckedUse s (record { bits = 1 }) = ap (λ j. checked_fact j 1) (sym q) in
        rw (drop-cons rows k [] l, y, export_starts) (ap (λ (j : Fact). j ∷ export_starts (drop (suc k) rows)) f ∙ ap (λ j. CheckedUse s (record { bits = 1 }) ∷ export_starts (drop j rows)) (sym (add-one k)))

    exports-other : (x ≡ 1 → ⊥) → export_starts (drop k rows) ≡ export_starts (drop (k + 1) rows)
    unfolding export_starts
    exports-other e =
        let l : k < length rows = omega (arith, size) in
        let y = ne_eqb (export_from_common_js (get_or rows k [])) 1 (λ q. e (is ∙ q)) in
        rw (drop-cons rows k [] l, y, export_starts) (ap (λ j. export_starts (drop j rows)) (sym (add-one k)))

module _ (g : Graph) (base : ℕ) (rows : List (List ℕ)) (n : ℕ) (size : n ≡ length rows) where
  pub exporting_start : (p m row : List ℕ) (c : ℕ) → Working g base p m row c
      → Along g base (drained_all g (last_verdicts g) base (export_starts rows) (lines_of c row)) (export_starts (drop 0 rows)) p m row c
  exporting_start p m row c w = along_start g base (export_starts rows) p m row c w

  module _ (facts : List Fact) (before : List Line) (p m row : List ℕ) (c k : ℕ) (a : Along g base (drained_all g (last_verdicts g) base facts before) (export_starts (drop k rows)) p m row c) where
    module _ (h : k < n) (x : ℕ) (is : x ≡ export_from_common_js (get_or rows k [])) where
      pub exporting-step : x ≡ 1 → (s : SymbolIdx) → s.0 ≡ export_symbol (get_or rows k []) → (p' m' row' : List ℕ) (d : ℕ) → Started g base (CheckedUse s (record { bits = 1 }) ∷ []) (lines_of c row) p' m' row' (Ok d)
          → Along g base (drained_all g (last_verdicts g) base facts before) (export_starts (drop (k + 1) rows)) p' m' row' d
      exporting-step e s q p' m' row' d t = along_step g base _ _ _ p m row c (along_as g base _ _ _ p m row c (exports-here rows n size k h x is e s q) a) p' m' row' d t

      pub exporting-other : (x ≡ 1 → ⊥) → Along g base (drained_all g (last_verdicts g) base facts before) (export_starts (drop (k + 1) rows)) p m row c
      exporting-other e = along_as g base _ _ _ p m row c (exports-other rows n size k h x is e) a

      pub exporting-full : x ≡ 1 → (s : SymbolIdx) → s.0 ≡ export_symbol (get_or rows k []) → (p' m' row' : List ℕ) → Started g base (CheckedUse s (record { bits = 1 }) ∷ []) (lines_of c row) p' m' row' no_room
          → Started g base facts before p' m' row' no_room
      exporting-full e s q p' m' row' t = along_full g base facts before _ _ p m row c (along_as g base _ _ _ p m row c (exports-here rows n size k h x is e s q) a) p' m' row' t

    pub exporting-done : n ≤ k → Started g base facts before p m row (Ok c)
    exporting-done h = along_done g base facts before p m row c (along_as g base _ _ _ p m row c (exports_over rows n size k h) a)
