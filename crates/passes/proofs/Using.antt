-- The helpers of a word, used one after another, and the runtime where there is none.
use Prim.Native.Nat.{ℕ, ◌+◌, ◌-◌, ◌<◌, ◌≤◌}
use mathlib.Core.Path.{◌≡◌, ap, ◌∙◌, sym}
use mathlib.Core.Bool.{Bool, true, false}
use mathlib.Core.List.{List, [], ◌∷◌, ◌++◌, map}
use native.Mathlib.Omega.{arith}
use borrow.Author.Tests.{eq-eqb, ne_eqb}
use lib.ListN.{get_or}
use Rattle.determine_side_effects.specs.graph_format_crate.declared.Header.{Header}
use Rattle.determine_side_effects.specs.graph_crate.Check.{Graph}
use Rattle.determine_side_effects.specs.graph_access_crate.Names.{only}
use Rattle.determine_side_effects.specs.graph_access_crate.Words.{flag, tabulate}
use Rattle.determine_side_effects.specs.index_crate.declared.SymbolIdx.{SymbolIdx}
use Rattle.determine_side_effects.specs.facts_crate.declared.Fact.{Fact}
use Rattle.determine_side_effects.specs.facts_crate.declared.Fact.TheVariants.{Use}
use Rattle.determine_side_effects.specs.facts_crate.Facts.{module_fact, use_fact}
use Rattle.determine_side_effects.proofs.facts_crate.Folds.{tabulate_next, tabulate-none}
use Rattle.determine_side_effects.specs.Effects.{last_verdicts, has_effects}
use Rattle.keep_record.specs.declared.Line.{Line}
use Rattle.keep_record.specs.Held.{lines_of}
use Rattle.entry_order.specs.Order.{those}
use Rattle.worklist.specs.Drain.{drained_all}
use Rattle.entry_starts.specs.Working.{Working, Started}
use Rattle.entry_starts.proofs.Together.{Along, along_start, along_step, along_full, along_done, along_as}
use Rattle.passes.specs.Helpers.{runtime_starts}
use Rattle.std.specs.Prelude.{Ok}
use Rattle.keep_record.specs.Held.{no_room}

-- the helpers of a word, and those from number k on
abbrev pub helper_uses : Graph → ℕ → ℕ → List Fact
helper_uses g word n = map (λ h. use_fact (only (get_or g.helpers h [])) 1) (those (λ h. flag h word) (tabulate (λ h. h) 0 n))

unfoldable pub uses_from : Graph → ℕ → ℕ → ℕ → List Fact
uses_from g word n k = map (λ h. use_fact (only (get_or g.helpers h [])) 1) (those (λ h. flag h word) (tabulate (λ h. h) k (n - k)))

module _ (g : Graph) (word n : ℕ) where
  uses_whole : uses_from g word n 0 ≡ helper_uses g word n
  unfolding uses_from
  uses_whole = let z : n - 0 ≡ n = omega arith in rw z

  uses_over : (k : ℕ) → n ≤ k → uses_from g word n k ≡ []
  unfolding uses_from those
  uses_over k l = rw (tabulate-none (λ h. h) n k l)

  module _ (k : ℕ) (l : k < n) (b : Bool) (say : b ≡ flag k word) where
    uses-here : b ≡ true → (s : SymbolIdx) → s.0 ≡ only (get_or g.helpers k []) → uses_from g word n k ≡ (Use s (record { bits = 1 }) ∷ []) ++ uses_from g word n (k + 1)
    unfolding uses_from those
    uses-here e s q =
        let y : flag k word ≡ true = sym say ∙ e in
        let f : use_fact (only (get_or g.helpers k [])) 1 ≡ Use s (record { bits = 1 }) = ap (λ j. use_fact j 1) (sym q) in
        rw (tabulate_next (λ h. h) n k l, y, those) (ap (λ (x : Fact). x ∷ uses_from g word n (k + 1)) f)

    uses-other : b ≡ false → uses_from g word n k ≡ uses_from g word n (k + 1)
    unfolding uses_from those
    uses-other e = let y : flag k word ≡ false = sym say ∙ e in rw (tabulate_next (λ h. h) n k l, y, those)

module _ (g : Graph) (base word n : ℕ) where
  pub using_start : (p m row : List ℕ) (c : ℕ) → Working g base p m row c
      → Along g base (drained_all g (last_verdicts g) base (helper_uses g word n) (lines_of c row)) (uses_from g word n 0) p m row c
  using_start p m row c w = along_as g base _ _ _ p m row c (sym (uses_whole g word n)) (along_start g base (helper_uses g word n) p m row c w)

  module _ (facts : List Fact) (before : List Line) (p m row : List ℕ) (c k : ℕ) (a : Along g base (drained_all g (last_verdicts g) base facts before) (uses_from g word n k) p m row c) where
    module _ (l : k < n) (b : Bool) (say : b ≡ flag k word) where
      pub using-step : b ≡ true → (s : SymbolIdx) → s.0 ≡ only (get_or g.helpers k []) → (p' m' row' : List ℕ) (d : ℕ) → Started g base (Use s (record { bits = 1 }) ∷ []) (lines_of c row) p' m' row' (Ok d)
          → Along g base (drained_all g (last_verdicts g) base facts before) (uses_from g word n (k + 1)) p' m' row' d
      using-step e s q p' m' row' d t = along_step g base _ _ _ p m row c (along_as g base _ _ _ p m row c (uses-here g word n k l b say e s q) a) p' m' row' d t

      pub using-other : b ≡ false → Along g base (drained_all g (last_verdicts g) base facts before) (uses_from g word n (k + 1)) p m row c
      using-other e = along_as g base _ _ _ p m row c (uses-other g word n k l b say e) a

      pub using-full : b ≡ true → (s : SymbolIdx) → s.0 ≡ only (get_or g.helpers k []) → (p' m' row' : List ℕ) → Started g base (Use s (record { bits = 1 }) ∷ []) (lines_of c row) p' m' row' no_room
          → Started g base facts before p' m' row' no_room
      using-full e s q p' m' row' t = along_full g base facts before _ _ p m row c (along_as g base _ _ _ p m row c (uses-here g word n k l b say e s q) a) p' m' row' t

    pub using-done : n ≤ k → Started g base facts before p m row (Ok c)
    using-done l = along_done g base facts before p m row c (along_as g base _ _ _ p m row c (uses_over g word n k l) a)

-- what the runtime stage starts
module _ (g : Graph) (v : List ℕ) (word : ℕ) where
  pub runtime_helpers : (word ≡ 0 → ⊥) → helper_uses g word g.header.helpers ≡ runtime_starts g v word
  unfolding runtime_starts
  runtime_helpers e = rw (ne_eqb word 0 e, runtime_starts)

  module _ (none : word ≡ 0) (x : Header) (is : x ≡ g.header) (b : Bool) (say : b ≡ has_effects v x.runtime) where
    says : has_effects v g.header.runtime ≡ b
    says = ap (λ (h : Header). has_effects v h.runtime) (sym is) ∙ sym say

    pub runtime_none : b ≡ false → runtime_starts g v word ≡ []
    unfolding runtime_starts
    runtime_none e = let y = says ∙ e in rw (eq-eqb word 0 none, y, runtime_starts)

    pub runtime-itself : b ≡ true → module_fact x.runtime ∷ [] ≡ runtime_starts g v word
    unfolding runtime_starts
    runtime-itself e = let y = says ∙ e in ap (λ (h : Header). module_fact h.runtime ∷ []) is ∙ rw (eq-eqb word 0 none, y, runtime_starts)

pub no_word : {word : ℕ} → word ≤ 0 → word ≡ 0
no_word l = omega (arith, l)
