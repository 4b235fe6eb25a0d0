-- The entry references of a module, started one after another, and the module behind them.
use Prim.Native.Nat.{ℕ, ◌+◌, ◌<◌, ◌≤◌}
use mathlib.Core.Path.{◌≡◌, ap, ◌∙◌, sym, subst}
use mathlib.Core.Bool.{true, false}
use mathlib.Core.List.{List, [], ◌∷◌, ◌++◌, append_assoc}
use native.Mathlib.Numerals.{add-one}
use native.Mathlib.Omega.{arith}
use lib.ListN.{length, get_or, drop, drop_of_length-le}
use lib.Seq.{drop-cons}
use Rattle.determine_side_effects.specs.graph_crate.Check.{Graph}
use Rattle.determine_side_effects.specs.graph_access_crate.Names.{owner, entry_references, only}
use Rattle.determine_side_effects.specs.graph_access_crate.Words.{module_of, symbol_of, normal}
use Rattle.determine_side_effects.specs.facts_crate.declared.Fact.{Fact}
use Rattle.determine_side_effects.specs.facts_crate.Facts.{module_fact, checked_fact, bailout_fact}
use Rattle.determine_side_effects.specs.Effects.{last_verdicts}
use Rattle.keep_record.specs.declared.Line.{Line}
use Rattle.keep_record.specs.Held.{lines_of, Grown}
use Rattle.worklist.specs.Drain.{drained_all}
use Rattle.entry_starts.specs.Starts.{declared, reference_starts, references_starts, module_starts, user_starts}
use Rattle.entry_starts.specs.Working.{Working, Started}
use Rattle.entry_starts.proofs.Together.{Along, along_start, along_step, along_full, along_as, started_none, started_then, started_full}
use Rattle.std.specs.Prelude.{Result, Ok}
use Rattle.keep_record.specs.declared.Full.{Full}
use Rattle.keep_record.specs.Held.{no_room}

-- what starts nothing
pub started_nothing : (g : Graph) (base : ℕ) (facts : List Fact) → facts ≡ [] → (p m row : List ℕ) (c : ℕ) → Working g base p m row c → Started g base facts (lines_of c row) p m row (Ok c)
started_nothing g base facts e p m row c w = subst (λ (fs : List Fact). Started g base fs (lines_of c row) p m row (Ok c)) (sym e) (started_none g base p m row c w)

-- facts said in another way
pub started_as : (g : Graph) (base : ℕ) (xs ys : List Fact) → xs ≡ ys → (before : List Line) (p m row : List ℕ) (r : Result ℕ Full) → Started g base xs before p m row r → Started g base ys before p m row r
started_as g base xs ys e before p m row r s = subst (λ (fs : List Fact). Started g base fs before p m row r) e s

-- the last ones of a loop's whole, behind the loop
pub along_last : (g : Graph) (base : ℕ) (facts : List Fact) (before : List Line) (left : List Fact) (p m row : List ℕ) (c : ℕ) → Along g base (drained_all g (last_verdicts g) base facts before) left p m row c
    → (p' m' row' : List ℕ) (r : Result ℕ Full) → Started g base left (lines_of c row) p' m' row' r → Started g base facts before p' m' row' r
along_last g base facts before left p m row c a p' m' row' r s = record { grown = subst (λ (l : List Line). Grown g base l m' row' r) a.on s.grown; linked = s.linked }

-- a reference, by whether its owner is normal
module _ (g : Graph) (s o : ℕ) (is : o ≡ owner (symbol_of g s)) where
  pub reference_none : normal g o ≡ false → reference_starts g s ≡ []
  unfolding reference_starts
  reference_none e = let z : normal g (owner (symbol_of g s)) ≡ false = ap (normal g) (sym is) ∙ e in rw (z, reference_starts)

  pub reference_is : normal g o ≡ true → declared g s ++ (checked_fact s 2 ∷ []) ≡ reference_starts g s
  unfolding reference_starts
  reference_is e = let z : normal g (owner (symbol_of g s)) ≡ true = ap (normal g) (sym is) ∙ e in rw (z, reference_starts)

  -- its statements and its checked use were started
  pub reference_then : normal g o ≡ true → (base : ℕ) (before : List Line) (p m row p' m' row' : List ℕ) (d : ℕ) (r : Result ℕ Full) → Started g base (declared g s) before p m row (Ok d)
      → Started g base (checked_fact s 2 ∷ []) (lines_of d row) p' m' row' r → Started g base (reference_starts g s) before p' m' row' r
  reference_then e base before p m row p' m' row' d r a b = started_as g base _ _ (reference_is e) before p' m' row' r (started_then g base _ _ before p m row p' m' row' d r a b)

  pub reference_full : normal g o ≡ true → (base : ℕ) (before : List Line) (p m row : List ℕ) → Started g base (declared g s) before p m row no_room → Started g base (reference_starts g s) before p m row no_room
  reference_full e base before p m row a = started_as g base _ _ (reference_is e) before p m row no_room (started_full g base _ (checked_fact s 2 ∷ []) before p m row a)

-- a module
module _ (g : Graph) (m : ℕ) where
  pub module_none : normal g m ≡ false → module_starts g m ≡ []
  unfolding module_starts
  module_none e = rw (e, module_starts)

  pub user_none : normal g m ≡ false → user_starts g m ≡ []
  unfolding user_starts
  user_none e = rw (e, user_starts)

  pub user_is : normal g m ≡ true → (bailout_fact m ∷ []) ++ module_starts g m ≡ user_starts g m
  unfolding user_starts
  user_is e = rw (e, user_starts)

  -- its bailout and what it starts as an entry were started
  pub user_then : normal g m ≡ true → (base : ℕ) (before : List Line) (p marks row p' m' row' : List ℕ) (d : ℕ) (r : Result ℕ Full) → Started g base (bailout_fact m ∷ []) before p marks row (Ok d)
      → Started g base (module_starts g m) (lines_of d row) p' m' row' r → Started g base (user_starts g m) before p' m' row' r
  user_then e base before p marks row p' m' row' d r a b = started_as g base _ _ (user_is e) before p' m' row' r (started_then g base _ _ before p marks row p' m' row' d r a b)

  pub user_full : normal g m ≡ true → (base : ℕ) (before : List Line) (p marks row : List ℕ) → Started g base (bailout_fact m ∷ []) before p marks row no_room → Started g base (user_starts g m) before p marks row no_room
  user_full e base before p marks row a = started_as g base _ _ (user_is e) before p marks row no_room (started_full g base _ (module_starts g m) before p marks row a)

-- what a module starts from its reference k on
unfoldable pub referred_from : Graph → ℕ → ℕ → List Fact
referred_from g m k = references_starts g (drop k (entry_references (module_of g m))) ++ module_fact m ∷ []

module _ (g : Graph) (m n : ℕ) (size : n ≡ length (entry_references (module_of g m))) where
  pub referred_whole : normal g m ≡ true → referred_from g m 0 ≡ module_starts g m
  unfolding referred_from module_starts
  referred_whole e = rw (e, module_starts)

  pub referred_over : (k : ℕ) → n ≤ k → referred_from g m k ≡ module_fact m ∷ []
  unfolding referred_from references_starts
  referred_over k h = let l : length (entry_references (module_of g m)) ≤ k = omega (arith, size) in rw (drop_of_length-le (entry_references (module_of g m)) l)

  pub referred_next : (k : ℕ) → k < n → (s : ℕ) → s ≡ only (get_or (entry_references (module_of g m)) k []) → referred_from g m k ≡ reference_starts g s ++ referred_from g m (k + 1)
  unfolding referred_from references_starts
  referred_next k h s e =
      let l : k < length (entry_references (module_of g m)) = omega (arith, size) in
      let q : references_starts g (drop k (entry_references (module_of g m))) ≡ reference_starts g s ++ references_starts g (drop (k + 1) (entry_references (module_of g m))) = rw (e, add-one k, drop-cons (entry_references (module_of g m)) k [] l) in
      rw (q, append_assoc (reference_starts g s))

  module _ (base : ℕ) (facts : List Fact) (before : List Line) (p marks row : List ℕ) (c k : ℕ) (a : Along g base (drained_all g (last_verdicts g) base facts before) (referred_from g m k) p marks row c) where
    pub referring-step : k < n → (s : ℕ) → s ≡ only (get_or (entry_references (module_of g m)) k []) → (p' m' row' : List ℕ) (d : ℕ) → Started g base (reference_starts g s) (lines_of c row) p' m' row' (Ok d)
        → Along g base (drained_all g (last_verdicts g) base facts before) (referred_from g m (k + 1)) p' m' row' d
    referring-step h s e p' m' row' d t = along_step g base _ _ _ p marks row c (along_as g base _ _ _ p marks row c (referred_next k h s e) a) p' m' row' d t

    pub referring-full : k < n → (s : ℕ) → s ≡ only (get_or (entry_references (module_of g m)) k []) → (p' m' row' : List ℕ) → Started g base (reference_starts g s) (lines_of c row) p' m' row' no_room → Started g base facts before p' m' row' no_room
    referring-full h s e p' m' row' t = along_full g base facts before _ _ p marks row c (along_as g base _ _ _ p marks row c (referred_next k h s e) a) p' m' row' t

    pub referring-last : n ≤ k → (p' m' row' : List ℕ) (r : Result ℕ Full) → Started g base (module_fact m ∷ []) (lines_of c row) p' m' row' r → Started g base facts before p' m' row' r
    referring-last h p' m' row' r t = along_last g base facts before _ p marks row c (along_as g base _ _ _ p marks row c (referred_over k h) a) p' m' row' r t

  pub referring_start : normal g m ≡ true → (base : ℕ) (p marks row : List ℕ) (c : ℕ) → Working g base p marks row c
      → Along g base (drained_all g (last_verdicts g) base (module_starts g m) (lines_of c row)) (referred_from g m 0) p marks row c
  referring_start e base p marks row c w = along_as g base _ _ _ p marks row c (sym (referred_whole e)) (along_start g base (module_starts g m) p marks row c w)
