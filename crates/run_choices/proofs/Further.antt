-- Lines are only appended, and a live module stays live.
use Prim.Native.Nat.{ℕ, zero, suc, ◌+◌, ◌≤◌}
use mathlib.Core.Path.{◌≡◌, refl, ap, ◌∙◌, sym, subst}
use mathlib.Core.Bool.{Bool, true, false, ◌||◌}
use mathlib.Core.List.{List, [], ◌∷◌, ◌++◌, append_assoc, append-nil}
use native.Mathlib.Omega.{arith}
use lib.Dec.{eqb, ltb}
use lib.ListN.{length, take, drop, length-append}
use lib.Seq.{take-append_seam, take-append-le, drop-append_seam}
use Rattle.determine_side_effects.specs.graph_crate.Check.{Graph}
use Rattle.determine_side_effects.specs.facts_crate.declared.Fact.{Fact}
use Rattle.determine_side_effects.specs.facts_crate.Facts.{mark_count}
use Rattle.keep_record.specs.declared.Line.{Line}
use Rattle.keep_record.specs.Lines.{added, adds}
use Rattle.keep_record.proofs.Adding.{added_prefix, adds_prefix}
use Rattle.worklist.specs.Drain.{line, news, drained, started, drained_all}
use Rattle.entry_order.specs.Order.{module_of_entry}
use Rattle.entry_starts.specs.Starts.{module_starts}
use Rattle.dynamic_entries.specs.Sorted.{sorted_entries}
use Rattle.dynamic_entries.specs.Tries.{Progress, starting, lives, now_live, now_dead, tried, tries}
use Rattle.passes.specs.Bailouts.{bailouts_starts}
use Rattle.tree_shaking.specs.Rounds.{bailed, round, Ended, ended_at, rounds_from}
use Rattle.closed_choices.specs.Choice.{HasLine}
use Rattle.closed_choices.proofs.Every.{Every}
use Rattle.closed_choices.proofs.Handling.{fact_front}

pub record Goes (before after : List Line) : Type 0 where
  pub rest : List Line
  pub is : after ≡ before ++ rest

pub goes_none : (a : List Line) → Goes a a
goes_none a = record { rest = []; is = sym (append-nil a) }

pub goes_on_lem : (a b c : List Line) → Goes a b → Goes b c → Goes a c
goes_on_lem a b c p q =
    record { rest = p.rest ++ q.rest; is = q.is ∙ ap (λ (l : List Line). l ++ q.rest) p.is ∙ append_assoc a p.rest q.rest }

pub goes_longer : (a b : List Line) → Goes a b → length a ≤ length b
goes_longer a b p = let l : length b ≡ length a + length p.rest = ap (λ (x : List Line). length x) p.is ∙ length-append a p.rest in omega (arith, l)

none_left : (xs : List Line) → length xs ≡ 0 → xs ≡ []
none_left [] e = refl
none_left (x ∷ xs) e = absurd (omega (arith, e))

pub goes_same : (a b : List Line) → Goes a b → length b ≤ length a → b ≡ a
goes_same a b p h =
    let l : length b ≡ length a + length p.rest = ap (λ (x : List Line). length x) p.is ∙ length-append a p.rest in
    let z : p.rest ≡ [] = none_left p.rest (omega (arith, l, h)) in
    p.is ∙ ap (λ (x : List Line). a ++ x) z ∙ append-nil a

pub goes_front : (a b : List Line) → Goes a b → take (length a) b ≡ a
goes_front a b p = ap (λ (x : List Line). take (length a) x) p.is ∙ take-append_seam a p.rest

pub goes_rest : (a b : List Line) (p : Goes a b) → drop (length a) b ≡ p.rest
goes_rest a b p = ap (λ (x : List Line). drop (length a) x) p.is ∙ drop-append_seam a p.rest

pub goes-take : (a b : List Line) → Goes a b → (n : ℕ) → n ≤ length a → take n b ≡ take n a
goes-take a b p n h = ap (λ (x : List Line). take n x) p.is ∙ take-append-le n a p.rest h

-- a fact that has a line keeps it
pub line_stays : (a b : List Line) → Goes a b → (f : Fact) → HasLine a f → HasLine b f
line_stays a b p f h =
    subst (λ (l : List Line). HasLine l f) (sym p.is)
    (record { number = h.number; inside = omega (arith, h.inside, length-append a p.rest); is = fact_front a p.rest h.number h.inside ∙ h.is })

pub every_through : {A : Type 0} (P Q : A → Type 0) → ((x : A) → P x → Q x) → (xs : List A) → Every P xs → Every Q xs
every_through P Q h [] a = tt
every_through P Q h (x ∷ xs) a = (h x a.0, every_through P Q h xs a.1)

pub lines_stay : (a b : List Line) → Goes a b → (fs : List Fact) → Every (HasLine a) fs → Every (HasLine b) fs
lines_stay a b p fs h = every_through (HasLine a) (HasLine b) (line_stays a b p) fs h

module _ (g : Graph) (v : List ℕ) (base : ℕ) where
  drained_goes : (fuel k : ℕ) (lines : List Line) → Goes lines (drained g v base fuel k lines)
  unfolding drained
  drained_goes zero k lines = goes_none lines
  drained_goes (suc fuel) k lines = go (ltb k (length lines)) (drained_goes fuel (k + 1) more)
    where
      more : List Line
      more = adds g base lines (news g v base lines k)

      go : (b : Bool) → Goes more (drained g v base fuel (k + 1) more) → Goes lines (elim b [ true ↦ drained g v base fuel (k + 1) more | false ↦ lines ])
      go true r = let p = adds_prefix g base lines (news g v base lines k) in goes_on_lem lines more (drained g v base fuel (k + 1) more) (record { rest = p.0; is = p.1 }) r
      go false r = goes_none lines

  started_goes : (lines : List Line) (f : Fact) → Goes lines (started g v base lines f)
  unfolding started
  started_goes lines f =
      let p = added_prefix g base lines (line f 0 0 0) in
      let more = added g base lines (line f 0 0 0) in
      goes_on_lem lines more (drained g v base (mark_count g) (length lines) more) (record { rest = p.0; is = p.1 }) (drained_goes (mark_count g) (length lines) more)

  pub all_goes : (fs : List Fact) (lines : List Line) → Goes lines (drained_all g v base fs lines)
  unfolding drained_all
  all_goes [] lines = goes_none lines
  all_goes (f ∷ fs) lines = goes_on_lem lines (started g v base lines f) (drained_all g v base fs (started g v base lines f)) (started_goes lines f) (all_goes fs (started g v base lines f))

-- a try, by its two tests
module _ (g : Graph) (v : List ℕ) (e : ℕ) (p : Progress) where
  pub try_old : p.live (module_of_entry g e) ≡ true → tried g v e p ≡ p
  unfolding tried
  try_old a = rw (a, tried)

  pub try_live : p.live (module_of_entry g e) ≡ false → lives g v p e ≡ true → tried g v e p ≡ starting g v (module_starts g (module_of_entry g e)) (now_live g e p)
  unfolding tried
  try_live a b = rw (a, b, tried)

  pub try_dead : p.live (module_of_entry g e) ≡ false → lives g v p e ≡ false → tried g v e p ≡ now_dead e p
  unfolding tried
  try_dead a b = rw (a, b, tried)

pub or_right : (a b : Bool) → b ≡ true → (a || b) ≡ true
or_right true b e = refl
or_right false b e = e

abbrev end_of : Ended → Progress
end_of e = e.end

-- lines and live modules only grow
pub record Further (p q : Progress) : Type 0 where
  pub lines_go : Goes p.lines q.lines
  pub live_stays : (m : ℕ) → p.live m ≡ true → q.live m ≡ true

pub further_none : (p : Progress) → Further p p
further_none p = record { lines_go = goes_none p.lines; live_stays = λ m h. h }

pub further_on : (p q r : Progress) → Further p q → Further q r → Further p r
further_on p q r a b = record { lines_go = goes_on_lem p.lines q.lines r.lines a.lines_go b.lines_go; live_stays = λ m h. b.live_stays m (a.live_stays m h) }

module _ (g : Graph) (v : List ℕ) where
  pub starting_further : (fs : List Fact) (p : Progress) → Further p (starting g v fs p)
  unfolding starting
  starting_further fs p = record { lines_go = all_goes g v 0 fs p.lines; live_stays = λ m h. h }

  live_further : (e : ℕ) (p : Progress) → Further p (now_live g e p)
  unfolding now_live
  live_further e p = record { lines_go = goes_none p.lines; live_stays = λ m h. or_right (eqb m (module_of_entry g e)) (p.live m) h }

  dead_further : (e : ℕ) (p : Progress) → Further p (now_dead e p)
  unfolding now_dead
  dead_further e p = record { lines_go = goes_none p.lines; live_stays = λ m h. h }

  pub try_further : (e : ℕ) (p : Progress) → Further p (tried g v e p)
  try_further e p = go (p.live (module_of_entry g e)) refl (lives g v p e) refl
    where
      go : (b : Bool) → p.live (module_of_entry g e) ≡ b → (c : Bool) → lives g v p e ≡ c → Further p (tried g v e p)
      go true a c d = subst (λ (q : Progress). Further p q) (sym (try_old g v e p a)) (further_none p)
      go false a true d =
          subst (λ (q : Progress). Further p q) (sym (try_live g v e p a d))
          (further_on p (now_live g e p) (starting g v (module_starts g (module_of_entry g e)) (now_live g e p)) (live_further e p) (starting_further (module_starts g (module_of_entry g e)) (now_live g e p)))
      go false a false d = subst (λ (q : Progress). Further p q) (sym (try_dead g v e p a d)) (dead_further e p)

  pub tries_further : (es : List ℕ) (p : Progress) → Further p (tries g v es p)
  unfolding tries
  tries_further [] p = further_none p
  tries_further (e ∷ es) p = further_on p (tried g v e p) (tries g v es (tried g v e p)) (try_further e p) (tries_further es (tried g v e p))

  pub bailed_further : (taken : ℕ) (p : Progress) → Further p (bailed g v taken p)
  unfolding bailed
  bailed_further taken p = starting_further (bailouts_starts g (drop taken p.lines)) p

  pub round_further : (taken : ℕ) (p : Progress) → Further p (round g v taken p)
  unfolding round
  round_further taken p =
      further_on p (bailed g v taken p) (tries g v (sorted_entries g) (bailed g v taken p)) (bailed_further taken p) (tries_further (sorted_entries g) (bailed g v taken p))

  pub rounds_further : (test : Progress → Progress → Bool) (fuel made taken : ℕ) (p : Progress) → Further p (rounds_from g v test fuel made taken p).end
  unfolding rounds_from
  rounds_further test zero made taken p = further_none p
  rounds_further test (suc fuel) made taken p = go (test p next) (rounds_further test fuel (made + 1) (length p.lines) next)
    where
      next : Progress
      next = round g v taken p

      later : Ended
      later = rounds_from g v test fuel (made + 1) (length p.lines) next

      go : (b : Bool) → Further next later.end → Further p (end_of (elim b [ true ↦ later | false ↦ ended_at (made + 1) (length p.lines) next ]))
      go true r = further_on p next later.end (round_further taken p) r
      go false r = round_further taken p
