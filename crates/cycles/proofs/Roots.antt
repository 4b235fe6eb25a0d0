-- The walks from all the nodes in turn.
use Prim.Native.Nat.{ℕ, suc, ◌+◌, ◌*◌, ◌<◌, ◌≤◌}
use mathlib.Core.Path.{◌≡◌, refl, ap, ◌∙◌, sym}
use mathlib.Core.Bool.{false}
use mathlib.Core.List.{List, [], ◌∷◌}
use native.Mathlib.Numerals.{add-one}
use native.Mathlib.Omega.{arith}
use lib.ListN.{length, get_or, take, drop, drop_of_length-le}
use lib.Seq.{drop-cons, get_or-take, length-take-le}
use Rattle.bit_row.specs.Row.{bit_at}
use Rattle.cycles.specs.Search.{Search, none, nowhere, each, walk, finished}
use Rattle.cycles.specs.Memory.{last_first}
use Rattle.cycles.specs.Walked.{search_of, Room}
use Rattle.cycles.proofs.Walks.{fresh_few}
use Rattle.cycles.proofs.Steps.{Going, go_done}

-- ---- the list of nodes

module _ (nodes : List ℕ) (n : ℕ) (long : n ≤ length nodes) where
  pub nodes_turn : (i : ℕ) → i < n → drop i (take n nodes) ≡ get_or nodes i 0 ∷ drop (i + 1) (take n nodes)
  nodes_turn i h =
      let l = length-take-le n nodes long in
      let e : drop i (take n nodes) ≡ get_or (take n nodes) i 0 ∷ drop (suc i) (take n nodes) = drop-cons (take n nodes) i 0 (omega (arith, l, h)) in
      rw (add-one i) (e ∙ ap (λ (x : ℕ). x ∷ drop (suc i) (take n nodes)) (get_or-take n nodes i 0 h))

  pub nodes_over : (i : ℕ) → n ≤ i → drop i (take n nodes) ≡ []
  nodes_over i h = let l : length (take n nodes) ≤ i = (let e = length-take-le n nodes long in omega (arith, e, h)) in drop_of_length-le (take n nodes) l

-- ---- a clear row, and what was completed in the end

abbrev pub Clear : List ℕ → Type 0
Clear row = (j : ℕ) → bit_at row j ≡ false

pub no_bits : (row : List ℕ) → Clear row → bit_at row ≡ none
unfolding none
no_bits row z = λ i. λ x. z x i

nowhere_yet : (seen order : List ℕ) → Clear seen → search_of seen order 0 ≡ nowhere
unfolding search_of last_first
nowhere_yet seen order z = λ i. record { seen = no_bits seen z i; done = [] }

done_of : (seen order : List ℕ) (c : ℕ) → (search_of seen order c).done ≡ last_first c order
unfolding search_of
done_of seen order c = refl

pub room_start : (modules : ℕ) (seen order : List ℕ) → modules ≤ 8 * length seen → modules ≤ length order → Room modules seen order 0
room_start modules seen order h l = let f = fresh_few modules (bit_at seen) in record { wide = h; long = l; left = omega (arith, f) }

pub all_done : (g : ℕ → List ℕ) (modules : ℕ) (roots seen₀ order₀ rest seen order : List ℕ) (c : ℕ) → Clear seen₀ → Going g modules modules roots seen₀ order₀ 0 rest seen order c → rest ≡ []
    → (c ≤ modules) × (last_first c order ≡ finished g modules roots)
unfolding finished
all_done g modules roots seen₀ order₀ rest seen order c z go e =
    let l = go.left in
    let f = fresh_few modules (bit_at seen₀) in
    let d = go_done go e ∙ ap (λ (s : Search). each (λ u q. walk g modules u q) roots s) (nowhere_yet seen₀ order₀ z) in
    (omega (arith, l, f), sym (done_of seen order c) ∙ ap (λ (s : Search). s.done) d)
