-- A walk in memory: the rows at each turn of its loop.
use Prim.Native.Nat.{ℕ, zero, suc, ◌+◌, ◌-◌, ◌*◌, ◌<◌, ◌≤◌}
use mathlib.Core.Path.{◌≡◌, refl, ap, ◌∙◌, sym}
use mathlib.Core.Bool.{true, false, ◌||◌}
use mathlib.Core.List.{List, [], ◌∷◌}
use native.Mathlib.Numerals.{add-one}
use native.Mathlib.Omega.{arith}
use native.Mathlib.Nat.{suc-mul, mul-le-mul_right}
use lib.Dec.{eqb}
use lib.ListN.{length, get_or, set}
use lib.Seq.{get_or-set_same, get_or-set_other}
use Rattle.bit_row.specs.Row.{bit_at}
use Rattle.graph_access.specs.Words.{tabulate}
use Rattle.cycles.specs.Search.{Search, with, entered, completed, each, walk}
use Rattle.cycles.specs.Memory.{last_first}
use Rattle.cycles.specs.Walked.{search_of, fresh, Room, Walked}
use Rattle.cycles.proofs.Walks.{fresh_with}

-- ---- numbers and lists

pub place_below : (t k a b : ℕ) → t < a → k < b → t * b + k < a * b
place_below t k a b h l =
    let m : suc t * b ≤ a * b = mul-le-mul_right b (omega arith) in
    let e = suc-mul t b in
    omega (arith, m, e)

pub place_few : (t k a b : ℕ) → t < a → k < b → a ≤ 1024 → b ≤ 1024 → t * b + k < 1048576
place_few t k a b h l i j =
    let p = place_below t k a b h l in
    let q : a * b ≤ 1024 * b = mul-le-mul_right b i in
    omega (arith, p, q)

pub tabulate-first : (f : ℕ → ℕ) (i n : ℕ) → i < n → tabulate f i (n - i) ≡ f i ∷ tabulate f (i + 1) (n - (i + 1))
unfolding tabulate
tabulate-first f i n h = let e : n - i ≡ suc (n - (i + 1)) = omega arith in rw (e, tabulate)

pub tabulate_over : (f : ℕ → ℕ) (i n : ℕ) → n ≤ i → tabulate f i (n - i) ≡ []
unfolding tabulate
tabulate_over f i n h = let e : n - i ≡ 0 = omega arith in rw (e, tabulate)

last_same : (c : ℕ) (xs ys : List ℕ) → ((k : ℕ) → k < c → get_or ys k 0 ≡ get_or xs k 0) → last_first c ys ≡ last_first c xs
unfolding last_first
last_same zero xs ys f = refl
last_same (suc c) xs ys f = rw (f c (omega arith), last_same c xs ys (λ k h. f k (omega arith)))

-- ---- a node is entered, and completed

search_entered : (seen seen' order : List ℕ) (c t : ℕ) → ((j : ℕ) → bit_at seen' j ≡ (eqb j t || bit_at seen j)) → search_of seen' order c ≡ entered t (search_of seen order c)
unfolding search_of with
search_entered seen seen' order c t f = λ i. record { seen = λ x. f x i; done = last_first c order }

bits_entered : (seen seen' : List ℕ) (t : ℕ) → ((j : ℕ) → bit_at seen' j ≡ (eqb j t || bit_at seen j)) → bit_at seen' ≡ with t (bit_at seen)
unfolding with
bits_entered seen seen' t f = λ i. λ x. f x i

search_completed : (seen order : List ℕ) (c t : ℕ) → c < length order → search_of seen (set order c t) (c + 1) ≡ completed t (search_of seen order c)
unfolding search_of last_first
search_completed seen order c t h =
    rw (add-one c, last_first, get_or-set_same order c t 0 h, last_same c order (set order c t) (λ k l. get_or-set_other order c k t 0 (λ e. omega arith)))

-- ---- the loop: what is left of the list, from here, leads where all of it leads from the start

pub record Going (g : ℕ → List ℕ) (fuel modules : ℕ) (all seen₀ order₀ : List ℕ) (c₀ : ℕ) (rest seen order : List ℕ) (c : ℕ) : Type 0 where
  pub same_seen : length seen ≡ length seen₀
  pub same_order : length order ≡ length order₀
  pub on : each (λ u q. walk g fuel u q) rest (search_of seen order c) ≡ each (λ u q. walk g fuel u q) all (search_of seen₀ order₀ c₀)
  pub left : c + fresh modules (bit_at seen) ≤ c₀ + fresh modules (bit_at seen₀)

pub go_start : (g : ℕ → List ℕ) (fuel modules : ℕ) (all rest seen order : List ℕ) (c : ℕ) → rest ≡ all → Going g fuel modules all seen order c rest seen order c
go_start g fuel modules all rest seen order c e =
    record { same_seen = refl; same_order = refl; on = ap (λ (xs : List ℕ). each (λ u q. walk g fuel u q) xs (search_of seen order c)) e; left = omega arith }

module _ {g : ℕ → List ℕ} {fuel modules : ℕ} {all seen₀ order₀ : List ℕ} {c₀ : ℕ} {rest seen order : List ℕ} {c : ℕ} (go : Going g fuel modules all seen₀ order₀ c₀ rest seen order c) where
  pub go_room : Room modules seen₀ order₀ c₀ → Room modules seen order c
  go_room r =
      let a = go.same_seen in
      let b = go.same_order in
      let l = go.left in
      record { wide = omega (arith, a, r.wide); long = omega (arith, b, r.long); left = omega (arith, l, r.left) }

  pub go_step : (u : ℕ) (us seen' order' : List ℕ) (c' : ℕ) → rest ≡ u ∷ us → length seen' ≡ length seen → length order' ≡ length order
      → Walked (walk g fuel u (search_of seen order c)) modules seen c seen' order' c' → Going g fuel modules all seen₀ order₀ c₀ us seen' order' c'
  unfolding each
  go_step u us seen' order' c' e s o w =
      let l = w.left in
      let m = go.left in
      record {
        same_seen = s ∙ go.same_seen;
        same_order = o ∙ go.same_order;
        on = ap (λ (q : Search). each (λ x q. walk g fuel x q) us q) w.is ∙ (rw (e, each) at go.on);
        left = omega (arith, l, m);
      }

  pub go_done : rest ≡ [] → search_of seen order c ≡ each (λ u q. walk g fuel u q) all (search_of seen₀ order₀ c₀)
  unfolding each
  go_done e = rw (e, each) at go.on

-- ---- a walk

seen_of : (seen order : List ℕ) (c t : ℕ) → (search_of seen order c).seen t ≡ bit_at seen t
unfolding search_of
seen_of seen order c t = refl

module _ (g : ℕ → List ℕ) (modules fuel t : ℕ) (seen order : List ℕ) (c : ℕ) where
  pub walk_stops : fuel ≡ 0 → Walked (walk g fuel t (search_of seen order c)) modules seen c seen order c
  unfolding walk
  walk_stops e = record { is = rw (e, walk); left = omega arith }

  pub walk_old : (fuel ≡ 0 → ⊥) → bit_at seen t ≡ true → Walked (walk g fuel t (search_of seen order c)) modules seen c seen order c
  unfolding walk
  walk_old z b = let e : fuel ≡ suc (fuel - 1) = omega arith in record { is = rw (e, seen_of seen order c t ∙ b, walk); left = omega arith }

-- a new node was entered
pub record Entered (modules t : ℕ) (seen order : List ℕ) (c : ℕ) (seen₁ : List ℕ) : Type 0 where
  pub inside : t < modules
  pub new : bit_at seen t ≡ false
  pub bits : (j : ℕ) → bit_at seen₁ j ≡ (eqb j t || bit_at seen j)
  pub same_seen : length seen₁ ≡ length seen
  pub room : Room modules seen order c

module _ {modules t : ℕ} {seen order : List ℕ} {c : ℕ} {seen₁ : List ℕ} (e : Entered modules t seen order c seen₁) where
  fresh_entered : fresh modules (bit_at seen₁) < fresh modules (bit_at seen)
  fresh_entered = rw (bits_entered seen seen₁ t e.bits) (fresh_with modules t (bit_at seen) e.inside e.new)

  module _ {g : ℕ → List ℕ} {depth : ℕ} {all rest seen₂ order₂ : List ℕ} {c₂ : ℕ} (go : Going g depth modules all seen₁ order c rest seen₂ order₂ c₂) where
    -- there is room for what is entered below it, and for the node itself
    pub room-below : Room modules seen₂ order₂ c₂
    room-below =
        let l = fresh_entered in
        let r = e.room in
        go_room go (record { wide = omega (arith, e.same_seen, r.wide); long = r.long; left = omega (arith, l, r.left) })

    pub room_for : c₂ < modules
    room_for = let l = go.left in let m = fresh_entered in omega (arith, l, m, e.room.left)

  -- and is completed
  pub walk_new : (g : ℕ → List ℕ) (fuel : ℕ) {all rest seen₂ order₂ : List ℕ} {c₂ : ℕ} → Going g (fuel - 1) modules all seen₁ order c rest seen₂ order₂ c₂ → (fuel ≡ 0 → ⊥) → g t ≡ all → rest ≡ []
      → Walked (walk g fuel t (search_of seen order c)) modules seen c seen₂ (set order₂ c₂ t) (c₂ + 1)
  unfolding walk
  walk_new g fuel {all} {rest} {seen₂} {order₂} {c₂} go z a r =
      let f : fuel ≡ suc (fuel - 1) = omega arith in
      let step : ℕ → Search → Search = λ u q. walk g (fuel - 1) u q in
      let w : walk g fuel t (search_of seen order c) ≡ completed t (each step (g t) (entered t (search_of seen order c))) =
      ap (λ (k : ℕ). walk g k t (search_of seen order c)) f ∙ (rw (seen_of seen order c t ∙ e.new, walk)) in
      let d : search_of seen₂ order₂ c₂ ≡ each step (g t) (entered t (search_of seen order c)) =
      go_done go r ∙ ap (λ (xs : List ℕ). each step xs (search_of seen₁ order c)) (sym a) ∙ ap (λ (q : Search). each step (g t) q) (search_entered seen seen₁ order c t e.bits) in
      let o = go.same_order in
      let i = room_for go in
      let l = go.left in
      let m = fresh_entered in
      record {
        is = search_completed seen₂ order₂ c₂ t (omega (arith, o, i, e.room.long)) ∙ ap (λ (q : Search). completed t q) d ∙ sym w;
        left = omega (arith, l, m);
      }
