-- Numbers of a row are copied into the plan.
use Prim.Native.Nat.{ℕ, ◌+◌, ◌<◌, ◌≤◌}
use mathlib.Core.Path.{◌≡◌, ap, ◌∙◌, subst}
use mathlib.Core.List.{List, ◌++◌}
use native.Mathlib.Omega.{arith}
use lib.ListN.{length, get_or, take, drop, set}
use lib.Seq.{length-take-le}
use Rattle.entry_order.proofs.Places.{first_next, first_none}
use Rattle.entry_order.proofs.Filling.{Filling, fill_start, fill-room, fill_step, fill_end, fill_done}

-- the state: i numbers were copied
pub record Copies (list : List ℕ) (count users : ℕ) (plan₀ : List ℕ) (i : ℕ) (plan : List ℕ) : Type 0 where
  pub fill : Filling users (take count list) plan₀ (users + i) (drop i (take count list)) plan

module _ (list : List ℕ) (count users : ℕ) (plan₀ : List ℕ) (h : (count ≤ length list) × (users + count ≤ length plan₀)) where
  long : length (take count list) ≡ count
  long = length-take-le count list h.0

  pub copies_start : Copies list count users plan₀ 0 plan₀
  copies_start =
      let l = long in
      let q : users ≡ users + 0 = omega arith in
      record { fill = subst (λ (k : ℕ). Filling users (take count list) plan₀ k (take count list) plan₀) q (fill_start users (take count list) plan₀ (omega (arith, l, h.1))) }

  module _ (i : ℕ) (plan : List ℕ) (s : Copies list count users plan₀ i plan) where
    pub copies-done : count ≤ i → plan ≡ take users plan₀ ++ (take count list ++ drop (users + count) plan₀)
    copies-done z =
        let l = long in
        let none = first_none list count h.0 i z in
        let q : users + i ≡ users + count = fill_end users (take count list) plan₀ (users + i) _ plan s.fill none ∙ omega (arith, l) in
        fill_done users (take count list) plan₀ (users + i) _ plan s.fill none ∙ ap (λ (k : ℕ). take users plan₀ ++ (take count list ++ drop k plan₀)) q

    module _ (l : i < count) where
      pub copy-room : users + i < length plan
      copy-room = fill-room users (take count list) plan₀ (users + i) _ plan s.fill _ _ (first_next list count h.0 i l)

      pub copy-next : (x : ℕ) → x ≡ get_or list i 0 → Copies list count users plan₀ (i + 1) (set plan (users + i) x)
      copy-next x w =
          let q : users + i + 1 ≡ users + (i + 1) = omega arith in
          rw w (record { fill = subst (λ (k : ℕ). Filling users (take count list) plan₀ k (drop (i + 1) (take count list)) (set plan (users + i) (get_or list i 0))) q (fill_step users (take count list) plan₀ (users + i) _ plan s.fill _ _ (first_next list count h.0 i l)) })
