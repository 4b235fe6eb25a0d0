-- A list written into a row from place n on: its first numbers stand there, up to place k, and others are left.
use Prim.Native.Nat.{ℕ, suc, ◌+◌, ◌-◌, ◌<◌, ◌≤◌}
use mathlib.Core.Path.{◌≡◌, refl, ap, ◌∙◌, sym, subst}
use mathlib.Core.List.{List, [], ◌∷◌, ◌++◌, append_assoc}
use native.Mathlib.Numerals.{add-one}
use native.Mathlib.Omega.{arith}
use lib.ListN.{length, take, drop, set, length-set, length-append, length-drop, take-append-drop}
use lib.Seq.{take-suc-set, drop-set-lt, drop-drop, take_at, drop_at, length-take-le}

pub record Filling (n : ℕ) (whole out₀ : List ℕ) (k : ℕ) (left out : List ℕ) : Type 0 where
  pub is : take k out ++ (left ++ drop (n + length whole) out₀) ≡ take n out₀ ++ (whole ++ drop (n + length whole) out₀)
  pub rest : drop k out ≡ drop k out₀
  pub count : k + length left ≡ n + length whole
  pub long : length out ≡ length out₀
  pub room : n + length whole ≤ length out₀

module _ (n : ℕ) (whole out₀ : List ℕ) where
  pub fill_start : n + length whole ≤ length out₀ → Filling n whole out₀ n whole out₀
  fill_start h = record { is = refl; rest = refl; count = refl; long = refl; room = h }

  -- what is as before from place k on is so from a later place on
  further : (k r : ℕ) (out : List ℕ) → k ≤ r → drop k out ≡ drop k out₀ → drop r out ≡ drop r out₀
  further k r out h e =
      let q : k + (r - k) ≡ r = omega arith in
      ap (λ (i : ℕ). drop i out) (sym q) ∙ sym (drop-drop (r - k) k out) ∙ ap (λ l. drop (r - k) l) e ∙ drop-drop (r - k) k out₀ ∙ ap (λ (i : ℕ). drop i out₀) q

  module _ (k : ℕ) (left out : List ℕ) (f : Filling n whole out₀ k left out) where
    pub fill-same : (other : List ℕ) → left ≡ other → Filling n whole out₀ k other out
    fill-same other e = subst (λ (l : List ℕ). Filling n whole out₀ k l out) e f

    pub fill-within : k + length left ≤ length out
    fill-within = let a = f.count in let b = f.long in let d = f.room in omega (arith, a, b, d)

    -- there is place for one more
    pub fill-room : (x : ℕ) (more : List ℕ) → left ≡ x ∷ more → k < length out
    fill-room x more e = let l : length left ≡ suc (length more) = ap length e in omega (arith, fill-within, l)

    pub fill_step : (x : ℕ) (more : List ℕ) → left ≡ x ∷ more → Filling n whole out₀ (k + 1) more (set out k x)
    fill_step x more e =
        let h = fill-room x more e in
        let l : length left ≡ suc (length more) = ap length e in
        let c = f.count in
        let tail = drop (n + length whole) out₀ in
        let first : take (k + 1) (set out k x) ≡ take k out ++ (x ∷ []) = rw (add-one k) (take-suc-set out k x h) in
        record {
          is = ap (λ p. p ++ (more ++ tail)) first ∙ append_assoc (take k out) (x ∷ []) (more ++ tail) ∙ ap (λ m. take k out ++ (m ++ tail)) (sym e) ∙ f.is;
          rest = drop-set-lt (k + 1) out k x (omega arith) ∙ further k (k + 1) out (omega arith) f.rest;
          count = omega (arith, c, l);
          long = length-set out k x ∙ f.long;
          room = f.room;
        }

    -- a run of numbers
    pub fill_more : (xs more next : List ℕ) (r : ℕ) → left ≡ xs ++ more → r ≡ k + length xs → next ≡ take k out ++ (xs ++ drop r out) → Filling n whole out₀ r more next
    fill_more xs more next r e q w =
        let l : length left ≡ length xs + length more = ap length e ∙ length-append xs more in
        let c = f.count in
        let h : k + length left ≤ length out = fill-within in
        let lk : length (take k out) ≡ k = length-take-le k out (omega (arith, h)) in
        let p = take k out ++ xs in
        let lp : length p ≡ r = length-append (take k out) xs ∙ omega (arith, lk, q) in
        let shape : next ≡ p ++ drop r out = w ∙ sym (append_assoc (take k out) xs (drop r out)) in
        let tail = drop (n + length whole) out₀ in
        record {
          is =
              ap (λ m. take r m ++ (more ++ tail)) shape
              ∙ ap (λ m. m ++ (more ++ tail)) (take_at p (drop r out) r lp)
              ∙ append_assoc (take k out) xs (more ++ tail)
              ∙ ap (λ m. take k out ++ m) (sym (append_assoc xs more tail))
              ∙ ap (λ m. take k out ++ (m ++ tail)) (sym e)
              ∙ f.is;
          rest = ap (λ m. drop r m) shape ∙ drop_at p (drop r out) r lp ∙ further k r out (omega (arith, q)) f.rest;
          count = omega (arith, c, l, q);
          long = ap length shape ∙ length-append p (drop r out) ∙ omega (arith, lp, length-drop r out, h, l, q) ∙ f.long;
          room = f.room;
        }

    -- nothing is left
    pub fill_end : left ≡ [] → k ≡ n + length whole
    fill_end e = let l : length left ≡ 0 = ap length e in let c = f.count in omega (arith, l, c)

    pub fill_done : left ≡ [] → out ≡ take n out₀ ++ (whole ++ drop k out₀)
    fill_done e =
        let q = fill_end e in
        sym (take-append-drop k out)
        ∙ ap (λ m. take k out ++ m) f.rest
        ∙ ap (λ (i : ℕ). take k out ++ drop i out₀) q
        ∙ ap (λ m. take k out ++ (m ++ drop (n + length whole) out₀)) (sym e)
        ∙ f.is
        ∙ ap (λ (i : ℕ). take n out₀ ++ (whole ++ drop i out₀)) (sym q)
