-- Sections of a slice that is laid out, and what a write leaves of those in front of it.
-- Which size of slice holds a graph (`fits_places`, `fits_all`).
use Prim.Native.Nat.{ℕ, zero, suc, ◌+◌, ◌-◌, ◌<◌, ◌≤◌}
use mathlib.Core.Path.{◌≡◌, refl, ap, ◌∙◌, sym}
use mathlib.Core.List.{List, [], ◌∷◌}
use native.Mathlib.Numerals.{add-one}
use native.Mathlib.Omega.{arith}
use lib.ListN.{length, get_or, set, take, drop, length-set, length-drop, take-append-drop}
use lib.Seq.{get_or-take, get_or-drop, length-take-le, take-append-le, drop-append-le, take-set-le, take-take}
use Rattle.graph_format.specs.declared.Header.{Header}
use Rattle.tables.specs.declared.Size.{Size}
use Rattle.tables.specs.declared.Size.TheVariants.{Small, Middle, Large, Largest}
use Rattle.tables.specs.Layout.{sizes, start_from, start_of, section, Laid, Inside, Kept, FitsSize, at_verdicts, all_sections}

-- where sections begin
from_low : (at : ℕ) (counts : List ℕ) (k : ℕ) → at ≤ start_from at counts k
unfolding start_from
from_low at counts zero = omega arith
from_low at [] (suc k) = omega arith
from_low at (c ∷ counts) (suc k) = omega (arith, from_low (at + c) counts k)

pub from_next : (at : ℕ) (counts : List ℕ) (k : ℕ) → start_from at counts (suc k) ≡ start_from at counts k + get_or counts k 0
unfolding start_from
from_next at [] zero = omega arith
from_next at [] (suc k) = omega arith
from_next at (c ∷ counts) zero = refl
from_next at (c ∷ counts) (suc k) = from_next (at + c) counts k

from_mono : (at : ℕ) (counts : List ℕ) (j k : ℕ) → j ≤ k → start_from at counts j ≤ start_from at counts k
unfolding start_from
from_mono at counts zero k l = from_low at counts k
from_mono at counts (suc j) zero l = absurd (omega arith)
from_mono at [] (suc j) (suc k) l = omega arith
from_mono at (c ∷ counts) (suc j) (suc k) l = from_mono (at + c) counts j k (omega (arith, l))

module _ (h : Header) where
  pub start_low : (k : ℕ) → 11 ≤ start_of h k
  unfolding start_of
  start_low k = from_low 11 (sizes h) k

  pub start_next : (k : ℕ) → start_of h (k + 1) ≡ start_of h k + get_or (sizes h) k 0
  unfolding start_of
  start_next k = ap (start_from 11 (sizes h)) (add-one k) ∙ from_next 11 (sizes h) k

  pub start_mono : (j k : ℕ) → j ≤ k → start_of h j ≤ start_of h k
  unfolding start_of
  start_mono j k l = from_mono 11 (sizes h) j k l

  -- where the five sections of places end, and where all do
  pub start_five : start_of h at_verdicts ≡ 11 + h.modules + h.symbols + h.modules + h.statements + h.entries
  unfolding start_of start_from sizes
  start_five = refl

  pub start_ten : start_of h all_sections ≡ start_of h at_verdicts + h.modules + h.modules + h.symbols + h.symbols + h.modules
  unfolding start_of start_from sizes
  start_ten = refl

-- the words of the tables of a size: those of the places, and all
abbrev pub places_in : Size → ℕ
places_in Small = 187
places_in Middle = 2443
places_in Large = 11275
places_in Largest = 35851

abbrev pub words_in : Size → ℕ
words_in Small = 363
words_in Middle = 4875
words_in Large = 22539
words_in Largest = 71691

module _ (h : Header) where
  pub fits_places : (size : Size) → FitsSize h size → start_of h at_verdicts ≤ places_in size
  fits_places Small f = omega (arith, start_five h, f)
  fits_places Middle f = omega (arith, start_five h, f)
  fits_places Large f = omega (arith, start_five h, f)
  fits_places Largest f = omega (arith, start_five h, f)

  pub fits_all : (size : Size) → FitsSize h size → start_of h all_sections ≤ words_in size
  fits_all Small f = omega (arith, start_five h, start_ten h, f)
  fits_all Middle f = omega (arith, start_five h, start_ten h, f)
  fits_all Large f = omega (arith, start_five h, start_ten h, f)
  fits_all Largest f = omega (arith, start_five h, start_ten h, f)

-- a part of a list
pub part_has : (from to : ℕ) (xs : List ℕ) (i : ℕ) → i < to - from → get_or (take (to - from) (drop from xs)) i 0 ≡ get_or xs (from + i) 0
part_has from to xs i h = get_or-take (to - from) (drop from xs) i 0 h ∙ get_or-drop from xs i 0

pub part_length : (from to : ℕ) (xs : List ℕ) → to ≤ length xs → length (take (to - from) (drop from xs)) ≡ to - from
part_length from to xs h = let l : to - from ≤ length (drop from xs) = omega (arith, length-drop from xs, h) in length-take-le (to - from) (drop from xs) l

-- the layout itself is inside
pub word_inside : {h : Header} {n : ℕ} {tables : List ℕ} → Laid h n tables → (k : ℕ) → k ≤ 10 → k < length tables
word_inside {h} {n} t k l = omega (arith, start_low h n, t.fits, l)

-- the sections of a layout
module _ {h : Header} {n : ℕ} {tables : List ℕ} (t : Laid h n tables) (k : ℕ) (l : k < n) where
  start : get_or tables k 0 ≡ start_of h k
  start = t.starts k (omega (arith, l, t.known))

  end : get_or tables (k + 1) 0 ≡ start_of h k + get_or (sizes h) k 0
  end = t.starts (k + 1) (omega (arith, l, t.known)) ∙ start_next h k

  pub ends_inside : start_of h k + get_or (sizes h) k 0 ≤ length tables
  ends_inside =
      let m : start_of h (k + 1) ≤ start_of h n = start_mono h (k + 1) n (omega (arith, l)) in
      omega (arith, start_next h k, m, t.fits)

  pub inside : Inside k tables
  inside =
      record {
        layout = word_inside t (k + 1) (omega (arith, t.known, l));
        few = t.few;
        up = omega (arith, start, end);
        ends = omega (arith, end, ends_inside);
      }

  pub section-length : length (section k tables) ≡ get_or (sizes h) k 0
  section-length = part_length (get_or tables k 0) (get_or tables (k + 1) 0) tables inside.ends ∙ omega (arith, start, end)

  pub section_has : (i : ℕ) → i < get_or (sizes h) k 0 → get_or (section k tables) i 0 ≡ get_or tables (start_of h k + i) 0
  section_has i b =
      let d : i < get_or tables (k + 1) 0 - get_or tables k 0 = omega (arith, start, end, b) in
      part_has (get_or tables k 0) (get_or tables (k + 1) 0) tables i d ∙ ap (λ j. get_or tables (j + i) 0) start

-- a part in front of place n, where nothing in front of n was written
part_front : (a e n : ℕ) (xs : List ℕ) → a ≤ e → e ≤ n → n ≤ length xs → take (e - a) (drop a xs) ≡ take (e - a) (drop a (take n xs))
part_front a e n xs h k l =
    let m : length (take n xs) ≡ n = length-take-le n xs l in
    let p : a ≤ length (take n xs) = omega (arith, m, h, k) in
    let q : e - a ≤ length (drop a (take n xs)) = omega (arith, length-drop a (take n xs), m, h, k) in
    ap (λ z. take (e - a) (drop a z)) (sym (take-append-drop n xs)) ∙ ap (take (e - a)) (drop-append-le a (take n xs) (drop n xs) p) ∙ take-append-le (e - a) (drop a (take n xs)) (drop n xs) q

part_kept : (a e n : ℕ) (xs ys : List ℕ) → a ≤ e → e ≤ n → n ≤ length xs → Kept n xs ys → take (e - a) (drop a ys) ≡ take (e - a) (drop a xs)
part_kept a e n xs ys h k l q =
    part_front a e n ys h k (omega (arith, l, q.same_length)) ∙ ap (λ z. take (e - a) (drop a z)) q.front ∙ sym (part_front a e n xs h k l)

pub word_kept : {n : ℕ} {xs ys : List ℕ} → Kept n xs ys → (k : ℕ) → k < n → get_or ys k 0 ≡ get_or xs k 0
word_kept {n} {xs} {ys} q k h = sym (get_or-take n ys k 0 h) ∙ ap (λ z. get_or z k 0) q.front ∙ get_or-take n xs k 0 h

pub kept_none : {n : ℕ} {xs : List ℕ} → Kept n xs xs
kept_none = record { same_length = refl; front = refl }

pub kept_both : {n : ℕ} {xs ys zs : List ℕ} → Kept n xs ys → Kept n ys zs → Kept n xs zs
kept_both p q = record { same_length = q.same_length ∙ p.same_length; front = q.front ∙ p.front }

-- less is kept too
pub kept_less : {m n : ℕ} {xs ys : List ℕ} → m ≤ n → Kept n xs ys → Kept m xs ys
kept_less {m} {n} {xs} {ys} l q =
    record { same_length = q.same_length; front = sym (take-take m n ys l) ∙ ap (take m) q.front ∙ take-take m n xs l }

-- first nothing in front of section j was written, then nothing in front of section k
pub kept_then : (h : Header) {xs ys zs : List ℕ} (j k : ℕ) → j ≤ k → Kept (start_of h j) xs ys → Kept (start_of h k) ys zs → Kept (start_of h j) xs zs
kept_then h j k l p q = kept_both p (kept_less (start_mono h j k l) q)

-- a word at n or behind it is written
pub kept_set : (n : ℕ) {xs ys : List ℕ} (i x : ℕ) → n ≤ i → Kept n xs ys → Kept n xs (set ys i x)
kept_set n {xs} {ys} i x l q = record { same_length = length-set ys i x ∙ q.same_length; front = take-set-le n ys i x l ∙ q.front }

-- the layout, and the sections in front of a place, where nothing in front of it was written
module _ {h : Header} {n : ℕ} {xs ys : List ℕ} (t : Laid h n xs) (j : ℕ) (b : j ≤ n) (q : Kept (start_of h j) xs ys) where
  pub laid_kept : Laid h n ys
  laid_kept =
      record {
        known = t.known;
        few = omega (arith, q.same_length, t.few);
        starts = λ k l. word_kept q k (omega (arith, start_low h j, l)) ∙ t.starts k l;
        fits = omega (arith, q.same_length, t.fits);
      }

  pub section_kept : (k : ℕ) → k < j → section k ys ≡ section k xs
  section_kept k l =
      let a = t.starts k (omega (arith, l, b, t.known)) in
      let e = t.starts (k + 1) (omega (arith, l, b, t.known)) in
      let m : start_of h (k + 1) ≤ start_of h j = start_mono h (k + 1) j (omega (arith, l)) in
      let r : start_of h j ≤ start_of h n = start_mono h j n b in
      let s : get_or ys k 0 ≡ get_or xs k 0 = word_kept q k (omega (arith, start_low h j, l, b, t.known)) in
      let u : get_or ys (k + 1) 0 ≡ get_or xs (k + 1) 0 = word_kept q (k + 1) (omega (arith, start_low h j, l, b, t.known)) in
      ap (λ i. take (get_or ys (k + 1) 0 - i) (drop i ys)) s
      ∙ ap (λ i. take (i - get_or xs k 0) (drop (get_or xs k 0) ys)) u
      ∙ part_kept (get_or xs k 0) (get_or xs (k + 1) 0) (start_of h j) xs ys (omega (arith, a, e, start_next h k)) (omega (arith, e, m)) (omega (arith, r, t.fits)) q

-- the same layout, by as many sections as are inside, and by fewer
pub laid_more : {h : Header} {m : ℕ} {tables : List ℕ} → Laid h m tables → (n : ℕ) → n ≤ 10 → start_of h n ≤ length tables → Laid h n tables
laid_more t n k f = record { known = k; few = t.few; starts = t.starts; fits = f }

pub laid_less : {h : Header} {m n : ℕ} {tables : List ℕ} → m ≤ n → Laid h n tables → Laid h m tables
laid_less {h} {m} {n} l t = laid_more t m (omega (arith, l, t.known)) (omega (arith, start_mono h m n l, t.fits))
