-- What a row shows of the text for two buffers is a part of the text for the file that they hold.
use Rattle.std.proofs.Common.{ℕ, ◌+◌, ◌-◌, ◌<◌, ◌≤◌, ◌≡◌, arith, List, [], ◌∷◌, ◌++◌, length, take, drop, Option, refl, ap, ◌∙◌, sym, subst, take_all, take_at, take-add, length-take-le, length-append, length-drop, drop_of_length-le, append-nil, take-append-drop}
use borrow.Author.Tests.{lt-ltb}
use Rattle.std.proofs.KnownBytes.{Appends-trans}
use Rattle.std.specs.Io.KnownBytes.{Appends}
use Rattle.listing.specs.Text.{window, shown_in}
use Rattle.answer_text.specs.Program.{file_text, program_text}
use Rattle.keep.specs.Input.{IsFile}
use Rattle.keep.specs.Output.{PartOf}
use Rattle.keep.specs.declared.Part.TheVariants.{Next, Last}

-- the text for both buffers is that for the file
pub file_text_lem : (front behind : List ℕ) → IsFile front behind → program_text front behind ≡ file_text (front ++ behind)
unfolding program_text file_text
file_text_lem front [] s = rw (append-nil front) refl
file_text_lem front (byte ∷ more) s =
    rw (lt-ltb 0 (length (byte ∷ more)) (omega arith), lt-ltb 8192 (length (front ++ byte ∷ more)) (omega (arith, s.1 (omega arith), length-append front (byte ∷ more))), program_text, file_text) refl

-- a row that holds all that is left of a text, and one that is filled by it
shown_last : (skip : ℕ) (text lent : List ℕ) → length text - skip ≤ length lent → take (length text - skip) (shown_in skip text lent) ≡ drop skip text
unfolding shown_in window
shown_last skip text lent l =
    let all : take (length lent) (drop skip text) ≡ drop skip text = take_all (length lent) (drop skip text) (omega (arith, length-drop skip text)) in
    ap (λ v. take (length text - skip) (v ++ drop (length v) lent)) all ∙ take_at (drop skip text) (drop (length (drop skip text)) lent) (length text - skip) (length-drop skip text)

shown_full : (skip : ℕ) (text lent : List ℕ) → length lent ≤ length text - skip → shown_in skip text lent ≡ take (length lent) (drop skip text)
unfolding shown_in window
shown_full skip text lent l =
    let w = take (length lent) (drop skip text) in
    let none : drop (length w) lent ≡ [] = drop_of_length-le lent {i = length w} (omega (arith, length-take-le (length lent) (drop skip text) (omega (arith, length-drop skip text)))) in
    ap (λ v. w ++ v) none ∙ append-nil w

module _ (front behind lent out : List ℕ) (skip size : ℕ) (s : IsFile front behind) (kept : length out ≡ length lent) (told : (size ≡ length (program_text front behind)) × (out ≡ shown_in skip (program_text front behind) lent)) where
  pub part_last : (n : ℕ) → n ≡ size - skip → n ≤ length out → PartOf (file_text (front ++ behind)) skip out (Last n)
  part_last n e l =
      let is : n ≡ length (program_text front behind) - skip = e ∙ ap (λ v. v - skip) told.0 in (
        l,
        ap (take n) told.1 ∙ ap (λ v. take v (shown_in skip (program_text front behind) lent)) is ∙ shown_last skip (program_text front behind) lent (omega (arith, is, l, kept))
            ∙ ap (drop skip) (file_text_lem front behind s),
      )

  pub part_next : length out < size - skip → PartOf (file_text (front ++ behind)) skip out (Next (skip + length out))
  part_next m = (
    refl,
    omega (arith, told.0, ap length (file_text_lem front behind s), m),
    told.1 ∙ shown_full skip (program_text front behind) lent (omega (arith, told.0, m, kept)) ∙ ap (λ v. take v (drop skip (program_text front behind))) (sym kept)
        ∙ ap (λ v. take (length out) (drop skip v)) (file_text_lem front behind s),
  )

-- the text that was written before, and a part of it
pub written_next : (a b c : Option (List ℕ)) (text : List ℕ) (skip : ℕ) (out : List ℕ) (next : ℕ) → PartOf text skip out (Next next) → Appends a b (take skip text) → Appends b c out
    → Appends a c (take next text)
written_next a b c text skip out next p before written =
    let joined : take skip text ++ out ≡ take next text = ap (λ l. take skip text ++ l) p.2 ∙ sym (take-add skip (length out) text) ∙ ap (λ n. take n text) (sym p.0) in
    subst (Appends a c) joined (Appends-trans a b c _ _ before written)

pub written_last : (a b c : Option (List ℕ)) (text : List ℕ) (skip : ℕ) (out : List ℕ) (n : ℕ) → PartOf text skip out (Last n) → Appends a b (take skip text) → Appends b c (take n out)
    → Appends a c text
written_last a b c text skip out n p before written =
    let joined : take skip text ++ take n out ≡ text = ap (λ l. take skip text ++ l) p.1 ∙ take-append-drop skip text in
    subst (Appends a c) joined (Appends-trans a b c _ _ before written)
