-- What was read into two buffers, and what it is of a file.
use Rattle.std.proofs.Common.{ℕ, ◌+◌, ◌-◌, ◌≤◌, ◌≡◌, arith, List, ◌++◌, length, take, drop, Option, None, Some, IfSome, ap, ap₂, ◌∙◌, sym, subst, length-take-le}
use Rattle.std.proofs.Math.Seq.{take-append-add, take-append-le}
use Rattle.std.proofs.KnownBytes.{Consumes-trans}
use Rattle.std.specs.Io.KnownBytes.{Appends, Consumes}
use borrow.Rule.Slice.PartMut.{put_mid, post_of}
use Rattle.answer_text.specs.Program.{file_text, program_text}
use Rattle.answer_text.proofs.Texts.{text_of_file}
use Rattle.keep.specs.Input.{InOrder, IsFile}
use Rattle.keep.proofs.Parted.{file_text_lem}

-- a read that put n bytes behind the first `done` of a buffer
pub read_on : (a b c : Option (List ℕ)) (done n : ℕ) (buffer part : List ℕ) → done ≤ length buffer → n ≤ length part → Consumes a b (take done buffer) → Consumes b c (take n part)
    → Consumes a c (take (done + n) (put_mid done (length buffer - done) buffer part))
read_on a b c done n buffer part within fits before read =
    let after = post_of done (length buffer - done) buffer in
    let joined : take (done + n) (put_mid done (length buffer - done) buffer part) ≡ take done buffer ++ take n part =
    ap (λ k. take (k + n) (take done buffer ++ (part ++ after))) (sym (length-take-le done buffer within)) ∙ take-append-add (take done buffer) (part ++ after) n
    ∙ ap (λ l. take done buffer ++ l) (take-append-le n part after fits) in
    subst (Consumes a c) (sym joined) (Consumes-trans a b c _ _ before read)

-- what was read so into a first buffer of 8,192 bytes is a file
pub read_file : (front behind : List ℕ) (got more : ℕ) → length front ≡ 8192 → InOrder front behind got more → IsFile (take got front) (take more behind)
read_file front behind got more room i =
    let l = length-take-le got front i.fits in
    let m = length-take-le more behind i.fits_behind in
    (omega (arith, l, i.fits, room), λ b. omega (arith, l, i.in_order (omega (arith, m, b)), room))

-- the text for what was read of a file is the text for the file
pub text_of_read : (a old new : Option (List ℕ)) (front behind : List ℕ) (got more : ℕ) → length front ≡ 8192 → length behind ≡ 1 → InOrder front behind got more
    → IfSome a (λ file. take got front ≡ take (length front) file) → IfSome a (λ file. take more behind ≡ take (length behind) (drop (length front) file))
    → Appends old new (file_text (take got front ++ take more behind)) → IfSome a (λ file. Appends old new (file_text file))
text_of_read None old new front behind got more m n i first rest written = tt
text_of_read (Some file) old new front behind got more m n i first rest written =
    let front_is : take got front ≡ take 8192 file = first ∙ ap (λ k. take k file) m in
    let behind_is : take more behind ≡ take 1 (drop 8192 file) = rest ∙ ap₂ (λ k l. take k (drop l file)) n m in
    subst (Appends old new) (sym (file_text_lem (take got front) (take more behind) (read_file front behind got more m i)) ∙ ap₂ program_text front_is behind_is ∙ text_of_file file) written
