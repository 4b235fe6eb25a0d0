use Prim.Native.Nat.{ℕ}
use mathlib.Core.Path.{sym}
use native.Mathlib.Omega.{arith}
use lib.ListN.{length-replicate}
use lib.Seq.{length-take-le}
use Rattle.answer_text.proofs.Texts.{told_as, modules_few, verdicts_are, fits_as, listing_as}
use Rattle.answer_text.proofs.listed.Goals as goal

pub slice_bounds-verdicts-end : goal.slice_bounds-verdicts-end
slice_bounds-verdicts-end c =
    let few = modules_few c.requires.loaded _ c.header_of-h.ensures in
    omega (arith, few, c.effects.auto.row, length-replicate {A = ℕ} 1024 0)

pub slice_bounds-form-end : goal.slice_bounds-form-end
slice_bounds-form-end c =
    let few = modules_few c.requires.loaded _ c.header_of-h.ensures in
    sym (length-take-le _ _ (omega (arith, few, c.effects.auto.row, length-replicate {A = ℕ} 1024 0)))

pub form-requires : goal.form-requires
form-requires c =
    let s = c.requires in record { loaded = s.loaded; fits = fits_as _ _ _ _ _ _ _ _ _ _ _ _ _ _ (verdicts_are s.loaded _ c.header_of-h.ensures _ _ (omega arith) c.effects.ensures.1) s.fits }

pub returns : goal.returns
returns c =
    told_as _ _ (listing_as _ _ _ _ _ _ _ _ _ _ _ _ _ _ (verdicts_are c.requires.loaded _ c.header_of-h.ensures _ _ (omega arith) c.effects.ensures.1)) c.form.ensures
