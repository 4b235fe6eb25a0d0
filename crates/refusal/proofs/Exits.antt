-- refusal/proofs/Exits.antt
-- What the exit of a `?` returns: the error that was met.
use Rattle.std.proofs.Common.{◌≡◌, ◌∙◌, ap}
use Rattle.std.specs.Prelude.{Result, Err}
use Rattle.std.specs.Result.{IsErrAnd}
use Rattle.std.proofs.lemmas.Result.{err_from_is_err_and}

pub passed_on : {A E : Type 0} (r : Result A E) (why : E) → IsErrAnd r (λ x. x ≡ why) → r ≡ Err why
passed_on r why e = let p = err_from_is_err_and r e in p.1 ∙ ap Err p.2
