-- What the exit of a `?` returns.
use Rattle.std.proofs.Common.{◌≡◌, ◌∙◌, Err, Result, ap}
use Rattle.std.specs.Result.{IsErrAnd}
use Rattle.std.proofs.lemmas.Result.{err_from_is_err_and}

-- an error that is known
pub err_of : {T E : Type 0} {r : Result T E} {error : E} → IsErrAnd r (λ e. e ≡ error)
    → r ≡ Err error
err_of {r = r} is = let both = err_from_is_err_and r is in both.1 ∙ ap Err both.2
