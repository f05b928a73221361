-- A fault that is handed on.
use Rattle.std.proofs.Common.{Result, Err, Ok, ◌≡◌, ap}
use Rattle.std.specs.Result.{IsErrAnd}

pub failed_is : {T E : Type 0} (result : Result T E) (error : E) → IsErrAnd result (λ e. e ≡ error)
    → result ≡ Err error
failed_is (Ok value) error is = absurd is
failed_is (Err e) error is = ap (λ e. Err e) is
