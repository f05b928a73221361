-- What follows from a fact of a result.
use Rattle.std.proofs.Common.{Result, Ok, Err}
use Rattle.std.specs.Prelude.{IfErr, IfOk}

-- where it is Ok
pub IfOk-one : {T E : Type 0} {P Q : T → Type 0} (r : Result T E) → ((x : T) → P x → Q x)
    → IfOk r P → IfOk r Q
IfOk-one (Ok x) f p = f x p
IfOk-one (Err e) f p = tt

-- where it is an error
pub IfErr-one : {T E : Type 0} {P Q : E → Type 0} (r : Result T E) → ((e : E) → P e → Q e)
    → IfErr r P → IfErr r Q
IfErr-one (Ok x) f p = tt
IfErr-one (Err e) f p = f e p
