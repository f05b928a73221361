-- Calls that change nothing, one after the other.
use Rattle.std.proofs.Common.{◌≡◌, ◌∙◌, List, [], ◌∷◌, ◌++◌, ap, append_assoc, append-nil, sym, true}
use Rattle.std.proofs.lemmas.List.Elements.{All-append, All-cons, All-nil}
use Rattle.std.proofs.Common.{Err, IfErr, IfNone, IfOk, IfSome, IsErrAnd, None, Ok, OnOk, Option, Result}
use Rattle.std.proofs.Common.{Some, if◌then◌else◌, is_ok}
use Rattle.mot_devices.specs.Looking.{OnlyLooks, Within}
use Rattle.mot_files.specs.Looking.{changes_nothing}
use Rattle.mot_files.specs.Call.{Call}

pub looks_none : (a : List Call) → OnlyLooks a a
looks_none a = record { more = []; calls = sym (append-nil a); still = All-nil _ }

pub looks_one : (a b : List Call) (call : Call) → b ≡ a ++ call ∷ []
    → changes_nothing call.what ≡ true → OnlyLooks a b
looks_one a b call calls still =
    record { more = call ∷ []; calls = calls; still = All-cons (λ (c : Call). changes_nothing c.what ≡ true) call [] still (All-nil _) }

pub looks_on : (a b c : List Call) → OnlyLooks a b → OnlyLooks b c → OnlyLooks a c
looks_on a b c first next = record {
  more = first.more ++ next.more;
  calls = next.calls ∙ ap (λ l. l ++ next.more) first.calls ∙ append_assoc a first.more next.more;
  still = All-append (λ (call : Call). changes_nothing call.what ≡ true) first.more next.more
      first.still next.still;
}

-- what follows from an answer's fact
pub on_ok : {T E X Q : Type 0} (new done left : X) → (new ≡ done → Q) → (r : Result T E)
    → new ≡ (if is_ok r then done else left) → OnOk r Q
on_ok new done left follows (Ok v) is = follows is
on_ok new done left follows (Err e) is = tt

pub if_ok : {T E : Type 0} {P Q : T → Type 0} → ((v : T) → P v → Q v) → (r : Result T E) → IfOk r P
    → IfOk r Q
if_ok follows (Ok v) is = follows v is
if_ok follows (Err e) is = tt

pub if_err : {T E : Type 0} {P Q : E → Type 0} → ((e : E) → P e → Q e) → (r : Result T E)
    → IfErr r P → IfErr r Q
if_err follows (Ok v) is = tt
if_err follows (Err e) is = follows e is

pub if_none : {T P Q : Type 0} → (P → Q) → (r : Option T) → IfNone r P → IfNone r Q
if_none follows None is = follows is
if_none follows (Some v) is = tt

pub if_some : {T : Type 0} {P Q : T → Type 0} → ((v : T) → P v → Q v) → (r : Option T) → IfSome r P
    → IfSome r Q
if_some follows None is = tt
if_some follows (Some v) is = follows v is

-- what was done between calls that change nothing
pub within : (P : List Call → List Call → Type 0) (a b : List Call) → P a b → Within P a b
within P a b is = record {
  first = a;
  last = b;
  before = looks_none a;
  done = is;
  behind = looks_none b;
}

pub within_before : (P : List Call → List Call → Type 0) (a b c : List Call) → Within P a b
    → OnlyLooks b c → Within P a c
within_before P a b c is on = record {
  first = is.first;
  last = is.last;
  before = is.before;
  done = is.done;
  behind = looks_on is.last b c is.behind on;
}

pub within_behind : (P : List Call → List Call → Type 0) (a b c : List Call) → OnlyLooks a b
    → Within P b c → Within P a c
within_behind P a b c on is = record {
  first = is.first;
  last = is.last;
  before = looks_on a b is.first on is.before;
  done = is.done;
  behind = is.behind;
}

pub err_and : {T E : Type 0} {P Q : E → Type 0} → ((e : E) → P e → Q e) → (r : Result T E)
    → IsErrAnd r P → IfErr r Q
err_and follows (Ok v) is = tt
err_and follows (Err e) is = follows e is
