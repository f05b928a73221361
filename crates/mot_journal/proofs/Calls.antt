-- What a run of calls of a disk keeps, costs and tells of failures.
use Rattle.std.proofs.Common.{◌≡◌, ℕ, ◌+◌, ◌≤◌, ◌<◌, false, true, Result, Ok, Err, inl, inr, refl}
use Rattle.std.proofs.Common.{sym, subst, arith}
use Rattle.std.specs.Prelude.{IsErr}
use Rattle.std.proofs.lemmas.Bool.{cases_lt}
use Rattle.std.proofs.lemmas.Result.{IfOk-from_err, on_ok_weaker}
use Rattle.disk_model.specs.Disk.{State, Costs, HasCause, Rises}
use Rattle.mot_journal.specs.Inner.Steps.{HasCauseOf}

not_both : false ≡ true → ⊥
not_both e = cc

-- a call that succeeded has not failed
pub calm : {T E : Type 0} {before now : ℕ} {v : T} → HasCause {E = E} before now (Ok v)
    → now ≡ before
calm {before = before} {now} cause = elim (cases_lt before now) [
  | inl lt ↦ absurd (not_both (cause.shown (inl lt)))
  | inr le ↦ let later = cause.later in omega (arith, le, later)
]

-- calls that succeeded, and then one that failed, have its cause
pub fails : {T A E F : Type 0} {old mid new : ℕ} {e : E} (r : Result A F) → IsErr r → mid ≡ old
    → HasCause {T = T} mid new (Err e) → HasCause old new r
fails {old = old} {mid} {new} r err same cause = record {
  later = let later = cause.later in omega (arith, later, same);
  fits = cause.fits;
  cause = λ is. subst (λ n. Rises n new) same (cause.cause refl);
  shown = λ rises. err;
}

-- calls that all succeeded have no cause
pub succeeds : {T A E F : Type 0} {old mid new : ℕ} {v : T} {w : A} → mid ≡ old
    → HasCause {E = E} mid new (Ok v) → HasCause {E = F} old new (Ok w)
succeeds {old = old} {mid} {new} same cause = record {
  later = let later = cause.later in omega (arith, later, same);
  fits = cause.fits;
  cause = λ is. absurd (not_both is);
  shown = λ rises. cause.shown (subst (λ n. Rises n new) (sym same) rises);
}

-- a run behind calls that succeeded has the cause of all
pub caused : {T E : Type 0} {old mid new : ℕ} {r : Result T E} → mid ≡ old → HasCause mid new r
    → HasCause old new r
caused {new = new} {r} same cause = subst (λ n. HasCause n new r) same cause

-- one call more
pub one_more : (a b c k : ℕ) → b ≡ a + k → c ≡ b + 1 → c ≡ a + (k + 1)
one_more a b c k e f = omega arith

-- fewer calls than a whole run makes, the last of which failed
pub costs_failed : {A F : Type 0} (n k : ℕ) (old new : State) (r : Result A F) → IsErr r → k ≤ n
    → new.calls ≡ old.calls + k → Costs n old new r
costs_failed n k old new r err le called =
    record { at_most = omega (arith, le, called); exact = IfOk-from_err r _ err }

-- as many calls as a whole run makes
pub costs_all : {A F : Type 0} (n : ℕ) (old new : State) (r : Result A F)
    → new.calls ≡ old.calls + n → Costs n old new r
costs_all n old new (Ok v) called = record { at_most = omega (arith, called); exact = called }
costs_all n old new (Err e) called = record { at_most = omega (arith, called); exact = tt }

-- a run behind so many calls
pub costs_on : {A F : Type 0} (n m k : ℕ) (old mid new : State) (r : Result A F) → k ≡ n + m
    → mid.calls ≡ old.calls + n → Costs m mid new r → Costs k old new r
costs_on n m k old mid new r is called cost = record {
  at_most = let most = cost.at_most in omega (arith, is, called, most);
  exact = on_ok_weaker r (λ exact. omega (arith, is, called, exact)) cost.exact;
}

-- one call is a run
pub as_run : {T E : Type 0} {old new : State} {r : Result T E}
    → HasCause old.failures new.failures r → HasCauseOf old new r
as_run cause = record {
  later = cause.later;
  fits = λ is. cause.fits;
  cause = cause.cause;
  shown = λ less. cause.shown (inl less);
}

-- a run that succeeded has not failed
pub calm_of : {T E : Type 0} {old new : State} {v : T} → HasCauseOf {E = E} old new (Ok v)
    → new.failures ≡ old.failures
calm_of {old = old} {new} cause = elim (cases_lt old.failures new.failures) [
  | inl lt ↦ absurd (not_both (cause.shown lt))
  | inr le ↦ let later = cause.later in omega (arith, le, later)
]

-- a run in which no count rose, and that succeeded
pub calm_run : {T E : Type 0} {old new : State} {v : T} → new.failures ≡ old.failures
    → HasCauseOf {E = E} old new (Ok v)
calm_run {old = old} {new} same = record {
  later = omega (arith, same);
  fits = λ is. absurd (not_both is);
  cause = λ is. absurd (not_both is);
  shown = λ less. absurd (omega (arith, less, same));
}

-- a run behind one that succeeded
pub fails_of : {T A E F : Type 0} {old mid new : State} {e : E} (r : Result A F) → IsErr r
    → mid.failures ≡ old.failures → HasCauseOf {T = T} mid new (Err e) → HasCauseOf old new r
fails_of {old = old} {mid} {new} r err same cause = record {
  later = let later = cause.later in omega (arith, later, same);
  fits = λ is. cause.fits refl;
  cause = λ is. subst (λ n. Rises n new.failures) same (cause.cause refl);
  shown = λ less. err;
}

-- a run behind calls that succeeded has the cause of all
pub caused_of : {T E : Type 0} {old mid new : State} {r : Result T E}
    → mid.failures ≡ old.failures → HasCauseOf mid new r → HasCauseOf old new r
caused_of {old = old} {mid} {new} same cause = record {
  later = let later = cause.later in omega (arith, later, same);
  fits = cause.fits;
  cause = λ is. subst (λ n. Rises n new.failures) same (cause.cause is);
  shown = λ less. cause.shown (subst (λ n. n < new.failures) (sym same) less);
}

-- a run of many calls that failed has the cause that one call would have
pub fails_run : {T A E F : Type 0} {old new : State} {e : E} (r : Result A F) → IsErr r
    → HasCauseOf {T = T} old new (Err e) → HasCause old.failures new.failures r
fails_run r err cause = record {
  later = cause.later;
  fits = cause.fits refl;
  cause = λ is. cause.cause refl;
  shown = λ rises. err;
}
