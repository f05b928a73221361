-- The headline, from what a run leaves and what a restart gives.
use Rattle.std.proofs.Common.{◌≡◌, inl, inr, List, [], ◌++◌, append_assoc, append-nil, Result, Ok}
use Rattle.std.proofs.Common.{Err, sym, ◌∙◌, subst}
use Rattle.std.specs.Prelude.{IfOk, IfErr, OnOk}
use Rattle.disk_model.specs.Disk.{State}
use Rattle.mot_journal.specs.Image.{Standing, stands_for}
use Rattle.mot_numbers.specs.declared.refusal.Refusal.{Refusal}
use Rattle.mot_objects.specs.declared.command.Command.{Command}
use Rattle.mot_repository.specs.Repository.{IsOf}
use Rattle.mot_journal.specs.Journal.IsReadingRefusal.{not_formatted, damaged, no_memory, device}
use Rattle.mot_repository.specs.Opening.{IsOpeningRefusal, IsPassing}
use Rattle.mot_playout.specs.Runs.{IsAfter, IsAfterSome}
use Rattle.mot_playout.proofs.Runs.{after_both}

-- a history, and what a crash since its end leaves of a run
pub after_history : (s now last : Standing) (acknowledged sure others : List Command)
    → IsAfter s acknowledged now → IsAfterSome now sure others last
    → IsAfterSome s (acknowledged ++ sure) others last
after_history s now last acknowledged sure others history is = record {
  count = is.count;
  few = is.few;
  after = subst (λ l. IsAfter s l last) (sym (append_assoc acknowledged sure _))
      (after_both s acknowledged (sure ++ _) now last history is.after);
}

-- the same where nothing of the run is sure
pub after_history_none : (s now last : Standing) (acknowledged others : List Command)
    → IsAfter s acknowledged now → IsAfterSome now [] others last
    → IsAfterSome s acknowledged others last
after_history_none s now last acknowledged others history is =
    subst (λ l. IsAfterSome s l others last) (append-nil acknowledged)
    (after_history s now last acknowledged [] others history is)

abbrev IsFailure : Result Standing Refusal → Type 0
IsFailure (Ok s) = ⊥
IsFailure (Err refusal) = Unit {0}

not-both : (s : Standing) (refusal : Refusal) (r : Result Standing Refusal) → r ≡ Ok s
    → r ≡ Err refusal → ⊥
not-both s refusal r is was = subst IsFailure (sym was ∙ is) tt

-- bytes that stand for a carousel are refused for a passing reason alone
pub passing : (old new : State) (s : Standing) (refusal : Refusal) → new.IsHonest → IsOf s old.bytes
    → IsOpeningRefusal old new refusal → IsPassing old new refusal
passing old new s refusal honest image (not_formatted e why) =
    absurd (not-both s refusal (stands_for old.bytes) image.stands (why honest))
passing old new s refusal honest image (damaged slot e why) =
    absurd (not-both s refusal (stands_for old.bytes) image.stands (why honest))
passing old new s refusal honest image (no_memory e) = inl e
passing old new s refusal honest image (device e rises) = inr (e, rises)

-- what follows from two facts of an Ok result
pub if_both_ok : {A B : Type 0} (P Q R : A → Type 0) (r : Result A B) → ((a : A) → P a → Q a → R a)
    → IfOk r P → IfOk r Q → IfOk r R
if_both_ok P Q R (Ok a) f p q = f a p q
if_both_ok P Q R (Err e) f p q = tt

-- what follows from a fact of an Ok result
pub if_ok : {A B : Type 0} (P Q : A → Type 0) (r : Result A B) → ((a : A) → P a → Q a) → IfOk r P
    → IfOk r Q
if_ok P Q (Ok a) f p = f a p
if_ok P Q (Err e) f p = tt

-- what follows from a fact where the result is Ok
pub on_ok : {A B : Type 0} {P Q : Type 0} (r : Result A B) → (P → Q) → OnOk r P → OnOk r Q
on_ok (Ok a) f p = f p
on_ok (Err e) f p = tt

-- what follows from a fact of an error
pub if_err : {A B : Type 0} (P Q : B → Type 0) (r : Result A B) → ((b : B) → P b → Q b) → IfErr r P
    → IfErr r Q
if_err P Q (Ok a) f p = tt
if_err P Q (Err e) f p = f e p
