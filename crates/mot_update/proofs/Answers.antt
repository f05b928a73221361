-- What is told of commands, one after the other.
use Rattle.std.proofs.Common.{◌≡◌, ℕ, Bool, List, [], ◌∷◌, ◌++◌, length, Ok, refl, sym, subst}
use Rattle.std.proofs.Common.{arith}
use Rattle.std.proofs.Common.{append_assoc, append-nil}
use Rattle.mot_objects.specs.declared.command.Command.{Command}
use Rattle.mot_objects.specs.declared.command.Command.TheVariants as command
use Rattle.mot_playout.specs.Attempts as attempts
use Rattle.mot_playout.specs.declared.running.Attempt.{Attempt}
use Rattle.mot_playout.specs.declared.running.Attempt.TheVariants.{Accepted, Refused}
use Rattle.mot_update.specs.HasRun.{marks_of_settling}
use Rattle.mot_update.specs.Told.{Answer, AreAnswers, TellsMore, TellsSince, Withdrew}
use Rattle.mot_update.specs.Told.{answers_of, commands_of}
use Rattle.mot_update.specs.declared.settling.SettleOutcome.{SettleOutcome}
use Rattle.mot_update.specs.declared.settling.SettleOutcome.TheVariants as settled
use Rattle.mot_objects.specs.declared.command.Item.{Item}

-- what was told, and then more
pub tells_trans : (a b c : List Answer → Type 0) (xs ys : List Answer) → TellsMore a b xs
    → TellsMore b c ys → TellsMore a c (xs ++ ys)
tells_trans a b c xs ys p q = λ told was.
    subst c (append_assoc told xs ys) (q (told ++ xs) (p told was))

-- what tells of answers tells no more of them
pub tells_nil : (a : List Answer → Type 0) → TellsMore a a []
tells_nil a = λ told was. subst a (sym (append-nil told)) was

-- nothing was told before
pub tells_on : (a b c : List Answer → Type 0) (xs : List Answer) → TellsMore a b []
    → TellsMore b c xs
    → TellsMore a c xs
tells_on a b c xs p q = λ told was. q told (subst b (append-nil told) (p told was))

-- ---- the same with what was given

pub both_trans : {Since : Type 0} (a b c : Since → List Answer → List Item → Type 0) (xs ys : List Answer)
    (us vs : List Item) → TellsSince a b xs us → TellsSince b c ys vs
    → TellsSince a c (xs ++ ys) (us ++ vs)
both_trans a b c xs ys us vs p q = λ since given told was.
    subst (λ (l : List Item). c since (told ++ (xs ++ ys)) l) (append_assoc given us vs)
    (tells_trans (λ t. a since t given) (λ t. b since t (given ++ us))
    (λ t. c since t ((given ++ us) ++ vs)) xs ys (p since given) (q since (given ++ us)) told was)

pub both_nil : {Since : Type 0} (a : Since → List Answer → List Item → Type 0) → TellsSince a a [] []
both_nil a = λ since given told was.
    subst (λ (l : List Item). a since (told ++ []) l) (sym (append-nil given))
    (tells_nil (λ t. a since t given) told was)

-- nothing more was told or given
pub both_kept : {Since : Type 0} (a b c : Since → List Answer → List Item → Type 0) (xs : List Answer) (us : List Item)
    → TellsSince a b xs us → TellsSince b c [] [] → TellsSince a c xs us
both_kept a b c xs us p q =
    subst (λ (l : List Item). TellsSince a c xs l) (append-nil us)
    (subst (λ (l : List Answer). TellsSince a c l (us ++ [])) (append-nil xs)
    (both_trans a b c xs [] us [] p q))

-- nothing more was told, and these were given
pub both_gives : {Since : Type 0} (a b c : Since → List Answer → List Item → Type 0) (xs : List Answer)
    (us vs : List Item) → TellsSince a b xs us → TellsSince b c [] vs → TellsSince a c xs (us ++ vs)
both_gives a b c xs us vs p q =
    subst (λ (l : List Answer). TellsSince a c l (us ++ vs)) (append-nil xs)
    (both_trans a b c xs [] us vs p q)

-- these were given, and then these told
pub both_on : {Since : Type 0} (a b c : Since → List Answer → List Item → Type 0) (xs : List Answer) (us : List Item)
    → TellsSince a b [] us → TellsSince b c xs [] → TellsSince a c xs us
both_on a b c xs us p q =
    subst (λ (l : List Item). TellsSince a c xs l) (append-nil us)
    (both_trans a b c [] xs us [] p q)

-- commands that were not answered
pub answers-more : (answers : List Answer) (commands others : List Command) (marks : List Bool)
    → AreAnswers answers commands marks → AreAnswers answers (commands ++ others) marks
answers-more answers commands others [] are = are
answers-more [] commands others (mark ∷ marks) are = absurd are
answers-more (answer ∷ answers) [] others (mark ∷ marks) are = absurd are
answers-more (answer ∷ answers) (command ∷ commands) others (mark ∷ marks) are =
    (are.0, are.1, answers-more answers commands others marks are.2)

-- commands that were all answered, and then others
pub answers-join : (answers more : List Answer) (commands others : List Command)
    (marks then_marks : List Bool) → AreAnswers answers commands marks
    → length marks ≡ length commands → AreAnswers more others then_marks
    → AreAnswers (answers ++ more) (commands ++ others) (marks ++ then_marks)
answers-join answers more [] others [] then_marks are whole next =
    subst (λ l. AreAnswers (l ++ more) others then_marks) (sym are) next
answers-join answers more [] others (mark ∷ marks) then_marks are whole next =
    absurd (omega (arith, whole))
answers-join answers more (command ∷ commands) others [] then_marks are whole next =
    absurd (omega (arith, whole))
answers-join [] more (command ∷ commands) others (mark ∷ marks) then_marks are whole next =
    absurd are
answers-join (answer ∷ answers) more (command ∷ commands) others (mark ∷ marks) then_marks are
    whole next = (
      are.0,
      are.1,
      answers-join answers more commands others marks then_marks are.2
          (omega (arith, whole)) next,
    )

-- a fault came before the next answer
pub answers-cut : (answers : List Answer) (commands others : List Command) (marks : List Bool)
    → AreAnswers answers commands marks → AreAnswers answers (commands ++ others) (marks ++ [])
answers-cut answers commands others marks are =
    subst (λ l. AreAnswers answers (commands ++ others) l) (sym (append-nil marks))
    (answers-more answers commands others marks are)

-- one withdrawal
pub answer-withdrew : (name : List ℕ) (attempt : Attempt)
    → AreAnswers (Withdrew name attempt ∷ []) (command.Withdraw name ∷ [])
    (attempts.marks_of (Ok attempt))
answer-withdrew name (Accepted done) = (refl, refl, refl)
answer-withdrew name (Refused refusal) = (refl, refl, refl)

-- one wanted object
pub answers-settled : (settled : SettleOutcome) (w : Item)
    → AreAnswers (answers_of w.name settled) (commands_of settled w)
    (marks_of_settling (Ok settled))
answers-settled settled.Right w = refl
answers-settled (settled.Put (Accepted done)) w = (refl, refl, refl)
answers-settled (settled.Put (Refused refusal)) w = (refl, refl, refl)
answers-settled (settled.Replaced (Accepted done)) w = (refl, refl, refl)
answers-settled (settled.Replaced (Refused refusal)) w = (refl, refl, refl)
