-- What a source learns of a look: what came of each command, in order.
use Rattle.std.specs.Prelude.{◌≡◌, ℕ, Bool, true, false, List, [], ◌∷◌, ◌++◌, Ok, Err, ⊤}
use Rattle.mot_journal.specs.Image.{Standing}
use Rattle.mot_journal.specs.declared.layout.Layout.{Layout}
use Rattle.mot_objects.specs.declared.command.Command.{Command}
use Rattle.mot_objects.specs.declared.command.Command.TheVariants as command
use Rattle.mot_repository.specs.Outcome.{after_command}
use Rattle.mot_playout.specs.declared.running.Attempt.{Attempt}
use Rattle.mot_playout.specs.declared.running.Attempt.TheVariants.{Accepted, Refused}
use Rattle.mot_update.specs.declared.settling.SettleOutcome.{SettleOutcome}
use Rattle.mot_update.specs.declared.settling.SettleOutcome.TheVariants as settled
use Rattle.mot_objects.specs.declared.command.Item.{Item}

-- what came of a command on the object of this name
pub data Answer : Type 0 where
  Withdrew : List ℕ → Attempt → Answer
  Put : List ℕ → Attempt → Answer
  Replaced : List ℕ → Attempt → Answer

-- of an object that is right nothing is told
abbrev pub answers_of : List ℕ → SettleOutcome → List Answer
answers_of name settled.Right = []
answers_of name (settled.Put attempt) = Put name attempt ∷ []
answers_of name (settled.Replaced attempt) = Replaced name attempt ∷ []

-- what was done for a wanted object
abbrev pub commands_of : SettleOutcome → Item → List Command
commands_of settled.Right w = []
commands_of (settled.Put attempt) w = command.Put w.name w.content w.mime w.body ∷ []
commands_of (settled.Replaced attempt) w = command.Replace w.name w.content w.mime w.body ∷ []

abbrev pub was_accepted : Attempt → Bool
was_accepted (Accepted done) = true
was_accepted (Refused refusal) = false

-- what came of its command
abbrev pub came_of : Answer → Attempt
came_of (Withdrew name attempt) = attempt
came_of (Put name attempt) = attempt
came_of (Replaced name attempt) = attempt

-- it tells of this command
abbrev pub IsAnswerTo : Answer → Command → Type 0
IsAnswerTo (Withdrew name attempt) (command.Withdraw n) = name ≡ n
IsAnswerTo (Put name attempt) (command.Put n content mime body) = name ≡ n
IsAnswerTo (Replaced name attempt) (command.Replace n content mime body) = name ≡ n
IsAnswerTo answer other = ⊥

-- each command that was answered is told, as it was marked, in order, and nothing else
abbrev pub AreAnswers : List Answer → List Command → List Bool → Type 0
AreAnswers answers commands [] = answers ≡ []
AreAnswers (answer ∷ answers) (command ∷ commands) (mark ∷ marks) = IsAnswerTo answer command
    × (was_accepted (came_of answer) ≡ mark) × AreAnswers answers commands marks
AreAnswers answers commands (mark ∷ marks) = ⊥

-- It is what comes of this command, on a disk of this layout that stands for this, and then for
-- that: the ids that it takes, or why it is refused.
abbrev pub IsAttemptOf : Layout → Standing → Command → Attempt → Standing → Type 0
IsAttemptOf layout s command (Accepted done) next = after_command layout s command ≡ Ok (next, done)
IsAttemptOf layout s command (Refused refusal) next =
    (next ≡ s) × (after_command layout s command ≡ Err refusal)

-- each answer tells what comes of its command, behind those before it
abbrev pub AreAttemptsOf : Layout → Standing → List Command → List Answer → Type 0
AreAttemptsOf layout s commands [] = ⊤
AreAttemptsOf layout s [] (answer ∷ answers) = ⊥
AreAttemptsOf layout s (command ∷ commands) (answer ∷ answers) =
    (next : Standing) × IsAttemptOf layout s command (came_of answer) next
    × AreAttemptsOf layout next commands answers

-- what was told goes on by these
abbrev pub TellsMore : (List Answer → Type 0) → (List Answer → Type 0) → List Answer → Type 0
TellsMore before after answers = (told : List Answer) → before told → after (told ++ answers)

-- what was told goes on by these, and what was given by those
abbrev pub TellsBoth : (List Answer → List Item → Type 0) → (List Answer → List Item → Type 0)
    → List Answer → List Item → Type 0
TellsBoth before after answers wanted =
    (given : List Item)
    → TellsMore (λ told. before told given) (λ told. after told (given ++ wanted)) answers

-- the same, of whatever stays true meanwhile
abbrev pub TellsSince : {Since : Type 0} → (Since → List Answer → List Item → Type 0)
    → (Since → List Answer → List Item → Type 0) → List Answer → List Item → Type 0
TellsSince before after answers wanted = (since : _) → TellsBoth (before since) (after since) answers wanted
