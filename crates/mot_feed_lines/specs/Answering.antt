-- What lines are answered that come between the packets of a feed.
use Rattle.std.specs.Prelude.{◌≡◌, ◌≢◌, ◌⊎◌, ℕ, ◌<◌, Bool, List, [], ◌∷◌, ◌++◌, Option, None, zero}
use Rattle.std.specs.Prelude.{suc}
use Rattle.mot_lines.specs.Lines.{bytes_in_hand, rest_of, whole_lines}
use Rattle.mot_lines.specs.Line.{line_of}
use Rattle.mot_numbers.specs.declared.refusal.Refusal.{Refusal}
use Rattle.mot_objects.specs.Carousel.{Carousel}
use Rattle.mot_objects.specs.declared.command.Command.{Command}
use Rattle.mot_session.specs.Session.{command_in}
use Rattle.mot_update.specs.HasRun.{Telling}

-- the command that a line asks for; or none, where it asks for none, or memory was wanted for it
abbrev pub IsAskedBy : (line : List ℕ) → List Command → Type 0
IsAskedBy line commands = (commands ≡ []) ⊎ (commands ≡ command_in (line_of line))

-- those of these lines, in their order
abbrev pub AreAskedBy : (lines : List (List ℕ)) → List Command → Type 0
AreAskedBy [] commands = commands ≡ []
AreAskedBy (line ∷ lines) commands =
    (first others : List Command) × IsAskedBy line first × AreAskedBy lines others
    × (commands ≡ first ++ others)

-- of an input that was taken before, each of these lines has ended since and was answered, up to a
-- fault
pub record HaveEnded (before after : List ℕ) (lines : List (List ℕ)) (fault : Option Refusal) :
    Type 0 where
  pub unanswered : List (List ℕ)
  pub ended : whole_lines after ≡ whole_lines before ++ lines ++ unanswered
  pub whole : fault ≡ None → unanswered ≡ []

-- a hand that has what comes behind a line end
abbrev pub IsInHand : List ℕ → Type 0
IsInHand hand = hand ≡ bytes_in_hand (rest_of hand)

-- how many come before the next call that reads, behind one before which so many came
abbrev pub late_behind : (between left : ℕ) → ℕ
late_behind between zero = between
late_behind between (suc left) = left

-- What gives lines is seen so. By what one read gave between two moments Gives says.
module _ {V : Type 0} (Gives : V → V → List ℕ → Type 0) where
  -- One read gave this, and behind what was in hand these lines have ended with it: these are their
  -- commands.
  pub record AreOfLines (hand then_hand : List ℕ) (earlier later : V) (commands : List Command)
      (fault : Option Refusal) : Type 0 where
    pub more : List ℕ
    pub given : Gives earlier later more
    pub lines : List (List ℕ)
    pub ended : HaveEnded hand (hand ++ more) lines fault
    pub are : AreAskedBy lines commands
    pub in_hand : fault ≡ None → then_hand ≡ bytes_in_hand (rest_of (hand ++ more))

  -- what is told of lines where the hand has what comes behind a line end
  abbrev pub TellsLines : (hand then_hand : List ℕ) (earlier later : V)
      → List Command → List Bool → Option Refusal → Type 0
  TellsLines hand then_hand earlier later commands marks fault =
      IsInHand hand → AreOfLines hand then_hand earlier later commands fault

  -- What is told of a call before which so many more come: what the other update tells, where that
  -- broke off or none of the lines was due, nothing is read, and the hand stays; or that, and behind
  -- it what is told of the lines.
  pub data TellsBetween (left : ℕ) (hand then_hand : List ℕ) (earlier later : V)
      (other : Telling) (c : Carousel) :
      List Command → List Bool → Option Refusal → Type 0 where
    other_alone : (commands : List Command) (marks : List Bool) (fault : Option Refusal)
        → (0 < left) ⊎ (fault ≢ None) → then_hand ≡ hand → later ≡ earlier
        → other c commands marks fault
        → TellsBetween left hand then_hand earlier later other c commands marks fault
    then_lines : (commands others : List Command) (marks rest : List Bool)
        (fault : Option Refusal) → left ≡ 0 → other c commands marks None
        → TellsLines hand then_hand earlier later others rest fault
        → TellsBetween left hand then_hand earlier later other c (commands ++ others)
        (marks ++ rest) fault

  -- The same of a call where so many come between two that read, before which so many more came and
  -- behind which so many come, up to a fault.
  abbrev pub TellsInTurn : (between left then_left : ℕ) → (hand then_hand : List ℕ)
      → (earlier later : V) → (other : Telling) → Telling
  TellsInTurn between left then_left hand then_hand earlier later other c commands marks fault =
      (fault ≡ None → then_left ≡ late_behind between left)
      × TellsBetween left hand then_hand earlier later other c commands marks fault

  -- calls that go on, with so many between two that read
  abbrev pub TellsOnTime : (between then_between left then_left : ℕ) → (hand then_hand : List ℕ)
      → (earlier later : V) → (other : Telling) → Telling
  TellsOnTime between then_between left then_left hand then_hand earlier later other c commands
      marks fault =
      (then_between ≡ between)
      × TellsInTurn between left then_left hand then_hand earlier later other c commands marks
      fault
