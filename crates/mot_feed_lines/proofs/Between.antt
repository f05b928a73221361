-- Updates one after the other.
use Rattle.std.proofs.Common.{◌≡◌, ℕ, ◌<◌, Bool, true, false, List, [], ◌++◌, Option, None, refl}
use Rattle.std.proofs.Common.{sym, subst, ◌-◌, arith, zero, suc}
use Rattle.std.proofs.lemmas.Slice.Eq.{bytes_eq-Decides}
use Rattle.std.specs.Prelude.{◌≢◌, ◌⊎◌, ⊤, Decides, bytes_eq}
use Rattle.mot_feed_lines.proofs.Requests.{never}
use Rattle.disk_model.specs.Disk.{State, IsHonestDisk}
use Rattle.disk_model.proofs.Laws.{unchanged_none}
use Rattle.mot_feed_lines.specs.Answering.{IsInHand, TellsBetween, TellsLines, TellsOnTime}
use Rattle.mot_feed_lines.specs.Answering.{late_behind}
use Rattle.mot_feed_lines.specs.Inner.{AnswersMore}
use Rattle.mot_feed_lines.specs.Answering.TellsBetween.{other_alone, then_lines}
use Rattle.mot_lines.specs.Lines.{bytes_in_hand, rest_of}
use Rattle.mot_journal.specs.Image.{Standing}
use Rattle.mot_numbers.specs.declared.refusal.Refusal.{Refusal}
use Rattle.mot_objects.specs.declared.command.Command.{Command}
use Rattle.mot_repository.specs.Repository.{Holds}
use Rattle.mot_playout.specs.Runs.{ServerView}
use Rattle.mot_update.specs.HasRun.{IsUpdating, Telling, HasRun}
use Rattle.mot_update.proofs.Laws.{has_read, join}

module _ {D : Type 0} (state : D → State) where
  -- commands of which nothing is told
  pub updating_by : (old new : ServerView D) (s : Standing) (commands : List Command)
      (marks : List Bool) (fault : Option Refusal)
      → HasRun old new (state old.disk) (state new.disk) s commands marks fault
      → IsUpdating (λ _ _ _ _. ⊤) old new (state old.disk) (state new.disk) s fault
  updating_by old new s commands marks fault run = record {
    commands = commands;
    marks = marks;
    run = run;
    told = tt;
  }

  -- an update that begins has run no commands
  pub updating_none : (server : ServerView D) (s : Standing) → IsHonestDisk (state server.disk)
      → (state server.disk).IsHonest → Holds server.view s (state server.disk)
      → IsUpdating (λ _ _ _ _. ⊤) server server (state server.disk) (state server.disk) s None
  updating_none server s sound honest holds = updating_by server server s [] [] None
      (has_read server server (state server.disk) (state server.disk) s None sound refl refl
      honest (unchanged_none (state server.disk)) holds).0

  -- an update without a fault, and one more behind it, are one update
  pub updating_on : (old mid new : ServerView D) (s : Standing) (fault : Option Refusal)
      → IsUpdating (λ _ _ _ _. ⊤) old mid (state old.disk) (state mid.disk) s None
      → ((t : Standing) → Holds mid.view t (state mid.disk)
      → IsUpdating (λ _ _ _ _. ⊤) mid new (state mid.disk) (state new.disk) t fault)
      → IsUpdating (λ _ _ _ _. ⊤) old new (state old.disk) (state new.disk) s fault
  updating_on old mid new s fault one then =
      let two = then one.run.leaves.last (one.run.leaves.going refl) in
      updating_by old new s (one.commands ++ two.commands) (one.marks ++ two.marks) fault
      (join old mid new (state old.disk) (state mid.disk) (state new.disk) s one.commands
      two.commands one.marks two.marks fault one.run two.run)

  -- lines that were taken tell of their commands
  pub updating_lines : (old new : ServerView D) (s : Standing) (fault : Option Refusal)
      (hand then_hand more : List ℕ) {V : Type 0} (earlier later : V)
      (Gives : V → V → List ℕ → Type 0) → Gives earlier later more
      → Holds old.view s (state old.disk) → (state new.disk).IsHonest
      → IsUpdating (λ _ _ _ _. ⊤) old new (state old.disk) (state new.disk) s fault
      → ((input : List ℕ) → hand ≡ bytes_in_hand (rest_of input)
      → AnswersMore state old new input (input ++ more) fault)
      → ((input : List ℕ) → hand ≡ bytes_in_hand (rest_of input) → fault ≡ None
      → then_hand ≡ bytes_in_hand (rest_of (input ++ more)))
      → IsUpdating (λ _. TellsLines Gives hand then_hand earlier later) old new
      (state old.disk) (state new.disk) s fault
  updating_lines old new s fault hand then_hand more earlier later Gives given holds honest
      anyhow takes keeps =
      cases (bytes_eq hand (bytes_in_hand (rest_of hand))) (bytes_eq-Decides hand _)
    where
      of_these : IsInHand hand
          → IsUpdating (λ _. TellsLines Gives hand then_hand earlier later) old new
          (state old.disk) (state new.disk) s fault
      of_these is =
          let taken = takes hand is in
          let run = taken.run s holds honest in
          record {
            commands = taken.commands;
            marks = run.0;
            run = run.1;
            told = λ _. record {
              more = more;
              given = given;
              lines = taken.lines;
              ended = taken.ended;
              are = taken.are;
              in_hand = keeps hand is;
            };
          }

      cases : (b : Bool) → Decides b (IsInHand hand)
          → IsUpdating (λ _. TellsLines Gives hand then_hand earlier later) old new
          (state old.disk) (state new.disk) s fault
      cases true is = of_these (is.0 refl)
      cases false is = record {
        commands = anyhow.commands;
        marks = anyhow.marks;
        run = anyhow.run;
        told = λ e. absurd (never (is.1 e));
      }

  module _ {V : Type 0} (Gives : V → V → List ℕ → Type 0) where
    -- the other update alone
    pub updating_alone : (other : Telling) (left : ℕ) (hand : List ℕ)
        (given : V) (old new : ServerView D) (s : Standing)
        (fault : Option Refusal) → (0 < left) ⊎ (fault ≢ None)
        → IsUpdating other old new (state old.disk) (state new.disk) s fault
        → IsUpdating (TellsBetween Gives left hand hand given given other) old new
        (state old.disk) (state new.disk) s fault
    updating_alone other left hand given old new s fault undue one = record {
      commands = one.commands;
      marks = one.marks;
      run = one.run;
      told = other_alone one.commands one.marks fault undue refl refl one.told;
    }

    -- and lines behind it
    pub updating_then : (other : Telling) (left : ℕ) (hand then_hand : List ℕ)
        (earlier later : V) (old mid new : ServerView D) (s : Standing)
        (fault : Option Refusal) → left ≡ 0
        → IsUpdating other old mid (state old.disk) (state mid.disk) s None
        → ((t : Standing) → Holds mid.view t (state mid.disk)
        → IsUpdating (λ _. TellsLines Gives hand then_hand earlier later) mid new
        (state mid.disk) (state new.disk) t fault)
        → IsUpdating (TellsBetween Gives left hand then_hand earlier later other) old new
        (state old.disk) (state new.disk) s fault
    updating_then other left hand then_hand earlier later old mid new s fault due one after =
        let two = after one.run.leaves.last (one.run.leaves.going refl) in
        record {
          commands = one.commands ++ two.commands;
          marks = one.marks ++ two.marks;
          run = join old mid new (state old.disk) (state mid.disk) (state new.disk) s one.commands
              two.commands one.marks two.marks fault one.run two.run;
          told = then_lines one.commands two.commands one.marks two.marks fault due one.told
              two.told;
        }

-- ---- when the next is due

-- a call that reads nothing counts
pub counted : (between left : ℕ) → 0 < left → left - 1 ≡ late_behind between left
counted between zero due = absurd (omega (arith, due))
counted between (suc n) due = omega arith

-- one that reads begins the count anew
pub begun_anew : (between left : ℕ) → left ≡ 0 → between ≡ late_behind between left
begun_anew between left due =
    subst (λ (n : ℕ). between ≡ late_behind between n) (sym due) refl

-- the same calls with their count
pub on_time : {D : Type 0} {V : Type 0} {Gives : V → V → List ℕ → Type 0}
    {between then_between left then_left : ℕ} {hand then_hand : List ℕ}
    {earlier later : V} {other : Telling} {old new : ServerView D} {start now : State}
    {s : Standing} {fault : Option Refusal} → then_between ≡ between
    → (fault ≡ None → then_left ≡ late_behind between left)
    → IsUpdating (TellsBetween Gives left hand then_hand earlier later other) old new start
    now s fault
    → IsUpdating (TellsOnTime Gives between then_between left then_left hand then_hand earlier
    later other) old new start now s fault
on_time same counts is = record {
  commands = is.commands;
  marks = is.marks;
  run = is.run;
  told = (same, (counts, is.told));
}
