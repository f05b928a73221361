-- What was changed on a disk, told of the disk that it is made of.
use Rattle.std.proofs.Common.{ℕ, Bool, List, [], ◌∷◌, Option, None, Result, Ok, Err, ap, inl, inr}
use Rattle.disk_model.specs.Disk.{State}
use Rattle.mot_commands.specs.Changing.{Executes, Changes, Progress, Takes, TakesEach}
use Rattle.mot_commands.specs.declared.asking.Words.{Words}
use Rattle.mot_commands.proofs.Served.{opens_for-on}
use Rattle.mot_files.specs.Call.{Call}
use Rattle.mot_numbers.specs.declared.refusal.Refusal.{Refusal}
use Rattle.mot_objects.specs.declared.command.Command.{Command}
use Rattle.mot_objects.specs.declared.command.Done.{Done}
use Rattle.mot_playout.specs.Runs.{ServerView}
use Rattle.mot_session.proofs.Laws.{server_on}

module _ {D E : Type 0} (of : D → E) (state : E → State) (words : Words) where
  abbrev state_of : D → State
  state_of d = state (of d)

  abbrev on : Progress D → Progress E
  on p = (server_on of p.0, p.1, p.2)

  executes-on : (request : Result Command Refusal) (old new : ServerView D)
      (end : Result Done Refusal) → Executes state_of request old new end
      → Executes state request (server_on of old) (server_on of new) end
  executes-on (Ok command) old new end does = record {
    keeps = does.keeps;
    answered = does.answered;
    going = does.going;
    any_moment = does.any_moment;
    stored = does.stored;
  }
  executes-on (Err refusal) old new end none = (ap (server_on of) none.0, none.1)

  takes-on : (word : List ℕ) (done : Bool) (ending : Option Refusal) (old new : Progress D)
      → Takes state_of words word done ending old new
      → Takes state words word done ending (on old) (on new)
  takes-on word done ending old new t = record {
    request = t.request;
    asked = t.asked;
    end = t.end;
    answered = executes-on t.request old.0 new.0 t.end t.answered;
    text = t.text;
    told = t.told;
    printed = t.printed;
    right = t.right;
  }

  each-on : (list : List (List ℕ)) (all : Bool) (ending : Option Refusal) (old new : Progress D)
      → TakesEach state_of words list all ending old new
      → TakesEach state words list all ending (on old) (on new)
  each-on [] all ending old new taken = (taken.0, taken.1, ap on taken.2)
  each-on (word ∷ others) all ending old new (inl taken) = inl (
    taken.0,
    taken.1,
    on taken.2,
    takes-on word taken.0 None old taken.2 taken.3,
    each-on others taken.1 ending taken.2 new taken.4,
    taken.5,
  )
  each-on (word ∷ others) all ending old new (inr stopped) =
      inr (stopped.0, stopped.1, takes-on word all ending old new stopped.2)

  pub changes-on : (list : List (List ℕ)) (all : Bool) (ending : Option Refusal)
      (old new : Option (List ℕ)) (before after : List Call) (disk : D) (start : State)
      → Changes state_of words list all ending old new before after disk start
      → Changes state words list all ending old new before after (of disk) start
  changes-on list all ending old new before after disk start =
      opens_for-on of state disk start ending _ _ _ (λ first last. each-on list all ending
      (first, old, before) (last, new, after))
