-- What was served on a disk, told of the disk that it is made of.
use Rattle.std.proofs.Common.{ℕ, List, Option, Some, None, ap, inl, inr}
use Rattle.disk_model.specs.Disk.{State}
use Rattle.mot_lines.specs.Lines.{lines_of, whole_lines}
use Rattle.mot_numbers.specs.declared.refusal.Refusal.{Refusal}
use Rattle.mot_numbers.specs.declared.refusal.Refusal.TheVariants.{ReadFault, WriteFault}
use Rattle.mot_cli.specs.declared.task.DiskTask.{DiskTask}
use Rattle.mot_cli.specs.declared.task.DiskTask.TheVariants.{Serve, Check, Migrate, ListObjects}
use Rattle.mot_cli.specs.declared.task.DiskTask.TheVariants.{GetBody, Export, Inspect}
use Rattle.mot_commands.specs.Commands.{Does}
use Rattle.mot_commands.specs.Serving.{OpensFor, OpensTo, Serves, ServesTill}
use Rattle.mot_commands.specs.Serving.OpensFor.{opened, unopened}
use Rattle.mot_playout.specs.Runs.{ServerView}
use Rattle.mot_session.proofs.Laws.{each-on, server_on, some-on}

module _ {D E : Type 0} (of : D → E) (state : E → State) (disk : D) (start : State) where
  abbrev state_on : D → State
  state_on d = state (of d)

  opens-on : (P : ServerView D → ServerView D → Type 0) (Q : ServerView E → ServerView E → Type 0)
      → ((first last : ServerView D) → P first last → Q (server_on of first) (server_on of last))
      → OpensTo state_on disk start P → OpensTo state (of disk) start Q
  opens-on P Q f o = record {
    first = server_on of o.first;
    last = server_on of o.last;
    on_disk = ap of o.on_disk;
    going = o.going;
    openable = o.openable;
    fresh = λ s honest all. let fresh = o.fresh s honest all in record {
      stands = fresh.stands;
      opened = fresh.opened;
    };
    leads = f o.first o.last o.leads;
  }

  pub opens_for-on : (ending : Option Refusal) (Nothing : Type 0)
      (P : ServerView D → ServerView D → Type 0) (Q : ServerView E → ServerView E → Type 0)
      → ((first last : ServerView D) → P first last → Q (server_on of first) (server_on of last))
      → OpensFor state_on disk ending Nothing P start → OpensFor state (of disk) ending Nothing Q start
  opens_for-on ending Nothing P Q f (unopened refusal ends why none) = unopened refusal ends why none
  opens_for-on ending Nothing P Q f (opened opens) = opened (opens-on P Q f opens)

  module _ (was is old new : Option (List ℕ)) where
    till-on : (ending : Option Refusal) (input : List ℕ) (first last : ServerView D)
        → ServesTill state_on disk ending is input old new first last
        → ServesTill state (of disk) ending is input old new (server_on of first) (server_on of last)
    till-on None input first last served =
        (served.0, each-on of state first last (lines_of input) old new served.1)
    till-on (Some ReadFault) input first last served =
        each-on of state first last (whole_lines input) old new served
    till-on (Some WriteFault) input first last (count, inl some) =
        (count, inl (some-on of state first last (whole_lines input) count old new some))
    till-on (Some WriteFault) input first last (count, inr some) =
        (count, inr (some.0, some-on of state first last (lines_of input) count old new some.1))
    till-on (Some refusal) input first last none = absurd none

    -- serving ended so
    pub serves-on : (ending : Option Refusal) → Serves state_on disk ending was is old new start
        → Serves state (of disk) ending was is old new start
    serves-on ending = opens_for-on ending _ _ _
        (λ first last served. (served.0, served.1, till-on ending served.0 first last served.2))

    -- a task ended so
    pub does-on : (ending : Option Refusal) (work : DiskTask)
        → Does state_on disk work ending was is old new start
        → Does state (of disk) work ending was is old new start
    does-on ending Serve does = serves-on ending does
    does-on ending (Check form) does = does
    does-on ending Migrate does = does
    does-on ending (ListObjects form) does = does
    does-on ending (GetBody name) does = does
    does-on ending Export does = does
    does-on ending (Inspect rate form) does = does
