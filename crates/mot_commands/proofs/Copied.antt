-- Work that only looks leaves the bytes of a disk.
use Rattle.std.proofs.Common.{ℕ, List, Option}
use Rattle.std.specs.Prelude.{IsTrue}
use Rattle.disk_model.specs.Disk.{OnlySyncs, State}
use Rattle.mot_cli.specs.declared.task.DiskTask.{DiskTask}
use Rattle.mot_cli.specs.declared.task.DiskTask.TheVariants.{Serve, Check, Migrate, ListObjects}
use Rattle.mot_cli.specs.declared.task.DiskTask.TheVariants.{GetBody, Export, Inspect}
use Rattle.mot_commands.specs.Commands.{Does, only_looks}
use Rattle.mot_numbers.specs.declared.refusal.Refusal.{Refusal}

pub looks_still : {D : Type 0} (state : D → State) (disk : D) (work : DiskTask)
    (ending : Option Refusal) (unread left old new : Option (List ℕ)) (start : State)
    → IsTrue (only_looks work) → Does state disk work ending unread left old new start
    → OnlySyncs start (state disk)
looks_still state disk Serve ending unread left old new start looks does = absurd (cc (looks))
looks_still state disk (Check form) ending unread left old new start looks does = does.1.0
looks_still state disk Migrate ending unread left old new start looks does = absurd (cc (looks))
looks_still state disk (ListObjects form) ending unread left old new start looks does = does.1.0
looks_still state disk (GetBody name) ending unread left old new start looks does = does.1.0
looks_still state disk Export ending unread left old new start looks does = does.1.syncs
looks_still state disk (Inspect rate form) ending unread left old new start looks does = does.1.syncs
