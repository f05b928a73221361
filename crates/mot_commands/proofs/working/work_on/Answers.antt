use Rattle.std.proofs.Common.{List, Option, subst, sym, ◌≡◌, ℕ}
use Rattle.std.proofs.KnownBytes.{Keeps-refl}
use Rattle.disk_model.specs.Disk.{State}
use Rattle.mot_cli.specs.declared.task.DiskTask.{DiskTask}
use Rattle.mot_cli.specs.declared.task.DiskTask.TheVariants.{Serve, Check, Migrate, ListObjects}
use Rattle.mot_cli.specs.declared.task.DiskTask.TheVariants.{GetBody, Export, Inspect}
use Rattle.mot_commands.proofs.working.work_on.Goals as goal
use Rattle.mot_commands.specs.Commands.{Does}
use Rattle.mot_numbers.specs.declared.refusal.Refusal.{Refusal}

same : {D : Type 0} (state : D → State) (disk : D) (work was : DiskTask) (ending : Option Refusal)
    (unread left old new : Option (List ℕ)) (start : State) → work ≡ was
    → Does state disk was ending unread left old new start
    → Does state disk work ending unread left old new start
same state disk work was ending unread left old new start is does =
    subst (λ (w : DiskTask). Does state disk w ending unread left old new start) (sym is) does

pub returns-in-Serve-clause-keeps : goal.returns-in-Serve-clause-keeps
returns-in-Serve-clause-keeps g c = c.serve_disk.ensures.keeps

pub returns-in-Serve-clause-does : goal.returns-in-Serve-clause-does
returns-in-Serve-clause-does g c =
    same _ _ _ Serve _ _ _ _ _ _ c.in-Serve.is c.serve_disk.ensures.ended

pub returns-in-Check-clause-keeps : goal.returns-in-Check-clause-keeps
returns-in-Check-clause-keeps g c = c.check_disk.ensures.0.keeps

pub returns-in-Check-clause-does : goal.returns-in-Check-clause-does
returns-in-Check-clause-does g c =
    same _ _ _ (Check c.in-Check.form) _ _ _ _ _ _ c.in-Check.is (Keeps-refl _, c.check_disk.ensures)

pub returns-in-Migrate-clause-keeps : goal.returns-in-Migrate-clause-keeps
returns-in-Migrate-clause-keeps g c = c.migrate_disk.ensures.keeps

pub returns-in-Migrate-clause-does : goal.returns-in-Migrate-clause-does
returns-in-Migrate-clause-does g c =
    same _ _ _ Migrate _ _ _ _ _ _ c.in-Migrate.is (Keeps-refl _, c.migrate_disk.ensures)

pub returns-in-ListObjects-clause-keeps : goal.returns-in-ListObjects-clause-keeps
returns-in-ListObjects-clause-keeps g c = c.list_disk.ensures.0.keeps

pub returns-in-ListObjects-clause-does : goal.returns-in-ListObjects-clause-does
returns-in-ListObjects-clause-does g c =
    same _ _ _ (ListObjects c.in-ListObjects.form) _ _ _ _ _ _ c.in-ListObjects.is (Keeps-refl _, c.list_disk.ensures)

pub returns-in-GetBody-clause-keeps : goal.returns-in-GetBody-clause-keeps
returns-in-GetBody-clause-keeps g c = c.get_body.ensures.0.keeps

pub returns-in-GetBody-clause-does : goal.returns-in-GetBody-clause-does
returns-in-GetBody-clause-does g c =
    same _ _ _ (GetBody c.in-GetBody.name) _ _ _ _ _ _ c.in-GetBody.is (Keeps-refl _, c.get_body.ensures)

pub returns-in-Export-clause-keeps : goal.returns-in-Export-clause-keeps
returns-in-Export-clause-keeps g c = c.export_disk.ensures.syncs.keeps

pub returns-in-Export-clause-does : goal.returns-in-Export-clause-does
returns-in-Export-clause-does g c =
    same _ _ _ Export _ _ _ _ _ _ c.in-Export.is (Keeps-refl _, c.export_disk.ensures)

pub returns-in-Inspect-clause-keeps : goal.returns-in-Inspect-clause-keeps
returns-in-Inspect-clause-keeps g c = c.inspect_disk.ensures.ended.syncs.keeps

pub returns-in-Inspect-clause-does : goal.returns-in-Inspect-clause-does
returns-in-Inspect-clause-does g c =
    same _ _ _ (Inspect c.in-Inspect.rate c.in-Inspect.form) _ _ _ _ _ _ c.in-Inspect.is (Keeps-refl _, c.inspect_disk.ensures.ended)
