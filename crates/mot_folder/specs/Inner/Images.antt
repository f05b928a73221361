-- What is noted of the image types of objects, while a look goes on.
use Rattle.std.specs.Prelude.{◌≡◌, true, List, ◌++◌}
use Rattle.mot_events.specs.declared.event.LookEvent.{LookEvent}
use Rattle.mot_folder.specs.Log.{ReportTells, image_notes}
use Rattle.mot_folder.specs.declared.report.Report.{Report}
use Rattle.mot_objects.specs.declared.command.Item.{Item}

-- what is noted of this object is told, and nothing else
pub record NotesImage (old new : Report) (w : Item) : Type 0 where
  pub any : new.any_refused ≡ old.any_refused
  pub memory : old.any_without_memory ≡ true → new.any_without_memory ≡ true
  pub told : (entries : List LookEvent) → ReportTells old entries
      → ReportTells new (entries ++ image_notes w)
