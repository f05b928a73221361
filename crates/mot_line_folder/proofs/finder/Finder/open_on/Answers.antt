use Rattle.mot_line_folder.proofs.OnlyReads.{finds_behind}
use Rattle.mot_line_folder.proofs.finder.Finder.open_on.Goals as goal
use Rattle.mot_line_folder.proofs.finder.Finder.open_on.Goals.{then-is_empty+in-Ok-true, else-is_empty+else-is_some}

pub returns-clause-finds : goal.returns-clause-finds
returns-clause-finds g c =
    elim c.if-is_empty.branch [
      | then-is_empty+in-Ok-true w ↦ finds_behind w.list.ensures.reads
          (rw w.list.ensures.folder at (rw w.self-is at c.open_one.ensures.finds))
      | else-is_empty+else-is_some w ↦ rw w.self-is at c.open_one.ensures.finds
    ]
