use Rattle.std.proofs.Common.{◌∙◌, sym}
use Rattle.mot_line_folder.proofs.said.Said.keep_unread.Goals as goal

pub returns-in-Ok-Some : goal.returns-in-Ok-Some
returns-in-Ok-Some c =
    let h = rw c.in-Ok-Some.field-0-is at c.in-Ok-Some.ensures.due in
    λ _. h.1 (sym c.is_some.ensures ∙ c.if-is_some.true)
