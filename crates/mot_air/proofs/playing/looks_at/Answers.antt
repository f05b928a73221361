use Rattle.std.proofs.Common.{◌∙◌, ap}
use Rattle.mot_air.proofs.Endings.{none_yet}
use Rattle.mot_air.proofs.playing.looks_at.Goals as goal
use Rattle.mot_shelf.specs.Reader.{view}

pub returns-then-how-gt0-2-clause-none : goal.returns-then-how-gt0-2-clause-none
returns-then-how-gt0-2-clause-none g c =
    none_yet _ _ _ _ _ c.new-looks.ensures.due
    (ap (λ (f : _). view g.S.System.calls f.shelf) c.new-looks.ensures.folder
    ∙ ap (view g.S.System.calls) c.new-folder.ensures.shelf) c.new-looks.ensures.fine
    (ap (λ (f : _). f.files.known.items) c.new-looks.ensures.folder ∙ c.new-folder.ensures.known)

pub returns-else-how-gt0-clause-none : goal.returns-else-how-gt0-clause-none
returns-else-how-gt0-clause-none g c =
    none_yet _ _ _ _ _ c.new-looks.ensures.due
    (ap (λ (f : _). view g.S.System.calls f.shelf) c.new-looks.ensures.folder
    ∙ ap (view g.S.System.calls) c.new-folder.ensures.shelf) c.new-looks.ensures.fine
    (ap (λ (f : _). f.files.known.items) c.new-looks.ensures.folder ∙ c.new-folder.ensures.known)
