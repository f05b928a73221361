use Rattle.std.proofs.Common.{refl}
use Rattle.std.proofs.lemmas.Result.{MatchResult-from_both}
use Rattle.mot_shelf.proofs.Asking.{by_result}
use Rattle.mot_shelf.specs.Gives.Asks.{named, unnamed}
use Rattle.mot_shelf.proofs.reader.FolderReader.names.Goals as goal

pub returns-clause-asks : goal.returns-clause-asks
returns-clause-asks g c = λ given.
    by_result c.next_names.result
    (MatchResult-from_both c.next_names.result _ _ c.next_names.ensures.calls
    c.next_names.ensures.refused)
    (λ count is. named c.next_names.new.room count is refl refl) (λ error is. unnamed is refl refl)
