use Rattle.std.proofs.Common.{refl}
use Rattle.std.proofs.lemmas.Result.{err_from_is_err_and}
use Rattle.mot_endpoints.specs.LinePlaces.ChecksLines.{folder, no_folder, unseen}
use Rattle.mot_endpoints.specs.Placing.Then.{both, refused}
use Rattle.mot_endpoints.proofs.Exits.{err_of}
use Rattle.mot_endpoints.proofs.lines.check_folder.Goals as goal

pub returns-in_err-folder : goal.returns-in_err-folder
returns-in_err-folder g c =
    let told = err_from_is_err_and c.from_residual.result c.from_residual.ensures.1 in
    unseen c.in_err-folder.field-0.0 told.0 told.2 told.1 c.in_err-folder.ensures

pub returns-in_default : goal.returns-in_default
returns-in_default g c =
    no_folder c.in_ok-folder.folder c.in_default.not-Folder refl c.in_ok-folder.ensures

pub returns-in_err-check_elsewhere : goal.returns-in_err-check_elsewhere
returns-in_err-check_elsewhere g c =
    folder c.in_ok-folder.folder c.in-Folder.is (refused c.in_err-check_elsewhere.field-0.0
    (err_of c.from_residual-in_err-check_elsewhere.ensures.1)
    (rw c.in_ok-folder.ensures at c.in_err-check_elsewhere.ensures))

pub returns-in_err-check_apart : goal.returns-in_err-check_apart
returns-in_err-check_apart g c =
    folder c.in_ok-folder.folder c.in-Folder.is (both tt _
    (rw c.in_ok-folder.ensures at c.in_ok-check_elsewhere.ensures) (refused
    c.in_err-check_apart.field-0.0 (err_of c.from_residual-in_err-check_apart.ensures.1)
    c.in_err-check_apart.ensures))

pub returns-in_err-check_packets : goal.returns-in_err-check_packets
returns-in_err-check_packets g c =
    folder c.in_ok-folder.folder c.in-Folder.is (both tt _
    (rw c.in_ok-folder.ensures at c.in_ok-check_elsewhere.ensures) (both tt _
    c.in_ok-check_apart.ensures (refused c.in_err-check_packets.field-0.0
    (err_of c.from_residual-in_err-check_packets.ensures.1) c.in_err-check_packets.ensures)))

pub returns : goal.returns
returns g c =
    folder c.in_ok-folder.folder c.in-Folder.is (both tt _
    (rw c.in_ok-folder.ensures at c.in_ok-check_elsewhere.ensures) (both tt _
    c.in_ok-check_apart.ensures (both tt _ c.in_ok-check_packets.ensures c.check_apart-2.ensures)))
