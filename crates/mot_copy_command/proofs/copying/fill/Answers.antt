use Rattle.std.proofs.Common.{ℕ, List}
use Rattle.std.specs.Prelude.{IsOk}
use Rattle.disk_model.specs.Disk.{Throughout}
use Rattle.mot_copy_command.specs.Inner.Steps.{NoneOrFilled}
use Rattle.mot_copy_command.proofs.Moments.{NoneLeft, bodies_written, disk_made, none_left}
use Rattle.mot_copy_command.proofs.Moments.{rest_made, rest_written}
use Rattle.mot_copy_command.specs.Copied.{HasRestOf}
use Rattle.mot_copy_command.proofs.copying.fill.Given as given
use Rattle.mot_copy_command.proofs.copying.fill.Goals as goal
use Rattle.mot_copy_command.proofs.copying.fill.Goals.{After-make_disk}
use Rattle.mot_journal.specs.Image.{catalogue_of}
use Rattle.mot_repository.specs.Copy.{bytes_in_row, bytes_of_extents}

pub returns-in_err-write_bodies-clause-any_moment :
    goal.returns-in_err-write_bodies-clause-any_moment
returns-in_err-write_bodies-clause-any_moment g c = λ read_honest honest fold none.
    let view = c.args.from.now.view in
    bodies_written c.args.geometry.now (g.E.Disk.state c.args.to.now)
    (g.E.Disk.state c.write_bodies.new.to) none (c.write_bodies.ensures.range honest)
    c.args.records.now (bytes_of_extents view.extents)
    (bytes_in_row view.journal.geometry view.extents
    (g.D.Disk.state c.args.from.now.disk).bytes)

-- the bodies were written, and the disk is made over them
made : (g : given.Over) (c : After-make_disk g)
    → (g.D.Disk.state c.write_bodies.new.from.disk).IsHonest
    → (g.E.Disk.state c.args.to.now).IsHonest
    → IsOk (catalogue_of c.args.geometry.now.objects c.args.records.now)
    → NoneLeft (g.E.Disk.state c.args.to.now)
    → Throughout (g.E.Disk.state c.args.to.now) (g.E.Disk.state c.make_disk.new.disk)
    (NoneOrFilled c.args.geometry.now c.args.records.now
    (bytes_of_extents c.args.from.now.view.extents)
    (bytes_in_row c.args.from.now.view.journal.geometry c.args.from.now.view.extents
    (g.D.Disk.state c.args.from.now.disk).bytes))
made g c read_honest honest fold none =
    let geometry = c.args.geometry.now in
    let records = c.args.records.now in
    let view = c.args.from.now.view in
    let old = g.E.Disk.state c.args.to.now in
    let mid = g.E.Disk.state c.write_bodies.new.to in
    let n : ℕ = bytes_of_extents view.extents in
    let row : List ℕ = bytes_in_row view.journal.geometry view.extents
    (g.D.Disk.state c.args.from.now.disk).bytes in
    let range = c.write_bodies.ensures.range honest in
    let honest1 = c.write_bodies.ensures.keeps.honest honest in
    let sound = g.met.E.Disk.sound c.write_bodies.new.to honest1 in
    disk_made geometry records n row old mid (g.E.Disk.state c.make_disk.new.disk)
    (bodies_written geometry old mid none range records n row)
    (c.in_ok-write_bodies.ensures.written honest read_honest)
    ((c.make_disk.ensures.makes honest1).any_moment fold
    (none_left geometry old mid none range sound))

pub returns-in_default-clause-any_moment : goal.returns-in_default-clause-any_moment
returns-in_default-clause-any_moment g c =
    made g (goal.at.returns-in_default-clause-any_moment g c).After-make_disk

pub returns-clause-any_moment : goal.returns-clause-any_moment
returns-clause-any_moment g c =
    made g (goal.at.returns-clause-any_moment g c).After-make_disk

pub returns-in_err-write_bodies-clause-rest : goal.returns-in_err-write_bodies-clause-rest
returns-in_err-write_bodies-clause-rest g c = λ honest.
    rest_written c.args.geometry.now (g.E.Disk.state c.args.to.now)
    (g.E.Disk.state c.write_bodies.new.to) (c.write_bodies.ensures.range honest)

-- the bytes after the data area stay, as the disk is made over the bodies
rest-stays : (g : given.Over) (c : After-make_disk g) → (g.E.Disk.state c.args.to.now).IsHonest
    → Throughout (g.E.Disk.state c.args.to.now) (g.E.Disk.state c.make_disk.new.disk)
    (HasRestOf c.args.geometry.now (g.E.Disk.state c.args.to.now))
rest-stays g c honest =
    let geometry = c.args.geometry.now in
    let old = g.E.Disk.state c.args.to.now in
    let mid = g.E.Disk.state c.write_bodies.new.to in
    let honest1 = c.write_bodies.ensures.keeps.honest honest in
    rest_made geometry old mid (g.E.Disk.state c.make_disk.new.disk)
    (g.met.E.Disk.sound c.write_bodies.new.to honest1)
    (rest_written geometry old mid (c.write_bodies.ensures.range honest))
    (c.make_disk.ensures.makes honest1).area

pub returns-in_default-clause-rest : goal.returns-in_default-clause-rest
returns-in_default-clause-rest g c =
    rest-stays g (goal.at.returns-in_default-clause-rest g c).After-make_disk

pub returns-clause-rest : goal.returns-clause-rest
returns-clause-rest g c = rest-stays g (goal.at.returns-clause-rest g c).After-make_disk
