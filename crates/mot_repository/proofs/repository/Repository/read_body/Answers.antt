use Rattle.std.proofs.Common.{◌≡◌, ◌∙◌, ◌+◌, length, sym, ap, arith}
use Rattle.std.proofs.Common.{slice_range}
use Rattle.mot_numbers.specs.Geometry.{area_start}
use Rattle.mot_repository.specs.OnDisk.{extent_at, body_on}
use Rattle.mot_repository.proofs.Bodies.{part_of_part, body_held}
use Rattle.mot_repository.proofs.repository.Repository.read_body.Goals as goal

pub read-requires : goal.read-requires
read-requires g c =
    let room = rw (← c.self.view_is) at c.place_on_disk-at.ensures.room in
    let at = rw (← c.self.view_is) at c.place_on_disk-at.ensures.value in
    let within = rw (← c.self.view_is) at c.requires.within in
    omega (arith, room, at, within)

pub returns-clause-read : goal.returns-clause-read
returns-clause-read g c = rw (← c.self.view_is) (λ honest.
    let r = c.self.inside in
    let n = length c.args.out.now in
    let bytes = (g.D.Disk.state r.disk).bytes in
    let extents = r.inventory.extents.items in
    let extent = extent_at extents c.args.place in
    let at = rw (← c.self.view_is) at c.place_on_disk-at.ensures.value in
    let within = rw (← c.self.view_is) at c.requires.within in
    let part : slice_range (body_on r.journal.geometry extents c.args.place bytes) c.args.from
    (c.args.from + n)
    ≡ slice_range bytes c.place_on_disk-at.result (c.place_on_disk-at.result + n) =
    part_of_part bytes (area_start r.journal.geometry + extent.0) extent.1 c.args.from n within
    ∙ sym (ap (λ k. slice_range bytes k (k + n)) at) in
    c.in-Ok.ensures.bytes honest ∙ sym part)

pub returns-clause-honest : goal.returns-clause-honest
returns-clause-honest g c = rw (← c.self.view_is) (λ honest is.
    let r = c.self.inside in
    let n = length c.args.out.now in
    let bytes = (g.D.Disk.state r.disk).bytes in
    let extents = r.inventory.extents.items in
    let extent = extent_at extents c.args.place in
    let at = rw (← c.self.view_is) at c.place_on_disk-at.ensures.value in
    let within = rw (← c.self.view_is) at c.requires.within in
    let whole = slice_range (body_on r.journal.geometry extents c.args.place bytes) c.args.from
    (c.args.from + n) in
    let part : whole
    ≡ slice_range bytes c.place_on_disk-at.result (c.place_on_disk-at.result + n) =
    part_of_part bytes (area_start r.journal.geometry + extent.0) extent.1 c.args.from n within
    ∙ sym (ap (λ k. slice_range bytes k (k + n)) at) in
    c.in-Ok.ensures.honest honest (◌∙◌ {b = whole} is part))

pub returns-clause-keeps : goal.returns-clause-keeps
returns-clause-keeps g c = rw (← c.self.view_is) c.read.ensures.keeps

pub returns-clause-bytes : goal.returns-clause-bytes
returns-clause-bytes g c = λ s has honest.
    let old = c.args.self.now in
    let n = length c.args.out.now in
    let sound = g.met.D.Disk.sound old.disk ((returns-clause-keeps g c).was_honest honest) in
    returns-clause-read g c honest
    ∙ sym (ap (λ body. slice_range body c.args.from (c.args.from + n))
    (body_held old.view s (g.D.Disk.state old.disk) sound has c.args.place c.requires.place))
