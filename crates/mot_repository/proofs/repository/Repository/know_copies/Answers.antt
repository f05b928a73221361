use Rattle.std.proofs.Common.{◌≤◌, length, ap, subst, arith}
use Rattle.mot_repository.specs.Copy.{CopiesAreSound}
use Rattle.mot_repository.specs.Inner.Extents.{bytes_of_bodies}
use Rattle.mot_repository.specs.Inner.Fold.{view_with}
use Rattle.mot_repository.specs.Repository.{RepositoryView}
use Rattle.mot_repository.proofs.Copied.{are_of_copy, bytes-same}
use Rattle.mot_repository.proofs.repository.Repository.know_copies.Goals as goal

pub returns : goal.returns
returns g c =
    let r = c.self.inside in
    let objects = r.inventory.carousel.objects in
    let view : RepositoryView =
    view_with r.journal r.inventory.carousel r.inventory.extents.items r.halted in
    let small : length objects.items ≤ 250 =
    omega (arith, r.inventory.carousel.few, objects.ok.0) in
    let sum = bytes-same objects.items r.inventory.extents.items c.self.invariant.paired in
    let sound : CopiesAreSound view = λ geometry after records last few room same.
    let bodies : bytes_of_bodies objects.items ≤ geometry.area = omega (arith, room, sum) in
    are_of_copy view geometry after c.self.invariant.whole c.self.invariant.paired last small few
    bodies records same in
    subst CopiesAreSound (ap (λ d. d.view) c.self.view_is) sound
