use Rattle.std.proofs.Common.{◌≡◌, ◌∙◌, ℕ, ◌+◌, ◌≤◌, ◌<◌, length, ap, arith}
use Rattle.std.proofs.lemmas.List.{get_or_default}
use Rattle.mot_numbers.specs.Geometry.{area_start}
use Rattle.mot_repository.specs.OnDisk.{extent_at}
use Rattle.mot_repository.proofs.Bodies.{extent_within, small_area}
use Rattle.mot_repository.proofs.repository.Repository.place_on_disk.Goals as goal

pub overflow_add-result-2 : goal.overflow_add-result-2
overflow_add-result-2 g c =
    let r = c.self.inside in
    let is = c.self.invariant in
    let extents = r.inventory.extents.items in
    let place = c.args.place in
    let lt : place < length extents = rw (← c.self.view_is) at c.requires.place in
    let within : c.args.from ≤ (extent_at extents place).1 =
    rw (← c.self.view_is) at c.requires.within in
    let extent = c.index.ensures ∙ get_or_default extents place c.index.result.now (0, 0) lt in
    let start : c.from.result ≡ (extent_at extents place).0 =
    c.from.ensures ∙ ap (λ (e : ℕ × ℕ). e.0) extent in
    let fits = extent_within r.journal.geometry r.journal.layout r.inventory.carousel extents
    is.whole is.paired place lt in
    let small = small_area r.journal.geometry is.valid in
    let low = c.area_start.ensures.low in
    omega (arith, within, start, fits, small, low)

pub returns-clause-value : goal.returns-clause-value
returns-clause-value g c = rw (← c.self.view_is) (
    let r = c.self.inside in
    let extents = r.inventory.extents.items in
    let place = c.args.place in
    let lt : place < length extents = rw (← c.self.view_is) at c.requires.place in
    let extent = c.index.ensures ∙ get_or_default extents place c.index.result.now (0, 0) lt in
    let start : c.from.result ≡ (extent_at extents place).0 =
    c.from.ensures ∙ ap (λ (e : ℕ × ℕ). e.0) extent in
    let area : c.area_start.result ≡ area_start r.journal.geometry =
    c.area_start.ensures.value ∙ ap area_start c.geometry.ensures in
    ap (λ k. k + c.from.result + c.args.from) area
    ∙ ap (λ k. area_start r.journal.geometry + k + c.args.from) start)

pub returns-clause-room : goal.returns-clause-room
returns-clause-room g c = rw (← c.self.view_is) (
    let r = c.self.inside in
    let is = c.self.invariant in
    let lt = rw (← c.self.view_is) at c.requires.place in
    let fits = extent_within r.journal.geometry r.journal.layout r.inventory.carousel
    r.inventory.extents.items is.whole is.paired c.args.place lt in
    let long = is.long_enough in
    omega (arith, fits, long))
