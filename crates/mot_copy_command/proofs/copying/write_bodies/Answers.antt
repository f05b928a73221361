use Rattle.std.proofs.Common.{◌≡◌, ◌<◌, ℕ, List, ◌+◌, length, take, drop, ◌++◌, ◌∙◌, ap, sym}
use Rattle.std.proofs.Common.{subst, arith, add-one}
use Rattle.disk_model.specs.Disk.{AgreeOutside}
use Rattle.disk_model.proofs.Laws.{keeps_all_on, reads_on}
use Rattle.mot_copy_command.specs.Inner.Steps.{ChangesOnly}
use Rattle.mot_copy_command.proofs.Steps.{appended, bytes-next, bytes-fit, changes_on, row-next}
use Rattle.mot_copy_command.proofs.copying.write_bodies.Given as given
use Rattle.mot_copy_command.proofs.copying.write_bodies.Goals as goal
use Rattle.mot_copy_command.proofs.copying.write_bodies.Goals.{After-write_body}
use Rattle.mot_numbers.specs.Geometry.{area_start}
use Rattle.mot_repository.specs.Copy.{bytes_in_row, bytes_of_extents}
use Rattle.mot_repository.specs.OnDisk.{body_on, extent_at}
use Rattle.mot_repository.specs.Repository.{RepositoryView}

-- the place is one of the extents
place-is : (g : given.Over) (c : After-write_body g)
    → c.loop-place.place < length c.args.from.now.view.extents
place-is g c =
    let test = c.loop-place-test.true in
    let count = c.body_count-count.ensures.value in
    omega (arith, test, count)

-- its length is that at the start
length-is : (g : given.Over) (c : After-write_body g)
    → (extent_at c.loop-place.from.view.extents c.loop-place.place).1
    ≡ (extent_at c.args.from.now.view.extents c.loop-place.place).1
length-is g c =
    ap (λ (v : RepositoryView). (extent_at v.extents c.loop-place.place).1)
    c.loop-place.invariant.view

range-on : (g : given.Over) (c : After-write_body g) → (g.E.Disk.state c.args.to.now).IsHonest
    → ChangesOnly (area_start c.args.geometry.now) c.args.geometry.now.area
    (g.E.Disk.state c.args.to.now) (g.E.Disk.state c.write_body.new.to)
range-on g c honest =
    let state = g.E.Disk.state in
    let is = c.loop-place.invariant in
    let mid = c.loop-place.to in
    let honest1 = is.keeps.honest honest in
    let es = c.args.from.now.view.extents in
    let k = c.loop-place.place in
    let at = is.at in
    let fit = bytes-fit es k (place-is g c) in
    let size = length-is g c in
    let room = c.requires.room in
    changes_on (area_start c.args.geometry.now) c.args.geometry.now.area (state c.args.to.now)
    (state mid) (g.met.E.Disk.sound mid honest1) (is.range honest) (state c.write_body.new.to)
    c.loop-place.at (extent_at c.loop-place.from.view.extents k).1
    (c.write_body.ensures.range honest1) (omega (arith, at)) (omega (arith, at, fit, size, room))

pub returns-in_err-write_body-clause-range : goal.returns-in_err-write_body-clause-range
returns-in_err-write_body-clause-range g c =
    range-on g (goal.at.returns-in_err-write_body-clause-range g c).After-write_body

pub loop-place-preserved : goal.loop-place-preserved
loop-place-preserved g c =
    let before = (goal.at.loop-place-preserved g c).After-write_body in
    let start = c.args.from.now in
    let mid = c.loop-place.from in
    let now = c.write_body.new.from in
    let disk = g.D.Disk.state in
    let state = g.E.Disk.state in
    let is = c.loop-place.invariant in
    let one = c.write_body.ensures in
    let es = start.view.extents in
    let k = c.loop-place.place in
    let a : ℕ = area_start c.args.geometry.now in
    let lt = place-is g before in
    let next = bytes-next es k lt in
    let at = is.at in
    let size = length-is g before in
    let got = c.body_length-length.ensures.value in
    let from = c.from-at.ensures in
    record {
      at = omega (arith, at, next, size, got, from);
      view = one.view ∙ is.view;
      reads = reads_on (disk start.disk) (disk mid.disk) (disk now.disk) is.reads one.only_reads;
      keeps = keeps_all_on (state c.args.to.now) (state c.loop-place.to)
          (state c.write_body.new.to) is.keeps one.keeps;
      range = range-on g before;
      written = λ honest read_honest.
          let was = one.only_reads.keeps.was_honest read_honest in
          let honest1 = is.keeps.honest honest in
          let n : ℕ = bytes_of_extents (take k es) in
          let m : ℕ = (extent_at mid.view.extents k).1 in
          let old : List ℕ = (state c.loop-place.to).bytes in
          let new : List ℕ = (state c.write_body.new.to).bytes in
          let bytes : List ℕ = (disk start.disk).bytes in
          let body : List ℕ = body_on start.view.journal.geometry es k bytes in
          let row : List ℕ = bytes_in_row start.view.journal.geometry (take k es) bytes in
          let here : take m (drop c.loop-place.at new) ≡ body =
          c.in_ok-write_body.ensures.written honest1 read_honest
          ∙ ap (λ (v : RepositoryView). body_on v.journal.geometry v.extents k
          (disk mid.disk).bytes) is.view
          ∙ ap (λ l. body_on start.view.journal.geometry es k l)
          (is.reads.unchanged was).bytes in
          let Agreed : ℕ → Type 0 = λ p. AgreeOutside p m old new in
          let Lies : ℕ → Type 0 = λ p. take m (drop p new) ≡ body in
          let step : take (n + m) (drop a new) ≡ row ++ body =
          appended a n m old new row body (subst Agreed at (one.range honest1).bytes)
          (is.written honest was) (subst Lies at here) in
          let count : bytes_of_extents (take (k + 1) es) ≡ n + m = omega (arith, next, size) in
          ap (λ i. take i (drop a new)) count ∙ step
          ∙ sym (row-next start.view.journal.geometry es k bytes lt)
          ∙ ap (λ i. bytes_in_row start.view.journal.geometry (take i es) bytes)
          (sym (add-one k));
    }
