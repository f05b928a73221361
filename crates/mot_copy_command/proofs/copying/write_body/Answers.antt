use Rattle.std.proofs.Common.{◌≡◌, ℕ, List, ◌+◌, length, take, drop, slice_range, ◌∙◌, ap, sym}
use Rattle.std.proofs.Common.{subst, arith, length-take}
use Rattle.disk_model.proofs.Laws.{keeps_all_on, reads_on, reads_once}
use Rattle.mot_copy_command.specs.Inner.Steps.{ChangesOnly}
use Rattle.mot_copy_command.proofs.Steps.{body_whole, piece_more, writes_on}
use Rattle.mot_copy_command.proofs.copying.write_body.Given as given
use Rattle.mot_copy_command.proofs.copying.write_body.Goals as goal
use Rattle.mot_copy_command.proofs.copying.write_body.Goals.{After-write}
use Rattle.mot_repository.specs.OnDisk.{body_on, extent_at}
use Rattle.mot_repository.specs.Repository.{RepositoryView}

-- a piece has as many bytes as were counted
count-is : (g : given.Over) (c : After-write g)
    → length c.read_body.new.out ≡ c.min-count.result
count-is g c =
    let x = length-take c.min-count.result c.loop-done.piece in
    let kept = c.read_body.auto.out in
    let long = c.min-count.array_long in
    let count = c.min-count.ensures in
    omega (arith, x, kept, long, count)

range-on : (g : given.Over) (c : After-write g) → (g.E.Disk.state c.args.to.now).IsHonest
    → ChangesOnly c.args.at (extent_at c.args.from.now.view.extents c.args.place).1
    (g.E.Disk.state c.args.to.now) (g.E.Disk.state c.write.new.self)
range-on g c honest =
    let state = g.E.Disk.state in
    let is = c.loop-done.invariant in
    let mid = c.loop-done.to in
    let honest1 = is.keeps.honest honest in
    let size = c.body_length-size.ensures.value in
    let count = c.min-count.ensures in
    let test = c.loop-done-test.true in
    let n = count-is g c in
    writes_on c.args.at (extent_at c.args.from.now.view.extents c.args.place).1
    (state c.args.to.now) (state mid) (g.met.E.Disk.sound mid honest1) (is.range honest)
    (state c.write.new.self) (c.args.at + c.loop-done.done) (length c.read_body.new.out)
    (c.write.ensures.range honest1) (omega arith) (omega (arith, size, count, test, n))

pub returns-in_default-write-clause-range : goal.returns-in_default-write-clause-range
returns-in_default-write-clause-range g c =
    range-on g (goal.at.returns-in_default-write-clause-range g c).After-write

pub loop-done-preserved : goal.loop-done-preserved
loop-done-preserved g c =
    let before = (goal.at.loop-done-preserved g c).After-write in
    let start = c.args.from.now in
    let mid = c.loop-done.from in
    let now = c.read_body.new.self in
    let disk = g.D.Disk.state in
    let state = g.E.Disk.state in
    let is = c.loop-done.invariant in
    let one = c.read_body.ensures in
    let at : ℕ = c.args.at in
    let done : ℕ = c.loop-done.done in
    let count = c.min-count.ensures in
    let test = c.loop-done-test.true in
    record {
      within = omega (arith, count, test);
      view = one.view ∙ is.view;
      reads = reads_on (disk start.disk) (disk mid.disk) (disk now.disk) is.reads
          (reads_once (disk mid.disk) (disk now.disk) one.keeps one.unchanged);
      keeps = keeps_all_on (state c.args.to.now) (state c.loop-done.to) (state c.write.new.self)
          is.keeps c.write.ensures.keeps;
      range = range-on g before;
      written = λ honest read_honest.
          let was = one.keeps.was_honest read_honest in
          let honest1 = is.keeps.honest honest in
          let out : List ℕ = c.read_body.new.out in
          let n : ℕ = length out in
          let bytes : List ℕ = (disk start.disk).bytes in
          let body : List ℕ =
          body_on start.view.journal.geometry start.view.extents c.args.place bytes in
          let read : out ≡ slice_range body done (done + n) =
          c.in-Ok.ensures.read read_honest
          ∙ ap (λ k. slice_range (body_on mid.view.journal.geometry mid.view.extents c.args.place
          (disk mid.disk).bytes) done (done + k)) (sym c.read_body.auto.out)
          ∙ ap (λ (v : RepositoryView). slice_range (body_on v.journal.geometry v.extents
          c.args.place (disk mid.disk).bytes) done (done + n)) is.view
          ∙ ap (λ l. slice_range (body_on start.view.journal.geometry start.view.extents
          c.args.place l) done (done + n)) (is.reads.unchanged was).bytes in
          let step = piece_more at done n body out (state c.loop-done.to).bytes
          (state c.write.new.self).bytes (c.write.ensures.range honest1).bytes
          (is.written honest was) (c.in-Ok-write.ensures.bytes honest1) read in
          let Meant : ℕ → Type 0 = λ k.
          take (done + k) (drop at (state c.write.new.self).bytes) ≡ take (done + k) body in
          subst Meant (count-is g before) step;
    }

pub returns-clause-written : goal.returns-clause-written
returns-clause-written g c = λ honest read_honest.
    let start = c.args.from.now in
    let is = c.loop-done.invariant in
    let size = c.body_length-size.ensures.value in
    let within = is.within in
    let test = c.loop-done-test.false in
    let n : ℕ = (extent_at start.view.extents c.args.place).1 in
    let all : c.loop-done.done ≡ n = omega (arith, size, within, test) in
    let bytes : List ℕ = (g.D.Disk.state start.disk).bytes in
    let body : List ℕ =
    body_on start.view.journal.geometry start.view.extents c.args.place bytes in
    let there : List ℕ = drop c.args.at (g.E.Disk.state c.loop-done.to).bytes in
    sym (ap (λ k. take k there) all) ∙ is.written honest read_honest
    ∙ ap (λ k. take k body) all
    ∙ body_whole start.view.journal.geometry start.view.extents c.args.place bytes
