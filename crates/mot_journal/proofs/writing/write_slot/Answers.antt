use Rattle.std.proofs.Common.{◌≡◌, ◌+◌, ◌<◌, length, drop, slice_range, refl, arith}
use Rattle.std.proofs.lemmas.Result.{IfOk-from_err, on_ok_weaker}
use Rattle.disk_model.proofs.Laws.{keeps_all_on}
use Rattle.mot_journal.proofs.Calls.{calm, fails, caused, costs_failed, costs_on}
use Rattle.mot_journal.proofs.SlotWrite.{tail_whole, Found, to_write, to_end, written}
use Rattle.mot_journal.proofs.writing.write_slot.Given as given
use Rattle.mot_journal.proofs.writing.write_slot.Goals as goal
use Rattle.mot_journal.proofs.writing.write_slot.Goals.{After-write}

-- what the write behind the gate found
found : (g : given.Over) (c : After-write g) → (g.D.Disk.state c.args.disk.now).IsHonest
    → slice_range (g.D.Disk.state c.write.new.self).bytes (c.args.place + 1)
    (c.args.place + 1 + length (drop 1 c.args.slot.now)) ≡ drop 1 c.args.slot.now
    → Found c.args.place c.args.slot.now (g.D.Disk.state c.args.disk.now)
    (g.D.Disk.state c.write.new.self)
found g c honest rest =
    let old = g.D.Disk.state c.args.disk.now in
    let sound = g.met.D.Disk.sound c.args.disk.now honest in
    let inside : c.args.place < length old.bytes =
    omega (
      arith,
      (sound.images old.bytes sound.bytes).len_is,
      c.requires.fits,
      c.requires.some,
    ) in
    record {
      some = c.requires.some;
      sound = sound;
      inside = inside;
      writes = rw tail_whole at (c.write.ensures.range honest);
      rest = rest;
      wrote_sound = g.met.D.Disk.sound c.write.new.self (c.write.ensures.keeps.honest honest);
    }

pub returns-in_err-write-clause-keeps : goal.returns-in_err-write-clause-keeps
returns-in_err-write-clause-keeps g c =
    c.write.ensures.keeps

pub returns-in_err-write-clause-cause : goal.returns-in_err-write-clause-cause
returns-in_err-write-clause-cause g c =
    fails c.from_residual.result c.from_residual.ensures.0
    refl
    c.in_err-write.ensures.cause

pub returns-in_err-write-clause-cost : goal.returns-in_err-write-clause-cost
returns-in_err-write-clause-cost g c =
    let state = g.D.Disk.state in
    costs_failed 4 1 (state c.args.disk.now) (state c.write.new.self) c.from_residual.result
    c.from_residual.ensures.0 (omega arith)
    c.write.ensures.called

pub returns-in_err-write-clause-any_moment : goal.returns-in_err-write-clause-any_moment
returns-in_err-write-clause-any_moment g c = λ honest.
    to_write c.args.place c.args.slot.now (g.met.D.Disk.sound c.args.disk.now honest)
    (rw tail_whole at (c.write.ensures.range honest))

pub returns-in_err-write-clause-ok : goal.returns-in_err-write-clause-ok
returns-in_err-write-clause-ok g c = λ honest.
    IfOk-from_err c.from_residual.result _ c.from_residual.ensures.0

pub returns-clause-keeps : goal.returns-clause-keeps
returns-clause-keeps g c =
    let state = g.D.Disk.state in
    keeps_all_on (state c.args.disk.now) (state c.write.new.self) (state c.publish.new.disk)
    c.write.ensures.keeps c.publish.ensures.keeps

pub returns-clause-cause : goal.returns-clause-cause
returns-clause-cause g c = caused (calm c.in_ok-write.ensures.cause) c.publish.ensures.cause

pub returns-clause-cost : goal.returns-clause-cost
returns-clause-cost g c =
    let state = g.D.Disk.state in
    costs_on 1 3 4 (state c.args.disk.now) (state c.write.new.self) (state c.publish.new.disk)
    c.publish.result refl c.write.ensures.called c.publish.ensures.cost

pub returns-clause-any_moment : goal.returns-clause-any_moment
returns-clause-any_moment g c = λ honest.
    let rest = rw tail_whole at (c.in_ok-write.ensures.bytes honest) in
    to_end (found g (goal.at.returns-clause-any_moment g c).After-write honest rest)
    (c.publish.ensures.any_moment (c.write.ensures.keeps.honest honest))

pub returns-clause-ok : goal.returns-clause-ok
returns-clause-ok g c = λ honest.
    let rest = rw tail_whole at (c.in_ok-write.ensures.bytes honest) in
    let before = found g (goal.at.returns-clause-ok g c).After-write honest rest in
    on_ok_weaker c.publish.result (λ leaves image left. written before image (leaves image left))
    (c.publish.ensures.ok (c.write.ensures.keeps.honest honest))
