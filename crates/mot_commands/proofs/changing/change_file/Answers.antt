use Rattle.mot_playout.specs.Attempts.{fault_of}
use Rattle.std.proofs.Common.{ℕ, Bool, List, [], Option, ◌≡◌, ap, false, inl, inr, refl, subst, sym}
use Rattle.std.proofs.KnownBytes.{Keeps-refl}
use Rattle.std.specs.Result.{result_unwrap_or}
use Rattle.disk_store.specs.File.{file_state}
use Rattle.disk_store.proofs.Laws.{since_opened}
use Rattle.mot_commands.specs.Changing.{Changes, ChangesFile, texts}
use Rattle.mot_commands.proofs.On.{changes-on}
use Rattle.mot_commands.proofs.changing.change_file.Goals as goal
use Rattle.mot_numbers.specs.declared.refusal.Refusal.{Refusal}
use Rattle.mot_numbers.specs.declared.refusal.Refusal.TheVariants.{DeviceFault}
use Rattle.mot_files.specs.Call.{Call}
use Rattle.mot_outcome.proofs.Laws.{concludes_so}
use Rattle.mot_outcome.specs.Outcome.{Concludes, OpensAnd}
use Rattle.mot_outcome.specs.declared.used.UsedDisk.TheVariants.{OfFile}

pub returns-in-Ok-clause-ended : goal.returns-in-Ok-clause-ended
returns-in-Ok-clause-ended g c =
    let list = texts c.args.list.now in
    let words = c.args.words.now in
    let before = g.M.System.System.calls c.disk.new.self.system in
    let old = g.W.Write.contents c.args.writer.now in
    let new = g.W.Write.contents c.change_disk-ended.new.writer in
    let after = g.M.System.System.calls c.change_disk-ended.new.system in
    let ended = c.change_disk-ended.result in
    let all = result_unwrap_or ended.result false in
    let ending = fault_of ended.result in
    let changes = c.change_disk-ended.ensures in
    subst (λ (f : _). Concludes (λ r. r ≡ DeviceFault) (λ all ending. (before after : List Call)
    × ChangesFile words list all ending old new before after f.disk) f.result f.disk old new)
    (sym c.finish.ensures.ended.1)
    (concludes_so (λ r. r ≡ DeviceFault) (λ all ending. (before after : List Call)
    × ChangesFile words list all ending old new before after
    (OfFile ended.disk.disk c.finish.ensures.ended.0)) (OfFile ended.disk.disk c.finish.ensures.ended.0)
    old new ended.result (
      before,
      after,
      since_opened c.in-Ok.disk.disk ended.disk.disk
          (λ first now. Changes file_state words list all ending old new before after
          ended.disk.disk first)
          c.in-Ok.ensures.first ended.disk.begins changes.keeps
          (changes-on (λ d. d.disk) file_state words list all ending old new before after ended.disk
          (file_state c.in-Ok.disk.disk) changes.ended),
    ))

pub returns-in-Err-clause-ended : goal.returns-in-Err-clause-ended
returns-in-Err-clause-ended g c =
    let old = g.W.Write.contents c.args.writer.now in
    subst (λ (f : _). Concludes (λ r. r ≡ DeviceFault) (λ all ending. (before after : List Call)
    × ChangesFile c.args.words.now (texts c.args.list.now) all ending old old before after f.disk)
    f.result f.disk old old)
    (sym c.unopened.ensures)
    (inl (refl, record { untouched = tt; silent = Keeps-refl _ }))

pub returns-in-Ok-clause-files : goal.returns-in-Ok-clause-files
returns-in-Ok-clause-files g c =
    let calls = g.M.System.System.calls in
    let list = texts c.args.list.now in
    let words = c.args.words.now in
    let before = calls c.disk.new.self.system in
    let old = g.W.Write.contents c.args.writer.now in
    let new = g.W.Write.contents c.change_disk-ended.new.writer in
    let after = calls c.change_disk-ended.new.system in
    let ended = c.change_disk-ended.result in
    let all = result_unwrap_or ended.result false in
    let ending = fault_of ended.result in
    let changes = c.change_disk-ended.ensures in
    let used = OfFile ended.disk.disk c.finish.ensures.ended.0 in
    let Calls : (before after : List Call) → Type 0 = λ before after. (all : Bool) × (ending : Option Refusal)
    × (old : Option (List ℕ)) × (new : Option (List ℕ))
    × ChangesFile words list all ending old new before after used in
    subst (λ (f : _). OpensAnd [] c.args.path.now (λ before after. (all : Bool) × (ending : Option Refusal) × (old : Option (List ℕ))
    × (new : Option (List ℕ)) × ChangesFile words list all ending old new before after f.disk)
    (fault_of f.result) f.disk (calls c.args.host.now.system) (calls c.finish.new.host.system))
    (sym c.finish.ensures.ended.1) (
      calls c.args.host.now.system,
      refl,
      subst (λ first. Calls first (calls c.finish.new.host.system))
          c.in-Ok.ensures.calls
          (subst (λ last. Calls before last)
          (sym (ap calls c.finish.ensures.calls)) (
            all,
            ending,
            old,
            new,
            since_opened c.in-Ok.disk.disk ended.disk.disk
                (λ first now. Changes file_state words list all ending old new before after
                ended.disk.disk first)
                c.in-Ok.ensures.first ended.disk.begins changes.keeps
                (changes-on (λ d. d.disk) file_state words list all ending old new before after
                ended.disk (file_state c.in-Ok.disk.disk) changes.ended),
          )),
    )

pub returns-in-Err-clause-files : goal.returns-in-Err-clause-files
returns-in-Err-clause-files g c =
    let calls = g.M.System.System.calls in
    subst (λ (f : _). OpensAnd [] c.args.path.now
    (λ before after. (all : Bool) × (ending : Option Refusal) × (old : Option (List ℕ))
    × (new : Option (List ℕ))
    × ChangesFile c.args.words.now (texts c.args.list.now) all ending old new before after f.disk)
    (fault_of f.result) f.disk (calls c.args.host.now.system) (calls c.disk.new.self.system))
    (sym c.unopened.ensures) (inr (refl, (calls c.args.host.now.system, refl, c.in-Err.ensures.calls)))
