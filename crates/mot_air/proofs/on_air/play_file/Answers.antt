use Rattle.std.proofs.Common.{ℕ, ◌∙◌, Bool, ap, List, Option, Result, inl, subst, sym}
use Rattle.std.proofs.KnownBytes.{Keeps-refl}
use Rattle.disk_store.specs.declared.file.start.Start.{Ghosts}
use Rattle.mot_air.specs.Inner.Beside.{tale_aired}
use Rattle.mot_air.specs.Inner.StartError.{IsUnbegun}
use Rattle.mot_numbers.specs.declared.refusal.Refusal.{Refusal}
use Rattle.mot_outcome.specs.Outcome.{Concludes}
use Rattle.mot_outcome.specs.declared.used.UsedDisk.{UsedDisk}
use Rattle.mot_air.specs.Commands.{PlaysTo, packets_of, played_as}
use Rattle.mot_air.proofs.on_air.play_file.Goals as goal

-- what was not begun
unbegun_so : {S F : Type 0} {start : Ghosts S F} (IsEarly : Refusal → Type 0)
    (IsEnded : Bool → Option Refusal → Type 0) (result : Result Bool Refusal)
    (used : UsedDisk S F start) (log : Option (List ℕ)) → IsUnbegun IsEarly result used
    → Concludes IsEarly IsEnded result used log log
unbegun_so IsEarly IsEnded result used log is =
    subst (λ (r : Result Bool Refusal). Concludes IsEarly IsEnded r used log log) (sym is.refused)
    (inl (is.early, record { untouched = is.untouched; silent = Keeps-refl log }))

pub returns-in-Ok-clause-ended : goal.returns-in-Ok-clause-ended
returns-in-Ok-clause-ended g c =
    let both = c.in-Ok.ensures in c.play_both-finished.ensures.ended both.target both.opened both.first

pub returns-in-Ok-clause-opens : goal.returns-in-Ok-clause-opens
returns-in-Ok-clause-opens g c =
    let calls = g.M.System.System.calls in
    let both = c.in-Ok.ensures.opens in
    c.play_both-finished.ensures.opens c.args.airing.task.disk.now (packets_of c.args.airing.task)
    (calls c.args.host.now.system) both.0 (calls c.clear_after.new.host.system) both.1
    (ap calls c.clear_after.ensures ∙ both.2)

pub returns-in-Err-clause-ended : goal.returns-in-Err-clause-ended
returns-in-Err-clause-ended g c =
    let task = c.args.airing.task in
    let log = g.W.Write.contents c.args.writer.now in
    let used = c.in-Err.unbegun.disk in
    unbegun_so _ (λ all ending. PlaysTo task (λ frame refused then_folder then_lines.
    tale_aired g.Y.System.calls g.Y.System.calls c.args.airing (played_as task frame) refused
    then_folder then_lines)
    all ending log log used) c.in-Err.unbegun.result used log
    c.in-Err.ensures.refused

pub returns-in-Err-clause-opens : goal.returns-in-Err-clause-opens
returns-in-Err-clause-opens g c =
    c.in-Err.ensures.opens
