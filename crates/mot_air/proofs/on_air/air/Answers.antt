use Rattle.std.proofs.Common.{◌∙◌, List, [], ℕ, Option, Some, None, ap, inl, refl, subst, sym}
use Rattle.std.specs.Prelude.{IsSomeAnd}
use Rattle.disk_model.specs.Disk.{KeepsLength, State}
use Rattle.mot_air.proofs.Behind.{frame_behind, none_told, plays_behind}
use Rattle.mot_air.proofs.on_air.air.Goals as goal
use Rattle.mot_air.specs.Inner.Beside.{lines_in, tale_aired}
use Rattle.mot_air.specs.Commands.{played_as}
use Rattle.mot_air.specs.Directory.{IsFrame}
use Rattle.mot_air.specs.Playing.{Plays, Tale}
use Rattle.mot_feed.specs.declared.manner.Manner.{Manner}
use Rattle.mot_air.specs.Telling.{HandsOut, folder_in}
use Rattle.mot_files.specs.declared.call_log.CallLog.{CallLog}
use Rattle.mot_update.specs.Opening.{IsUnopened}
use Rattle.mot_update.specs.declared.ended.Ended.{Ended}
use Rattle.mot_feed.proofs.Laws.{grows_nil}
use Rattle.mot_feed.specs.Feeding.Stage.{Ready}
use Rattle.mot_line_folder.specs.Spool.{SpoolView}
use Rattle.mot_numbers.specs.declared.refusal.Refusal.{Refusal}
use Rattle.mot_objects.specs.Carousel.{Carousel}
use Rattle.mot_playout.specs.Attempts.{fault_of}
use Rattle.mot_outcome.specs.declared.used.TaskCalls.{TaskCalls}
use Rattle.mot_shelf.specs.View.{FolderView}

-- what is told in this manner
module _ (tale : Manner → FolderView → SpoolView → Tale) (beside : TaskCalls)
    (ending : Option Refusal) (before after : Option (List (List ℕ))) (start now : State) where
  abbrev AirsIn : Manner → Type 0
  AirsIn how = HandsOut ending beside
      (λ folder lines. Plays (tale how folder lines) how ending before after start now)

pub returns-in-Ok : goal.returns-in-Ok
returns-in-Ok g c =
    let state = g.D.Disk.state in
    let found = c.in-Ok.ensures in
    let told = c.air_so.ensures in
    let out = c.air_so.result in
    let start = state c.args.disk in
    let mid = state c.in-Ok.disk in
    let now = state out.ended.disk in
    let how = c.manner_of-how.result in
    let ending = fault_of out.ended.result in
    let before = g.O.Outlet.writes c.args.outlet.now in
    let after = g.O.Outlet.writes c.air_so.new.outlet in
    let played = told.2.1.1 in (
      c.in-Ok.frame,
      frame_behind c.args.airing.task.rate c.in-Ok.frame ending start mid now
          played.keeps.was_honest found.frame,
      subst (AirsIn (λ how folder lines. tale_aired g.F.System.calls g.Y.System.calls c.args.airing how
          out.any_refused folder lines) out.beside ending before after start now)
          c.manner_of-how.ensures (
            told.0,
            told.1,
            (
              told.2.0,
              (
                told.2.1.0,
                plays_behind start mid now found.syncs found.calm (g.met.D.Disk.sound c.args.disk) _ how
                    ending before after played,
              ),
            ),
          ),
    )

-- a disk that was not opened has any frame
any_frame : (rate : Option ℕ) (ending : Option Refusal) (start now : State)
    → IsSomeAnd ending (λ r. IsUnopened r start now) → IsFrame rate 1 ending start now
any_frame None ending start now none = refl
any_frame (Some rate) ending start now none = inl none

-- and is played so
unplayed : (tale : Tale) (how : Manner) (ending : Option Refusal)
    (writes : Option (List (List ℕ))) (start now : State) → KeepsLength start now
    → IsSomeAnd ending (λ r. IsUnopened r start now)
    → ((limit : ℕ) (c : Carousel) → tale limit c Ready [] [] [] c)
    → Plays tale how ending writes writes start now
unplayed tale how ending writes start now keeps none told =
    record { keeps = keeps; came = inl (none, (grows_nil writes, told)) }

pub returns-in-Err : goal.returns-in-Err
returns-in-Err g c =
    let state = g.D.Disk.state in
    let refused = c.in-Err.refused in
    let out = c.unwatched.result in
    let is = c.unwatched.ensures in
    let ended = is.ended ∙ c.unopened-ended.ensures in
    let start = state c.args.disk in
    let now = state out.ended.disk in
    let ending = fault_of out.ended.result in
    let how = played_as c.args.airing.task 1 in
    let folder = folder_in g.F.System.calls c.args.airing.folder in
    let lines = lines_in g.Y.System.calls c.args.airing.lines in
    let none = subst (λ e. IsSomeAnd e (λ r. IsUnopened r start now)) (sym (ap (λ (e : Ended _ Unit). fault_of e.result) ended))
    (subst (λ d. IsUnopened refused.refusal start (state d)) (sym (ap (λ (e : Ended _ Unit). e.disk) ended))
    c.in-Err.ensures.refused) in
    let keeps = subst (λ d. KeepsLength start (state d)) (sym (ap (λ (e : Ended _ Unit). e.disk) ended))
    c.in-Err.ensures.syncs.keeps in (
      1,
      any_frame c.args.airing.task.rate ending start now none,
      (
        folder,
        c.folder_calls.ensures ∙ sym (ap (λ (l : CallLog). l.all) is.folder),
        (
          lines,
          (
            inl (ap (λ (l : CallLog). l.all) is.lines ∙ sym c.lines_calls.ensures),
            unplayed _ how ending (g.O.Outlet.writes c.args.outlet.now) start now keeps none
                (none_told _ _ how out.any_refused folder lines is.refused),
          ),
        ),
      ),
    )
