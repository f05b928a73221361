use Rattle.std.proofs.Common.{false, ℕ, ◌⊎◌, ◌≡◌, ◌∙◌, Bool, [], Option, ap, refl, subst, sym}
use Rattle.disk_store.specs.Beginning.{IsFirst, SinceOpened}
use Rattle.disk_store.specs.Begun.{begun_state}
use Rattle.disk_store.proofs.Laws.{since_opened}
use Rattle.disk_store.specs.declared.file.FileDiskFrom.{FileDiskFrom}
use Rattle.mot_outcome.proofs.Laws.{concludes, ended_so}
use Rattle.mot_air.proofs.Played.{into_keeps, sends_as}
use Rattle.mot_air.proofs.on_air.play_both.Given as given
use Rattle.mot_air.proofs.on_air.play_both.Goals as goal
use Rattle.mot_outcome.specs.Outcome.{Concludes}
use Rattle.mot_air.specs.Inner.Beside.{tale_aired}
use Rattle.mot_air.specs.Commands.{PlaysAsked, PlaysTo, Sends, SendsAsked, is_all_done}
use Rattle.mot_air.specs.Commands.{played_as}
use Rattle.mot_outcome.specs.Outcome.{Opens}
use Rattle.mot_air.specs.Playing.{Tale}
use Rattle.mot_air.specs.Telling.{EndsReading, Hands}
use Rattle.mot_line_folder.specs.Spool.{SpoolView}
use Rattle.mot_endpoints.specs.Packets.{IsTarget, OpensInto, destination_of, target_of, writer_handle}
use Rattle.mot_endpoints.specs.Packets.{writer_system}
use Rattle.mot_endpoints.specs.declared.packets.Target.{Target}
use Rattle.mot_numbers.specs.declared.refusal.Refusal.{Refusal}
use Rattle.mot_numbers.specs.declared.refusal.Refusal.TheVariants.{DeviceFault, WriteFault}
use Rattle.mot_outcome.specs.Outcome.{OnFile}
use Rattle.mot_outcome.specs.declared.used.TaskCalls.{TaskCalls}
use Rattle.mot_outcome.specs.declared.used.UsedDisk.TheVariants.{OfFile}
use Rattle.mot_playout.specs.Attempts.{fault_of}
use Rattle.mot_shelf.specs.View.{FolderView}

-- the disk that is handed out is that of playing
handed : (g : given.Over) (c : goal.After-of_file g) (P : FileDiskFrom _ _ _ → TaskCalls → Type 0)
    → P c.play_into-end.result.ended.disk.disk c.play_into-end.result.beside
    → OnFile P (OfFile c.answered.result.disk.disk c.play_into-end.result.beside)
handed g c P is =
    subst (λ (d : _). OnFile P (OfFile d.disk c.play_into-end.result.beside))
    (sym c.answered.ensures.disk) is

-- what was played is told of what was opened
played : (g : given.Over) (c : goal.After-of_file g)
    (tale : ℕ → Bool → FolderView → SpoolView → Tale)
    → IsTarget c.args.airing.task.packets.now (target_of c.args.opened)
    → OpensInto c.args.airing.task.packets.now c.args.airing.task.disk.now
    (writer_handle c.args.opened.writer) []
    (g.P.System.calls (writer_system c.args.opened.writer)) (destination_of c.args.opened)
    → IsFirst false c.args.disk.disk
    → Hands c.play_into-end.result.beside (λ folder lines. Sends (destination_of c.args.opened)
    (writer_handle c.args.opened.writer) (fault_of c.play_into-end.result.ended.result)
    (λ begun taken. PlaysAsked (target_of c.args.opened)
    (λ frame. tale frame c.play_into-end.result.any_refused folder lines)
    (λ ended. EndsReading ended lines c.play_into-end.result.beside.lines.all)
    c.args.airing.task (fault_of c.play_into-end.result.ended.result) begun taken
    (begun_state c.args.disk) (begun_state c.play_into-end.result.ended.disk))
    (g.P.System.calls (writer_system c.args.opened.writer))
    c.play_into-end.result.beside.packets.all)
    → Concludes (λ r. (r ≡ DeviceFault) ⊎ (r ≡ WriteFault))
    (λ all ending. PlaysTo c.args.airing.task tale all ending (g.W.Write.contents c.args.writer.now)
    (g.W.Write.contents c.play_into-end.new.writer) c.of_file.result.disk)
    c.of_file.result.result c.of_file.result.disk
    (g.W.Write.contents c.args.writer.now) (g.W.Write.contents c.play_into-end.new.writer)
played g c tale is_target opens is_first plays =
    let target = target_of c.args.opened in
    let task = c.args.airing.task in
    let end = c.play_into-end.result in
    let ended = end.ended in
    let ending = fault_of ended.result in
    let old = g.W.Write.contents c.args.writer.now in
    let new = g.W.Write.contents c.play_into-end.new.writer in
    let first = begun_state c.args.disk in
    let last = begun_state ended.disk in
    let used = OfFile c.answered.result.disk.disk end.beside in
    let destination = destination_of c.args.opened in
    let handle = writer_handle c.args.opened.writer in
    let folder = plays.0 in
    let lines = plays.2.0 in
    let Reads : Option Refusal → Type 0 = λ e. EndsReading e lines end.beside.lines.all in
    subst (λ (f : _). Concludes (λ r. (r ≡ DeviceFault) ⊎ (r ≡ WriteFault))
    (λ all ending. PlaysTo task tale all ending old new f.disk) f.result f.disk old new)
    (sym c.of_file.ensures)
    (concludes _ (λ all ending. PlaysTo task tale all ending old new used) used old new
    c.is_all_done-all_done.result ended.result c.answered.result.result c.answered.ensures.answer
    (ended_so (λ all ending. PlaysTo task tale all ending old new used)
    c.is_all_done-all_done.result ended.result
    (λ all whole. (
      target,
      is_target,
      c.play_into-end.ensures.quiet,
      (
        end.any_refused,
        (λ none. whole none ∙ c.is_all_done-all_done.ensures
            ∙ ap (λ (t : Target). is_all_done t end.any_refused) c.target-target.ensures),
        handed g c (λ disk beside. Hands beside (λ folder lines. SendsAsked task target ending
            (λ begun taken. SinceOpened (PlaysAsked target
            (λ frame. tale frame end.any_refused folder lines)
            (λ ended. EndsReading ended lines beside.lines.all) task ending begun taken) disk)
            beside.packets.all)) (
              folder,
              plays.1,
              (
                lines,
                record {
                  handle = handle;
                  destination = destination;
                  target_is = refl;
                  opened = g.P.System.calls (writer_system c.args.opened.writer);
                  opens = opens;
                  sends = sends_as destination handle ending
                      (λ begun taken. PlaysAsked target
                      (λ frame. tale frame end.any_refused folder lines) Reads task ending begun taken
                      first last)
                      (λ begun taken. SinceOpened (PlaysAsked target
                      (λ frame. tale frame end.any_refused folder lines) Reads task ending begun
                      taken) ended.disk.disk)
                      (g.P.System.calls (writer_system c.args.opened.writer)) end.beside.packets.all
                      (λ begun taken so. since_opened c.args.disk.disk ended.disk.disk
                      (PlaysAsked target (λ frame. tale frame end.any_refused folder lines) Reads task
                      ending begun taken) is_first ended.disk.begins
                      (into_keeps target (tale so.0 end.any_refused folder lines) Reads
                      (played_as task so.0) ending begun taken first last so.2) so)
                      plays.2.1;
                },
              ),
            ),
      ),
    ))))

pub returns-clause-ended : goal.returns-clause-ended
returns-clause-ended g c = λ target opens is_first.
    played g c (λ frame refused then_folder then_lines. tale_aired g.F.System.calls g.Y.System.calls
    c.args.airing (played_as c.args.airing.task frame) refused then_folder then_lines)
    target opens is_first c.play_into-end.ensures.played

pub returns-clause-opens : goal.returns-clause-opens
returns-clause-opens g c = λ path needs old then new are came.
    subst (λ (f : _). Opens needs path (fault_of f.result) f.disk old new)
    (sym c.of_file.ensures) (then, are, came)
