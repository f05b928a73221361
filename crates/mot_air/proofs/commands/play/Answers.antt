use Rattle.std.proofs.Common.{◌≡◌, ◌⊎◌, ◌∙◌, ◌-◌, ℕ, List, [], ◌++◌, Option, Some, None, Result}
use Rattle.std.proofs.Common.{Bool, ap, inl, inr, refl, subst, Ok, sym}
use Rattle.std.specs.Prelude.{IfSome, option_map, unwrap_or}
use Rattle.std.specs.Borrow.{Bor}
use Rattle.disk_store.specs.declared.file.start.Start.{Ghosts}
use Rattle.mot_air.specs.Inner.Beside.{lines_in}
use Rattle.mot_air.specs.Commands.{IsUnplayed, LinesAsked, LinesOf, PlaysTask, PlaysTo}
use Rattle.mot_air.specs.Commands.{folder_asked, needs_of, others_of, packets_of, played_as}
use Rattle.mot_air.specs.Commands.{watch_asked}
use Rattle.mot_outcome.specs.Outcome.{Concludes, Opens}
use Rattle.mot_air.specs.Telling.{lines_at, tale_with}
use Rattle.mot_folder.specs.Looked.{Watch}
use Rattle.mot_numbers.specs.declared.refusal.Refusal.{Refusal}
use Rattle.mot_playout.specs.Attempts.{fault_of}
use Rattle.mot_outcome.specs.declared.used.UsedDisk.{UsedDisk}
use Rattle.mot_cli.specs.declared.playing.PlayTask.{PlayTask}
use Rattle.std.proofs.KnownBytes.{Keeps-refl}
use Rattle.mot_outcome.proofs.Laws.{concludes_more, begun_after, begun_first, opened_after}
use Rattle.mot_air.proofs.commands.play.Goals as goal
use Rattle.mot_endpoints.specs.Opened.{Need, if_given}
use Rattle.mot_line_folder.specs.declared.folder.LineFolder.{LineFolder}
use Rattle.mot_endpoints.specs.Texts.{IsTyped}
use Rattle.mot_line_folder.specs.Spool.{SpoolView}
use Rattle.mot_endpoints.specs.LinePlaces.{ChecksLines}
use Rattle.mot_endpoints.specs.declared.lines.OtherFiles.{OtherFiles}
use Rattle.mot_files.specs.Call.{Call}
use Rattle.mot_shelf.specs.View.{FolderView}
use Rattle.mot_suffixes.specs.Types.{SuffixType}
use Rattle.mot_numbers.specs.declared.refusal.Refusal.TheVariants.{DeviceFault, WriteFault}

-- what is needed of the words, apart from suffixes and packets
abbrev lines_of : PlayTask → List Need
lines_of task = if_given (λ path. Need.lines path (others_of task)) task.lines

abbrev folder_of : PlayTask → List Need
folder_of task = if_given Need.folder task.folder

abbrev status_of : PlayTask → List Need
status_of task = if_given Need.status task.status

-- what is the same of each frame is the same
by_frame : {A : Type 0} (w v : ℕ → A) → ((frame : ℕ) → w frame ≡ v frame) → w ≡ v
by_frame w v same = λ i frame. same frame i

-- the same folders and lines, told of the words
asked : {S F : Type 0} {start : Ghosts S F} (task : PlayTask) (used : UsedDisk S F start)
    (old new : Option (List ℕ)) (w v : ℕ → Option Watch) (h k : Option (List ℕ × ℕ))
    (folder at : FolderView) (lines : SpoolView) (all : Bool) (ending : Option Refusal)
    → ((frame : ℕ) → w frame ≡ v frame) → h ≡ k → folder ≡ at
    → PlaysTo task (λ frame refused then_folder then_lines. tale_with (w frame) h
    (played_as task frame) refused folder then_folder lines then_lines) all ending old new used
    → PlaysTo task (λ frame refused then_folder then_lines. tale_with (v frame) k
    (played_as task frame) refused at then_folder lines then_lines) all ending old new used
asked task used old new w v h k folder at lines all ending same held is plays =
    let Plays : (ℕ → Option Watch) → Option (List ℕ × ℕ) → FolderView → Type 0 = λ w h f.
    PlaysTo task (λ frame refused then_folder then_lines. tale_with (w frame) h
    (played_as task frame) refused f then_folder lines then_lines) all ending old new used in
    subst (λ (x : ℕ → Option Watch). Plays x k at) (by_frame w v same)
    (subst (λ (x : Option (List ℕ × ℕ)). Plays w x at) held
    (subst (λ (x : FolderView). Plays w h x) is plays))

pub returns-in-Err-clause-ended : goal.returns-in-Err-clause-ended
returns-in-Err-clause-ended g c =
    let old = g.W.Write.contents c.args.writer.now in
    subst (λ (f : _). Concludes (IsUnplayed c.args.task)
    (λ all ending. PlaysTask c.args.task all ending f.disk old old) f.result f.disk old old)
    (sym c.unbegun.ensures)
    (inl (inl c.in-Err.ensures.refused, record { untouched = tt; silent = Keeps-refl _ }))

pub returns-in-Err-line_folder-clause-ended : goal.returns-in-Err-line_folder-clause-ended
returns-in-Err-line_folder-clause-ended g c =
    let old = g.W.Write.contents c.args.writer.now in
    subst (λ (f : _). Concludes (IsUnplayed c.args.task)
    (λ all ending. PlaysTask c.args.task all ending f.disk old old) f.result f.disk old old)
    (sym c.unbegun-in-Err-line_folder.ensures) (inl (
      inr (inl c.in-Err-line_folder.ensures.refused),
      record { untouched = tt; silent = Keeps-refl _ },
    ))

-- the lines that are read are those of the words
reads_asked : {S : Type 0} (eight : ℕ) (every : Option ℕ) (path : Option (Bor (List ℕ)))
    (lines : Option (LineFolder S)) → option_map (λ (l : LineFolder S). l.hand) lines
    ≡ option_map (λ _. []) path
    → IfSome lines (λ (l : LineFolder S). l.every ≡ unwrap_or every eight)
    → option_map {U = List ℕ × ℕ} (λ (l : LineFolder S). (l.hand, l.every - 1)) lines
    ≡ option_map {U = List ℕ × ℕ} (λ _. ([], unwrap_or every eight - 1)) path
reads_asked eight every None None same is = refl
reads_asked eight every (Some path) None same is = absurd (let e : None ≡ Some [] = same in cc)
reads_asked eight every None (Some lines) same is = absurd (let e : Some lines.hand ≡ None = same in cc)
reads_asked eight every (Some path) (Some lines) same is =
    let with_count : ℕ → Option (List ℕ × ℕ) = λ n. Some (lines.hand, n - 1) in
    ap with_count is
    ∙ ap (λ (h : Option (List ℕ)). option_map {U = List ℕ × ℕ} (λ (x : List ℕ). (x, unwrap_or every eight - 1)) h) same

-- the folder of lines is that of the words
lines_asked : {S : Type 0} (calls : S → List Call) (path : Option (Bor (List ℕ))) (others : OtherFiles)
    (lines : Option (LineFolder S))
    → option_map (λ (l : LineFolder S). l.place.path) lines ≡ path
    → IfSome lines (λ (l : LineFolder S). ChecksLines l.place.path.now others (Ok tt) []
    (calls l.place.system))
    → LinesOf path others (lines_in calls lines)
lines_asked calls None others None same checked = refl
lines_asked calls (Some path) others None same checked = absurd (let e : None ≡ Some path = same in cc)
lines_asked calls None others (Some lines) same checked =
    absurd (let e : Some lines.place.path ≡ None = same in cc)
lines_asked calls (Some path) others (Some lines) same checked =
    let is : lines.place.path ≡ path = some_of same in (
      calls lines.place.system,
      subst (λ (p : Bor (List ℕ)). ChecksLines p.now others (Ok tt) [] (calls lines.place.system)) is
          checked,
      ap (λ (p : Bor (List ℕ)). lines_at p.now (calls lines.place.system)) is,
    )
  where
    some_of : {A : Type 0} {a b : A} → Some a ≡ Some b → a ≡ b
    some_of same = cc

-- what was played is told of the words
played : {S F : Type 0} {start : Ghosts S F} (task : PlayTask) (table : List SuffixType)
    (used : UsedDisk S F start) (old new : Option (List ℕ)) (result : Result Bool Refusal)
    (w : ℕ → Option Watch) (hand : Option (List ℕ × ℕ)) (folder : FolderView) (lines : SpoolView)
    → IsTyped task.types table → ((frame : ℕ) → w frame ≡ watch_asked table task frame)
    → hand ≡ option_map (λ path. ([], unwrap_or task.every 8 - 1)) task.lines
    → folder ≡ folder_asked task → LinesAsked task lines
    → Concludes (λ r. (r ≡ DeviceFault) ⊎ (r ≡ WriteFault)) (λ all ending.
    PlaysTo task (λ frame refused then_folder then_lines. tale_with (w frame) hand
    (played_as task frame) refused folder then_folder lines then_lines) all ending old new used)
    result used old new
    → Concludes (IsUnplayed task) (λ all ending. PlaysTask task all ending used old new) result
    used old new
played task table used old new result w hand folder lines typed same held is checked plays =
    concludes_more (λ r. (r ≡ DeviceFault) ⊎ (r ≡ WriteFault)) (IsUnplayed task) (λ all ending.
    PlaysTo task (λ frame refused then_folder then_lines. tale_with (w frame) hand
    (played_as task frame) refused folder then_folder lines then_lines) all ending old new used)
    (λ all ending. PlaysTask task all ending used old new) used old new result
    (λ r early. inr (inr early))
    (λ all ending so. (
      table,
      typed,
      (
        lines,
        checked,
        asked task used old new w (watch_asked table task) hand _ folder (folder_asked task) lines
            all ending same held is so,
      ),
    )) plays

pub returns-clause-ended : goal.returns-clause-ended
returns-clause-ended g c =
    played c.args.task c.in-Ok.types c.play_file.result.disk
    (g.W.Write.contents c.args.writer.now) (g.W.Write.contents c.play_file.new.writer)
    c.play_file.result.result _ _ _ _ c.in-Ok.ensures.typed
    (λ frame. c.followed-folder.ensures.given (played_as c.args.task frame)) (reads_asked 8 c.args.task.every
    c.args.task.lines c.in-Ok-line_folder.lines c.in-Ok-line_folder.ensures.hand
    c.in-Ok-line_folder.ensures.every)
    c.followed-folder.ensures.folder
    (lines_asked g.M.System.System.calls c.args.task.lines _ c.in-Ok-line_folder.lines
    c.in-Ok-line_folder.ensures.folder c.in-Ok-line_folder.ensures.checked)
    c.play_file.ensures.ended

pub returns-in-Err-clause-opens : goal.returns-in-Err-clause-opens
returns-in-Err-clause-opens g c =
    let task = c.args.task in
    let old = g.M.System.System.calls c.args.host.now.system in
    let new = g.M.System.System.calls c.file_types.new.host.system in
    subst (λ (f : _). Opens (needs_of task) task.disk.now (fault_of f.result) f.disk old new)
    (sym c.unbegun.ensures)
    (inl (begun_first (if_given Need.types task.types) (lines_of task ++ (folder_of task
    ++ (status_of task ++ packets_of task))) old new c.in-Err.unbegun.refusal
    c.in-Err.ensures.opens))

pub returns-in-Err-line_folder-clause-opens : goal.returns-in-Err-line_folder-clause-opens
returns-in-Err-line_folder-clause-opens g c =
    let task = c.args.task in
    let others = folder_of task ++ (status_of task ++ packets_of task) in
    let old = g.M.System.System.calls c.args.host.now.system in
    let mid = g.M.System.System.calls c.file_types.new.host.system in
    let new = g.M.System.System.calls c.line_folder.new.host.system in
    let refusal = c.in-Err-line_folder.unbegun.refusal in
    subst (λ (f : _). Opens (needs_of task) task.disk.now (fault_of f.result) f.disk old new)
    (sym c.unbegun-in-Err-line_folder.ensures)
    (inl (begun_after (if_given Need.types task.types) (lines_of task ++ others) old mid new refusal
    c.in-Ok.ensures.opens
    (begun_first (lines_of task) others mid new refusal c.in-Err-line_folder.ensures.opens)))

pub returns-clause-opens : goal.returns-clause-opens
returns-clause-opens g c =
    let calls = g.M.System.System.calls in
    let task = c.args.task in
    let disk = task.disk.now in
    let lines = lines_of task in
    let folder = folder_of task in
    let status = status_of task in
    let packets = packets_of task in
    let used = c.play_file.result.disk in
    let ending = fault_of c.play_file.result.result in
    let first = calls c.file_types.new.host.system in
    let second = calls c.line_folder.new.host.system in
    let third = calls c.followed-folder.new.host.system in
    let fourth = calls c.status_file-status.new.host.system in
    let last = calls c.play_file.new.host.system in
    let Does : (opened now : List Call) → Type 0 = λ opened now. now ≡ opened in
    opened_after (if_given Need.types task.types) (lines ++ (folder ++ (status ++ packets))) disk Does
    ending used (calls c.args.host.now.system) first last c.in-Ok.ensures.opens
    (opened_after lines (folder ++ (status ++ packets)) disk Does ending used first second last
    c.in-Ok-line_folder.ensures.opens
    (opened_after folder (status ++ packets) disk Does ending used second third last
    c.followed-folder.ensures.opens
    (opened_after status packets disk Does ending used third fourth last
    c.status_file-status.ensures.opens c.play_file.ensures.opens)))
