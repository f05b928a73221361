use Rattle.std.proofs.Common.{◌≡◌, ◌∙◌, ℕ, List, Option, None, Some, ap, inl, inr, map, refl, subst}
use Rattle.std.proofs.Common.{sym}
use Rattle.std.proofs.KnownBytes.{Keeps-refl}
use Rattle.clap.specs.Words.{Row, Text, found_of, rows_of, subcommand_of}
use Rattle.mot_cli.proofs.Laws.{AreWrong-none, AskBy-matched, motcar_simple}
use Rattle.mot_cli.specs.Given.{AskBy}
use Rattle.mot_cli.specs.Command.{motcar_app}
use Rattle.mot_cli.specs.Task.{AskForNothing, IsTask, IsWhy, LackOption}
use Rattle.mot_cli.specs.declared.task.NoTask.{NoTask}
use Rattle.mot_cli.specs.declared.task.NoTask.TheVariants.{Lacks, OutOfRange}
use Rattle.mot_cli.specs.declared.task.Task.{Task}
use Rattle.mot_numbers.specs.declared.refusal.Refusal.{Refusal}
use Rattle.mot_numbers.specs.declared.refusal.Refusal.TheVariants.{BadNumber, WriteFault}
use Rattle.disk_store.specs.declared.file.start.Start.{Ghosts}
use Rattle.mot_outcome.proofs.Laws.{explained}
use Rattle.mot_outcome.specs.Outcome.{IsUntouched, Prints}
use Rattle.mot_outcome.specs.Outcome.ComesTo.{no_task, wrong}
use Rattle.mot_outcome.specs.Outcome.UsesFiles.{asked, none}
use Rattle.mot_outcome.specs.declared.exit.Exit.{Exit}
use Rattle.mot_server.proofs.Asking.{IsNamed, lacks, lacks_none, memory_is, named_so, none_is}
use Rattle.mot_server.proofs.Asking.{number_of_named}
use Rattle.mot_server.proofs.Coming.{runs}
use Rattle.mot_server.proofs.Idle.{explained_idle, taskless_idle}
use Rattle.mot_server.proofs.program.run_program_on.Goals as goal
use Rattle.mot_server.specs.Inner.{TellsWhy}
use Rattle.mot_server.specs.Program.{Ends, IsBeginningRefusal, RunsTo, Uses, refused_number}

-- ---- words that are wrong, or ask for help

pub returns-in-Err-clause-ended : goal.returns-in-Err-clause-ended
returns-in-Err-clause-ended g c =
    let words = map g.S.AsStr.text c.args.words.now in
    explained IsTask AskForNothing (refused_number words) IsBeginningRefusal Ends words
    c.explain.result (g.R.Read.remaining c.args.reader.now)
    (g.W.Write.contents c.args.writer.now) (g.W.Write.contents c.explain.new.writer)
    (λ are. inl are) c.in-Err.error c.in-Err.ensures.kinds c.args.start
    c.explain.ensures.untouched c.explain.ensures.told

pub returns-in_default-clause-ended : goal.returns-in_default-clause-ended
returns-in_default-clause-ended g c =
    let words = map g.S.AsStr.text c.args.words.now in
    let remains = g.R.Read.remaining c.args.reader.now in
    let old = g.W.Write.contents c.args.writer.now in
    subst (λ (e : _). RunsTo words e remains remains old old) (sym c.unrefused.ensures)
    (wrong (inl (AreWrong-none motcar_app words motcar_simple c.in-Ok.matches
    c.in-Ok.ensures.matches c.in_default.ensures.rows))
    (refl, refl, record { untouched = tt; silent = Keeps-refl _ }, Keeps-refl _))

printed : (r : Option Refusal) (text : List ℕ) (old new : Option (List ℕ))
    → Prints r text old new → r ≡ Some BadNumber → ⊥
printed None text old new prints is = none_is None refl is
printed (Some r) text old new prints is =
    absurd (let e : Some WriteFault ≡ Some BadNumber = sym (ap Some prints.0) ∙ is in cc)

pub returns-in-Err-clause-lacking : goal.returns-in-Err-clause-lacking
returns-in-Err-clause-lacking g c = λ lack.
    let r = c.explain.result.refusal in
    elim c.explain.ensures.told [
      | inl idle ↦ memory_is r idle.1
      | inr (inl bad) ↦ none_is r bad.1
      | inr (inr help) ↦ printed r help.2 (g.W.Write.contents c.args.writer.now)
          (g.W.Write.contents c.explain.new.writer) help.3
    ]

pub returns-in_default-clause-lacking : goal.returns-in_default-clause-lacking
returns-in_default-clause-lacking g c = λ lack.
    none_is c.unrefused.result.refusal
    (ap (λ (e : _). e.refusal) c.unrefused.ensures)

pub returns-in-Err-clause-files : goal.returns-in-Err-clause-files
returns-in-Err-clause-files g c =
    none (explained_idle (map g.S.AsStr.text c.args.words.now) c.in-Err.error c.in-Err.ensures.kinds
    (g.W.Write.contents c.args.writer.now) (g.W.Write.contents c.explain.new.writer)
    c.explain.result c.explain.ensures.told)
    (subst (λ (d : _). IsUntouched d) (sym c.explain.ensures.untouched) tt) refl

pub returns-in_default-clause-files : goal.returns-in_default-clause-files
returns-in_default-clause-files g c =
    let words = map g.S.AsStr.text c.args.words.now in
    let calls = g.M.System.System.calls c.args.host.now.system in
    subst (λ (e : _). Uses words e calls calls) (sym c.unrefused.ensures)
    (none (λ of_file. absurd of_file) tt refl)

-- ---- words that ask for no task

-- it is told of them why
told_so : {S F : Type 0} {start : Ghosts S F} (words : List Text) (name : Text) (rows : List Row)
    (exit : Exit S F start) (unread old : Option (List ℕ)) (why : NoTask)
    → subcommand_of motcar_app words ≡ Some (name, rows) → AskBy motcar_app IsTask name rows words
    → ((task : Task) → IsTask name rows task → ⊥) → IsWhy name rows why → IsUntouched exit.disk
    → TellsWhy why exit → RunsTo words exit unread unread old old
told_so words name rows exit unread old (Lacks option) named asks untaken is untouched tells =
    wrong (inr (rows, subst (λ n. subcommand_of motcar_app words ≡ Some (n, rows)) is.0 named, is.1))
    (tells.0, tells.1, record { untouched = untouched; silent = Keeps-refl _ }, Keeps-refl _)
told_so words name rows exit unread old (OutOfRange r) named asks untaken is untouched tells =
    no_task (λ task is_asked. untaken task ((asks task).0 is_asked)) (
      tells.0,
      tells.1 ∙ ap Some (is.0 ∙ sym (number_of_named words name rows named)),
      record { untouched = untouched; silent = Keeps-refl _ },
      Keeps-refl _,
    )

told_lacking : {S F : Type 0} {start : Ghosts S F} (words : List Text) (name : Text) (rows : List Row)
    (exit : Exit S F start) (why : NoTask) → subcommand_of motcar_app words ≡ Some (name, rows)
    → IsWhy name rows why → TellsWhy why exit → LackOption words
    → exit.refusal ≡ Some BadNumber → ⊥
told_lacking words name rows exit (Lacks option) named is tells lack =
    none_is exit.refusal tells.1
told_lacking words name rows exit (OutOfRange r) named is tells lack =
    let both = lacks words name rows named lack in
    let whole = is.1 both.0 in
    let less = both.1 in
    absurd (cc)

pub returns-in-Err-task_of-clause-ended : goal.returns-in-Err-task_of-clause-ended
returns-in-Err-task_of-clause-ended g c =
    let words = map g.S.AsStr.text c.args.words.now in
    let name = c.in-Some.name.now in
    let rows = rows_of (found_of c.in-Some.rest.now) in
    let named = named_so name rows words
    (AskBy-matched motcar_app words IsNamed motcar_simple c.in-Ok.matches name rows
    c.in-Ok.ensures.matches c.in-Some.ensures.name c.in-Some.ensures.rows) in
    told_so words name rows c.tell_no_task.result (g.R.Read.remaining c.args.reader.now)
    (g.W.Write.contents c.args.writer.now) c.in-Err-task_of.why named
    (AskBy-matched motcar_app words IsTask motcar_simple c.in-Ok.matches name rows
    c.in-Ok.ensures.matches c.in-Some.ensures.name c.in-Some.ensures.rows)
    c.in-Err-task_of.ensures.none c.in-Err-task_of.ensures.why
    (subst (λ (d : _). IsUntouched d) (sym c.tell_no_task.ensures.untouched) tt)
    c.tell_no_task.ensures.told

pub returns-in-Err-task_of-clause-lacking : goal.returns-in-Err-task_of-clause-lacking
returns-in-Err-task_of-clause-lacking g c = λ lack.
    let words = map g.S.AsStr.text c.args.words.now in
    let name = c.in-Some.name.now in
    let rows = rows_of (found_of c.in-Some.rest.now) in
    let named = named_so name rows words
    (AskBy-matched motcar_app words IsNamed motcar_simple c.in-Ok.matches name rows
    c.in-Ok.ensures.matches c.in-Some.ensures.name c.in-Some.ensures.rows) in
    told_lacking words name rows c.tell_no_task.result c.in-Err-task_of.why named
    c.in-Err-task_of.ensures.why c.tell_no_task.ensures.told lack

pub returns-in-Err-task_of-clause-files : goal.returns-in-Err-task_of-clause-files
returns-in-Err-task_of-clause-files g c =
    none (taskless_idle (map g.S.AsStr.text c.args.words.now) c.in-Some.name.now
    (rows_of (found_of c.in-Some.rest.now)) c.in-Err-task_of.why c.tell_no_task.result
    c.in-Err-task_of.ensures.why c.tell_no_task.ensures.told)
    (subst (λ (d : _). IsUntouched d) (sym c.tell_no_task.ensures.untouched) tt) refl

-- ---- a task

pub returns-clause-ended : goal.returns-clause-ended
returns-clause-ended g c =
    let words = map g.S.AsStr.text c.args.words.now in
    let name = c.in-Some.name.now in
    let rows = rows_of (found_of c.in-Some.rest.now) in
    let task = c.in-Ok-task_of.task in
    let unread = g.R.Read.remaining c.args.reader.now in
    let left = g.R.Read.remaining c.execute-finished.new.reader in
    let old = g.W.Write.contents c.args.writer.now in
    let new = g.W.Write.contents c.execute-finished.new.writer in
    let finished = c.execute-finished.result in
    subst (λ (e : _). RunsTo words e unread left old new) (sym c.conclude.ensures)
    (runs task unread left old new words
    ((AskBy-matched motcar_app words IsTask motcar_simple c.in-Ok.matches name rows
    c.in-Ok.ensures.matches c.in-Some.ensures.name c.in-Some.ensures.rows task).1
    c.in-Ok-task_of.ensures.some) finished.result finished.disk c.execute-finished.ensures.ended)

pub returns-clause-lacking : goal.returns-clause-lacking
returns-clause-lacking g c = λ lack.
    let words = map g.S.AsStr.text c.args.words.now in
    let name = c.in-Some.name.now in
    let rows = rows_of (found_of c.in-Some.rest.now) in
    let named = named_so name rows words
    (AskBy-matched motcar_app words IsNamed motcar_simple c.in-Ok.matches name rows
    c.in-Ok.ensures.matches c.in-Some.ensures.name c.in-Some.ensures.rows) in
    let both = lacks words name rows named lack in
    absurd (lacks_none name rows c.in-Ok-task_of.task c.in-Ok-task_of.ensures.some both.0 both.1)

pub returns-clause-files : goal.returns-clause-files
returns-clause-files g c =
    let words = map g.S.AsStr.text c.args.words.now in
    let name = c.in-Some.name.now in
    let rows = rows_of (found_of c.in-Some.rest.now) in
    let task = c.in-Ok-task_of.task in
    subst (λ (e : _). Uses words e (g.M.System.System.calls c.args.host.now.system) (g.M.System.System.calls c.execute-finished.new.host.system))
    (sym c.conclude.ensures)
    (asked task ((AskBy-matched motcar_app words IsTask motcar_simple c.in-Ok.matches name rows
    c.in-Ok.ensures.matches c.in-Some.ensures.name c.in-Some.ensures.rows task).1
    c.in-Ok-task_of.ensures.some) c.execute-finished.ensures.files)
