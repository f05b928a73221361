use Rattle.std.proofs.Common.{◌≡◌, ◌∙◌, ◌||◌, ℕ, Bool, true, false, not, Option, None, [], ap, refl}
use Rattle.std.proofs.Common.{sym}
use Rattle.disk_model.specs.Disk.{State}
use Rattle.disk_model.proofs.Laws.{unchanged_none}
use Rattle.mot_events.specs.Events.{is_listed}
use Rattle.mot_folder.specs.declared.report.Report.{Report}
use Rattle.mot_folder.specs.Looked.{HasLookedAtFolder, LooksSoFar, TellsWatch, Watch, is_look_due}
use Rattle.mot_folder.specs.Looked.{no_look, one_look, packets_left, packets_left_behind, so_far}
use Rattle.mot_folder.specs.Looked.{watch}
use Rattle.mot_folder.proofs.looking.LooksUpdate.update.Goals as goal
use Rattle.mot_journal.specs.Image.{Standing}
use Rattle.mot_numbers.specs.declared.refusal.Refusal.{Refusal}
use Rattle.mot_playout.specs.Attempts.{fault_of}
use Rattle.mot_playout.specs.Runs.{ServerView}
use Rattle.mot_shelf.proofs.Laws.{gives_path}
use Rattle.mot_shelf.specs.Given.{nothing}
use Rattle.mot_shelf.specs.Gives.{GaveSo}
use Rattle.mot_shelf.specs.Reader.{view}
use Rattle.mot_update.specs.HasRun.{IsUpdating, may_look}
use Rattle.mot_update.specs.declared.moment.UpdatePoint.{UpdatePoint}
use Rattle.mot_update.proofs.Laws.{has_read}

twice_not : (b : Bool) → b ≡ not (not b)
twice_not true = refl
twice_not false = refl

-- looks so far, and one more
so_is : (before behind : LooksSoFar) (report : Report) {left : ℕ} → behind.left ≡ left
    → behind.refused ≡ (before.refused || report.any_refused)
    → behind ≡ so_far left behind.folder (before.refused || not (not report.any_refused)) behind.files
so_is before behind report {left} paced kept =
    ap (λ n. so_far n behind.folder behind.refused behind.files) paced
    ∙ ap (λ (b : Bool). so_far left behind.folder b behind.files)
    (kept ∙ ap (λ (b : Bool). before.refused || b) (twice_not report.any_refused))

-- a look runs commands, and tells of them
updating_by : {D : Type 0} (old new : ServerView D) (start now : State) (s : Standing)
    (w after : Watch) (moment : UpdatePoint) (before behind : LooksSoFar)
    (report : Report) (fault : Option Refusal)
    → after ≡ w → is_look_due before.left (may_look moment) ≡ true
    → behind.left ≡ packets_left report.any_left w.every
    → behind.refused ≡ (before.refused || report.any_refused)
    → GaveSo before.folder behind.folder (λ given. HasLookedAtFolder old new start now s w.types
    w.guard w.path given report fault before.files behind.files)
    → IsUpdating (TellsWatch w after moment before behind) old new start now s fault
updating_by old new start now s w after moment before behind report fault same due paced
    kept gave =
    let looked = gave.2 in
    record {
      commands = looked.commands;
      marks = looked.marks;
      run = looked.run;
      told = (
        same,
        one_look due report.any_left gave.0 looked.names looked.wanted (not report.any_refused)
            looked.entries behind.files gave.1 (so_is before behind report paced kept) looked.look,
      );
    }

-- whether a look is due
due_is : (left : ℕ) (moment : UpdatePoint) (may due : Bool) → may ≡ may_look moment
    → due ≡ is_look_due left may → is_look_due left (may_look moment) ≡ due
due_is left moment may due same is = sym (is ∙ ap (is_look_due left) same)

pub returns-then-not-look_is_due-clause-looks : goal.returns-then-not-look_is_due-clause-looks
returns-then-not-look_is_due-clause-looks g c = λ due.
    absurd (let e : false ≡ true = sym (due_is c.args.self.now.left c.args.moment c.may_look.result
    false c.may_look.ensures c.if-not-look_is_due.ensures.due) ∙ due in cc)

pub returns-then-not-look_is_due-clause-looked : goal.returns-then-not-look_is_due-clause-looked
returns-then-not-look_is_due-clause-looked g c = λ due.
    absurd (let e : false ≡ true = sym (due_is c.args.self.now.left c.args.moment c.may_look.result
    false c.may_look.ensures c.if-not-look_is_due.ensures.due) ∙ due in cc)

pub returns-clause-counts : goal.returns-clause-counts
returns-clause-counts g c = λ due.
    absurd (let e : true ≡ false = sym (due_is c.args.self.now.left c.args.moment c.may_look.result
    true c.may_look.ensures c.if-not-look_is_due.ensures.due) ∙ due in cc)

pub returns-then-not-look_is_due-clause-run : goal.returns-then-not-look_is_due-clause-run
returns-then-not-look_is_due-clause-run g c = λ s holds honest.
    let old = c.args.server.now in
    let state = g.D.Disk.state old.disk in
    record {
      commands = [];
      marks = [];
      run = (has_read old old state state s None (g.met.D.Disk.sound old.disk honest) refl refl
          honest (unchanged_none state) holds).0;
      told = (
        refl,
        no_look (due_is c.args.self.now.left c.args.moment
            c.may_look.result false c.may_look.ensures c.if-not-look_is_due.ensures.due)
            (ap (λ n. so_far n (view g.S.System.calls c.args.self.now.folder.shelf) c.args.self.now.any_refused
            c.args.self.now.folder.files.known.items)
            (c.if-not-look_is_due.ensures.counts
            ∙ ap (λ b. packets_left_behind c.args.self.now.within b c.args.self.now.left)
            c.may_look.ensures))
            refl,
      );
    }

pub returns-clause-run : goal.returns-clause-run
returns-clause-run g c = λ s holds honest.
    let state = g.D.Disk.state in
    let old = c.args.server.now in
    let new = c.look_at_folder-result.new.server in
    let looked = c.look_at_folder-result.ensures.looked s holds honest in
    updating_by old new (state old.disk) (state new.disk) s _ _ c.args.moment
    (so_far c.args.self.now.left (view g.S.System.calls c.args.self.now.folder.shelf) c.args.self.now.any_refused
    c.args.self.now.folder.files.known.items) _
    c.look_at_folder-result.new.folder.report
    (fault_of c.look_at_folder-result.result)
    (ap (λ p. watch p c.args.self.now.folder.types.now c.args.self.now.folder.guard
    c.args.self.now.every c.args.self.now.within)
    (gives_path _ nothing _ looked.0 looked.1))
    (due_is c.args.self.now.left c.args.moment c.may_look.result true c.may_look.ensures
    c.if-not-look_is_due.ensures.due)
    c.packets_left-self.ensures
    refl
    looked

pub returns-clause-looked : goal.returns-clause-looked
returns-clause-looked g c = λ due s holds honest.
    c.look_at_folder-result.ensures.looked s holds honest

pub returns-clause-keeps : goal.returns-clause-keeps
returns-clause-keeps g c = c.look_at_folder-result.ensures.keeps

pub returns-clause-faults : goal.returns-clause-faults
returns-clause-faults g c = c.look_at_folder-result.ensures.faults

pub returns-clause-listed : goal.returns-clause-listed
returns-clause-listed g c = λ due.
    c.is_listed-was_listed.ensures
    ∙ ap is_listed (c.as_slice.ensures.value ∙ ap (λ v. v.items) c.swap.ensures.x_after)

pub returns-clause-looks : goal.returns-clause-looks
returns-clause-looks g c = λ due. c.packets_left-self.ensures
