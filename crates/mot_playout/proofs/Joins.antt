-- Runs one after the other, and calls that only read between them.
use Rattle.std.proofs.Common.{◌≡◌, ℕ, Bool, true, false, List, [], ◌∷◌, ◌++◌, length, take, drop}
use Rattle.std.proofs.Common.{Option, None, refl, sym, ◌∙◌, ap, subst, arith, append_assoc}
use Rattle.std.proofs.lemmas.List.{append-nil}
use Rattle.std.specs.Prelude.{if◌then◌else◌}
use Rattle.disk_model.specs.Disk.{State, Throughout, IsHonestDisk, IsUnchanged}
use Rattle.disk_model.proofs.Laws.{stays, joins, weakens}
use Rattle.mot_journal.specs.declared.layout.Layout.{Layout}
use Rattle.mot_journal.specs.Image.{Standing}
use Rattle.mot_numbers.specs.declared.geometry.Geometry.{Geometry}
use Rattle.mot_numbers.specs.declared.refusal.Refusal.{Refusal}
use Rattle.mot_objects.specs.declared.command.Command.{Command}
use Rattle.mot_repository.specs.Repository.{RepositoryView, Holds}
use Rattle.mot_playout.specs.RunEnds.{AreMarks, RulesAlong, RunLeaves}
use Rattle.mot_playout.specs.Runs.{accepted_commands, commands_in_flight, IsAfter, StandsAfterSome}
use Rattle.std.specs.Option.{option_map_or}
use Rattle.mot_numbers.specs.Refusal.{is_device_fault}
use Rattle.mot_playout.proofs.Read.{holds_still}
use Rattle.mot_playout.proofs.Runs.{begins, rests, after_both, along_both, more, less_sure}

-- ---- marks

marks-join : (layout : Layout) (s mid last : Standing) (commands others : List Command)
    (marks rest : List Bool)
    → length marks ≡ length commands → AreMarks layout s commands marks mid
    → AreMarks layout mid others rest last
    → AreMarks layout s (commands ++ others) (marks ++ rest) last
marks-join layout s mid last [] others [] rest whole first second =
    subst (λ (d : Standing). AreMarks layout d others rest last) first second
marks-join layout s mid last [] others (mark ∷ marks) rest whole first second = absurd first
marks-join layout s mid last (c ∷ commands) others [] rest whole first second =
    absurd (omega (arith, whole))
marks-join layout s mid last (c ∷ commands) others (true ∷ marks) rest whole first second = (
  first.0,
  first.1,
  first.2,
  marks-join layout first.1 mid last commands others marks rest (omega (arith, whole)) first.3
      second,
)
marks-join layout s mid last (c ∷ commands) others (false ∷ marks) rest whole first second = (
  first.0,
  first.1,
  marks-join layout s mid last commands others marks rest
      (omega (arith, whole)) first.2 second,
)

-- what two runs accept, one after the other, is what one run of both accepts
pub accepted-join : (commands others : List Command) (marks rest : List Bool)
    → length marks ≡ length commands
    → accepted_commands (commands ++ others) (marks ++ rest)
    ≡ accepted_commands commands marks ++ accepted_commands others rest
accepted-join [] others [] rest whole = refl
accepted-join [] others (mark ∷ marks) rest whole = absurd (omega (arith, whole))
accepted-join (c ∷ commands) others [] rest whole = absurd (omega (arith, whole))
accepted-join (c ∷ commands) others (true ∷ marks) rest whole =
    ap (λ l. c ∷ l) (accepted-join commands others marks rest (omega (arith, whole)))
accepted-join (c ∷ commands) others (false ∷ marks) rest whole =
    accepted-join commands others marks rest (omega (arith, whole))

drop-join : (commands others : List Command) (marks rest : List Bool)
    → length marks ≡ length commands
    → drop (length (marks ++ rest)) (commands ++ others) ≡ drop (length rest) others
drop-join [] others [] rest whole = refl
drop-join [] others (mark ∷ marks) rest whole = absurd (omega (arith, whole))
drop-join (c ∷ commands) others [] rest whole = absurd (omega (arith, whole))
drop-join (c ∷ commands) others (mark ∷ marks) rest whole =
    drop-join commands others marks rest (omega (arith, whole))

flight-join : (commands others : List Command) (marks rest : List Bool) (fault : Option Refusal)
    → length marks ≡ length commands
    → commands_in_flight (commands ++ others) (marks ++ rest) fault
    ≡ commands_in_flight others rest fault
flight-join commands others marks rest fault whole =
    ap (λ l. if option_map_or is_device_fault fault false then take 1 l else [])
    (drop-join commands others marks rest whole)

-- ---- what runs leave

-- more sure commands in front
in_front : (s mid : Standing) (done sure others : List Command) (image : List ℕ)
    → IsAfter s done mid
    → StandsAfterSome mid sure others image → StandsAfterSome s (done ++ sure) others image
in_front s mid done sure others image after is = record {
  last = is.last;
  after = record {
    count = is.after.count;
    few = is.after.few;
    after = subst (λ l. IsAfter s l is.last)
        (sym (append_assoc done sure (take is.after.count others)))
        (after_both s done (sure ++ take is.after.count others) mid is.last after is.after.after);
  };
  image_is = is.image_is;
}

-- one run, and then another on what it left
pub runs_join : (first mid last : RepositoryView) (start between now : State) (s : Standing)
    (commands others : List Command)
    (marks rest : List Bool) (fault : Option Refusal) → mid.journal.layout ≡ first.journal.layout
    → length marks ≡ length commands
    → (one : RunLeaves first mid start between s commands marks None)
    → (two : RunLeaves mid last between now one.last others rest fault)
    → (run : RunLeaves first last start now s (commands ++ others) (marks ++ rest) fault)
    × (run.last ≡ two.last)
runs_join first mid last start between now s commands others marks rest fault layout whole one two =
    let done : List Command = accepted_commands commands marks in
    let then_done : List Command = accepted_commands others rest in
    let flight : List Command = commands_in_flight others rest fault in
    let all = accepted-join commands others marks rest whole in
    let in_air = flight-join commands others marks rest fault whole in
    let one_moment : Throughout start between (StandsAfterSome s [] done)
    = subst (λ l. Throughout start between (StandsAfterSome s [] l)) (append-nil done)
    one.any_moment in (
      record {
        last = two.last;
        after = subst (λ l. IsAfter s l two.last) (sym all)
            (after_both s done then_done one.last two.last one.after two.after);
        marked = marks-join first.journal.layout s one.last two.last commands others marks rest
            whole one.marked
            (subst (λ l. AreMarks l one.last others rest two.last) layout two.marked);
        rules = subst (RulesAlong s.geometry.objects s.carousel) (sym all)
            (along_both s.geometry.objects done then_done s.carousel one.last.carousel one.rules
            one.after.carousel
            (subst (λ (g : Geometry). RulesAlong g.objects one.last.carousel then_done)
            one.after.geometry two.rules));
        agrees = two.agrees;
        going = two.going;
        any_moment =
            subst (λ l. Throughout start now (StandsAfterSome s [] l))
            (sym (ap (λ l. l ++ commands_in_flight (commands ++ others) (marks ++ rest) fault)
            all
            ∙ ap (λ l. (done ++ then_done) ++ l) in_air ∙ append_assoc done then_done flight))
            (joins start between now (StandsAfterSome s [] (done ++ (then_done ++ flight)))
            (StandsAfterSome one.last [] (then_done ++ flight))
            (weakens start between (StandsAfterSome s [] done)
            (StandsAfterSome s [] (done ++ (then_done ++ flight))) one_moment
            (λ image is. more s [] done (then_done ++ flight) image is))
            two.any_moment
            (λ image is. less_sure s done (then_done ++ flight) image
            (subst (λ l. StandsAfterSome s l (then_done ++ flight) image) (append-nil done)
            (in_front s one.last done [] (then_done ++ flight) image one.after is))));
        at_end = λ image left.
            subst (λ l. StandsAfterSome s l
            (commands_in_flight (commands ++ others) (marks ++ rest) fault) image) (sym all)
            (subst (λ l. StandsAfterSome s (done ++ then_done) l image) (sym in_air)
            (in_front s one.last done then_done flight image one.after (two.at_end image left)));
      },
      refl,
    )

-- calls that only read leave what a run leaves of which no command was done
pub reads_leave_of : (first last : RepositoryView) (start now : State) (s : Standing)
    (commands : List Command) (fault : Option Refusal)
    → IsHonestDisk start → last ≡ first → now.IsHonest → IsUnchanged start now → Holds first s start
    → RunLeaves first last start now s commands [] fault
reads_leave_of first last start now s commands fault sound same honest still holds =
    let reached = begins first start s commands sound holds in
    subst (λ v. RunLeaves first v start now s commands [] fault) (sym same)
    (rests first.journal.layout first first start now s commands [] fault refl (record {
      last = s;
      layout_is = refl;
      marked = refl;
      rules = tt;
      holds = holds_still first first s start now holds honest still refl;
      time = stays start start now (StandsAfterSome s [] (accepted_commands commands []))
          reached.time still.time;
    }))

-- so, too, of no command
pub reads_leave : (first last : RepositoryView) (start now : State) (s : Standing)
    (fault : Option Refusal) → IsHonestDisk start
    → last ≡ first → now.IsHonest → IsUnchanged start now → Holds first s start
    → RunLeaves first last start now s [] [] fault
reads_leave first last start now s fault sound same honest still holds =
    reads_leave_of first last start now s [] fault sound same honest still holds
