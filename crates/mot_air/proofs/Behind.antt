-- Playing a disk that was opened before, for the length of its packets.
use Rattle.std.proofs.Common.{◌≡◌, ◌∙◌, ◌++◌, arith, ⊎_elim, ℕ, List, [], Bool, Option, Some, None}
use Rattle.std.proofs.Common.{Err, false, inl, inr, refl, subst, sym}
use Rattle.std.specs.Prelude.{IsOk, IsSomeAnd}
use Rattle.disk_model.proofs.Laws.{joins, keeps_on}
use Rattle.disk_model.specs.Disk.{Elapses, IsHonestDisk, IsStill, Nothing, OnlySyncs, State, Rises}
use Rattle.mot_update.proofs.Laws.{opened_throughout, AllAre}
use Rattle.mot_air.specs.Directory.{IsFrame}
use Rattle.mot_update.specs.Ending.{IsEnd, Leaves}
use Rattle.mot_update.specs.Ending as opening
use Rattle.mot_air.specs.Playing.{HasAired, Plays, Tale}
use Rattle.mot_feed.specs.declared.manner.Manner.{Manner}
use Rattle.mot_air.specs.Telling.{first_sources, tale_with}
use Rattle.mot_update.specs.Opening.{IsUnopened}
use Rattle.mot_feed.specs.Feeding.{Event, Stage}
use Rattle.mot_feed.specs.Feeding.AreTold.{no_call}
use Rattle.mot_feed.specs.Feeding.Stage.{Ready}
use Rattle.mot_folder.specs.Looked.{Watch}
use Rattle.mot_journal.specs.Image.{Standing, stands_for}
use Rattle.mot_journal.specs.Journal.{IsReadingRefusal}
use Rattle.mot_journal.specs.Journal as journal
use Rattle.mot_numbers.specs.Refusal.{IsCalm}
use Rattle.mot_numbers.specs.declared.refusal.Refusal.{Refusal}
use Rattle.mot_objects.specs.Carousel.{Carousel}
use Rattle.mot_objects.specs.declared.command.Command.{Command}
use Rattle.mot_playout.proofs.Laws.{after_none, none_of}
use Rattle.mot_playout.specs.Runs.{StandsAfterSome, accepted_commands, commands_in_flight}
use Rattle.mot_line_folder.specs.Spool.{SpoolView}
use Rattle.mot_shelf.specs.View.{FolderView}

-- time in which no image comes, and then more of it
elapses_on : (a b c : State) → Elapses a b Nothing → Elapses b c Nothing → Elapses a c Nothing
elapses_on a b c first second = record {
  later = let l = first.later in let m = second.later in omega (arith, l, m);
  nothing_else = λ t image le left.
      let l = first.later in
      ⊎_elim (λ was. first.nothing_else t image le was) (λ none. absurd none)
      (second.nothing_else t image (omega (arith, l, le)) left);
  keeps = λ t image le left.
      let l = first.later in
      second.keeps t image (omega (arith, l, le)) (first.keeps t image le left);
}

still_on : (a b c : State) → IsStill a b → IsStill b c → IsStill a c
still_on a b c first second = record {
  bytes = second.bytes ∙ first.bytes;
  time = elapses_on a b c first.time second.time;
  images = λ image left. first.images image (second.images image left);
  loose = λ k is. first.loose k (second.loose k is);
}

-- the frame that was found once is that of playing, too
pub frame_behind : (rate : Option ℕ) (frame : ℕ) (ending : Option Refusal) (start mid now : State)
    → (now.IsHonest → mid.IsHonest) → IsFrame rate frame None start mid
    → IsFrame rate frame ending start now
frame_behind None frame ending start mid now was is = is
frame_behind (Some rate) frame ending start mid now was (inl none) = absurd none
frame_behind (Some rate) frame ending start mid now was (inr so) =
    inr (λ s honest stands. so s (was honest) stands)

module _ (start mid now : State) (opens : OnlySyncs start mid)
    (calm : mid.failures ≡ start.failures) (was : now.IsHonest → mid.IsHonest) where
  same_bytes : now.IsHonest → mid.bytes ≡ start.bytes
  same_bytes honest = (opens.still (was honest)).bytes

  why_behind : (refusal : Refusal) → IsReadingRefusal stands_for mid now refusal
      → IsReadingRefusal stands_for start now refusal
  why_behind refusal (journal.not_formatted is reads) =
      journal.not_formatted is
      (λ honest. subst (λ b. stands_for b ≡ Err refusal) (same_bytes honest) (reads honest))
  why_behind refusal (journal.damaged slot is reads) =
      journal.damaged slot is
      (λ honest. subst (λ b. stands_for b ≡ Err refusal) (same_bytes honest) (reads honest))
  why_behind refusal (journal.no_memory is) = journal.no_memory is
  why_behind refusal (journal.device is rises) =
      journal.device is (subst (λ n. Rises n now.failures) calm rises)

  unopened_behind : (refusal : Refusal) → IsUnopened refusal mid now
      → IsUnopened refusal start now
  unopened_behind refusal is = record {
    why = why_behind refusal is.why;
    calm = subst (λ n. IsCalm refusal n now.failures) calm is.calm;
    still = λ honest. still_on start mid now (opens.still (was honest)) (is.still honest);
  }

  end_behind : (ending : Option Refusal) → IsEnd ending mid now → IsEnd ending start now
  end_behind ending (opening.whole is same) = opening.whole is (same ∙ calm)
  end_behind ending (opening.no_memory is same) = opening.no_memory is (same ∙ calm)
  end_behind ending (opening.device is rises) =
      opening.device is (subst (λ n. Rises n now.failures) calm rises)
  end_behind ending (opening.unwritten is same) = opening.unwritten is (same ∙ calm)

  none_behind : (ending : Option Refusal) → IsSomeAnd ending (λ r. IsUnopened r mid now)
      → IsSomeAnd ending (λ r. IsUnopened r start now)
  none_behind None none = none
  none_behind (Some refusal) is = unopened_behind refusal is

  leaves_behind : (s : Standing) (commands : List Command) (marks : List Bool)
      (fault : Option Refusal) → IsHonestDisk start → AllAre s start → now.IsHonest
      → Leaves s commands marks fault mid now → Leaves s commands marks fault start now
  leaves_behind s commands marks fault sound all honest is =
      let others = accepted_commands commands marks ++ commands_in_flight commands marks fault in
      let P = StandsAfterSome s [] others in
      record {
        any_moment = joins start mid now P P
            (opened_throughout start mid P sound
            (λ image left. none_of s [] others s image (after_none s) (all image left))
            (opens.still (was honest)))
            is.any_moment (λ image is. is);
        at_end = is.at_end;
      }

  aired_behind : (s : Standing) (tale : Tale) (how : Manner) (stage : Stage) (events : List Event)
      (packets : List (List ℕ)) → IsHonestDisk start → AllAre s start → now.IsHonest
      → HasAired s tale how stage events packets mid now
      → HasAired s tale how stage events packets start now
  aired_behind s tale how stage events packets sound all honest is = record {
    last = is.last;
    place = is.place;
    happened = is.happened;
    commands = is.commands;
    marks = is.marks;
    told = is.told;
    accepted = is.accepted;
    after = is.after;
    stands = is.stands;
    leaves = leaves_behind s is.commands is.marks _ sound all honest is.leaves;
    are = is.are;
    continuous = is.continuous;
    turns_read = is.turns_read;
    often = is.often;
    listens = is.listens;
    nobody_starves = is.nobody_starves;
  }

-- what is played of it is played of it as it was before
pub plays_behind : (start mid now : State) → OnlySyncs start mid
    → mid.failures ≡ start.failures → (start.IsHonest → IsHonestDisk start) → (tale : Tale)
    (how : Manner) (ending : Option Refusal) (before after : Option (List (List ℕ)))
    → Plays tale how ending before after mid now → Plays tale how ending before after start now
plays_behind start mid now opens calm sound tale how ending before after is =
    let was = is.keeps.was_honest in
    record {
      keeps = keeps_on start mid now opens.keeps is.keeps;
      came = elim is.came [
        | inl none ↦ inl (none_behind start mid now opens calm was ending none.0, none.1)
        | inr done ↦ inr (
          (λ honest. subst (λ b. IsOk (stands_for b)) (same_bytes start mid now opens calm was honest)
              (done.0 honest)),
          end_behind start mid now opens calm was ending done.1,
          λ s honest all. let writes = done.2 s honest
              (λ image left. all image ((opens.still (was honest)).images image left)) in record {
                stage = writes.stage;
                events = writes.events;
                packets = writes.packets;
                played = aired_behind start mid now opens calm was s tale how writes.stage writes.events
                    writes.packets (sound (opens.keeps.was_honest (was honest))) all honest
                    writes.played;
                ends = writes.ends;
              },
        )
      ];
    }

-- of a disk that was not opened nothing is told
pub none_told : (w : Option Watch) (reads : Option (List ℕ × ℕ)) (how : Manner)
    (refused : Bool) (folder : FolderView) (lines : SpoolView) → refused ≡ false → (limit : ℕ)
    (c : Carousel) → tale_with w reads how refused folder folder lines lines limit c Ready [] [] [] c
none_told w None how refused folder lines any limit c = (
  first_sources [] folder lines,
  record { looked = refl; any = sym any; read = refl },
  no_call,
)
none_told w (Some (hand, between)) how refused folder lines any limit c = (
  first_sources hand folder lines,
  record { looked = refl; any = sym any; read = refl },
  no_call,
)
