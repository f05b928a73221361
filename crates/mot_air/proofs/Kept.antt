-- Playing goes on from what was done in the lives before.
use Rattle.std.proofs.Common.{◌≡◌, ℕ, false, List, [], ◌++◌, append_assoc, ap, append-nil, arith}
use Rattle.std.proofs.Common.{refl, subst, sym, take, ◌⊎◌, Option, None, inl, inr}
use Rattle.std.specs.Prelude.{IsFalse, IsSomeAnd}
use Rattle.std.specs.Option.{option_map_or}
use Rattle.disk_model.specs.Disk.{IsHonestDisk, OnlySyncs, State}
use Rattle.disk_model.proofs.Laws.{weakens}
use Rattle.mot_air.specs.Playing.{KeepsDone, AirsOn, Plays, Tale, WritesPackets}
use Rattle.mot_feed.specs.declared.manner.Manner.{Manner}
use Rattle.mot_feed.specs.Feeding.{EndsFeed, Event, Stage, commands_among, fault_at}
use Rattle.mot_feed.specs.Feeding.EndsFeed.{all_numbers, all_turns, of_call, of_packet, of_write}
use Rattle.mot_journal.specs.Image.{Standing}
use Rattle.mot_journal.specs.Journal.{standing_from}
use Rattle.mot_numbers.specs.Refusal.{is_device_fault}
use Rattle.mot_numbers.specs.declared.geometry.Geometry.{Geometry}
use Rattle.mot_numbers.specs.declared.refusal.Refusal.{Refusal}
use Rattle.mot_objects.specs.declared.command.Command.{Command}
use Rattle.mot_update.specs.Opening.{IsUnopened}
use Rattle.mot_update.proofs.Laws.{all_hold, not_none}
use Rattle.mot_repository.specs.Opening.{IsOpened}
use Rattle.mot_playout.specs.Lives.{HasDone}
use Rattle.mot_playout.specs.Runs.{ServerView, IsAfter, StandsAfterSome, accepted_commands}
use Rattle.mot_playout.specs.Runs.{commands_in_flight}
use Rattle.mot_playout.proofs.Laws.{after_both, none_of}

-- more that was done before
behind : (s mid : Standing) (done sure others : List Command) (image : List ℕ)
    → IsAfter s done mid → StandsAfterSome mid sure others image
    → StandsAfterSome s (done ++ sure) others image
behind s mid done sure others image first is =
    let others-done = take is.after.count others in
    record {
      last = is.last;
      after = record {
        count = is.after.count;
        few = is.after.few;
        after = subst (λ l. IsAfter s l is.last) (sym (append_assoc done sure others-done))
            (after_both s done (sure ++ others-done) mid is.last first is.after.after);
      };
      image_is = is.image_is;
    }

-- the same where all that comes is a beginning
behind_some : (s mid : Standing) (done others : List Command) (image : List ℕ)
    → IsAfter s done mid → StandsAfterSome mid [] others image → StandsAfterSome s done others image
behind_some s mid done others image first is =
    subst (λ l. StandsAfterSome s l others image) (append-nil done)
    (behind s mid done [] others image first is)

-- where nothing ended feeding before, no fault broke off a command
unbroken : (turns : ℕ) (events : List Event) (packets : List (List ℕ))
    (before after : Option (List (List ℕ))) (ending : Option Refusal) (stage : Stage)
    → ending ≡ None → EndsFeed turns events packets before after ending stage
    → fault_at stage ≡ None
unbroken turns events packets before after ending stage none (all_turns ended between written) =
    refl
unbroken turns events packets before after ending stage none (all_numbers many written) = refl
unbroken turns events packets before after ending stage none (of_call refusal other written) =
    absurd (not_none _ none)
unbroken turns events packets before after ending stage none (of_packet refusal other written) =
    absurd (not_none _ none)
unbroken turns events packets before after ending stage none (of_write others last n is lt w) =
    absurd (not_none _ none)

module _ (g : Geometry) (first : ℕ) (done : List Command) (tale : Tale) (how : Manner)
    (before after : Option (List (List ℕ))) (start now : State) where
  -- where all was played no command is in flight, and what was done is kept
  goes_on : (s : Standing) (ending : Option Refusal)
      (writes : WritesPackets tale how ending before after start now s)
      → IsAfter (standing_from g first s.rest) done s → ending ≡ None
      → (commands_in_flight writes.played.commands writes.played.marks (fault_at writes.stage) ≡ [])
      × KeepsDone g first (done ++ commands_among writes.events) now
  goes_on s ending writes was none =
      let aired = writes.played in
      let accepted = accepted_commands aired.commands aired.marks in
      let whole = unbroken how.turns writes.events writes.packets before after ending writes.stage
      none writes.ends in (
        ap (λ (f : Option Refusal). commands_in_flight aired.commands aired.marks f) whole,
        record {
          standing = aired.last;
          after = subst (λ r. IsAfter (standing_from g first r)
              (done ++ commands_among writes.events) aired.last) (sym aired.after.rest)
              (subst (λ l. IsAfter (standing_from g first s.rest) (done ++ l) aired.last)
              (sym aired.accepted)
              (after_both (standing_from g first s.rest) done accepted s aired.last was
              aired.after));
          each = aired.stands
              (ap (λ (f : Option Refusal). option_map_or is_device_fault f false) whole);
        },
      )

  -- playing goes on from what was done
  plays_on : (ending : Option Refusal) (was : KeepsDone g first done start)
      → WritesPackets tale how ending before after start now was.standing
      → AirsOn g first done tale how ending before after start now
  plays_on ending was writes =
      let s = was.standing in
      let aired = writes.played in
      let accepted = accepted_commands aired.commands aired.marks in
      let in_flight = commands_in_flight aired.commands aired.marks (fault_at writes.stage) in
      let same = sym aired.accepted in
      record {
        standing = s;
        was = was.after;
        writes = writes;
        in_flight = in_flight;
        is = refl;
        any_moment =
            weakens start now (StandsAfterSome s [] (accepted ++ in_flight))
            (StandsAfterSome (standing_from g first s.rest) done
            (commands_among writes.events ++ in_flight))
            aired.leaves.any_moment
            (λ image is. subst (λ l. StandsAfterSome (standing_from g first s.rest) done
            (l ++ in_flight)
            image) same
            (behind_some (standing_from g first s.rest) s done
            (accepted ++ in_flight) image was.after
            is));
        at_end = λ image left. subst (λ l. StandsAfterSome (standing_from g first s.rest)
            (done ++ l)
            in_flight image) same
            (behind (standing_from g first s.rest) s done accepted in_flight image was.after
            (aired.leaves.at_end image left));
        goes_on = goes_on s ending writes was.after;
      }

  -- so it does up to its ending
  pub lives : (ending : Option Refusal) → KeepsDone g first done start → now.IsHonest
      → Plays tale how ending before after start now
      → IsSomeAnd ending (λ r. IsUnopened r start now)
      ⊎ AirsOn g first done tale how ending before after start now
  lives ending was honest plays = elim plays.came [
    | inl none ↦ inl none.0
    | inr came ↦ inr (plays_on ending was (came.2 was.standing honest was.each))
  ]

-- what a server has done its disk keeps
pub done_kept : {D : Type 0} (state : D → State) (g : Geometry) (first : ℕ)
    (done others : List Command) (server : ServerView D)
    → HasDone state g first done others server → IsFalse server.view.halted
    → KeepsDone g first done (state server.disk)
done_kept state g first done others server has going = record {
  standing = has.standing;
  after = has.after;
  each = (has.holds going).1.each;
}

-- and what a disk keeps a server of it has done
pub kept_done : {D : Type 0} (state : D → State) (disk : D) (server : ServerView D)
    → ((d : D) → (state d).IsHonest → IsHonestDisk (state d))
    → OnlySyncs (state disk) (state server.disk)
    → ((state server.disk).IsHonest → IsOpened (state disk) (state server.disk) server.view)
    → IsFalse server.view.halted → (g : Geometry) (first : ℕ) (done : List Command)
    → KeepsDone g first done (state disk) → (state server.disk).IsHonest
    → HasDone state g first done [] server
kept_done state disk server sound opens opened going g first done was honest =
    let s = was.standing in
    let holds = all_hold (state disk) (state server.disk) server.view s
    (sound disk (opens.keeps.was_honest honest)) was.each (opened honest) honest
    (sound server.disk honest) (opens.still honest) going in
    record {
      standing = s;
      after = was.after;
      agrees = holds.agrees;
      holds = λ still. (refl, holds);
      leaves = λ image may. none_of (standing_from g first s.rest) done [] s image was.after
          (holds.each image may);
      few = omega arith;
    }
