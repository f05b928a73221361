-- Making a disk's carousel equal to a folder, from the disk's opening on.
use Rattle.std.proofs.Common.{◌≡◌, ◌∙◌, ◌≤◌, ℕ, Bool, true, false, List, [], ◌∷◌, ◌++◌, length}
use Rattle.std.proofs.Common.{Option, Some, None, Result, not, refl, sym, ap, subst, arith}
use Rattle.std.proofs.Common.{append-nil, inl, inr}
use Rattle.std.specs.Io.KnownBytes.{Appends}
use Rattle.std.specs.Prelude.{IsFalse, MatchResult}
use Rattle.std.specs.Result.{result_unwrap_or}
use Rattle.disk_model.proofs.Laws.{keeps_on}
use Rattle.disk_model.specs.Disk.{State, IsHonestDisk, KeepsLength, OnlySyncs}
use Rattle.mot_sync_command.specs.Inner.{LooksAndTells}
use Rattle.mot_sync_command.specs.Inner as looks
use Rattle.mot_sync_command.specs.Syncing.{HasSynced, IsEqual, Syncs, SyncsAndTells}
use Rattle.mot_update.proofs.Laws.{ends_off, opened_leaves, AllAre, all_hold, openable, made}
use Rattle.mot_feed.specs.Feeding.{IsFeedFault}
use Rattle.mot_log.specs.Text.{look_line}
use Rattle.mot_events.specs.declared.event.LookEvent.{LookEvent}
use Rattle.mot_folder.specs.declared.guard.Guard.{Guard}
use Rattle.mot_folder.specs.Log.{ReportTells}
use Rattle.mot_folder.proofs.Laws.{every_named, none_passed}
use Rattle.mot_folder.specs.Looked.{HasLookedAtFolder, IsLook, TellsRightly, kept, listed, unlisted}
use Rattle.mot_folder.specs.declared.known.Known.{Known}
use Rattle.mot_folder.specs.declared.report.Report.{Report}
use Rattle.mot_journal.specs.Image.{Standing, half_of}
use Rattle.mot_journal.specs.Slot.{layout_of}
use Rattle.mot_journal.specs.declared.layout.Layout.{Layout}
use Rattle.mot_numbers.specs.declared.geometry.Geometry.{Geometry}
use Rattle.mot_numbers.specs.declared.geometry.TheConstants.{MAX_OBJECTS}
use Rattle.mot_numbers.specs.declared.refusal.Refusal.{Refusal}
use Rattle.mot_numbers.specs.Geometry.{is_valid}
use Rattle.mot_objects.specs.Carousel.{IsSound, carousel_after}
use Rattle.mot_objects.specs.declared.command.Command.{Command}
use Rattle.mot_update.specs.Opening.{IsOpenable}
use Rattle.mot_repository.proofs.Laws.{standings-are_sound, stands_where}
use Rattle.mot_repository.specs.Opening.{IsOpened}
use Rattle.mot_repository.specs.Repository.{Agrees, Holds}
use Rattle.mot_playout.proofs.Laws.{valid_is}
use Rattle.mot_playout.specs.Attempts.{fault_of}
use Rattle.mot_playout.specs.Runs.{accepted_commands, ServerView}
use Rattle.mot_shelf.specs.Given.{Given, nothing}
use Rattle.mot_shelf.specs.Gives.{GaveSo, Gives}
use Rattle.mot_shelf.specs.View.{FolderView, afresh}
use Rattle.mot_suffixes.specs.Types.{SuffixType}
use Rattle.mot_update.specs.Faults.{StaysCalm}
use Rattle.mot_update.specs.HasRun.{HasRun}
use Rattle.mot_update.specs.Looking.{AreAccepted}
use Rattle.mot_objects.specs.declared.command.Item.{Item}
use Rattle.mot_numbers.specs.Refusal.{is_device_fault}
use Rattle.std.specs.List.{flat_map}
use Rattle.std.specs.Option.{option_map_or}
use Rattle.mot_update.specs.Updating.{updating}

-- commands that were all accepted
all_accepted : (commands : List Command) (marks : List Bool) → AreAccepted marks
    → length marks ≡ length commands → accepted_commands commands marks ≡ commands
all_accepted [] [] all whole = refl
all_accepted [] (mark ∷ marks) all whole = absurd (omega (arith, whole))
all_accepted (c ∷ commands) [] all whole = absurd (omega (arith, whole))
all_accepted (c ∷ commands) (true ∷ marks) all whole =
    ap (λ l. c ∷ l) (all_accepted commands marks all.1 (omega (arith, whole)))
all_accepted (c ∷ commands) (false ∷ marks) all whole = absurd (let e : false ≡ true = all.0 in cc)

module _ {D : Type 0} (state : D → State) (disk : D) (server new : ServerView D)
    (sound : (d : D) → (state d).IsHonest → IsHonestDisk (state d))
    (opens : OnlySyncs (state disk) (state server.disk))
    (opened : (state server.disk).IsHonest → IsOpened (state disk) (state server.disk) server.view)
    (calm : (state server.disk).failures ≡ (state disk).failures)
    (going : IsFalse server.view.halted) (valid : is_valid server.view.journal.geometry ≡ true)
    (keeps : KeepsLength (state server.disk) (state new.disk)) where
  holds_opened : (s : Standing) → (state new.disk).IsHonest → AllAre s (state disk)
      → Holds server.view s (state server.disk)
  holds_opened s honest all =
      let was = keeps.was_honest honest in
      all_hold (state disk) (state server.disk) server.view s
      (sound disk (opens.keeps.was_honest was)) all (opened was) was (sound server.disk was)
      (opens.still was)
      going

  keeps_from : KeepsLength (state disk) (state new.disk)
  keeps_from = keeps_on (state disk) (state server.disk) (state new.disk) opens.keeps keeps

  openable_from : IsOpenable (state disk) (state new.disk)
  openable_from =
      openable (state disk) (state server.disk) (state new.disk) server.view (sound disk)
      (sound server.disk) opens opened going keeps.was_honest

  sound_carousel : (s : Standing) → (state new.disk).IsHonest → AllAre s (state disk)
      → IsSound s.carousel
  sound_carousel s honest all =
      let first = sound disk (opens.keeps.was_honest (keeps.was_honest honest)) in
      let bytes = (state disk).bytes in
      (standings-are_sound bytes s (first.images bytes first.bytes).are_bytes
      (all bytes first.bytes).stands).0

  few_objects : (s : Standing) → Agrees server.view s → s.geometry.objects ≤ MAX_OBJECTS
  few_objects s agrees =
      subst (λ (g : Geometry). g.objects ≤ MAX_OBJECTS) agrees.geometry
      (valid_is server.view.journal.geometry valid).1

  -- the journal is in the layout that the disk's records are in
  layout_is : (s : Standing) → (state new.disk).IsHonest → AllAre s (state disk)
      → server.view.journal.layout ≡ layout_of (half_of s.geometry (state disk).bytes)
  layout_is s honest all =
      let is = opened (keeps.was_honest honest) in
      let agrees = (holds_opened s honest all).agrees in
      sym (stands_where server.view.journal is.records (state disk).bytes is.read).layout
      ∙ ap (λ (g : Geometry). layout_of (half_of g (state disk).bytes)) agrees.geometry

  -- what a look came to of the disk, from its opening on
  has_synced : (s : Standing) (types : List SuffixType) (guard : Guard)
      (folder then_folder : FolderView) (given : Given) (report : Report)
      (fault : Option Refusal) (files : List Known)
      → (state new.disk).IsHonest
      → AllAre s (state disk)
      → Gives (afresh folder) nothing then_folder given
      → HasLookedAtFolder server new (state server.disk) (state new.disk) s types guard folder.path
      given report fault [] files
      → (entries : List LookEvent)
      × HasSynced types guard folder then_folder (state disk) (state new.disk)
      (not report.any_refused) fault entries s × ReportTells report entries
  has_synced s types guard folder then_folder given report fault files honest all gave looked =
      let was = keeps.was_honest honest in (
        looked.entries,
        record {
          commands = looked.commands;
          marks = looked.marks;
          leaves = opened_leaves (state disk) (state server.disk) (state new.disk) server.view
              new.view s looked.commands looked.marks fault
              (sound disk (opens.keeps.was_honest was)) all (opens.still was) looked.run.leaves;
          names = looked.names;
          wanted = looked.wanted;
          known = files;
          look = (given, gave, looked.look);
          right = subst (λ (l : Layout). TellsRightly l s looked.commands looked.entries)
              (layout_is s honest all) looked.right;
          equal = equal (not report.any_refused) fault looked.commands looked.marks looked.names
              looked.wanted looked.entries looked.run looked.look;
        },
        looked.told,
      )
    where
      equal : (fine : Bool) (fault : Option Refusal) (commands : List Command)
          (marks : List Bool) (names : List (List ℕ)) (wanted : List Item)
          (entries : List LookEvent)
          → HasRun server new (state server.disk) (state new.disk) s commands marks fault
          → IsLook types guard folder.path given s.carousel commands marks fault names wanted fine entries
          [] files
          → fine ≡ true → fault ≡ None → IsEqual s names wanted (state new.disk)
      equal fine fault commands marks names wanted entries run
          (unlisted refusal why refused ends none are plain stays) e n =
          absurd (let no : false ≡ true = sym refused ∙ e in cc)
      equal fine fault commands marks names wanted entries run
          (kept listing stays refused ends none are plain after) e n =
          absurd (let no : false ≡ true = sym refused ∙ e in cc)
      equal fine fault commands marks names wanted entries run
          (listed shown listing updates is_update others split whole exact answers told are lasting
          seen gone each passed limit end at comes) e n =
          let fine_is = exact.0 e in
          let all_run : commands ≡ updating s.carousel names wanted =
          sym (append-nil commands) ∙ ap (λ l. commands ++ l) (sym (whole n)) ∙ sym split in
          let done = all_accepted commands marks fine_is.1 (run.whole n) ∙ all_run in
          let after = subst (λ l. carousel_after s.carousel s.geometry.objects l
          ≡ Some run.leaves.last.carousel) done run.leaves.after.carousel in
          record {
            every = every_named types given seen wanted fault entries each fine_is.0
                (none_passed s.carousel given.unchanged passed) ∙ gone n;
            last = run.leaves.last;
            geometry = run.leaves.after.geometry;
            updated = made s.carousel run.leaves.last.carousel s.geometry.objects names wanted
                (few_objects s (holds_opened s honest all).agrees) (sound_carousel s honest all)
                is_update after;
            stands = (run.leaves.going (ap (λ (f : Option Refusal). option_map_or is_device_fault f
                false) n)).each;
          }

  abbrev IsNothing : Option Refusal → Type 0
  IsNothing None = Unit {0}
  IsNothing (Some r) = ⊥

  module _ (types : List SuffixType) (guard : Guard) (folder then_folder : FolderView)
      (before after : Option (List ℕ)) where
    -- what a look came to, and what is told of it, from the disk's opening on
    tells : (s : Standing) (result : Result Bool Refusal) (given : Given)
        → (state new.disk).IsHonest → AllAre s (state disk)
        → Gives (afresh folder) nothing then_folder given
        → LooksAndTells server new (state server.disk) (state new.disk) s types guard folder.path
        given [] before after result
        → SyncsAndTells types guard folder then_folder (state disk) (state new.disk)
        (result_unwrap_or result false) (fault_of result) before after s
    tells s result given honest each gave (looks.told report files is whole written look) =
        let done = has_synced s types guard folder then_folder given report None files honest each
        gave look in
        record {
          fine = not report.any_refused;
          fault = None;
          entries = done.0;
          synced = done.1;
          why = inl (ap (λ (r : Result Bool Refusal). fault_of r) (sym is));
          told = λ whole_is. (
            ap (λ (r : Result Bool Refusal). result_unwrap_or r false) (sym is),
            subst (λ l. Appends before after (flat_map look_line l)) (done.2 whole) written,
          );
        }
    tells s result given honest each gave (looks.broken report files refusal is look) =
        let done = has_synced s types guard folder then_folder given report (Some refusal) files
        honest each gave look in
        let ended = ap (λ (r : Result Bool Refusal). fault_of r) (sym is) in
        record {
          fine = not report.any_refused;
          fault = Some refusal;
          entries = done.0;
          synced = done.1;
          why = inl ended;
          told = λ whole_is. absurd (subst IsNothing (sym (ended ∙ whole_is)) tt);
        }
    tells s result given honest each gave (looks.untold report files is look) =
        let done = has_synced s types guard folder then_folder given report None files honest each
        gave look in
        let ended = ap (λ (r : Result Bool Refusal). fault_of r) is in
        record {
          fine = not report.any_refused;
          fault = None;
          entries = done.0;
          synced = done.1;
          why = inr (refl, ended);
          told = λ whole_is. absurd (subst IsNothing (sym (sym ended ∙ whole_is)) tt);
        }

    -- a look at the folder syncs the disk, from its opening on, up to the look's ending
    pub syncs : (result : Result Bool Refusal)
        → MatchResult result (λ _. StaysCalm server new (state server.disk) (state new.disk))
        (λ r. IsFeedFault server (state server.disk) (state new.disk) r)
        → ((s : Standing) → Holds server.view s (state server.disk) → (state new.disk).IsHonest
        → GaveSo folder then_folder (λ given. LooksAndTells server new (state server.disk)
        (state new.disk) s types guard folder.path given [] before after result))
        → Syncs types guard folder then_folder (state disk) (state new.disk)
        (result_unwrap_or result false) (fault_of result) before after
    syncs result why looked = record {
      keeps = keeps_from;
      came = inr (
        openable_from,
        ends_off server new (state disk) (state server.disk) (state new.disk) result going calm why,
        λ s honest each. let one = looked s (holds_opened s honest each) honest in
            tells s result one.0 honest each one.1 one.2,
      );
    }
