-- What is known of an open repository is told of the disk that it was opened of.
use Rattle.std.proofs.Common.{◌≡◌, ◌++◌, ◌∷◌, [], ℕ, Bool, false, true, List, Option, None, Some, inl, inr, refl}
use Rattle.std.proofs.Common.{subst}
use Rattle.std.specs.Prelude.{IfSome, IsSome, Result}
use Rattle.clap.specs.Words.{Text}
use Rattle.disk_model.specs.Disk.{OnlyReads, OnlySyncs, State}
use Rattle.disk_store.proofs.Laws.{second_of}
use Rattle.disk_store.specs.Beginning.{HasBegun, HasFirstCalls, IsSinceMade, IsSinceOpened}
use Rattle.disk_store.specs.Beginning.{SinceMade, SinceOpened}
use Rattle.disk_store.specs.Second.{HasSecondCalls}
use Rattle.disk_store.specs.declared.file.FileDiskFrom.{FileDiskFrom}
use Rattle.disk_store.specs.declared.file.SecondDisk.{SecondDisk}
use Rattle.disk_store.specs.declared.file.start.Start.{Ghosts}
use Rattle.mot_cli.specs.Options.{geometry_over}
use Rattle.mot_cli.specs.declared.options.Options.{Options}
use Rattle.mot_copy_command.specs.Command.{CopiesTo, IsRefused, MakesCopy, OpensOrMakesCopy}
use Rattle.mot_copy_command.specs.Command.OpensOrMakesCopy.{opened}
use Rattle.mot_copy_command.specs.Command.MakesCopy.{made as copy_made, taken_away as copy_removed}
use Rattle.mot_copy_command.specs.Command.IsUncopied.{no_file}
use Rattle.mot_copy_command.specs.Copying.{Copies, TellsCopy}
use Rattle.mot_copy_command.specs.Copying.TellsCopy.{made, refused}
use Rattle.mot_copy_command.specs.Inner.Views.{CopiesView, OfView}
use Rattle.mot_copy_command.specs.Copied.{IsNotCopied}
use Rattle.mot_update.specs.Opening.{OfStanding}
use Rattle.mot_files.specs.Call.{Call, made_disk, opened_disk, removed}
use Rattle.mot_files.specs.declared.system.Fault.{Fault}
use Rattle.mot_journal.specs.Image.{Standing}
use Rattle.mot_numbers.specs.Geometry.{IsValid, length_of}
use Rattle.mot_numbers.specs.declared.geometry.Geometry.{Geometry}
use Rattle.mot_numbers.specs.declared.refusal.Refusal.{Refusal}
use Rattle.mot_numbers.specs.declared.refusal.Refusal.TheVariants.{DeviceFault}
use Rattle.mot_playout.proofs.Laws.{opened_standing, syncs_read}
use Rattle.mot_repository.specs.Opening.{IsOpened}
use Rattle.mot_repository.specs.Repository.{Agrees, RepositoryView}

-- what was copied, or not, keeps the disk as long as it was
pub syncs_of : {S F : Type 0} {origin : Ghosts S F} (sizes : Options) (ids : Option ℕ)
    (ending : Option Refusal) (to : Option (SecondDisk S F origin)) (old new : Option (List ℕ))
    (start now : State) → CopiesTo sizes ids ending to old new start now → OnlySyncs start now
syncs_of sizes ids ending None old new start now copies = copies.0
syncs_of sizes ids ending (Some disk) old new start now copies = copies.0

module _ (start mid now : State) (view : RepositoryView) (opens : OnlySyncs start mid)
    (opened : mid.IsHonest → IsOpened start mid view) (same : mid.failures ≡ start.failures)
    (reads : OnlyReads mid now) where
  pub of_standing : (P : Standing → Type 0) → OfView view mid now P → OfStanding P start now
  of_standing P of s honest stands =
      let was = reads.keeps.was_honest honest in
      of s (opened_standing start mid view s stands (opened was) (opens.still was)) honest

  -- the sizes of the disk are those of what it stands for
  pub of_sizes : (P : Geometry → Type 0) → P view.journal.geometry
      → OfStanding (λ s. P s.geometry) start now
  of_sizes P p = of_standing (λ s. P s.geometry) (λ s has honest. subst P has.agrees.geometry p)

  module _ (g : Geometry) (ids : Option ℕ) (ending : Option Refusal) (old new : Option (List ℕ))
    where
      abbrev Told : (first last : State) → Type 0
      Told first last = Copies (λ P. OfStanding P start now) start.failures now.failures g ids ending
          old new first last

      told_lift : (first last : State)
          → TellsCopy (OfView view mid now) mid.failures now.failures g ids ending old new first last
          → TellsCopy (λ P. OfStanding P start now) start.failures now.failures g ids ending old new
          first last
      told_lift first last (refused why is agreeing of not_copied kept) =
          refused why is agreeing (of_standing (Agrees agreeing) of)
          (subst (λ n. IsNotCopied agreeing g n now.failures first last why) same not_copied) kept
      told_lift first last (made of told) = made (λ honest. of_standing _ (of honest)) told

      copies_lift : (first last : State)
          → Copies (OfView view mid now) mid.failures now.failures g ids ending old new first last
          → Told first last
      copies_lift first last copies = record {
        keeps = copies.keeps;
        over_a_disk = copies.over_a_disk;
        behind = copies.behind;
        any_moment = λ honest none. of_standing _ (copies.any_moment honest none);
        told = told_lift first last copies.told;
      }

      -- so what was copied of the repository was copied of the disk
      pub copies_to : {S F : Type 0} {origin : Ghosts S F} (sizes : Options)
          (to : Option (SecondDisk S F origin)) → IsValid g
          → geometry_over view.journal.geometry sizes ≡ Some g
          → CopiesView view g ids ending to old new mid now
          → CopiesTo sizes ids ending to old new start now
      copies_to sizes None valid is copies = (
        syncs_read _ _ _ opens reads,
        copies.0,
        (DeviceFault, copies.1, no_file refl),
      )
      copies_to sizes (Some disk) valid is copies = (
        syncs_read _ _ _ opens reads,
        (
          g,
          valid,
          of_sizes (λ h. geometry_over h sizes ≡ Some g) is,
          elim copies [
            | inl since ↦ inl (record {
              begun = since.begun;
              since = copies_lift _ _ since.since;
            })
            | inr since ↦ inr (record {
              begun = since.begun;
              len_is = since.len_is;
              since = copies_lift _ _ since.since;
            })
          ],
        ),
      )

-- what is known of the copying of an open repository
abbrev pub Known : RepositoryView → Geometry → Option ℕ → Option Refusal → (old new : Option (List ℕ))
    → (mid now : State) → State → State → Type 0
Known view g ids ending old new mid now first last = Copies (OfView view mid now) mid.failures
    now.failures g ids ending old new first last

module _ {S F T : Type 0} {origin : Ghosts S F} {other : Ghosts T F} (view : RepositoryView)
    (g : Geometry) (ids : Option ℕ) (ending : Option Refusal) (old new : Option (List ℕ))
    (mid now : State) (disk : FileDiskFrom T F other) (bytes : other.bytes ≡ origin.others) where
  -- the disk that was copied to, as it is handed out
  pub opened_view : (second : Option (SecondDisk S F origin)) → IsSome second
      → IfSome second (λ s. (s.file ≡ disk.file) × (s.failures ≡ disk.failures)
      × (s.calls ≡ disk.calls))
      → SinceOpened (Known view g ids ending old new mid now) disk → CopiesView view g ids ending second old new mid now
  opened_view None some same since = absurd (cc)
  opened_view (Some second) some same since =
      inl (second_of disk second bytes same.0 same.1 same.2
      (λ b calls state. IsSinceOpened b (Known view g ids ending old new mid now) calls state) since)

  pub made_view : (second : Option (SecondDisk S F origin)) → IsSome second
      → IfSome second (λ s. (s.file ≡ disk.file) × (s.failures ≡ disk.failures)
      × (s.calls ≡ disk.calls))
      → SinceMade (length_of g) (Known view g ids ending old new mid now) disk → CopiesView view g ids ending second old new mid now
  made_view None some same since = absurd (cc)
  made_view (Some second) some same since =
      inr (second_of disk second bytes same.0 same.1 same.2
      (λ b calls state. IsSinceMade b (length_of g) (Known view g ids ending old new mid now) calls state) since)

  -- the file that was made, or was there
  pub second_begun : (is_new : Bool) (second : SecondDisk S F origin) → second.file ≡ disk.file
      → second.failures ≡ disk.failures → second.calls ≡ disk.calls → HasFirstCalls is_new disk
      → HasSecondCalls is_new second
  second_begun is_new second file failures calls begun =
      second_of disk second bytes file failures calls
      (λ b calls state. HasBegun b is_new calls state) begun

  -- a new file that was of no use was removed
  pub comes_removed : (path : Text) (answer : Result (Unit {0}) Fault)
      (second : Option (SecondDisk S F origin)) → IsSome second
      → IfSome second (λ s. (s.file ≡ disk.file) × (s.failures ≡ disk.failures)
      × (s.calls ≡ disk.calls)) → IsRefused ending → HasFirstCalls true disk
      → (before after : List Call)
      → after ≡ before ++ made_disk path true ∷ removed path answer ∷ []
      → MakesCopy ending path second before after
  comes_removed path answer None some same refusal begun before after is = absurd (cc)
  comes_removed path answer (Some second) some same refusal begun before after is =
      copy_removed answer (second_begun true second same.0 same.1 same.2 begun) refusal is

  -- one that was made and copied to stays
  pub comes_copied : (path : Text) (second : Option (SecondDisk S F origin)) → IsSome second
      → IfSome second (λ s. (s.file ≡ disk.file) × (s.failures ≡ disk.failures)
      × (s.calls ≡ disk.calls)) → (IsRefused ending → ⊥) → HasFirstCalls true disk
      → (before after : List Call) → after ≡ before ++ made_disk path true ∷ []
      → MakesCopy ending path second before after
  comes_copied path None some same copied begun before after is = absurd (cc)
  comes_copied path (Some second) some same copied begun before after is =
      copy_made (second_begun true second same.0 same.1 same.2 begun) copied is

  -- one that was there stays
  pub comes_kept : (path : Text) (second : Option (SecondDisk S F origin)) → IsSome second
      → IfSome second (λ s. (s.file ≡ disk.file) × (s.failures ≡ disk.failures)
      × (s.calls ≡ disk.calls)) → HasFirstCalls false disk → (before after : List Call)
      → after ≡ before ++ opened_disk path true ∷ []
      → OpensOrMakesCopy ending path second before after
  comes_kept path None some same begun before after is = absurd (cc)
  comes_kept path (Some second) some same begun before after is =
      opened (second_begun false second same.0 same.1 same.2 begun) is
