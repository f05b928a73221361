-- A carousel printed as lines, from the disk's opening on.
use Rattle.std.proofs.Common.{◌≡◌, ◌∙◌, ◌<◌, ◌≤◌, ℕ, List, length, Option, Some, Result, Ok, Err}
use Rattle.std.proofs.Common.{inl, inr, subst, sym}
use Rattle.std.specs.Prelude.{All, IfErr, IsFalse, OnOk}
use Rattle.disk_model.specs.Disk.{IsHonestDisk, KeepsLength, State, OnlyReads, OnlySyncs, Rises}
use Rattle.mot_journal.specs.Image.{Standing, stands_for}
use Rattle.mot_lines.proofs.Laws.{export_text-asks}
use Rattle.mot_lines.specs.Export.{export_text}
use Rattle.mot_numbers.specs.declared.refusal.Refusal.{Refusal}
use Rattle.mot_objects.specs.Carousel.{Carousel, rebuilding}
use Rattle.mot_export.specs.Exporting.{Exports, PrintsLines, RebuildsByLines}
use Rattle.mot_export.specs.Inner.Inspected.{IsPrintingFault}
use Rattle.mot_update.specs.Opening.{OfStanding}
use Rattle.mot_update.proofs.Laws.{openable, read_so, exports_are_taken}
use Rattle.mot_repository.proofs.Laws.{rules_kept, standings-are_sound}
use Rattle.mot_repository.specs.OnDisk.{OnDisk}
use Rattle.mot_repository.specs.Opening.{IsOpened}
use Rattle.mot_repository.specs.Repository.{HasStanding}
use Rattle.mot_playout.proofs.Laws.{syncs_read}
use Rattle.mot_playout.specs.Attempts.{fault_of}
use Rattle.mot_session.specs.Served.{Writes}
use Rattle.mot_update.specs.Export.{IsEmpty}

-- the text of what an image stands for rebuilds it
rebuilds_by_lines : (image : List ℕ) (s : Standing) → All (λ b. b < 256) image
    → stands_for image ≡ Ok s
    → (first : Carousel) (limit : ℕ) → IsEmpty first → length s.carousel.objects ≤ limit
    → RebuildsByLines first limit (export_text s.carousel) s.carousel
rebuilds_by_lines image s bytes stands first limit empty few = (
  rebuilding s.carousel,
  export_text-asks s.carousel (rules_kept image s bytes stands),
  exports_are_taken s.carousel first limit empty few
      (standings-are_sound image s bytes stands).0.names,
)

-- and so does that of what a disk stood for, which is as long as it was
pub rebuilds_standing : (start now : State) → (start.IsHonest → IsHonestDisk start)
    → KeepsLength start now
    → OfStanding (λ s. (first : Carousel) (limit : ℕ) → IsEmpty first
    → length s.carousel.objects ≤ limit
    → RebuildsByLines first limit (export_text s.carousel) s.carousel) start now
rebuilds_standing start now sound keeps = λ s honest stands.
    let first = sound (keeps.was_honest honest) in
    rebuilds_by_lines start.bytes s (first.images start.bytes first.bytes).are_bytes stands

module _ {D : Type 0} (state : D → State) (disk : D) (repository new : OnDisk D)
    (sound : (d : D) → (state d).IsHonest → IsHonestDisk (state d))
    (opens : OnlySyncs (state disk) (state repository.disk))
    (opened : (state repository.disk).IsHonest
    → IsOpened (state disk) (state repository.disk) repository.view)
    (same : (state repository.disk).failures ≡ (state disk).failures)
    (going : IsFalse repository.view.halted)
    (reads : OnlyReads (state repository.disk) (state new.disk))
    (before after : Option (List ℕ)) where
  -- what the disk stood for is what is read of it
  has : (s : Standing) → (state new.disk).IsHonest → stands_for (state disk).bytes ≡ Ok s
      → HasStanding repository.view s (state repository.disk)
  has = read_so (state disk) (state repository.disk) (state new.disk) repository.view (sound disk)
      (sound repository.disk) opens opened going reads.keeps.was_honest

  -- what was printed of an open repository was printed of the disk
  printed : (result : Result Unit Refusal)
      → ((s : Standing) → HasStanding repository.view s (state repository.disk)
      → (state new.disk).IsHonest → Writes result (export_text s.carousel) before after)
      → OnOk result ((state new.disk).failures ≡ (state repository.disk).failures)
      → IfErr result (λ r. IsPrintingFault r (state repository.disk).failures
      (state new.disk).failures)
      → PrintsLines (fault_of result) before after (state disk) (state new.disk)
  printed (Ok done) written calm why =
      (calm ∙ same, λ s honest stands. written s (has s honest stands) honest)
  printed (Err refusal) written calm (inl is) =
      subst (λ r. PrintsLines (Some r) before after (state disk) (state new.disk)) (sym is.0)
      (is.1 ∙ same, λ s honest stands. written s (has s honest stands) honest)
  printed (Err refusal) written calm (inr is) =
      subst (λ r. PrintsLines (Some r) before after (state disk) (state new.disk)) (sym is.0) (
        subst (λ n. Rises n (state new.disk).failures) same is.1,
        λ s honest stands. written s (has s honest stands) honest,
      )

  -- so the disk is exported, from its opening on
  pub exports : (result : Result Unit Refusal)
      → ((s : Standing) → HasStanding repository.view s (state repository.disk)
      → (state new.disk).IsHonest → Writes result (export_text s.carousel) before after)
      → OnOk result ((state new.disk).failures ≡ (state repository.disk).failures)
      → IfErr result (λ r. IsPrintingFault r (state repository.disk).failures
      (state new.disk).failures)
      → Exports (fault_of result) before after (state disk) (state new.disk)
  exports result written calm why =
      let syncs = syncs_read (state disk) (state repository.disk) (state new.disk) opens reads in
      record {
        syncs = syncs;
        came = inr (
          openable (state disk) (state repository.disk) (state new.disk) repository.view
              (sound disk)
              (sound repository.disk) opens opened going reads.keeps.was_honest,
          printed result written calm why,
        );
        rebuilds = rebuilds_standing (state disk) (state new.disk) (sound disk) syncs.keeps;
      }
