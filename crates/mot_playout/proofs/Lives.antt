-- What was left of a disk that was formatted here, opened and played.
use Rattle.std.proofs.Common.{◌≡◌, ◌⊎◌, inl, inr, ℕ, false, List, [], Option, Some, None, Ok, Err}
use Rattle.std.proofs.Common.{refl, sym, ap, ◌∙◌, subst}
use Rattle.std.specs.Prelude.{IfSome, IsFalse}
use Rattle.disk_model.specs.Disk.{State, Rises}
use Rattle.mot_journal.specs.Image.{catalogue_of, area_of, half_of, journal_in_half}
use Rattle.mot_journal.specs.Image.{or_not_formatted, records_of, rest_of, stands_for}
use Rattle.mot_numbers.specs.Refusal.{◌>>=◌}
use Rattle.mot_journal.specs.Catalogue.{carousel_in, extents_of}
use Rattle.mot_journal.specs.Geometry.{geometry_of, selected_half, has_magic}
use Rattle.mot_numbers.specs.declared.refusal.Refusal.{Refusal}
use Rattle.mot_numbers.specs.declared.refusal.Refusal.TheVariants.{NotFormatted}
use Rattle.mot_journal.specs.Journal.IsReadingRefusal.{not_formatted, damaged, no_memory, device}
use Rattle.mot_repository.specs.Opening.{IsOpeningRefusal, IsPassing}
use Rattle.mot_repository.specs.Repository.{RepositoryView}
use Rattle.mot_playout.specs.RunEnds.{IsRunFault}
use Rattle.mot_playout.specs.RunEnds as ends
use Rattle.mot_playout.proofs.Answered.{not_halted}
use Rattle.mot_playout.proofs.Histories.{no-geometry}
use Rattle.mot_journal.specs.Journal.{NoneOrFrom, standing_from}
use Rattle.mot_numbers.specs.declared.geometry.Geometry.{Geometry}
use Rattle.mot_objects.specs.declared.command.Command.{Command}
use Rattle.mot_repository.proofs.Laws.{standings_rest}
use Rattle.mot_playout.specs.Lives.{KeepsCommands}
use Rattle.mot_playout.specs.Runs.{StandsAfterSome}
use Rattle.mot_playout.proofs.Runs.{after_none, none_of}

-- ---- why it does not open

no_standing-cases : (image : List ℕ) (o : Option Geometry) → geometry_of image ≡ o
    → has_magic image ≡ false → stands_for image ≡ Err NotFormatted
unfolding stands_for records_of
no_standing-cases image None is none =
    ap (λ o. ◌>>=◌ (◌>>=◌ (or_not_formatted o) (λ g.
    journal_in_half g (selected_half image) (half_of g image))) (λ j.
    ◌>>=◌ (catalogue_of j.geometry.objects j.records) (λ c.
    Ok (record {
      geometry = j.geometry;
      carousel = carousel_in (area_of j.geometry image) c;
      extents = extents_of c;
      rest = rest_of j.geometry image;
    })))) is
no_standing-cases image (Some h) is none = absurd (no-geometry image h none is)

-- What stands so for commands since the formatting keeps them: the bytes after the data area are
-- those of the image itself.
pub keeps_commands : (g : Geometry) (first : ℕ) (rest : List ℕ) (sure others : List Command)
    (image : List ℕ) → StandsAfterSome (standing_from g first rest) sure others image
    → KeepsCommands g first sure others image
keeps_commands g first rest sure others image is =
    let after = is.after.after in
    let same : rest ≡ rest_of g image = sym after.rest
    ∙ standings_rest image is.last is.image_is.stands
    ∙ ap (λ h. rest_of h image) after.geometry in
    subst (λ r. StandsAfterSome (standing_from g first r) sure others image) same is

-- what a crash left of a disk that was being formatted: no magic, or the new one
pub none_kept : (g : Geometry) (first : ℕ) (others : List Command) (image : List ℕ)
    → NoneOrFrom g first image
    → (has_magic image ≡ false) ⊎ KeepsCommands g first [] others image
none_kept g first others image (inl none) = inl none
none_kept g first others image (inr made) =
    let s = standing_from g first (rest_of g image) in
    inr (none_of s [] others s image (after_none s)
    (record { stands = made.stands; clean = made.clean }))

-- what a crash left of a disk just formatted: no magic, or what commands have left
pub none_or_left : (g : Geometry) (first : ℕ) (rest : List ℕ) (others : List Command)
    (image : List ℕ) (Old : Type 0) → (Old → NoneOrFrom g first image)
    → Old ⊎ StandsAfterSome (standing_from g first rest) [] others image
    → (has_magic image ≡ false) ⊎ KeepsCommands g first [] others image
none_or_left g first rest others image Old new (inr stands) =
    inr (keeps_commands g first rest [] others image stands)
none_or_left g first rest others image Old new (inl old) =
    none_kept g first others image (new old)

-- why one without the magic is not opened
pub unopened : (old new : State) (refusal : Refusal) → new.IsHonest → has_magic old.bytes ≡ false
    → IsOpeningRefusal old new refusal → (refusal ≡ NotFormatted) ⊎ IsPassing old new refusal
unopened old new refusal honest none (not_formatted e why) = inl e
unopened old new refusal honest none (damaged slot e why) =
    let is : Err NotFormatted ≡ Err refusal =
    sym (no_standing-cases old.bytes (geometry_of old.bytes) refl none) ∙ why honest in
    let same : refusal ≡ NotFormatted = cc in inl same
unopened old new refusal honest none (no_memory e) = inr (inl e)
unopened old new refusal honest none (device e rises) = inr (inr (e, rises))

-- ---- what ends a run

-- what follows from a fact of what is there
pub if_some : {A : Type 0} (P Q : A → Type 0) (o : Option A) → ((a : A) → P a → Q a) → IfSome o P
    → IfSome o Q
if_some P Q (Some a) f p = f a p
if_some P Q None f p = tt

-- a run on a disk that was just opened ends for a passing reason
pub run_fault : (old opened now : State) (view next : RepositoryView) (refusal : Refusal)
    → opened.failures ≡ old.failures → IsFalse view.halted
    → IsRunFault view next opened now refusal → IsPassing old now refusal
run_fault old opened now view next refusal calm going (ends.halted is e) =
    absurd (not_halted view.halted is going)
run_fault old opened now view next refusal calm going (ends.no_memory was e) = inl e
run_fault old opened now view next refusal calm going (ends.device was e rises stops) =
    inr (e, subst (λ n. Rises n now.failures) calm rises)
