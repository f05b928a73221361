-- A rewrite or a migration, by what the journal tells of it.
use Rattle.std.proofs.Common.{◌≡◌, List, Ok, refl, sym, ◌∙◌, ap, subst}
use Rattle.std.specs.Prelude.{IsFalse, IsOk}
use Rattle.disk_model.specs.Disk.{State, IsHonestDisk, Throughout}
use Rattle.mot_journal.specs.declared.layout.Layout.{Layout}
use Rattle.mot_journal.specs.declared.record.Record.{Record}
use Rattle.mot_journal.specs.Image.{catalogue_of}
use Rattle.mot_journal.specs.Catalogue.{Catalogue}
use Rattle.mot_journal.specs.Image.{Standing}
use Rattle.mot_journal.specs.Journal.{JournalView, HoldsRecords, FoldOf, OldOrGiven, OnlyReadArea}
use Rattle.mot_repository.specs.Inner.Extents.{catalogue_in}
use Rattle.mot_repository.specs.Records.{records_of_catalogue}
use Rattle.mot_repository.specs.Repository.{RepositoryView, Agrees, IsOf, Holds}
use Rattle.mot_repository.proofs.Committing.{rewrote, holds_rewritten}
use Rattle.mot_repository.proofs.Preparing.{kept}
use Rattle.mot_repository.proofs.Rewriting as rewriting

module _ (view : RepositoryView) (s : Standing) (layout : Layout) (given : List Record)
    (c : Catalogue)
    (j : JournalView) (old new : State) (is : view.journal ≡ j) (holds : Holds view s old)
    (fold : catalogue_of view.journal.geometry.objects holds.records ≡ Ok c)
    (fold' : catalogue_of view.journal.geometry.objects given ≡ Ok c) where
  -- the journal has the records of the standing that the disk holds
  pub here : HoldsRecords j holds.records old
  here = subst (λ k. HoldsRecords k holds.records old) is holds.journal

  -- the given records make no fault of the list
  pub folds : FoldOf j given
  folds =
      let given_folds : FoldOf view.journal given = subst (λ r. IsOk r) (sym fold') refl in
      subst (λ k. FoldOf k given) is given_folds

  -- at each moment each image stands for what it stood for
  pub moments : Throughout old new (OldOrGiven j layout holds.records given old)
      → Throughout old new (IsOf s)
  moments time =
      rewrote view s layout holds.records given c fold fold' old new holds refl
      (subst (λ k. Throughout old new (OldOrGiven k layout holds.records given old)) (sym is) time)

  -- and once it is Ok, the given records are held
  pub held : IsHonestDisk old → (j' : JournalView) → j'.geometry ≡ j.geometry
      → HoldsRecords j' given new → OnlyReadArea j old new
      → (view' : RepositoryView) → view'.journal ≡ j' → IsFalse view'.halted → Agrees view' s
      → (after : Holds view' s new) × (after.records ≡ given)
  held sound j' geometry has area view' is' going agrees =
      let same : view'.journal.geometry ≡ view.journal.geometry =
      ap (λ (k : JournalView). k.geometry) is' ∙ geometry
      ∙ sym (ap (λ (k : JournalView). k.geometry) is) in
      holds_rewritten view s layout holds.records given c fold fold' view' old new sound holds refl
      going same agrees
      (subst (λ k. HoldsRecords k given new) (sym is') has)
      (subst (λ k. OnlyReadArea k old new) (sym is) area)

-- the records of what is kept fold to what the disk's records fold to
pub rewrites : (view : RepositoryView) (s : Standing) (state : State) → IsHonestDisk state
    → (holds : Holds view s state) → (given : List Record)
    → given ≡ records_of_catalogue (catalogue_in view)
    → (c : Catalogue) × (catalogue_of view.journal.geometry.objects holds.records ≡ Ok c)
    × (catalogue_of view.journal.geometry.objects given ≡ Ok c)
rewrites view s state sound holds given is =
    let k = kept view s state sound holds in
    let limit = view.journal.geometry.objects in (
      k.0,
      k.1.fold,
      ap (catalogue_of limit) (is ∙ ap records_of_catalogue k.1.is)
          ∙ rewriting.keeps limit holds.records k.0 k.1.fold,
    )
