-- What a crash leaves while a copy is made.
use Rattle.std.proofs.Common.{◌≡◌, inl, inr, ⊎_elim, ℕ, ◌+◌, Bool, true, false, List, take, drop}
use Rattle.std.proofs.Common.{Err, Option, refl, sym, ◌∙◌, ap, subst, arith}
use Rattle.std.proofs.lemmas.List.{drop-drop}
use Rattle.std.specs.Prelude.{bytes_eq, IsOk}
use Rattle.disk_model.specs.Disk.{State, IsHonestDisk, IsStill, OnlySyncs, Torn, Throughout}
use Rattle.disk_model.proofs.Laws.{at_end, begins, joins, keeps_none, stays, unchanged_none}
use Rattle.disk_model.proofs.Laws.{weakens}
use Rattle.mot_copy_command.specs.Copied.{HasRestOf, IsCopyOf, IsNotCopied, MakesCopy, NoneOrCopyOf}
use Rattle.mot_copy_command.specs.declared.copying.NotCopied.{NotCopied}
use Rattle.mot_copy_command.specs.Copied.IsNotCopied.{unreadable as none_read}
use Rattle.mot_copy_command.specs.Copied.IsNotCopied.{device as none_written}
use Rattle.mot_copy_command.specs.Inner.Steps.{ChangesOnly, IsFault, IsFilled, NoneOrFilled}
use Rattle.mot_copy_command.specs.Inner.Steps.{unreadable, device}
use Rattle.mot_journal.specs.declared.layout.Layout.TheVariants.{Two}
use Rattle.mot_journal.specs.declared.record.Record.{Record}
use Rattle.mot_journal.specs.Geometry.{has_magic, magic}
use Rattle.mot_journal.specs.Image.{Standing, area_of, catalogue_of}
use Rattle.mot_journal.specs.Making.{IsMade, NoneOrMade}
use Rattle.mot_journal.specs.Journal.{HasAreaOf}
use Rattle.mot_journal.proofs.Laws.{drop_behind, part}
use Rattle.mot_numbers.specs.declared.geometry.Geometry.{Geometry}
use Rattle.mot_numbers.specs.Geometry.{area_start}
use Rattle.mot_repository.specs.Copy.{AreOfCopy, bytes_in_row, bytes_of_extents}
use Rattle.mot_repository.specs.Repository.{RepositoryView, HasStanding}
use Rattle.mot_repository.proofs.Laws.{copy_stands}

abbrev pub NoneLeft : State → Type 0
NoneLeft state = (image : List ℕ) → state.MayLeave image → has_magic image ≡ false

-- while bodies are written, a crash leaves no magic where it left none before
module _ (g : Geometry) (old mid : State) (none : NoneLeft old)
    (changes : ChangesOnly (area_start g) g.area old mid) where
  none-torn : (c : List ℕ) → Torn (area_start g) g.area old c → has_magic c ≡ false
  none-torn c torn =
      ap (λ l. bytes_eq l magic) (part (area_start g) g.area torn.0 c torn.2 0 8 (omega arith))
      ∙ none torn.0 torn.1

  pub bodies_written : (records : List Record) (n : ℕ) (row : List ℕ)
      → Throughout old mid (NoneOrFilled g records n row)
  bodies_written records n row =
      weakens old mid (Torn (area_start g) g.area old) (NoneOrFilled g records n row)
      changes.time (λ c torn. inl (none-torn c torn))

  pub none_left : IsHonestDisk mid → NoneLeft mid
  none_left sound c left =
      none-torn c (at_end old mid (Torn (area_start g) g.area old) sound changes.time c left)

-- a disk that was made over the bodies has them
pub filled_is : (g : Geometry) (records : List Record) (n : ℕ) (row tail image : List ℕ)
    → take n tail ≡ row → IsMade g records tail image → IsFilled g records n row image
filled_is g records n row tail image same made = record {
  read = made.read;
  clean = made.clean;
  other = made.other;
  bodies = ap (take n) made.area ∙ same;
}

-- and then the disk is made
pub disk_made : (g : Geometry) (records : List Record) (n : ℕ) (row : List ℕ)
    (old mid new : State) → Throughout old mid (NoneOrFilled g records n row)
    → take n (area_of g mid.bytes) ≡ row
    → Throughout mid new (NoneOrMade g records (area_of g mid.bytes))
    → Throughout old new (NoneOrFilled g records n row)
disk_made g records n row old mid new first same then =
    joins old mid new (NoneOrFilled g records n row) (NoneOrMade g records (area_of g mid.bytes))
    first then (λ c is. ⊎_elim (λ none. inl none)
    (λ made. inr (filled_is g records n row (area_of g mid.bytes) c same made)) is)

-- before that the disk is synced and read at most
module _ (g : Geometry) (records : List Record) (n : ℕ) (row : List ℕ) (old : State)
    (sound : IsHonestDisk old) (none : NoneLeft old) where
  pub at_start : Throughout old old (NoneOrFilled g records n row)
  at_start = begins old (NoneOrFilled g records n row) sound (λ c left. inl (none c left))

  pub asked : {mid : State} → IsStill old mid → Throughout old mid (NoneOrFilled g records n row)
  asked {mid} still =
      stays old old mid (NoneOrFilled g records n row) at_start still.time

  pub asked_none : {mid : State} → IsStill old mid → NoneLeft mid
  asked_none still c left = none c (still.images c left)

  pub filled_then : {mid new : State} → IsStill old mid
      → Throughout mid new (NoneOrFilled g records n row)
      → Throughout old new (NoneOrFilled g records n row)
  filled_then {mid} {new} still then =
      joins old mid new (NoneOrFilled g records n row) (NoneOrFilled g records n row)
      (asked still) then (λ c is. is)

-- ---- the copy

module _ (view : RepositoryView) (s : Standing) (state : State) (sound : IsHonestDisk state)
    (has : HasStanding view s state) (g : Geometry) (after : Option ℕ) (records : List Record)
    (of : AreOfCopy view g after records) where
  abbrev n : ℕ
  n = bytes_of_extents view.extents

  abbrev row : List ℕ
  row = bytes_in_row view.journal.geometry view.extents state.bytes

  -- a disk with the records and the bodies is the copy
  pub copy_is : (image : List ℕ) → IsFilled g records n row image → IsCopyOf g after s image
  copy_is image is = record {
    stands = copy_stands view s state sound has g after records of image is.read is.bodies;
    clean = is.clean;
    layout = (
      record { geometry = g; half = 0; layout = Two; records = records },
      is.read,
      refl,
    );
    other = is.other;
  }

  pub copies : (old new : State) → Throughout old new (NoneOrFilled g records n row)
      → Throughout old new (NoneOrCopyOf g after s)
  copies old new run =
      weakens old new (NoneOrFilled g records n row) (NoneOrCopyOf g after s) run
      (λ c is. ⊎_elim (λ none. inl none) (λ filled. inr (copy_is c filled)) is)

  -- the records make no fault of the list
  pub folds : IsOk (catalogue_of g.objects records)
  folds = subst IsOk (sym of.fold) refl

-- ---- the bytes after the data area

module _ (g : Geometry) (old : State) where
  rest-torn : (c : List ℕ) → Torn (area_start g) g.area old c → HasRestOf g old c
  rest-torn c torn = (
    torn.0,
    torn.1,
    drop-drop g.area (area_start g) c
        ∙ drop_behind (area_start g) g.area torn.0 c torn.2 (area_start g + g.area) (omega arith)
        ∙ sym (drop-drop g.area (area_start g) torn.0),
  )

  -- they stay while bodies are written
  pub rest_written : (mid : State) → ChangesOnly (area_start g) g.area old mid
      → Throughout old mid (HasRestOf g old)
  rest_written mid changes =
      weakens old mid (Torn (area_start g) g.area old) (HasRestOf g old) changes.time rest-torn

  -- and while the disk is made over the bodies
  pub rest_made : (mid new : State) → IsHonestDisk mid → Throughout old mid (HasRestOf g old)
      → Throughout mid new (HasAreaOf g mid) → Throughout old new (HasRestOf g old)
  rest_made mid new sound first then =
      joins old mid new (HasRestOf g old) (HasAreaOf g mid) first then (λ c area.
      let was = at_end old mid (HasRestOf g old) sound first area.0 area.1 in
      (was.0, was.1, ap (drop g.area) area.2 ∙ was.2))

  -- and while it is synced and read at most
  pub rest_asked : (mid : State) → IsHonestDisk old → IsStill old mid
      → Throughout old mid (HasRestOf g old)
  rest_asked mid sound still =
      stays old old mid (HasRestOf g old)
      (begins old (HasRestOf g old) sound (λ c left. (c, left, refl))) still.time

  pub rest_then : (mid new : State) → IsHonestDisk old → IsStill old mid
      → Throughout mid new (HasRestOf g mid) → Throughout old new (HasRestOf g old)
  rest_then mid new sound still then =
      joins old mid new (HasRestOf g old) (HasRestOf g mid) (rest_asked mid sound still) then
      (λ c has. (has.0, still.images has.0 has.1, has.2))

-- no copy is made on a disk that was synced and read at most
pub asked_makes : (view : RepositoryView) (g : Geometry) (failed failed' : ℕ) (old mid : State)
    (why : NotCopied) → OnlySyncs old mid → (old.IsHonest → IsHonestDisk old)
    → IsNotCopied view g failed failed' old mid why
    → MakesCopy view g failed failed' old mid (Err why)
asked_makes view g failed failed' old mid why asks sound is = record {
  keeps = asks.keeps;
  refused = is;
  already = λ honest magic. asks.still honest;
  not_over = λ honest. tt;
  rest = λ honest.
      rest_asked g old mid (sound (asks.keeps.was_honest honest)) (asks.still honest);
}

-- where no call is made, nothing stirs
pub asks_nothing : (state : State) → OnlySyncs state state
asks_nothing state = record {
  keeps = keeps_none state;
  still = λ honest. record {
    bytes = refl;
    time = (unchanged_none state).time;
    images = λ image left. left;
    loose = λ k is. is;
  };
}

-- a fault of a disk is the reason why no copy is made
pub refused_of : {view : RepositoryView} {g : Geometry} {failed failed' : ℕ} {old new : State}
    {why : NotCopied} → IsFault failed failed' old.failures new.failures why
    → IsNotCopied view g failed failed' old new why
refused_of (unreadable is rises) = none_read is rises
refused_of (device is rises) = none_written is rises

-- what was not the magic is not the magic
pub no_magic : (b : Bool) → b ≡ false → b ≡ true → ⊥
no_magic b isnt is = cc
