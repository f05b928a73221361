-- What was loaded and folded is in order, and why a disk is not opened.
use Rattle.std.proofs.Common.{◌≡◌, inl, inr, ⊎_elim, ℕ, ◌+◌, ◌≤◌, true, false, List, [], ◌∷◌, map}
use Rattle.std.proofs.Common.{Ok, Err, All, refl, sym, ap, ◌∙◌, subst, arith}
use Rattle.std.specs.Prelude.{IsFalse, Result, IsErr, IfSome, OnOk, Option, Some, None, is_err}
use Rattle.std.proofs.Math.Nat.{eq-or-lt_of_le}
use Rattle.std.specs.List.{AllByRecursion}
use Rattle.disk_model.specs.Disk.{State, IsStill, IsUnchanged, IsFirm, IsHonestDisk, KeepsLength}
use Rattle.disk_model.specs.Disk.{OnlyReads, OnlySyncs, Rises, HasCause}
use Rattle.disk_model.proofs.Laws.{keeps_on}
use Rattle.mot_journal.specs.declared.layout.Layout.{Layout}
use Rattle.mot_journal.specs.declared.record.Record.{Record}
use Rattle.mot_journal.specs.Slot.{is_sound}
use Rattle.mot_journal.specs.Image.{catalogue_of, DiskRecords, records_of, stands_for, area_of}
use Rattle.mot_journal.specs.Image.{rest_of}
use Rattle.mot_numbers.specs.Refusal.{◌>>=◌}
use Rattle.mot_journal.specs.Catalogue.{Placed, carousel_in, extents_of}
use Rattle.mot_journal.specs.Journal.{JournalView, with_records, IsLoadRefusal}
use Rattle.mot_journal.specs.Reason.{BreaksList, IsReasonOf}
use Rattle.mot_journal.specs.declared.reason.Reason.{Reason}
use Rattle.mot_journal.specs.declared.reason.Reason.TheVariants.{Head, Field, List as InList}
use Rattle.mot_journal.specs.declared.reason.Reason.TheVariants.{Formatted, Small}
use Rattle.mot_repository.specs.Inner.Faults.{IsFoldReason}
use Rattle.mot_numbers.specs.Geometry.{length_of, is_valid}
use Rattle.mot_numbers.specs.declared.geometry.Geometry.{Geometry}
use Rattle.mot_numbers.specs.declared.refusal.Refusal.{Refusal}
use Rattle.mot_objects.specs.declared.carousel.Carousel.{Carousel}
use Rattle.mot_objects.specs.declared.object.Object.{Object}
use Rattle.mot_repository.specs.OnDisk.{ArePaired}
use Rattle.mot_repository.specs.Inner.Extents.{catalogue_with, objects_in, IsLoaded}
use Rattle.mot_repository.specs.Inner.Fold.{HaveLengths, IsFoldRefusal, IsInOrder, view_with}
use Rattle.mot_repository.specs.Inner.Prepared.{IsTyped}
use Rattle.mot_repository.specs.Opening.{IsOpened, IsOpeningRefusal}
use Rattle.mot_journal.specs.Journal.IsReadingRefusal.{not_formatted, damaged, no_memory, device}
use Rattle.mot_repository.specs.Repository.{RepositoryView}
use Rattle.mot_repository.proofs.Planned.{short-id}
use Rattle.mot_repository.proofs.Preparing.{opened}
use Rattle.mot_repository.proofs.Reading.{by_recursion, IsRead}
use Rattle.mot_repository.proofs.Soundness.{whole_fold}
use Rattle.mot_carousel.proofs.Laws.{head, tail}

-- ---- refusals

no-records : (image : List ℕ) (refusal : Refusal) → records_of image ≡ Err refusal
    → stands_for image ≡ Err refusal
unfolding stands_for
no-records image refusal e =
    ap (λ o. ◌>>=◌ o (λ (j : DiskRecords).
    ◌>>=◌ (catalogue_of j.geometry.objects j.records) (λ c.
    Ok (record {
      geometry = j.geometry;
      carousel = carousel_in (area_of j.geometry image) c;
      extents = extents_of c;
      rest = rest_of j.geometry image;
    })))) e

no-catalogue : (image : List ℕ) (j : JournalView) (records : List Record) (refusal : Refusal)
    → records_of image ≡ Ok (with_records j records)
    → catalogue_of j.geometry.objects records ≡ Err refusal → stands_for image ≡ Err refusal
unfolding stands_for
no-catalogue image j records refusal read e =
    ap (λ o. ◌>>=◌ o (λ (k : DiskRecords).
    ◌>>=◌ (catalogue_of k.geometry.objects k.records) (λ c.
    Ok (record {
      geometry = k.geometry;
      carousel = carousel_in (area_of k.geometry image) c;
      extents = extents_of c;
      rest = rest_of k.geometry image;
    })))) read
    ∙ ap (λ o. ◌>>=◌ o
    (λ c. Ok (record {
      geometry = j.geometry;
      carousel = carousel_in (area_of j.geometry image) c;
      extents = extents_of c;
      rest = rest_of j.geometry image;
    }))) e

-- what refuses a disk's loading refuses its opening
pub load_refused : (old new : State) (refusal : Refusal) → IsLoadRefusal old new refusal
    → IsOpeningRefusal old new refusal
load_refused old new refusal (not_formatted is told) =
    not_formatted is (λ honest. no-records old.bytes refusal (told honest))
load_refused old new refusal (damaged slot is told) =
    damaged slot is (λ honest. no-records old.bytes refusal (told honest))
load_refused old new refusal (no_memory is) = no_memory is
load_refused old new refusal (device is rises) = device is rises

-- what refuses the fold of the records that a disk has refuses its opening
pub fold_refused : (old new : State) (j : JournalView) (records : List Record) (refusal : Refusal)
    → (new.IsHonest → records_of old.bytes ≡ Ok (with_records j records))
    → IsFoldRefusal j.geometry.objects records refusal
    → IsOpeningRefusal old new refusal
fold_refused old new j records refusal read (inl is) = no_memory is
fold_refused old new j records refusal read (inr is) =
    damaged is.0 is.1 (λ honest. no-catalogue old.bytes j records refusal (read honest) is.2)

-- a reason of the fold of the records that a disk has is one of the disk
pub fold_reason : (bytes : List ℕ) (j : JournalView) (records : List Record) (limit : ℕ)
    (reason : Option Reason) → records_of bytes ≡ Ok (with_records j records)
    → limit ≡ j.geometry.objects → IfSome reason (IsFoldReason limit records)
    → IfSome reason (IsReasonOf bytes)
fold_reason bytes j records limit None read same so = so
fold_reason bytes j records limit (Some (InList number fault)) read same so = (
  with_records j records,
  read,
  subst (λ n. BreaksList n records number fault) same so,
)
fold_reason bytes j records limit (Some (Head fault)) read same so = absurd so
fold_reason bytes j records limit (Some (Field number fault)) read same so = absurd so
fold_reason bytes j records limit (Some Formatted) read same so = absurd so
fold_reason bytes j records limit (Some (Small has asked)) read same so = absurd so

-- a reason is one of what was read before, too
pub reason_later : (reason : Option Reason) (mid old : List ℕ) → mid ≡ old
    → IfSome reason (IsReasonOf mid) → IfSome reason (IsReasonOf old)
reason_later reason mid old same so = subst (λ b. IfSome reason (IsReasonOf b)) same so

-- ---- in order

are-read : (g : Geometry) (layout : Layout) (records : List Record)
    → AllByRecursion (λ r. is_sound g layout r ≡ true) records
    → AllByRecursion IsTyped records → AllByRecursion (IsRead g layout) records
are-read g layout [] sound typed = tt
are-read g layout (r ∷ records) sound typed = (
  record {
    sound = sound.0;
    directory = typed.0.directory.1;
    cursor = typed.0.cursor.1;
    object = short-id r.action typed.0.action;
  },
  are-read g layout records sound.1 typed.1,
)

-- what was loaded and folded without a fault is in order
pub is_in_order : (j : JournalView) (carousel : Carousel) (extents : List (ℕ × ℕ))
    (records : List Record) (len : ℕ)
    → is_valid j.geometry ≡ true → length_of j.geometry ≤ len
    → All (λ r. is_sound j.geometry j.layout r ≡ true) records
    → All IsTyped records
    → catalogue_of j.geometry.objects records ≡ Ok (catalogue_with carousel extents)
    → ArePaired carousel extents → IsFalse j.spent
    → IsInOrder (view_with j carousel extents false) len
is_in_order j carousel extents records len valid long sound typed fold paired going = record {
  valid = valid;
  long_enough = long;
  whole = whole_fold j.geometry j.layout records (catalogue_with carousel extents)
      (are-read j.geometry j.layout records
      (by_recursion (λ r. is_sound j.geometry j.layout r ≡ true) records sound)
      (by_recursion IsTyped records typed)) fold;
  paired = paired;
  going = λ goes_on. going;
}

-- a fold's refusal for the same geometry
pub fold_refused_same : (g h : Geometry) (records : List Record) (refusal : Refusal) → g ≡ h
    → IsFoldRefusal g.objects records refusal
    → IsFoldRefusal h.objects records refusal
fold_refused_same g h records refusal same is =
    subst (λ (x : Geometry). IsFoldRefusal x.objects records refusal) same is

-- ---- an open repository

objects-are : (os : List Object) (es : List (ℕ × ℕ)) → HaveLengths os es
    → os ≡ map (λ (p : Placed). p.object) (objects_in os es)
objects-are [] es l = refl
objects-are (o ∷ os) [] l = cc
objects-are (o ∷ os) (e ∷ es) l =
    let sized : ℕ → Object = λ n.
    record {
      name = o.name;
      content = o.content;
      mime = o.mime;
      version = o.version;
      tid = o.tid;
      length = n;
    } in
    ap (λ n. sized n ∷ os) (sym (head l)) ∙ ap (λ r. sized e.1 ∷ r) (objects-are os es (tail l))

extents-are : (os : List Object) (es : List (ℕ × ℕ)) → HaveLengths os es
    → es ≡ map (λ (p : Placed). (p.start, p.object.length)) (objects_in os es)
extents-are [] [] l = refl
extents-are [] (e ∷ es) l = cc
extents-are (o ∷ os) [] l = cc
extents-are (o ∷ os) (e ∷ es) l = ap (λ r. e ∷ r) (extents-are os es (tail l))

is-opened : (old mid new : State) (j : JournalView) (carousel : Carousel) (extents : List (ℕ × ℕ))
    → IsHonestDisk old → IsStill old mid → IsFirm mid
    → IsUnchanged mid new → IsLoaded mid.bytes j carousel extents → ArePaired carousel extents
    → IsFalse j.spent
    → IsOpened old new (view_with j carousel extents false)
is-opened old mid new j carousel extents sound still firm unchanged loaded paired going =
    opened (view_with j carousel extents false) old new loaded.records
    (catalogue_with carousel extents) sound
    (ap records_of (sym still.bytes) ∙ loaded.read) loaded.fold
    (record {
      period = refl;
      directory = refl;
      cursor = refl;
      objects = objects-are carousel.objects.items extents paired;
      extents = extents-are carousel.objects.items extents paired;
    })
    loaded.count going (λ k loose. firm k ((unchanged.loose k).0 loose))

-- a view that was loaded and folded is that of an open repository
pub is_opened : (old mid new : State) (view : RepositoryView) (j : JournalView)
    (carousel : Carousel) (extents : List (ℕ × ℕ))
    → view ≡ view_with j carousel extents false → IsHonestDisk old → IsStill old mid → IsFirm mid
    → IsUnchanged mid new → IsLoaded mid.bytes j carousel extents → ArePaired carousel extents
    → IsFalse j.spent
    → IsOpened old new view
is_opened old mid new view j carousel extents same sound still firm unchanged loaded paired going =
    subst (IsOpened old new) (sym same)
    (is-opened old mid new j carousel extents sound still firm unchanged loaded paired going)

-- ---- a refusal after the sync

rises-on : (old mid new : ℕ) → old ≤ mid → (Rises old mid → ⊥) → Rises mid new → Rises old new
rises-on old mid new later none (inl lt) = inl (omega (arith, later, lt))
rises-on old mid new later none (inr is) = ⊎_elim
    (λ same. inr (same ∙ is))
    (λ lt. absurd (none (inl lt)))
    (eq-or-lt_of_le later)

no-err : {T E : Type 0} (r : Result T E) → is_err r ≡ false → IsErr r → ⊥
no-err (Ok x) e h = cc
no-err (Err x) e h = cc

-- a refusal after a call that was Ok refuses the opening from before the call on
pub refused_later : {T E : Type 0} (old mid new : State) (r : Result T E) (refusal : Refusal)
    → HasCause old.failures mid.failures r → is_err r ≡ false
    → (new.IsHonest → mid.bytes ≡ old.bytes) → IsOpeningRefusal mid new refusal
    → IsOpeningRefusal old new refusal
refused_later old mid new r refusal cause ok same (not_formatted is told) =
    not_formatted is (λ honest. ap stands_for (sym (same honest)) ∙ told honest)
refused_later old mid new r refusal cause ok same (damaged slot is told) =
    damaged slot is (λ honest. ap stands_for (sym (same honest)) ∙ told honest)
refused_later old mid new r refusal cause ok same (no_memory is) = no_memory is
refused_later old mid new r refusal cause ok same (device is rises) =
    device is (rises-on old.failures mid.failures new.failures cause.later
    (λ risen. no-err r ok (cause.shown risen)) rises)

-- what holds on Ok holds where the result is no error
pub where_ok : {T E : Type 0} {P : Type 0} (r : Result T E) → is_err r ≡ false → OnOk r P → P
where_ok (Ok x) e p = p
where_ok (Err x) e p = cc

-- ---- a sync, and reads behind it

still-on : (old mid new : State) → IsStill old mid → IsUnchanged mid new → IsStill old new
still-on old mid new still same = record {
  bytes = same.bytes ∙ still.bytes;
  time = record {
    later = omega (arith, still.time.later, same.time.later);
    nothing_else = λ t c le left.
        ⊎_elim (λ was. still.time.nothing_else t c le was) (λ came. absurd came)
        (same.time.nothing_else t c (omega (arith, le, still.time.later)) left);
    keeps = λ t c le left. same.time.keeps t c (omega (arith, le, still.time.later))
        (still.time.keeps t c le left);
  };
  images = λ c left. still.images c ((same.images c).0 left);
  loose = λ k is. still.loose k ((same.loose k).0 is);
}

-- reads behind a sync leave a disk that was read and synced at most
pub syncs_on : (old mid new : State) → KeepsLength old mid → (old.IsHonest → IsStill old mid)
    → OnlyReads mid new → OnlySyncs old new
syncs_on old mid new keeps still reads = record {
  keeps = keeps_on old mid new keeps reads.keeps;
  still = λ honest. still-on old mid new
      (still (keeps.was_honest (reads.keeps.was_honest honest))) (reads.unchanged honest);
}

-- a sync and two calls more are three calls
pub three_calls : (old mid new : ℕ) → mid ≡ old + 1 → new ≡ mid + 2 → new ≡ old + 3
three_calls old mid new one two = omega arith
