-- What a crash leaves while a disk is made.
use Rattle.std.proofs.Common.{◌≡◌, ◌⊎◌, inl, inr, ⊎_elim, ℕ, zero, suc, ◌+◌, ◌-◌, ◌*◌, ◌<◌, ◌≤◌}
use Rattle.std.proofs.Common.{true, false, List, [], ◌∷◌, length, take, slice_range, refl, sym, ◌∙◌}
use Rattle.std.proofs.Common.{ap, arith}
use Rattle.std.specs.Prelude.{bytes_eq, IsOk}
use Rattle.std.proofs.lemmas.Bool.{cases_Bool, and_from, lt-ltb}
use Rattle.disk_model.specs.Disk.{State, AgreeOutside, IsHonestDisk, WritesWithin, Torn, Throughout}
use Rattle.disk_model.proofs.Laws.{agree_trans, agree_more, at_end, joins, weakens}
use Rattle.mot_journal.specs.declared.layout.Layout.TheVariants.{Two}
use Rattle.mot_journal.specs.Geometry.{has_magic, magic}
use Rattle.mot_journal.specs.Slot.{slot_count, slot_size, AreSound}
use Rattle.mot_journal.specs.Inner.Format.{first_record, behind_magic, HasAllButMagic}
use Rattle.mot_journal.specs.Inner.Steps.{ChangesWithin, HasSlots, Publishes, LeavesWritten}
use Rattle.mot_journal.specs.Image.{catalogue_of, area_of}
use Rattle.mot_journal.specs.Journal.{HasAreaOf}
use Rattle.mot_journal.specs.Making.{IsMade, NoneOrMade}
use Rattle.mot_journal.specs.declared.record.Record.{Record}
use Rattle.mot_journal.proofs.Laws.{drop_behind, part}
use Rattle.mot_journal.proofs.Fill.{unchanged, one_more, slot_ends, range_whole}
use Rattle.mot_journal.proofs.NewDisk.{made_is}
use Rattle.mot_numbers.specs.declared.geometry.Geometry.{Geometry}
use Rattle.mot_numbers.specs.Geometry.{IsValid, length_of, half_size, half_start, area_start}

-- a run more within the range
within_joins : (start n : ℕ) (old mid new : State) (at m : ℕ) → IsHonestDisk mid
    → ChangesWithin start n old mid
    → ChangesWithin at m mid new → start ≤ at → at + m ≤ start + n → ChangesWithin start n old new
within_joins start n old mid new at m sound so_far then low high = record {
  bytes = agree_trans start n old.bytes mid.bytes new.bytes so_far.bytes
      (agree_more at m start n mid.bytes new.bytes low high then.bytes);
  time = joins old mid new (Torn start n old) (Torn at m mid) so_far.time then.time (λ c torn.
      let from = at_end old mid (Torn start n old) sound so_far.time torn.0 torn.1 in (
        from.0,
        from.1,
        agree_trans start n from.0 torn.0 c from.2
            (agree_more at m start n torn.0 c low high torn.2),
      ));
}

-- the head written so changes only what lies between the magic and the data area
pub head_filled : (g : Geometry) (old wrote : State) → IsHonestDisk old
    → WritesWithin 8 56 old wrote → ChangesWithin 8 (area_start g - 8) old wrote
head_filled g old wrote sound writes =
    let rest = area_start g - 8 in
    one_more 8 rest old old wrote 8 56 sound (unchanged 8 rest old sound) writes (omega arith)
    (omega arith)

-- the record of a new disk is sound
pub first_sound : (g : Geometry) (directory : ℕ) → 1 ≤ directory
    → AreSound g Two (first_record directory ∷ [])
first_sound g directory some zero other lt =
    let id = lt-ltb 0 directory some in and_from _ _ (and_from _ _ id id) refl
first_sound g directory some (suc k) other lt = absurd (omega (arith, lt))

-- what the calls up to the first half found
pub record Found (g : Geometry) (old wrote mid : State) : Type 0 where
  pub sound : IsHonestDisk old
  pub writes : WritesWithin 8 56 old wrote
  pub wrote_sound : IsHonestDisk wrote
  pub first : ChangesWithin (half_start g 0) (half_size g) wrote mid
  pub mid_sound : IsHonestDisk mid
  pub still_honest : mid.IsHonest

module _ {g : Geometry} {old wrote mid : State} (found : Found g old wrote mid) where
  -- the head and half 0 written so change only what lies between the magic and the data area
  pub first_filled : ChangesWithin 8 (area_start g - 8) old mid
  first_filled =
      within_joins 8 (area_start g - 8) old wrote mid (half_start g 0) (half_size g)
      found.wrote_sound (head_filled g old wrote found.sound found.writes) found.first
      (omega arith) (omega arith)

  -- so they do with half 1 written too
  pub all_filled : {last : State} → ChangesWithin (half_start g 1) (half_size g) mid last
      → ChangesWithin 8 (area_start g - 8) old last
  all_filled {last} second = within_joins 8 (area_start g - 8) old mid last (half_start g 1)
      (half_size g) found.mid_sound first_filled second (omega arith) (omega arith)

  -- the head and both halves written so are a disk but for its magic
  pub is_made : {last : State} → ChangesWithin (half_start g 1) (half_size g) mid last
      → (given : List Record) → slice_range wrote.bytes 8 (8 + 56) ≡ behind_magic g
      → HasSlots g 0 Two given (slot_count Two g) mid.bytes
      → HasSlots g 1 Two [] (slot_count Two g) last.bytes → HasAllButMagic g given last.bytes
  is_made {last} second given head slots other = record {
    other = other;
    head = part (half_start g 1) (half_size g) mid.bytes last.bytes second.bytes 8 56
        (omega arith)
        ∙ part (half_start g 0) (half_size g) wrote.bytes mid.bytes found.first.bytes 8 56
        (omega arith)
        ∙ sym (range_whole 8 56 wrote.bytes) ∙ head;
    slots = λ i lt.
        let was = slots i lt in
        let ends = (slot_ends g 0 Two i (omega arith) lt).0 in
        let far : half_start g 0 + half_size g ≤ half_start g 1 = omega arith in (
          part (half_start g 1) (half_size g) mid.bytes last.bytes second.bytes
              (half_start g 0 + i * slot_size Two) (slot_size Two)
              (omega (arith, ends, far)) ∙ was.0,
          was.1,
        );
  }

-- outside the magic a disk stays what it was made
made_stays : (g : Geometry) (given : List Record) (b c : List ℕ) → AgreeOutside 0 8 b c
    → HasAllButMagic g given b
    → HasAllButMagic g given c
made_stays g given b c agree made = record {
  head = ap (λ l. take 56 l) (drop_behind 0 8 b c agree 8 (omega arith)) ∙ made.head;
  slots = λ i lt.
      let was = made.slots i lt in (
        ap (λ l. take (slot_size Two) l)
            (drop_behind 0 8 b c agree (half_start g 0 + i * slot_size Two) (behind 0 i)) ∙ was.0,
        was.1,
      );
  other = λ i lt.
      let was = made.other i lt in (
        ap (λ l. take (slot_size Two) l)
            (drop_behind 0 8 b c agree (half_start g 1 + i * slot_size Two) (behind 1 i)) ∙ was.0,
        was.1,
      );
}
  where
    behind : (half i : ℕ) → 0 + 8 ≤ half_start g half + i * slot_size Two
    behind half i = omega arith

-- records that can be written into a half of a disk, and make no fault of the list
pub record CanBeMade (g : Geometry) (given : List Record) : Type 0 where
  pub some : 0 < length given
  pub few : length given ≤ slot_count Two g
  pub fold : IsOk (catalogue_of g.objects given)

module _ (g : Geometry) (given : List Record) (can : CanBeMade g given) (start filled : State)
    (changes : ChangesWithin 8 (area_start g - 8) start filled)
    (valid : IsValid g) (sound1 : IsHonestDisk filled) (long : length_of g ≤ filled.len)
    (made : HasAllButMagic g given filled.bytes) where
  new : (c : List ℕ) → AgreeOutside 0 8 filled.bytes c → has_magic c ≡ true
      → IsMade g given (area_of g start.bytes) c
  new c agree named =
      let whole = (sound1.images filled.bytes sound1.bytes).len_is in
      let is = made_is g given valid c (omega (arith, agree.len_is, whole, long)) named
      (made_stays g given filled.bytes c agree made) can.some can.few can.fold in
      record {
        read = is.read;
        clean = is.clean;
        other = is.other;
        area = drop_behind 0 8 filled.bytes c agree (area_start g) (omega arith)
            ∙ drop_behind 8 (area_start g - 8) start.bytes filled.bytes changes.bytes
            (area_start g) (omega arith);
      }

  none_or_new : (c : List ℕ) → AgreeOutside 0 8 filled.bytes c
      → NoneOrMade g given (area_of g start.bytes) c
  none_or_new c agree = elim (cases_Bool (has_magic c)) [
    | inl named ↦ inr (new c agree named)
    | inr none ↦ inl none
  ]

  -- once the magic is written, each image is the disk that is made
  pub published : (last : State) → LeavesWritten 0 magic filled last → (c : List ℕ)
      → last.MayLeave c → IsMade g given (area_of g start.bytes) c
  published last has c left =
      let named : has_magic c ≡ true =
      ap (λ l. bytes_eq l magic) (sym (range_whole 0 8 c) ∙ (has c left).slot_is) in
      new c (has c left).agree named

module _ (g : Geometry) (given : List Record) (start filled : State)
    (no_magic : (image : List ℕ) → start.MayLeave image → has_magic image ≡ false)
    (changes : ChangesWithin 8 (area_start g - 8) start filled) where
  -- while all but the magic is written, a crash leaves no magic, or the disk that is made
  pub filling : Throughout start filled (NoneOrMade g given (area_of g start.bytes))
  filling = weakens start filled (Torn 8 (area_start g - 8) start)
      (NoneOrMade g given (area_of g start.bytes))
      changes.time (λ c torn.
      inl (ap (λ l. bytes_eq l magic) (part 8 (area_start g - 8) torn.0 c torn.2 0 8 (omega arith))
      ∙ no_magic torn.0 torn.1))

  -- so it does until the magic is written
  pub publishing : CanBeMade g given → IsValid g → IsHonestDisk filled → length_of g ≤ filled.len
      → HasAllButMagic g given filled.bytes → (last : State)
      → Publishes 0 8 filled last
      → Throughout start last (NoneOrMade g given (area_of g start.bytes))
  publishing can valid sound1 long made last publishes =
      joins start filled last (NoneOrMade g given (area_of g start.bytes))
      (λ c. filled.MayLeave c ⊎ AgreeOutside 0 8 filled.bytes c) filling publishes.time
      (λ c outcome.
      ⊎_elim (λ left. at_end start filled (NoneOrMade g given (area_of g start.bytes)) sound1
      filling c left)
      (λ agree. none_or_new g given can start filled changes valid sound1 long made c agree)
      outcome)

module _ (g : Geometry) (start filled : State)
    (changes : ChangesWithin 8 (area_start g - 8) start filled) where
  -- while all but the magic is written, the data area and what lies after it stay
  pub area_filling : Throughout start filled (HasAreaOf g start)
  area_filling = weakens start filled (Torn 8 (area_start g - 8) start) (HasAreaOf g start)
      changes.time (λ c torn. (
        torn.0,
        torn.1,
        drop_behind 8 (area_start g - 8) torn.0 c torn.2 (area_start g) (omega arith),
      ))

  -- and so they do until the magic is written
  pub area_publishing : IsHonestDisk filled → (last : State)
      → Publishes 0 8 filled last → Throughout start last (HasAreaOf g start)
  area_publishing sound1 last publishes =
      joins start filled last (HasAreaOf g start)
      (λ c. filled.MayLeave c ⊎ AgreeOutside 0 8 filled.bytes c) area_filling publishes.time
      (λ c outcome.
      ⊎_elim (λ left. at_end start filled (HasAreaOf g start) sound1 area_filling c left)
      (λ agree.
      let was = at_end start filled (HasAreaOf g start) sound1 area_filling filled.bytes
      sound1.bytes in (
        was.0,
        was.1,
        drop_behind 0 8 filled.bytes c agree (area_start g) (omega arith) ∙ was.2,
      )) outcome)
