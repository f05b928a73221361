-- The definitions, computed on worked rows.
use Rattle.std.proofs.Common.{◌≡◌, ℕ, List, [], ◌∷◌, ◌++◌, Some, None, Ok, Err, take, drop}
use Rattle.std.proofs.Common.{replicate, refl}
use Rattle.std.specs.Prelude.{codes}
use Rattle.std.specs.Str.{is_utf8, chars}
use lib.Utf8.{encode}
use Rattle.mot_journal.specs.declared.layout.Layout.TheVariants.{One, Two}
use Rattle.mot_journal.specs.declared.record.Record.{Record}
use Rattle.mot_journal.specs.declared.record.Action.TheVariants.{Nothing, Set}
use Rattle.mot_journal.specs.Geometry.{geometry_of}
use Rattle.mot_journal.specs.Inner.Format.{head_bytes}
use Rattle.mot_journal.specs.Slot.{bytes_of_slot, read_slot}
use Rattle.mot_journal.specs.Image.{fold_from}
use Rattle.mot_journal.specs.Image.{records_of, stands_for}
use Rattle.mot_numbers.specs.declared.refusal.Refusal.TheVariants.{NotFormatted}
use Rattle.mot_numbers.specs.declared.geometry.Geometry.{Geometry}
use Rattle.mot_numbers.specs.Geometry.{length_of}
use Rattle.mot_objects.specs.Carousel.{new_carousel}

-- 16 objects, 65,536 bytes for bodies, segments of 1,024 bytes, address 1, packets of 96 bytes
abbrev usual : Geometry
usual = record {
  objects = 16;
  segment = 1024;
  address = 1;
  packet =
      96;
  area = 65536;
}

numbers_at_16 : take 12 (drop 16 (head_bytes usual 0)) ≡
    0x00 ∷ 0x10 ∷ 0x04 ∷ 0x00 ∷ 0x00 ∷ 0x01 ∷ 0x00 ∷ 0x60 ∷ 0x00 ∷ 0x01 ∷ 0x00 ∷ 0x00 ∷ []
numbers_at_16 = refl

usual_length : length_of usual ≡ 84032
usual_length = refl

-- one object, 8 bytes for bodies
abbrev small : Geometry
small = record { objects = 1; segment = 64; address = 1; packet = 24; area = 8 }

-- a new disk of layout 1, and one byte less
new_disk_stands : stands_for (head_bytes small 0 ++ replicate 3080 0) ≡
    Ok (record { geometry = small; carousel = new_carousel; extents = []; rest = [] })
unfolding stands_for records_of geometry_of read_slot fold_from
new_disk_stands = refl

too_short : stands_for (head_bytes small 0 ++ replicate 3079 0) ≡ Err NotFormatted
unfolding stands_for records_of geometry_of read_slot fold_from
too_short = refl

abbrev picture : Record
picture = record {
  period = 0;
  directory = 3;
  cursor = 3;
  action = Set 2 0 (record { content_type = 2; subtype = 3 }) 0 5 (codes "a")
      (Some (codes "image/png"));
}

abbrev picture_with : ℕ → List ℕ
picture_with kind =
    0xA5 ∷ kind ∷ 0x00 ∷ 0x00 ∷ 0x00 ∷ 0x00 ∷ 0x03 ∷ 0x00 ∷ 0x03 ∷ 0x00 ∷ 0x02 ∷ 0x00 ∷ 0x02 ∷ 0x00
    ∷ 0x03 ∷ 0x00
    ∷ 0x00 ∷ 0x00 ∷ 0x00 ∷ 0x00 ∷ 0x00 ∷ 0x00 ∷ 0x05 ∷ 0x01 ∷ 0x61 ∷ 0x09 ∷ codes "image/png"

object_is_written : bytes_of_slot One picture ≡ picture_with 0x02 ++ replicate 221 0
unfolding bytes_of_slot
object_is_written = refl

object_is_written_in_layout_two : bytes_of_slot Two picture ≡ picture_with 0x12 ++ replicate 477 0
unfolding bytes_of_slot
object_is_written_in_layout_two = refl

object_reads : read_slot usual One (picture_with 0x02 ++ replicate 221 0xFF) ≡ Some picture
unfolding read_slot is_utf8 chars encode
object_reads = refl

object_reads_in_layout_two : read_slot usual Two (picture_with 0x12 ++ replicate 477 0)
    ≡ Some picture
unfolding read_slot is_utf8 chars encode
object_reads_in_layout_two = refl

-- the kind of the other layout
other_kind : read_slot usual Two (picture_with 0x02 ++ replicate 477 0) ≡ None
unfolding read_slot is_utf8 chars encode
other_kind = refl

-- the record that a disk is formatted with
abbrev first_record : Record
first_record = record { period = 0; directory = 1; cursor = 1; action = Nothing }

first_is_written : bytes_of_slot Two first_record ≡
    0xA5 ∷ 0x11 ∷ 0x00 ∷ 0x00 ∷ 0x00 ∷ 0x00 ∷ 0x01 ∷ 0x00 ∷ 0x01 ∷ replicate 503 0
unfolding bytes_of_slot
first_is_written = refl

-- a new disk of layout 2
formatted_stands : stands_for
    (head_bytes small 0 ++ bytes_of_slot Two first_record ++ replicate 2568 0) ≡
    Ok (record { geometry = small; carousel = new_carousel; extents = []; rest = [] })
unfolding stands_for records_of geometry_of read_slot fold_from bytes_of_slot
formatted_stands = refl

formatted_records : records_of
    (head_bytes small 0 ++ bytes_of_slot Two first_record ++ replicate 2568 0) ≡
    Ok (record { geometry = small; half = 0; layout = Two; records = first_record ∷ [] })
unfolding records_of geometry_of read_slot bytes_of_slot
formatted_records = refl
