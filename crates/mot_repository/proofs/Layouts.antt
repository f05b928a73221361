-- What has no fault in layout 1 has none in layout 2.
use Rattle.std.proofs.Common.{◌≡◌, ℕ, ◌≤◌, ◌+◌, true, ◌&&◌, List, [], ◌∷◌, length, arith, subst}
use Rattle.std.proofs.Common.{sym}
use Rattle.std.proofs.lemmas.List.Elements.{All-from_recursion}
use Rattle.std.proofs.lemmas.Bool.{and_parts, and_from, leb-true, le-leb}
use Rattle.std.specs.Prelude.{All, nat_le, nat_lt, not, ◌==◌}
use Rattle.std.specs.List.{AllByRecursion, list_all}
use Rattle.std.specs.Option.{option_map_or}
use Rattle.std.specs.Str.{is_utf8}
use Rattle.mot_journal.specs.declared.layout.Layout.TheVariants.{One, Two}
use Rattle.mot_journal.specs.declared.record.Record.{Record}
use Rattle.mot_journal.specs.Slot.{is_sound, slot_count}
use Rattle.mot_journal.specs.Catalogue.{Placed, Catalogue}
use Rattle.mot_numbers.specs.declared.geometry.Geometry.{Geometry}
use Rattle.mot_numbers.specs.Geometry.{is_within}
use Rattle.mot_objects.specs.Name.{is_mime, is_name}
use Rattle.mot_repository.specs.Records.{records_of_catalogue}
use Rattle.mot_repository.specs.Inner.Whole.{IsSoundPlaced, IsWhole}
use Rattle.mot_repository.proofs.Soundness.{is_rewriting}

-- a name of layout 1 is one of layout 2
pub longer_name : (name : List ℕ) → is_name 100 name ≡ true → is_name 255 name ≡ true
longer_name name is =
    let n = length name in
    let text = list_all (λ b. nat_lt 32 b && not (b == 127)) name in
    let h = and_parts (is_within 1 100 n && is_utf8 name) text is in
    let k = and_parts (is_within 1 100 n) (is_utf8 name) h.0 in
    let low = and_parts (nat_le 1 n) (nat_le n 100) k.0 in
    let short : n ≤ 100 = leb-true n 100 low.1 in
    and_from _ _ (and_from _ _ (and_from _ _ low.0 (le-leb n 255 (omega (arith, short)))) k.1) h.1

placed-in-two : (g : Geometry) (p : Placed) → IsSoundPlaced g One p → IsSoundPlaced g Two p
placed-in-two g p is =
    let o = p.object in
    let numbers = nat_lt 0 o.tid && nat_le o.content.content_type 63 && nat_le o.content.subtype 511
    && is_within 1 262144 o.length && nat_le (p.start + o.length) g.area in
    let mime = option_map_or is_mime o.mime true in
    let h = and_parts (numbers && is_name 100 o.name) mime is.0 in
    let k = and_parts numbers (is_name 100 o.name) h.0 in
    (and_from _ _ (and_from _ _ k.0 (longer_name o.name k.1)) h.1, is.1)

all-in-two : (g : Geometry) (objects : List Placed) → AllByRecursion (IsSoundPlaced g One) objects
    → AllByRecursion (IsSoundPlaced g Two) objects
all-in-two g [] a = tt
all-in-two g (p ∷ objects) a = (placed-in-two g p a.0, all-in-two g objects a.1)

-- a catalogue without a fault in layout 1 has none in layout 2
pub whole_in_two : (g : Geometry) (c : Catalogue) → IsWhole g One c → IsWhole g Two c
whole_in_two g c is = record {
  good = is.good;
  directory = is.directory;
  cursor = is.cursor;
  each = all-in-two g c.objects is.each;
}

-- what a migration asks of its records
pub migrates : (g : Geometry) (c : Catalogue) (given : List Record) → IsWhole g One c
    → given ≡ records_of_catalogue c
    → (length given ≤ slot_count Two g) × All (λ r. is_sound g Two r ≡ true) given
migrates g c given is same =
    let rewriting = is_rewriting g Two c (whole_in_two g c is) in
    let few = rewriting.few in
    let Meant : List Record → Type 0 = λ l. (length l ≤ slot_count Two g)
    × All (λ r. is_sound g Two r ≡ true) l in
    subst Meant (sym same) (
      omega (arith, few),
      All-from_recursion (λ r. is_sound g Two r ≡ true) (records_of_catalogue c) rewriting.sound,
    )
