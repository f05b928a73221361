-- Only the bytes of a group read as it.
use Rattle.std.proofs.Common.{◌≡◌, ℕ, ◌+◌, ◌-◌, ◌%◌, ◌^◌, ◌<◌, List, [], ◌∷◌, ◌++◌, true, refl, sym}
use Rattle.std.proofs.Common.{length, take, drop, arith, ap, subst, ◌∙◌, length-take, length-drop}
use Rattle.std.proofs.Common.{Some}
use Rattle.std.proofs.lemmas.Bool.{and_parts, eqb-true, leb-true, ltb-true, not-true}
use Rattle.std.proofs.lemmas.List.{take-append-drop, take-take}
use Rattle.std.proofs.lemmas.List.Elements.{All-drop, All-same, All-take}
use Rattle.std.proofs.Math.Nat.{mod-eq_of_lt}
use Rattle.std.proofs.lemmas.Option.{cond_some}
use Rattle.std.specs.Prelude.{◌==◌}
use Rattle.std.specs.Int.{w16, to_be_bytes, from_bool}
use Rattle.mot_base.specs.Checksum.{crc_of, without_crc, ends_in_crc}
use Rattle.mot_base.proofs.Laws.{append-without_crc}
use Rattle.mot_groups.specs.Group.{GroupFields, IsGroup, group_with, header_widths, read_group}
use Rattle.mot_groups.specs.Group.{bytes_of_group, group_of}
use Rattle.mot_groups.proofs.ReadBack.{AreBytes-bytes_of_group, read_group-bytes_of_group}
use Rattle.mot_numbers.specs.Reading.{IsByte, AreBytes, number_in, fields, is_empty}
use Rattle.mot_numbers.proofs.Laws.{fields-injective, length-some, number_in-fits}
use Rattle.mot_numbers.proofs.Laws.{number_in-injective, one_or_zero}

-- the header's fields, as a group has them
abbrev header_of : GroupFields → List ℕ
header_of g =
    0 ∷ 1 ∷ 1 ∷ 1 ∷ g.segment.kind ∷ g.index ∷ 0 ∷ from_bool g.segment.last ∷ g.segment.number
    ∷ 0 ∷ 1 ∷ 2 ∷ g.segment.tid ∷ 0 ∷ length g.segment.bytes ∷ []

-- what was read of a group's bytes, whose header has these fields
record IsRead (bytes header : List ℕ) (g : GroupFields) : Type 0 where
  as_group : header ≡ header_of g
  part : drop 9 (without_crc bytes) ≡ g.segment.bytes
  crc : ends_in_crc bytes ≡ true
  is_group : IsGroup g

module _ (bytes : List ℕ)
    (extension crc segment access kind index repetition last number rfa flag indicator tid count
    size : ℕ) where
  abbrev header : List ℕ
  header =
      extension ∷ crc ∷ segment ∷ access ∷ kind ∷ index ∷ repetition ∷ last ∷ number ∷ rfa ∷ flag
      ∷ indicator
      ∷ tid ∷ count ∷ size ∷ []

  IsRead-group_with : (g : GroupFields) → kind < 16 → index < 16 → last < 2 → number < 32768
      → tid < 65536 →
      group_with bytes header ≡ Some g → IsRead bytes header g
  IsRead-group_with g k i l n t e =
      let part : List ℕ = drop 9 (without_crc bytes) in
      let found : GroupFields = group_of index kind tid number (last == 1) part in
      let some = cond_some _ found g e in
      let checksum = and_parts _ _ some.0 in
      let longest = and_parts _ _ checksum.0 in
      let filled = and_parts _ _ longest.0 in
      let sized = and_parts _ _ filled.0 in
      let counted = and_parts _ _ sized.0 in
      let identified = and_parts _ _ counted.0 in
      let indicated = and_parts _ _ identified.0 in
      let flagged = and_parts _ _ indicated.0 in
      let reserved = and_parts _ _ flagged.0 in
      let repeated = and_parts _ _ reserved.0 in
      let accessed = and_parts _ _ repeated.0 in
      let segmented = and_parts _ _ accessed.0 in
      let checked = and_parts _ _ segmented.0 in
      let as_group : header ≡ header_of found =
      rw (
        eqb-true extension 0 checked.0,
        eqb-true crc 1 checked.1,
        eqb-true segment 1 segmented.1,
        eqb-true access 1 accessed.1,
        eqb-true repetition 0 repeated.1,
        eqb-true rfa 0 reserved.1,
        eqb-true flag 1 flagged.1,
        eqb-true indicator 2 indicated.1,
        eqb-true count 0 counted.1,
        eqb-true size (length part) sized.1,
        ← one_or_zero last l,
      ) refl in
      let is_group : IsGroup found = record {
        kind = k;
        index = i;
        tid = (ltb-true 0 tid identified.1, t);
        number = n;
        some = length-some part (not-true (is_empty part) filled.1);
        fits = omega (
          arith,
          leb-true (size + 2) 8191 longest.1,
          eqb-true size (length part) sized.1,
        );
      } in
      subst (IsRead bytes header) some.1
      (record { as_group = as_group; part = refl; crc = checksum.1; is_group = is_group })

IsRead-read_group : (bytes : List ℕ) (g : GroupFields) → read_group bytes ≡ Some g →
    IsRead bytes (fields header_widths (number_in (take 9 bytes))) g
unfolding read_group
IsRead-read_group bytes g e =
    let n : ℕ = number_in (take 9 bytes) in
    IsRead-group_with bytes _ _ _ _ _ _ _ _ _ _ _ _ _ _ _ g (omega arith) (omega arith)
    (omega arith)
    (omega arith) (omega arith) e

-- a group with something in it has a whole header before it
header_len : (bytes part : List ℕ) → drop 9 (without_crc bytes) ≡ part → 0 < length part
    → 11 < length bytes
header_len bytes part e some =
    let more : length (drop 9 (without_crc bytes)) ≡ length part = ap length e in
    omega (arith, length-drop 9 (without_crc bytes), length-take (length bytes - 2) bytes)

-- the header's bytes, and those that the checksum word covers
take-without_crc : (bytes : List ℕ) → 11 < length bytes → take 9 (without_crc bytes) ≡ take 9 bytes
take-without_crc bytes l = take-take 9 (length bytes - 2) bytes (omega arith)

pub read_group-one_to_one : (one other : List ℕ) (g : GroupFields) → AreBytes one → AreBytes other →
    read_group one ≡ Some g → read_group other ≡ Some g → one ≡ other
read_group-one_to_one one other g p q e f =
    let a = IsRead-read_group one g e in
    let b = IsRead-read_group other g f in
    let long : 11 < length one = header_len one g.segment.bytes a.part a.is_group.some in
    let long' : 11 < length other = header_len other g.segment.bytes b.part b.is_group.some in
    let front : AreBytes (take 9 one) = All-take IsByte 9 one p in
    let front' : AreBytes (take 9 other) = All-take IsByte 9 other q in
    let len : length (take 9 one) ≡ 9 = omega (arith, length-take 9 one) in
    let len' : length (take 9 other) ≡ 9 = omega (arith, length-take 9 other) in
    let fits : number_in (take 9 one) < 2 ^ 72 =
    subst (λ (n : ℕ). number_in (take 9 one) < 256 ^ n) len (number_in-fits (take 9 one) front) in
    let fits' : number_in (take 9 other) < 2 ^ 72 =
    subst (λ (n : ℕ). number_in (take 9 other) < 256 ^ n) len'
    (number_in-fits (take 9 other) front') in
    let bits : number_in (take 9 one) % 2 ^ 72 ≡ number_in (take 9 other) % 2 ^ 72 =
    fields-injective header_widths _ _ (a.as_group ∙ sym b.as_group) in
    let number : number_in (take 9 one) ≡ number_in (take 9 other) = sym (mod-eq_of_lt fits) ∙ bits
    ∙ mod-eq_of_lt fits' in
    let header : take 9 one ≡ take 9 other =
    number_in-injective (take 9 one) (take 9 other) (len ∙ sym len') front front' number in
    let header' : take 9 (without_crc one) ≡ take 9 (without_crc other) =
    take-without_crc one long ∙ header
    ∙ sym (take-without_crc other long') in
    let part : drop 9 (without_crc one) ≡ drop 9 (without_crc other) = a.part ∙ sym b.part in
    let covered : without_crc one ≡ without_crc other =
    sym (take-append-drop 9 (without_crc one)) ∙ ap (λ h. h ++ drop 9 (without_crc one)) header'
    ∙ ap (λ r. take 9 (without_crc other) ++ r) part ∙ take-append-drop 9 (without_crc other) in
    append-without_crc one a.crc ∙ ap (λ c. c ++ to_be_bytes w16 (crc_of c)) covered
    ∙ sym (append-without_crc other b.crc)

-- what reads as a group is its bytes
pub read_group-only : (bytes : List ℕ) (g : GroupFields) → AreBytes bytes
    → read_group bytes ≡ Some g →
    bytes ≡ bytes_of_group g
read_group-only bytes g all e =
    let read : IsRead bytes (fields header_widths (number_in (take 9 bytes))) g =
    IsRead-read_group bytes g e in
    let covered : AreBytes (without_crc bytes) = All-take IsByte (length bytes - 2) bytes all in
    let part : AreBytes g.segment.bytes =
    All-same IsByte g.segment.bytes (drop 9 (without_crc bytes)) (sym read.part)
    (All-drop IsByte 9 (without_crc bytes) covered) in
    read_group-one_to_one bytes (bytes_of_group g) g all
    (AreBytes-bytes_of_group g read.is_group part) e
    (read_group-bytes_of_group g read.is_group)
