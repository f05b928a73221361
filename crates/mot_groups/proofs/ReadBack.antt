-- What is written as a group reads as that group.
use Rattle.std.proofs.Common.{◌≡◌, ℕ, ◌+◌, ◌*◌, ◌/◌, ◌%◌, ◌<◌, ◌≤◌, List, [], ◌∷◌, ◌++◌, Bool, true}
use Rattle.std.proofs.Common.{false, refl, length, drop, arith, ap, ◌∙◌, eq-eqb, Some}
use Rattle.std.proofs.Common.{length-append}
use Rattle.std.proofs.lemmas.Bool.{lt-ltb, le-leb}
use Rattle.std.specs.Prelude.{◌==◌, if◌then◌else◌}
use Rattle.std.specs.Int.{w16, to_be_bytes}
use Rattle.mot_base.specs.Checksum.{crc_of, without_crc, ends_in_crc}
use Rattle.mot_base.proofs.Laws.{without_crc-append, ends_in_crc-append}
use Rattle.mot_groups.specs.Group.{Segment, GroupFields, IsGroup, group_with, header_widths}
use Rattle.mot_groups.specs.Group.{read_group, bytes_of_group, group_of, content_of}
use Rattle.mot_groups.specs.Group.{segment_content}
use Rattle.mot_numbers.specs.Reading.{AreBytes, number_in, fields, is_empty}
use Rattle.mot_numbers.proofs.Laws.{AreBytes-append, AreBytes-cons, AreBytes-to_be_bytes, cons_eq}
use Rattle.mot_numbers.proofs.Laws.{is_empty-some}

-- word stands for the last flag and the segment number
header_fields : (kind index last number word tid size : ℕ) → word ≡ 32768 * last + number
    → kind < 16 →
    index < 16 → last < 2 → number < 32768 → tid < 65536 → size < 8192 →
    fields header_widths
    (number_in ((112 + kind) ∷ (16 * index) ∷ (word / 256 % 256) ∷ (word % 256)
    ∷ 18 ∷ (tid / 256 % 256) ∷ (tid % 256) ∷ (size / 256 % 256) ∷ (size % 256) ∷ []))
    ≡ 0 ∷ 1 ∷ 1 ∷ 1 ∷ kind ∷ index ∷ 0 ∷ last ∷ number ∷ 0 ∷ 1 ∷ 2 ∷ tid ∷ 0 ∷ size ∷ []
header_fields kind index last number word tid size e p q r s t u =
    cons_eq (omega arith) (cons_eq (omega arith) (cons_eq (omega arith) (cons_eq (omega arith)
    (cons_eq (omega arith) (cons_eq (omega arith) (cons_eq (omega arith) (cons_eq (omega arith)
    (cons_eq (omega arith) (cons_eq (omega arith) (cons_eq (omega arith) (cons_eq (omega arith)
    (cons_eq (omega arith) (cons_eq (omega arith) (cons_eq (omega arith) refl))))))))))))))

group_with-written : (all bytes : List ℕ) (kind index last number tid : ℕ) →
    drop 9 (without_crc all) ≡ bytes → ends_in_crc all ≡ true → 0 < tid → is_empty bytes ≡ false →
    length bytes + 2 ≤ 8191 →
    group_with all (0 ∷ 1 ∷ 1 ∷ 1 ∷ kind ∷ index ∷ 0 ∷ last ∷ number ∷ 0 ∷ 1 ∷ 2 ∷ tid ∷ 0
    ∷ length bytes ∷ [])
    ≡ Some (group_of index kind tid number (last == 1) bytes)
group_with-written all bytes kind index last number tid part crc t n m =
    rw (
      part,
      crc,
      eq-eqb (length bytes) (length bytes) refl,
      lt-ltb 0 tid t,
      n,
      le-leb (length bytes + 2) 8191 m,
    ) refl

read_group-covered : (index kind tid number word flag : ℕ) (bytes : List ℕ) →
    word ≡ 32768 * flag + number → flag < 2 →
    kind < 16 → index < 16 → 0 < tid → tid < 65536 → number < 32768 → is_empty bytes ≡ false →
    length bytes + 2 ≤ 8191 →
    let covered = (112 + kind) ∷ (16 * index) ∷ (to_be_bytes w16 word ++ 18 ∷ to_be_bytes w16 tid
    ++ to_be_bytes w16 (length bytes) ++ bytes) in
    read_group (covered ++ to_be_bytes w16 (crc_of covered))
    ≡ Some (group_of index kind tid number (flag == 1) bytes)
unfolding read_group
read_group-covered index kind tid number word flag bytes e f k i t0 t n l0 l =
    let covered : List ℕ =
    (112 + kind) ∷ (16 * index) ∷ (to_be_bytes w16 word ++ 18 ∷ to_be_bytes w16 tid
    ++ to_be_bytes w16 (length bytes) ++ bytes) in
    let all : List ℕ = covered ++ to_be_bytes w16 (crc_of covered) in
    ap (group_with all) (header_fields kind index flag number word tid (length bytes) e k i f n t
    (omega arith))
    ∙ group_with-written all bytes kind index flag number tid
    (ap (drop 9) (without_crc-append covered _ _))
    (ends_in_crc-append covered) t0 l0 l

read_group-by_last : (index kind tid number : ℕ) (last : Bool) (bytes : List ℕ) →
    IsGroup (group_of index kind tid number last bytes) →
    read_group (bytes_of_group (group_of index kind tid number last bytes))
    ≡ Some (group_of index kind tid number last bytes)
unfolding bytes_of_group
read_group-by_last index kind tid number true bytes g =
    read_group-covered index kind tid number (32768 + number) 1 bytes refl (omega arith) g.kind
    g.index
    g.tid.0 g.tid.1 g.number (is_empty-some bytes g.some) g.fits
read_group-by_last index kind tid number false bytes g =
    read_group-covered index kind tid number number 0 bytes (omega arith) (omega arith) g.kind
    g.index
    g.tid.0 g.tid.1 g.number (is_empty-some bytes g.some) g.fits

-- what is written as a group reads as that group
pub read_group-bytes_of_group : (g : GroupFields) → IsGroup g
    → read_group (bytes_of_group g) ≡ Some g
read_group-bytes_of_group g is_group =
    read_group-by_last g.index g.segment.kind g.segment.tid g.segment.number g.segment.last
    g.segment.bytes
    is_group

-- the content is the segment's
pub content_of-bytes_of_group : (g : GroupFields)
    → content_of (bytes_of_group g) ≡ segment_content g.segment
unfolding bytes_of_group
content_of-bytes_of_group g =
    ap (drop 2) (without_crc-append
    ((112 + g.segment.kind) ∷ (16 * g.index) ∷ segment_content g.segment) _ _)

-- a group's bytes are bytes
pub AreBytes-bytes_of_group : (g : GroupFields) → IsGroup g → AreBytes g.segment.bytes →
    AreBytes (bytes_of_group g)
unfolding bytes_of_group
AreBytes-bytes_of_group g is_group bytes =
    let s : Segment = g.segment in
    let word : List ℕ = to_be_bytes w16 (if s.last then 32768 + s.number else s.number) in
    let tid : List ℕ = 18 ∷ to_be_bytes w16 s.tid in
    let size : List ℕ = to_be_bytes w16 (length s.bytes) in
    let content : AreBytes (word ++ tid ++ size ++ s.bytes) =
    AreBytes-append (word ++ tid ++ size) s.bytes
    (AreBytes-append (word ++ tid) size
    (AreBytes-append word tid (AreBytes-to_be_bytes (if s.last then 32768 + s.number else s.number))
    (AreBytes-cons 18 (to_be_bytes w16 s.tid) (omega arith) (AreBytes-to_be_bytes s.tid)))
    (AreBytes-to_be_bytes (length s.bytes))) bytes in
    let kind : g.segment.kind < 16 = is_group.kind in
    let index : g.index < 16 = is_group.index in
    let covered : List ℕ = (112 + s.kind) ∷ (16 * g.index) ∷ segment_content s in
    AreBytes-append covered (to_be_bytes w16 (crc_of covered))
    (AreBytes-cons (112 + s.kind) (16 * g.index ∷ segment_content s) (omega arith)
    (AreBytes-cons (16 * g.index) (segment_content s) (omega arith) content))
    (AreBytes-to_be_bytes (crc_of covered))

-- a group has 11 bytes more than its segment
pub length-bytes_of_group : (g : GroupFields) →
    length (bytes_of_group g) ≡ length g.segment.bytes + 11
unfolding bytes_of_group
length-bytes_of_group g =
    let covered : List ℕ = (112 + g.segment.kind) ∷ (16 * g.index) ∷ segment_content g.segment in
    omega (arith, length-append g.segment.bytes (to_be_bytes w16 (crc_of covered)))
