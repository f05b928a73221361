-- What is written as a packet reads as one.
use Rattle.std.proofs.Common.{◌≡◌, ℕ, suc, zero, ◌+◌, ◌-◌, ◌*◌, ◌<◌, ◌≤◌, Bool, List, [], ◌∷◌, ◌++◌}
use Rattle.std.proofs.Common.{true, false, refl, length, take, drop, replicate, arith, ap, ◌∙◌}
use Rattle.std.proofs.Common.{length-append, eq-eqb, Some}
use Rattle.std.proofs.Math.Seq.{take-append_seam, drop-append_seam}
use Rattle.std.proofs.lemmas.Bool.{lt-ltb, le-leb}
use Rattle.std.proofs.lemmas.List.{length-replicate}
use Rattle.std.proofs.lemmas.List.Elements.{All-replicate}
use Rattle.std.specs.Prelude.{◌==◌}
use Rattle.std.specs.List.{list_all}
use Rattle.std.specs.Int.{w16, to_be_bytes, from_bool}
use Rattle.mot_base.specs.Checksum.{crc_of, without_crc, ends_in_crc}
use Rattle.mot_base.proofs.Laws.{without_crc-append, ends_in_crc-append}
use Rattle.mot_numbers.specs.Reading.{IsByte, AreBytes}
use Rattle.mot_numbers.proofs.Laws.{AreBytes-append, AreBytes-cons, AreBytes-to_be_bytes}
use Rattle.mot_packets.specs.Packet.{PacketFields, packet_with, read_packet}
use Rattle.mot_packets.specs.Written.{IsPacket, header_word, code_of_room, covered_bytes}
use Rattle.mot_packets.specs.Written.{bytes_of_packet}
use Rattle.mot_packets.proofs.HeaderWord.{HasCode, HasCode-length, fields-header_word}

zeros_are_zero : (n : ℕ) → list_all (λ b. b == 0) (replicate n 0) ≡ true
zeros_are_zero zero = refl
zeros_are_zero (suc n) = zeros_are_zero n

packet_with-written : (all field useful : List ℕ) (code index first last address padding : ℕ) →
    drop 3 (without_crc all) ≡ field → field ≡ useful ++ replicate padding 0
    → length all ≡ 24 * (code + 1) →
    ends_in_crc all ≡ true → 0 < address →
    packet_with all (code ∷ index ∷ first ∷ last ∷ address ∷ 0 ∷ length useful ∷ [])
    ≡ Some (record {
      room = length field;
      address = address;
      index = index;
      first = first == 1;
      last = last == 1;
      useful = useful;
    })
packet_with-written all field useful code index first last address padding f e l crc a =
    let fits : length useful ≤ length field =
    omega (arith, ap length e, length-append useful (replicate padding 0)) in
    let zeros : drop (length useful) field ≡ replicate padding 0 = ap (drop (length useful)) e
    ∙ drop-append_seam useful (replicate padding 0) in
    let front : take (length useful) field ≡ useful = ap (take (length useful)) e
    ∙ take-append_seam useful (replicate padding 0) in
    rw (
      crc,
      f,
      l,
      eq-eqb (24 * (code + 1)) (24 * (code + 1)) refl,
      lt-ltb 0 address a,
      le-leb (length useful) (length field) fits,
      zeros,
      zeros_are_zero padding,
      front,
    ) refl

from_bool-is_one : (b : Bool) → (from_bool b == 1) ≡ b
from_bool-is_one true = refl
from_bool-is_one false = refl

-- the data field with its padding has the room
length-field : (useful : List ℕ) (room : ℕ) → length useful ≤ room →
    length (useful ++ replicate (room - length useful) 0) ≡ room
length-field useful room h =
    omega (
      arith,
      length-append useful (replicate (room - length useful) 0),
      length-replicate {A = ℕ} (room - length useful) 0,
    )

fields_again : (p : PacketFields) (room : ℕ) (first last : Bool) → room ≡ p.room → first ≡ p.first →
    last ≡ p.last →
    record {
      room = room;
      address = p.address;
      index = p.index;
      first = first;
      last = last;
      useful = p.useful;
    } ≡ p
fields_again p room first last r f l = rw (r, f, l) refl

-- a packet that can be written reads back
pub read_packet-bytes_of_packet : (p : PacketFields) → IsPacket p
    → read_packet (bytes_of_packet p) ≡ Some p
unfolding read_packet bytes_of_packet
read_packet-bytes_of_packet p h =
    let code : ℕ = code_of_room p.room in
    let covered : List ℕ = covered_bytes p in
    let all : List ℕ = covered ++ to_be_bytes w16 (crc_of covered) in
    let field : List ℕ = p.useful ++ replicate (p.room - length p.useful) 0 in
    let is : HasCode p.room = HasCode-length p.room h.room in
    let c : code < 4 = is.fits in
    let whole : p.room + 5 ≡ 24 * (code + 1) = is.whole in
    let useful : length p.useful ≤ p.room = h.useful in
    let filled : length field ≡ p.room = length-field p.useful p.room h.useful in
    let size : length all ≡ 24 * (code + 1) =
    omega (arith, length-append covered (to_be_bytes w16 (crc_of covered))) in
    ap (packet_with all)
    (fields-header_word code p.index p.address (length p.useful) p.first p.last c h.index
    h.address.1 (omega arith))
    ∙ packet_with-written all field p.useful code p.index (from_bool p.first) (from_bool p.last)
    p.address
    (p.room - length p.useful) (ap (drop 3) (without_crc-append covered _ _)) refl size
    (ends_in_crc-append covered) h.address.0
    ∙ ap Some (fields_again p (length field) (from_bool p.first == 1) (from_bool p.last == 1) filled
    (from_bool-is_one p.first) (from_bool-is_one p.last))

-- a packet's bytes are bytes
pub AreBytes-bytes_of_packet : (p : PacketFields) → length p.useful < 256 → AreBytes p.useful →
    AreBytes (bytes_of_packet p)
unfolding bytes_of_packet
AreBytes-bytes_of_packet p h useful =
    let word : ℕ = header_word (code_of_room p.room) p.index p.first p.last p.address in
    let padding : List ℕ = replicate (p.room - length p.useful) 0 in
    let field : AreBytes (p.useful ++ padding) =
    AreBytes-append p.useful padding useful
    (All-replicate IsByte (p.room - length p.useful) 0 (omega arith)) in
    AreBytes-append (covered_bytes p) (to_be_bytes w16 (crc_of (covered_bytes p)))
    (AreBytes-append (to_be_bytes w16 word) (length p.useful ∷ (p.useful ++ padding))
    (AreBytes-to_be_bytes word)
    (AreBytes-cons (length p.useful) (p.useful ++ padding) h field))
    (AreBytes-to_be_bytes (crc_of (covered_bytes p)))
