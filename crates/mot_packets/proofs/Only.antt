-- Only a packet's own bytes read as it.
use Rattle.std.proofs.Common.{◌≡◌, ℕ, ◌+◌, ◌-◌, ◌*◌, ◌%◌, ◌^◌, ◌<◌, ◌≤◌, List, [], ◌∷◌, ◌++◌, true}
use Rattle.std.proofs.Common.{refl, sym, length, take, drop, replicate, arith, ap, subst, ◌∙◌}
use Rattle.std.proofs.Common.{length-take, length-drop, Some}
use Rattle.std.proofs.Math.Nat.{mod-eq_of_lt}
use Rattle.std.proofs.lemmas.Bool.{and_parts, eqb-true, leb-true, ltb-true}
use Rattle.std.proofs.lemmas.List.{take-append-drop, take-take}
use Rattle.std.proofs.lemmas.List.Elements.{All-take}
use Rattle.std.proofs.lemmas.Option.{cond_some}
use Rattle.std.specs.Prelude.{◌==◌}
use Rattle.std.specs.Int.{w16, to_be_bytes, from_bool}
use Rattle.std.specs.List.{list_all}
use Rattle.mot_base.specs.Checksum.{crc_of, without_crc, ends_in_crc}
use Rattle.mot_base.proofs.Laws.{append-without_crc}
use Rattle.mot_numbers.specs.Reading.{IsByte, AreBytes, number_in, fields}
use Rattle.mot_numbers.proofs.Laws.{AreBytes-append, AreBytes-cons, AreBytes-to_be_bytes, cons_eq}
use Rattle.mot_numbers.proofs.Laws.{fields-injective, number_in-fits, number_in-injective}
use Rattle.mot_numbers.proofs.Laws.{one_or_zero}
use Rattle.mot_packets.specs.Packet.{PacketFields, packet_with, read_packet}
use Rattle.mot_packets.specs.Written.{IsPacket, header_word, code_of_room, covered_bytes}
use Rattle.mot_packets.specs.Written.{bytes_of_packet}
use Rattle.mot_packets.proofs.HeaderWord.{IsLength-code, fields-header_word}

abbrev widths : List ℕ
widths = 2 ∷ 2 ∷ 1 ∷ 1 ∷ 10 ∷ 1 ∷ 7 ∷ []

-- the header's fields, as a packet has them
abbrev header_of : PacketFields → List ℕ
header_of p =
    code_of_room p.room ∷ p.index ∷ from_bool p.first ∷ from_bool p.last ∷ p.address ∷ 0
    ∷ length p.useful ∷ []

-- what was read of a packet's bytes, whose header has these fields
record IsRead (bytes header : List ℕ) (p : PacketFields) : Type 0 where
  as_packet : header ≡ header_of p
  size : length bytes ≡ p.room + 5
  code : code_of_room p.room < 4
  field : drop 3 (without_crc bytes) ≡ p.useful ++ replicate (p.room - length p.useful) 0
  crc : ends_in_crc bytes ≡ true
  is_packet : IsPacket p

only_zeros : (xs : List ℕ) → list_all (λ b. b == 0) xs ≡ true → xs ≡ replicate (length xs) 0
only_zeros [] e = refl
only_zeros (x ∷ xs) e =
    let parts = and_parts (x == 0) (list_all (λ b. b == 0) xs) e in
    cons_eq (eqb-true x 0 parts.0) (only_zeros xs parts.1)

-- a data field by the part in use and the padding
filled : (field : List ℕ) (count : ℕ) → count ≤ length field
    → list_all (λ b. b == 0) (drop count field) ≡ true →
    field ≡ take count field ++ replicate (length field - length (take count field)) 0
filled field count h z =
    let left : length (drop count field) ≡ length field - count = length-drop count field in
    let used : length (take count field) ≡ count = omega (arith, length-take count field) in
    let zeros : drop count field ≡ replicate (length field - length (take count field)) 0 =
    only_zeros (drop count field) z ∙ ap (λ n. replicate n 0) (omega arith) in
    sym (take-append-drop count field) ∙ ap (λ r. take count field ++ r) zeros

module _ (bytes : List ℕ) (code index first last address command useful : ℕ) where
  abbrev header : List ℕ
  header = code ∷ index ∷ first ∷ last ∷ address ∷ command ∷ useful ∷ []

  IsRead-packet_with : (p : PacketFields) → code < 4 → index < 4 → first < 2 → last < 2
      → address < 1024 →
      useful < 128 → packet_with bytes header ≡ Some p → IsRead bytes header p
  IsRead-packet_with p c i f l a u e =
      let field : List ℕ = drop 3 (without_crc bytes) in
      let found : PacketFields = record {
        room = length field;
        address = address;
        index = index;
        first = first == 1;
        last = last == 1;
        useful = take useful field;
      } in
      let some = cond_some _ found p e in
      let checksum = and_parts _ _ some.0 in
      let zeros = and_parts _ _ checksum.0 in
      let inside = and_parts _ _ zeros.0 in
      let plain = and_parts _ _ inside.0 in
      let addressed = and_parts _ _ plain.0 in
      let size : length bytes ≡ 24 * (code + 1) =
      eqb-true (length bytes) (24 * (code + 1)) addressed.0 in
      let fits : useful ≤ length field = leb-true useful (length field) inside.1 in
      let room : length field ≡ length bytes - 2 - 3 =
      omega (arith, length-drop 3 (without_crc bytes), length-take (length bytes - 2) bytes) in
      let whole : length field + 5 ≡ 24 * (code + 1) = omega arith in
      let named : code_of_room (length field) ≡ code = omega arith in
      let used : length (take useful field) ≡ useful = omega (arith, length-take useful field) in
      let as_packet : header ≡ header_of found =
      cons_eq (sym named) (cons_eq refl (cons_eq (one_or_zero first f) (cons_eq (one_or_zero last l)
      (cons_eq refl (cons_eq (eqb-true command 0 plain.1) (cons_eq (sym used) refl)))))) in
      let is_packet : IsPacket found = record {
        room = IsLength-code (length field) code whole c;
        index = i;
        address = (ltb-true 0 address addressed.1, a);
        useful = omega arith;
      } in
      subst (IsRead bytes header) some.1
      (record {
        as_packet = as_packet;
        size = omega arith;
        code = omega arith;
        field = filled field useful fits zeros.1;
        crc = checksum.1;
        is_packet = is_packet;
      })

IsRead-read_packet : (bytes : List ℕ) (p : PacketFields) → read_packet bytes ≡ Some p →
    IsRead bytes (fields widths (number_in (take 3 bytes))) p
unfolding read_packet
IsRead-read_packet bytes p e =
    IsRead-packet_with bytes _ _ _ _ _ _ _ p (omega arith) (omega arith) (omega arith) (omega arith)
    (omega arith) (omega arith) e

-- what reads as a packet is its bytes
pub read_packet-only : (bytes : List ℕ) (p : PacketFields) → AreBytes bytes
    → read_packet bytes ≡ Some p →
    bytes ≡ bytes_of_packet p
unfolding bytes_of_packet
read_packet-only bytes p all e =
    let read : IsRead bytes (fields widths (number_in (take 3 bytes))) p =
    IsRead-read_packet bytes p e in
    let word : ℕ = header_word (code_of_room p.room) p.index p.first p.last p.address in
    let start : List ℕ = to_be_bytes w16 word ++ length p.useful ∷ [] in
    let size : length bytes ≡ p.room + 5 = read.size in
    let code : code_of_room p.room < 4 = read.code in
    let useful : length p.useful ≤ p.room = read.is_packet.useful in
    let front : AreBytes (take 3 bytes) = All-take IsByte 3 bytes all in
    let front' : AreBytes start =
    AreBytes-append (to_be_bytes w16 word) (length p.useful ∷ []) (AreBytes-to_be_bytes word)
    (AreBytes-cons (length p.useful) [] (omega arith) (All-take IsByte 0 bytes all)) in
    let len : length (take 3 bytes) ≡ 3 = omega (arith, length-take 3 bytes) in
    let fits : number_in (take 3 bytes) < 2 ^ 24 =
    subst (λ (n : ℕ). number_in (take 3 bytes) < 256 ^ n) len
    (number_in-fits (take 3 bytes) front) in
    let fits' : number_in start < 2 ^ 24 = number_in-fits start front' in
    let same : fields widths (number_in (take 3 bytes)) ≡ fields widths (number_in start) =
    read.as_packet
    ∙ sym (fields-header_word (code_of_room p.room) p.index p.address (length p.useful) p.first
    p.last code
    read.is_packet.index read.is_packet.address.1 (omega arith)) in
    let bits : number_in (take 3 bytes) % 2 ^ 24 ≡ number_in start % 2 ^ 24 =
    fields-injective widths _ _ same in
    let number : number_in (take 3 bytes) ≡ number_in start =
    sym (mod-eq_of_lt fits) ∙ bits ∙ mod-eq_of_lt fits' in
    let header : take 3 bytes ≡ start =
    number_in-injective (take 3 bytes) start len front front' number in
    let header' : take 3 (without_crc bytes) ≡ start =
    take-take 3 (length bytes - 2) bytes (omega arith) ∙ header in
    let covered : without_crc bytes ≡ covered_bytes p =
    sym (take-append-drop 3 (without_crc bytes)) ∙ ap (λ h. h ++ drop 3 (without_crc bytes)) header'
    ∙ ap (λ r. start ++ r) read.field in
    append-without_crc bytes read.crc ∙ ap (λ c. c ++ to_be_bytes w16 (crc_of c)) covered
