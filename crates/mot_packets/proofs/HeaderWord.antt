-- The 16 bits of a packet's header before the useful data length.
use Rattle.std.proofs.Common.{◌≡◌, ℕ, zero, suc, ◌+◌, ◌*◌, ◌/◌, ◌%◌, ◌<◌, Bool, true, false, []}
use Rattle.std.proofs.Common.{◌∷◌, refl, arith, inl, inr}
use Rattle.std.specs.Int.{from_bool}
use Rattle.mot_numbers.specs.Reading.{number_in, fields}
use Rattle.mot_numbers.specs.PacketLength.{IsLength, room_of, code_of}
use Rattle.mot_numbers.specs.declared.packet_length.PacketLength.{PacketLength}
use Rattle.mot_numbers.specs.declared.packet_length.PacketLength.TheVariants.{P24, P48, P72, P96}
use Rattle.mot_numbers.proofs.Laws.{cons_eq}
use Rattle.mot_packets.specs.Written.{header_word, code_of_room}

pub from_bool_fits : (b : Bool) → from_bool b < 2
from_bool_fits true = omega arith
from_bool_fits false = omega arith

-- the fields of the header's three bytes
fields-of_bytes : (code index first last address count word : ℕ) →
    word ≡ 16384 * code + 4096 * index + 2048 * first + 1024 * last + address → code < 4 → index < 4
    →
    first < 2 → last < 2 → address < 1024 → count < 128 →
    fields (2 ∷ 2 ∷ 1 ∷ 1 ∷ 10 ∷ 1 ∷ 7 ∷ [])
    (number_in ((word / 256 % 256) ∷ (word % 256) ∷ count ∷ []))
    ≡ code ∷ index ∷ first ∷ last ∷ address ∷ 0 ∷ count ∷ []
fields-of_bytes code index first last address count word e c i f l a n =
    cons_eq (omega arith) (cons_eq (omega arith) (cons_eq (omega arith) (cons_eq (omega arith)
    (cons_eq (omega arith) (cons_eq (omega arith) (cons_eq (omega arith) refl))))))

-- the 24 bits of a header, written as a word and a count, are its fields
pub fields-header_word : (code index address count : ℕ) (first last : Bool) → code < 4 → index < 4 →
    address < 1024 → count < 128 →
    let word = header_word code index first last address in
    fields (2 ∷ 2 ∷ 1 ∷ 1 ∷ 10 ∷ 1 ∷ 7 ∷ [])
    (number_in ((word / 256 % 256) ∷ (word % 256) ∷ count ∷ []))
    ≡ code ∷ index ∷ from_bool first ∷ from_bool last ∷ address ∷ 0 ∷ count ∷ []
fields-header_word code index address count first last c i a n =
    fields-of_bytes code index (from_bool first) (from_bool last) address count
    (header_word code index first last address) refl c i (from_bool_fits first)
    (from_bool_fits last) a n

-- the code of a length's room is the code of the length
pub code_of_room-room_of : (length : PacketLength) → code_of_room (room_of length) ≡ code_of length
code_of_room-room_of P24 = refl
code_of_room-room_of P48 = refl
code_of_room-room_of P72 = refl
code_of_room-room_of P96 = refl

-- a packet's length by its code
pub record HasCode (room : ℕ) : Type 0 where
  -- the room's code fits in two bits
  pub fits : code_of_room room < 4
  -- the room, with five bytes more, is 24 bytes for its code and one more
  pub whole : room + 5 ≡ 24 * (code_of_room room + 1)

-- a room that is five bytes short of a packet's length has a code
pub HasCode-length : (room : ℕ) → IsLength (room + 5) → HasCode room
HasCode-length room h = elim h [
  | inl e ↦ record { fits = omega arith; whole = omega arith }
  | inr h' ↦ elim h' [
    | inl e ↦ record { fits = omega arith; whole = omega arith }
    | inr h'' ↦ elim h'' [
      | inl e ↦ record { fits = omega arith; whole = omega arith }
      | inr e ↦ record { fits = omega arith; whole = omega arith }
    ]
  ]
]

-- the same of a length of so many times 24 bytes
pub IsLength-code : (room code : ℕ) → room + 5 ≡ 24 * (code + 1) → code < 4 → IsLength (room + 5)
IsLength-code room zero e h = inl (omega arith)
IsLength-code room (suc zero) e h = inr (inl (omega arith))
IsLength-code room (suc (suc zero)) e h = inr (inr (inl (omega arith)))
IsLength-code room (suc (suc (suc zero))) e h = inr (inr (inr (omega arith)))
IsLength-code room (suc (suc (suc (suc n)))) e h = absurd (omega arith)

-- each length's room, with five bytes more, is the length of some packet
pub IsLength-room_of : (length : PacketLength) → IsLength (room_of length + 5)
IsLength-room_of P24 = inl refl
IsLength-room_of P48 = inr (inl refl)
IsLength-room_of P72 = inr (inr (inl refl))
IsLength-room_of P96 = inr (inr (inr refl))
