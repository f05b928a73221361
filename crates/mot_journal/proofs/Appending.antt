-- What a crash leaves during an `append`.
use Rattle.std.proofs.Common.{◌≡◌, inl, inr, ⊎_elim, ℕ, ◌+◌, ◌<◌, ◌≤◌, false, List, [], ◌∷◌, ◌++◌}
use Rattle.std.proofs.Common.{length, take, drop, get_or, Some, sym, ◌∙◌, ap, subst, arith}
use Rattle.std.specs.Prelude.{slice_index}
use Rattle.std.proofs.lemmas.Bool.{cases_eq}
use Rattle.std.proofs.lemmas.Bool.Decides.{nat_tests}
use Rattle.std.proofs.lemmas.List.{length-drop}
use Rattle.disk_model.specs.Disk.{State, AgreeOutside, IsHonestDisk, Torn, Throughout}
use Rattle.disk_model.proofs.Laws.{agree_more, weakens}
use Rattle.mot_journal.specs.declared.record.Record.{Record}
use Rattle.mot_journal.specs.Slot.{is_open, read_slot, slot_size, slot_count, bytes_of_slot}
use Rattle.mot_journal.specs.Inner.Steps.{IsBehindGate, IsWritten, IsGated, start_of_slot}
use Rattle.mot_journal.specs.Journal.{JournalView, HasRecords, HoldsRecords, FoldOf, WithoutOrWith}
use Rattle.mot_journal.specs.Journal.{HasReadArea}
use Rattle.mot_journal.proofs.NextSlot.{stays_closed, opens, same_area, gate_was_shut, gate_at}
use Rattle.mot_journal.proofs.NextSlot.{slot_longer_than_gate, slot_within}
use Rattle.mot_journal.proofs.Parts.{HasParts, has_parts, parts_have}
use Rattle.mot_journal.proofs.SlotWrite.{slot_rebuilt}
use Rattle.mot_journal.proofs.Slots.{shut_is}
use Rattle.mot_numbers.specs.Geometry.{length_of}
use Rattle.mot_journal.proofs.Fill.{range_whole}

closed_byte : (slot : List ℕ) → is_open slot ≡ false → slice_index slot 0 ≡ 0xA5 → ⊥
closed_byte slot is e = grind (arith, nat_tests)

-- what an append found of the journal and of the slot that it writes
pub record Found (j : JournalView) (records : List Record) (r : Record) (start : State)
    : Type 0 where
  pub sound : IsHonestDisk start
  pub holds : HoldsRecords j records start
  pub fold : FoldOf j (records ++ r ∷ [])
  pub room : j.count < slot_count j.layout j.geometry
  pub two_halves : j.half ≤ 1
  pub long : length_of j.geometry ≤ start.len
  pub reads : read_slot j.geometry j.layout (bytes_of_slot j.layout r) ≡ Some r
  pub size_is : length (bytes_of_slot j.layout r) ≡ slot_size j.layout
  pub gate_is : get_or (bytes_of_slot j.layout r) 0 0 ≡ 0xA5

module _ (j : JournalView) (records : List Record) (r : Record) (start : State)
    (found : Found j records r start) where
  abbrev slot : List ℕ
  slot = bytes_of_slot j.layout r

  abbrev place : ℕ
  place = start_of_slot j j.count

  abbrev size : ℕ
  size = slot_size j.layout

  -- what a crash leaves during an append
  abbrev pub Outcome : List ℕ → Type 0
  Outcome = WithoutOrWith j records r start

  some : 0 < length slot
  some = omega (arith, found.size_is, slot_longer_than_gate j.layout)

  outside : (d c : List ℕ) → AgreeOutside place (length slot) d c → AgreeOutside place size d c
  outside d c agree = subst (λ n. AgreeOutside place n d c) found.size_is agree

  start_parts : HasParts j records start.bytes
  start_parts = has_parts j records start.bytes (found.holds.each start.bytes found.sound.bytes)

  long_enough : (c : List ℕ) → AgreeOutside place size start.bytes c → place < length c
  long_enough c agree =
      let whole = (found.sound.images start.bytes found.sound.bytes).len_is in
      let within = slot_within j records start.bytes c start_parts found.holds.count found.room
      found.two_halves agree in
      omega (arith, whole, agree.len_is, within, found.long, slot_longer_than_gate j.layout)

  -- the slot's bytes behind its gate are torn, in an image from the start
  torn : (c : List ℕ) → Torn (place + 1) (length (drop 1 slot)) start c → Outcome c
  torn c is =
      let d : List ℕ = is.0 in
      let left = is.1 in
      let agree = is.2 in
      let n : length (drop 1 slot) + 1 ≡ length slot = omega (arith, some, length-drop 1 slot) in
      let more = outside d c (agree_more (place + 1) (length (drop 1 slot)) place (length slot) d c
      (omega arith) (omega (arith, n)) agree) in
      let parts = has_parts j records d (found.holds.each d left) in
      let gate : slice_index (take size (drop place c)) 0
      ≡ slice_index (take size (drop place d)) 0 =
      gate_at size place c (omega (arith, slot_longer_than_gate j.layout))
      ∙ agree.before place (omega arith)
      ∙ sym (gate_at size place d (omega (arith, slot_longer_than_gate j.layout))) in
      let was = gate_was_shut j records d c parts found.holds.count found.room found.two_halves
      more in
      let closed : is_open (take size (drop place c)) ≡ false =
      shut_is (take size (drop place c))
      (λ e. closed_byte (take size (drop place d)) was (sym gate ∙ e)) in
      inl (
        parts_have j records c (stays_closed j records d c parts found.holds.count found.room
            found.two_halves more closed),
        (
          d,
          left,
          same_area j records d c parts found.holds.count found.room found.two_halves
              more,
        ),
      )

  -- the slot stands with its gate open
  pub with_slot : (c : List ℕ) → IsWritten place slot start.bytes c
      → HasRecords j (records ++ r ∷ []) c × HasReadArea j start c
  with_slot c is =
      let more = outside start.bytes c is.agree in
      let slot_is : take size (drop place c) ≡ slot =
      ap (λ n. take n (drop place c)) (sym found.size_is) ∙ sym (range_whole place (length slot) c)
      ∙ is.slot_is in (
        parts_have j (records ++ r ∷ []) c
            (opens j records start.bytes c start_parts found.holds.count found.room
            found.two_halves more r slot_is found.reads found.fold),
        same_area j records start.bytes c start_parts found.holds.count found.room
            found.two_halves more,
      )

  behind : (c : List ℕ) → IsBehindGate place slot start.bytes c → Outcome c
  behind c is =
      let more = outside start.bytes c is.agree in
      elim (cases_eq (get_or c place 0) 0xA5) [
        | inl gate ↦
            inr (with_slot c (record {
              agree = is.agree;
              slot_is = slot_rebuilt place slot c some (long_enough c more)
                  (gate ∙ sym found.gate_is) is.rest;
            }))
        | inr gate ↦
            let closed : is_open (take size (drop place c)) ≡ false =
            shut_is (take size (drop place c))
            (λ e. gate (sym (gate_at size place c
            (omega (arith, slot_longer_than_gate j.layout))) ∙ e)) in
            inl (
              parts_have j records c (stays_closed j records start.bytes c start_parts
                  found.holds.count found.room found.two_halves more closed),
              (
                start.bytes,
                found.sound.bytes,
                same_area j records start.bytes c start_parts
                    found.holds.count found.room found.two_halves more,
              ),
            )
      ]

  -- an image with a torn slot, or with any gate, has the old records, or also the new one
  pub outcome : (c : List ℕ) → IsGated place slot start c → Outcome c
  outcome c is = ⊎_elim (torn c) (behind c) is

  -- a slot written gate last keeps the old records, or has also the new one, at each moment
  pub any_moment : (last : State) → Throughout start last (IsGated place slot start)
      → Throughout start last Outcome
  any_moment last run = weakens start last (IsGated place slot start) Outcome run outcome
