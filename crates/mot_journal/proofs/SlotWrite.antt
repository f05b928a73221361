-- What a crash leaves while a slot is written and its gate opened.
use Rattle.std.proofs.Common.{◌≡◌, inl, inr, ⊎_elim, ℕ, suc, ◌+◌, ◌-◌, ◌<◌, List, [], ◌∷◌, length}
use Rattle.std.proofs.Common.{take, drop, get_or, slice_range, refl, sym, ◌∙◌, ap, arith}
use Rattle.std.proofs.Math.Seq.{drop-cons, take-length}
use Rattle.std.proofs.lemmas.List.{length-drop}
use Rattle.disk_model.specs.Disk.{State, AgreeOutside, IsHonestDisk, WritesWithin, Torn, Throughout}
use Rattle.disk_model.proofs.Laws.{agree_refl, agree_trans, agree_more, at_end, begins, goes_on}
use Rattle.disk_model.proofs.Laws.{joins}
use Rattle.mot_journal.specs.Inner.Steps.{IsBehindGate, IsWritten, IsGated, Publishes}
use Rattle.mot_journal.proofs.Laws.{drop_behind}
use Rattle.mot_journal.proofs.Publishing.{Outcome, first_of_one}

-- all the bytes of a slot but one, from the second on, are those behind its gate
pub tail_whole : (slot : List ℕ) → take (length slot - 1) (drop 1 slot) ≡ drop 1 slot
tail_whole slot =
    let same : length slot - 1 ≡ length (drop 1 slot) = omega (arith, length-drop 1 slot) in
    ap (λ k. take k (drop 1 slot)) same ∙ take-length (drop 1 slot)

tail_length : (slot : List ℕ) → 0 < length slot → length slot ≡ suc (length (drop 1 slot))
tail_length slot some = omega (arith, some, length-drop 1 slot)

-- a slot in two parts
whole_slot : (slot : List ℕ) → 0 < length slot → slot ≡ get_or slot 0 0 ∷ drop 1 slot
whole_slot [] some = absurd (omega (arith, some))
whole_slot (x ∷ slot) some = refl

take_next : (x : ℕ) (l : List ℕ) (k n : ℕ) → k ≡ suc n → take k (x ∷ l) ≡ x ∷ take n l
take_next x l k n is = ap (λ i. take i (x ∷ l)) is

-- with its gate, what is behind a gate is the slot
pub slot_rebuilt : (at : ℕ) (slot image : List ℕ) → 0 < length slot → at < length image
    → get_or image at 0 ≡ get_or slot 0 0
    → slice_range image (at + 1) (at + 1 + length (drop 1 slot)) ≡ drop 1 slot
    → slice_range image at (at + length slot) ≡ slot
slot_rebuilt at slot image some inside gate rest =
    let n : ℕ = length (drop 1 slot) in
    let next : suc at ≡ at + 1 = omega arith in
    let few : at + length slot - at ≡ suc n = omega (arith, tail_length slot some) in
    let tail : take n (drop (suc at) image) ≡ drop 1 slot =
    ap (λ k. take n (drop k image)) next
    ∙ ap (λ k. take k (drop (at + 1) image)) (let e : n ≡ at + 1 + n - (at + 1) = omega arith in e)
    ∙ rest in
    ap (λ l. take (at + length slot - at) l) (drop-cons image at 0 inside)
    ∙ take_next (get_or image at 0) (drop (suc at) image) (at + length slot - at) n few
    ∙ ap (λ l. get_or image at 0 ∷ l) tail ∙ ap (λ x. x ∷ drop 1 slot) gate
    ∙ sym (whole_slot slot some)

-- Until the slot is written, a crash leaves an old image torn behind the gate.
pub to_write : (at : ℕ) (slot : List ℕ) {old wrote : State} → IsHonestDisk old
    → WritesWithin (at + 1) (length (drop 1 slot)) old wrote
    → Throughout old wrote (IsGated at slot old)
to_write at slot {old} {wrote} sound writes =
    let n = length (drop 1 slot) in
    goes_on old old wrote (IsGated at slot old) (Torn (at + 1) n old)
    (begins old (IsGated at slot old) sound (λ c left. inl (c, left, agree_refl (at + 1) n c)))
    writes.time (λ c torn. inl torn)

-- what the write behind the gate found
pub record Found (at : ℕ) (slot : List ℕ) (old wrote : State) : Type 0 where
  pub some : 0 < length slot
  pub sound : IsHonestDisk old
  pub inside : at < length old.bytes
  pub writes : WritesWithin (at + 1) (length (drop 1 slot)) old wrote
  pub rest : slice_range wrote.bytes (at + 1) (at + 1 + length (drop 1 slot)) ≡ drop 1 slot
  pub wrote_sound : IsHonestDisk wrote

module _ {at : ℕ} {slot : List ℕ} {old wrote : State} (found : Found at slot old wrote) where
  -- an image changed at the gate alone has the slot behind it
  behind : (c : List ℕ) → AgreeOutside at 1 wrote.bytes c → IsBehindGate at slot old.bytes c
  behind c agree =
      let n = length (drop 1 slot) in
      let long = tail_length slot found.some in
      let one = agree_more (at + 1) n at (length slot) old.bytes wrote.bytes (omega arith)
      (omega (arith, long)) found.writes.bytes in
      let two = agree_more at 1 at (length slot) wrote.bytes c (omega arith)
      (omega (arith, long)) agree in
      record {
        agree = agree_trans at (length slot) old.bytes wrote.bytes c one two;
        rest = ap (λ l. take (at + 1 + n - (at + 1)) l)
            (drop_behind at 1 wrote.bytes c agree (at + 1) (omega arith))
            ∙ found.rest;
      }

  -- while the gate is published, it leaves the slot behind any gate, too
  pub to_end : {last : State} → Publishes at 1 wrote last
      → Throughout old last (IsGated at slot old)
  to_end {last} publishes =
      let so_far = to_write at slot found.sound found.writes in
      joins old wrote last (IsGated at slot old) (Outcome at 1 wrote) so_far publishes.time
      (λ c outcome.
      ⊎_elim (λ left. at_end old wrote (IsGated at slot old) found.wrote_sound so_far c left)
      (λ agree. inr (behind c agree)) outcome)

  -- each image that has the gate has the slot
  pub written : (c : List ℕ) → IsWritten at (get_or slot 0 0 ∷ []) wrote.bytes c
      → IsWritten at slot old.bytes c
  written c gate =
      let is = behind c gate.agree in
      let inside : at < length c = omega (arith, found.inside, is.agree.len_is) in
      let first : get_or c at 0 ≡ get_or slot 0 0 =
      sym (first_of_one c at) ∙ ap (λ l. get_or l 0 0) gate.slot_is in
      record {
        agree = is.agree;
        slot_is = slot_rebuilt at slot c found.some inside first is.rest;
      }
