-- What a crash leaves while bytes are written between two syncs.
use Rattle.std.proofs.Common.{◌≡◌, ◌⊎◌, inl, inr, ℕ, ◌+◌, ◌-◌, List, length, drop, get_or}
use Rattle.std.proofs.Common.{slice_range, sym, ◌∙◌, ap, subst, arith, add-zero}
use Rattle.disk_model.specs.Disk.{State, AgreeOutside, IsHonestDisk, IsFirm, IsStill, WritesWithin}
use Rattle.disk_model.specs.Disk.{Torn, Throughout}
use Rattle.disk_model.proofs.Laws.{begins, goes_on, stays}
use Rattle.disk_model.proofs.Laws.{only_bytes}
use Rattle.mot_journal.specs.Inner.Steps.{IsWritten}
use Rattle.std.proofs.lemmas.List.{get_or-take, get_or-drop}

-- the first of a range of one byte is the byte at its place
pub first_of_one : (c : List ℕ) (at : ℕ) → get_or (slice_range c at (at + 1)) 0 0 ≡ get_or c at 0
first_of_one c at =
    get_or-take (at + 1 - at) (drop at c) 0 0 (omega arith) ∙ get_or-drop at c 0 0
    ∙ ap (λ k. get_or c k 0) (add-zero at)

-- what a crash leaves: an old image, or what was read with any bytes in this range
abbrev pub Outcome : ℕ → ℕ → State → List ℕ → Type 0
Outcome at n old c = old.MayLeave c ⊎ AgreeOutside at n old.bytes c

-- the first sync leaves an old image
pub to_sync : (at n : ℕ) {old synced : State} → IsHonestDisk old → IsStill old synced
    → Throughout old synced (Outcome at n old)
to_sync at n {old} {synced} sound still =
    stays old old synced (Outcome at n old)
    (begins old (Outcome at n old) sound (λ c left. inl left)) still.time

-- what a sync of an honest disk and the write behind it found
pub record Found (at n : ℕ) (old synced wrote : State) : Type 0 where
  pub sound : IsHonestDisk old
  pub still : IsStill old synced
  pub synced_sound : IsHonestDisk synced
  pub firm : IsFirm synced
  pub writes : WritesWithin at n synced wrote
  pub still_honest : wrote.IsHonest

module _ {at n : ℕ} {old synced wrote : State} (found : Found at n old synced wrote) where
  -- so it is until the range is written
  pub to_write : Throughout old wrote (Outcome at n old)
  to_write =
      goes_on old synced wrote (Outcome at n old) (Torn at n synced)
      (to_sync at n found.sound found.still) found.writes.time
      (λ c torn. inr (subst (λ d. AgreeOutside at n d c)
      (only_bytes synced found.synced_sound found.firm torn.0 torn.1 ∙ found.still.bytes)
      torn.2))

  -- and up to the end of the last sync
  pub to_end : {last : State} → IsStill wrote last → Throughout old last (Outcome at n old)
  to_end {last} still = stays old wrote last (Outcome at n old) to_write still.time

  -- after the last sync each image has the bytes that were written
  pub written : {last : State} {bytes : List ℕ} → length bytes ≡ n
      → slice_range wrote.bytes at (at + n) ≡ bytes
      → IsStill wrote last → IsHonestDisk last → IsFirm last → (c : List ℕ) → last.MayLeave c
      → IsWritten at bytes old.bytes c
  written {last} {bytes} long is still sound firm c left =
      let same : c ≡ wrote.bytes = only_bytes last sound firm c left ∙ still.bytes in
      let agree : AgreeOutside at n old.bytes wrote.bytes =
      subst (λ d. AgreeOutside at n d wrote.bytes) found.still.bytes found.writes.bytes in
      subst (λ b. IsWritten at bytes old.bytes b) (sym same) (record {
        agree = subst (λ k. AgreeOutside at k old.bytes wrote.bytes) (sym long) agree;
        slot_is = ap (λ k. slice_range wrote.bytes at (at + k)) long ∙ is;
      })
