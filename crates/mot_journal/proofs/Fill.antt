-- What a crash leaves while a half is filled, slot by slot.
use Rattle.std.proofs.Common.{◌≡◌, ℕ, ◌+◌, ◌-◌, ◌*◌, ◌<◌, ◌≤◌, List, take, drop, slice_range, ◌∙◌}
use Rattle.std.proofs.Common.{ap, arith, below_more}
use Rattle.std.specs.Prelude.{slice_get}
use Rattle.disk_model.specs.Disk.{State, AgreeOutside, IsHonestDisk, WritesWithin, Torn}
use Rattle.disk_model.proofs.Laws.{agree_refl, agree_trans, agree_more, begins, goes_on, at_end}
use Rattle.mot_journal.specs.declared.layout.Layout.{Layout}
use Rattle.mot_journal.specs.declared.record.Record.{Record}
use Rattle.mot_journal.specs.Slot.{slot_size, slot_count}
use Rattle.mot_journal.specs.Inner.Steps.{ChangesWithin, HasSlots, slot_from, IsReadable}
use Rattle.mot_journal.proofs.Laws.{part}
use Rattle.mot_journal.proofs.NextSlot.{slot_fits, half_ends}
use Rattle.mot_numbers.specs.declared.geometry.Geometry.{Geometry}
use Rattle.mot_numbers.specs.Geometry.{half_start, half_size, area_start}
use Rattle.mot_journal.proofs.NextSlot.{slots_apart}

module _ (start len : ℕ) (old : State) where
  -- a disk that is left as it is changes within any range at most
  pub unchanged : IsHonestDisk old → ChangesWithin start len old old
  unchanged sound = record {
    bytes = agree_refl start len old.bytes;
    time = begins old (Torn start len old) sound (λ c left. (c, left, agree_refl start len c));
  }

  -- one write more within the range
  pub one_more : (mid new : State) (at n : ℕ) → IsHonestDisk mid → ChangesWithin start len old mid
      → WritesWithin at n mid new
      → start ≤ at → at + n ≤ start + len → ChangesWithin start len old new
  one_more mid new at n sound so_far writes low high = record {
    bytes = agree_trans start len old.bytes mid.bytes new.bytes so_far.bytes
        (agree_more at n start len mid.bytes new.bytes low high writes.bytes);
    time = goes_on old mid new (Torn start len old) (Torn at n mid) so_far.time writes.time
        (λ c torn.
        let from = at_end old mid (Torn start len old) sound so_far.time torn.0 torn.1 in (
          from.0,
          from.1,
          agree_trans start len from.0 torn.0 c from.2
              (agree_more at n start len torn.0 c low high torn.2),
        ));
  }

-- one slot more
pub slot_more : (g : Geometry) (half : ℕ) (layout : Layout) (given : List Record) (n : ℕ)
    (mid new : List ℕ)
    → HasSlots g half layout given n mid
    → AgreeOutside (half_start g half + n * slot_size layout) (slot_size layout) mid new
    → take (slot_size layout) (drop (half_start g half + n * slot_size layout) new)
    ≡ slot_from layout (slice_get given n)
    → IsReadable g layout (slice_get given n)
    → HasSlots g half layout given (n + 1) new
slot_more g half layout given n mid new so_far agree here reads =
    below_more
    (λ i. (take (slot_size layout) (drop (half_start g half + i * slot_size layout) new)
    ≡ slot_from layout (slice_get given i))
    × IsReadable g layout (slice_get given i)) n
    (λ i lt.
    let was = so_far i lt in (
      part (half_start g half + n * slot_size layout) (slot_size layout) mid new agree
          (half_start g half + i * slot_size layout)
          (slot_size layout) (omega (arith, slots_apart layout i n lt)) ∙ was.0,
      was.1,
    ))
    (here, reads)

-- each slot ends in its half
pub slot_ends : (g : Geometry) (half : ℕ) (layout : Layout) (i : ℕ) → half ≤ 1
    → i < slot_count layout g
    → (half_start g half + i * slot_size layout + slot_size layout
    ≤ half_start g half + half_size g)
    × (half_start g half + i * slot_size layout + slot_size layout ≤ area_start g)
slot_ends g half layout i le lt =
    let fits = slot_fits g layout i lt in
    let far = half_ends g half le in
    (omega (arith, fits), omega (arith, fits, far))

-- the bytes of a range are as many from its place on
pub range_whole : (at n : ℕ) (l : List ℕ) → slice_range l at (at + n) ≡ take n (drop at l)
range_whole at n l = ap (λ k. take k (drop at l)) (let e : at + n - at ≡ n = omega arith in e)
