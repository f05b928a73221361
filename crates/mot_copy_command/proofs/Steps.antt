-- What writes of bodies leave on the new disk, and which disk failed.
use Rattle.std.proofs.Common.{◌≡◌, ℕ, zero, suc, ◌+◌, ◌-◌, ◌<◌, ◌≤◌, List, [], ◌∷◌, ◌++◌, length}
use Rattle.std.proofs.Common.{take, drop, slice_range, sym, ap, ◌∙◌, subst, arith, inl, ⊎_elim}
use Rattle.std.proofs.Common.{append-nil, append_assoc}
use Rattle.std.proofs.Math.Nat.{eq-or-lt_of_le}
use Rattle.std.proofs.Math.Seq.{take-add}
use Rattle.std.proofs.lemmas.List.{drop-drop, length-take, take_all}
use Rattle.std.proofs.lemmas.List.Sums.{sum_by_more, sum_by_more_le}
use Rattle.disk_model.specs.Disk.{State, AgreeOutside, IsHonestDisk, WritesWithin, Torn, Rises}
use Rattle.disk_model.proofs.Laws.{agree_trans, agree_more, goes_on, joins, at_end}
use Rattle.mot_copy_command.specs.declared.copying.NotCopied.{NotCopied}
use Rattle.mot_copy_command.specs.Inner.Steps.{ChangesOnly, IsFault, unreadable, device}
use Rattle.mot_journal.proofs.Laws.{part}
use Rattle.mot_numbers.specs.declared.geometry.Geometry.{Geometry}
use Rattle.mot_numbers.specs.Geometry.{area_start}
use Rattle.mot_repository.specs.Copy.{bytes_in_row, bytes_of_extents}
use Rattle.mot_repository.specs.OnDisk.{extent_at, body_on}

module _ (start len : ℕ) (old : State) where
  module _ (mid : State) (sound : IsHonestDisk mid) (so_far : ChangesOnly start len old mid) where
    torn-on : (at n : ℕ) → start ≤ at → at + n ≤ start + len → (c : List ℕ) → Torn at n mid c
        → Torn start len old c
    torn-on at n low high c torn =
        let from = at_end old mid (Torn start len old) sound so_far.time torn.0 torn.1 in (
          from.0,
          from.1,
          agree_trans start len from.0 torn.0 c from.2
              (agree_more at n start len torn.0 c low high torn.2),
        )

    -- one write more within the range
    pub writes_on : (new : State) (at n : ℕ) → WritesWithin at n mid new
        → start ≤ at → at + n ≤ start + len → ChangesOnly start len old new
    writes_on new at n writes low high = record {
      bytes = agree_trans start len old.bytes mid.bytes new.bytes so_far.bytes
          (agree_more at n start len mid.bytes new.bytes low high writes.bytes);
      time = goes_on old mid new (Torn start len old) (Torn at n mid) so_far.time writes.time
          (torn-on at n low high);
    }

    -- a run more within the range
    pub changes_on : (new : State) (at n : ℕ) → ChangesOnly at n mid new
        → start ≤ at → at + n ≤ start + len → ChangesOnly start len old new
    changes_on new at n then low high = record {
      bytes = agree_trans start len old.bytes mid.bytes new.bytes so_far.bytes
          (agree_more at n start len mid.bytes new.bytes low high then.bytes);
      time = joins old mid new (Torn start len old) (Torn at n mid) so_far.time then.time
          (torn-on at n low high);
    }

-- bytes that are written behind others
pub appended : (a n m : ℕ) (old new w p : List ℕ) → AgreeOutside (a + n) m old new
    → take n (drop a old) ≡ w → take m (drop (a + n) new) ≡ p
    → take (n + m) (drop a new) ≡ w ++ p
appended a n m old new w p agree so_far here =
    take-add n m (drop a new)
    ∙ ap (λ l. l ++ take m (drop n (drop a new)))
    (part (a + n) m old new agree a n (omega arith) ∙ so_far)
    ∙ ap (λ l. w ++ l) (ap (take m) (drop-drop n a new) ∙ here)

-- one piece of a body more
pub piece_more : (at done count : ℕ) (body piece old new : List ℕ)
    → AgreeOutside (at + done) count old new → take done (drop at old) ≡ take done body
    → slice_range new (at + done) (at + done + count) ≡ piece
    → piece ≡ slice_range body done (done + count)
    → take (done + count) (drop at new) ≡ take (done + count) body
piece_more at done count body piece old new agree so_far here read =
    let there : at + done + count - (at + done) ≡ count = omega arith in
    let taken : done + count - done ≡ count = omega arith in
    appended at done count old new (take done body) (take count (drop done body)) agree so_far
    (ap (λ k. take k (drop (at + done) new)) (sym there) ∙ here ∙ read
    ∙ ap (λ k. take k (drop done body)) taken)
    ∙ sym (take-add done count body)

-- the whole of a body
pub body_whole : (g : Geometry) (es : List (ℕ × ℕ)) (place : ℕ) (image : List ℕ)
    → take (extent_at es place).1 (body_on g es place image) ≡ body_on g es place image
body_whole g es place image =
    let n : ℕ = (extent_at es place).1 in
    let start : ℕ = area_start g + (extent_at es place).0 in
    let size : start + n - start ≡ n = omega arith in
    let most = length-take (start + n - start) (drop start image) in
    take_all n (body_on g es place image) (omega (arith, most, size))

-- one body more
pub row-next : (g : Geometry) (es : List (ℕ × ℕ)) (k : ℕ) (image : List ℕ) → k < length es
    → bytes_in_row g (take (suc k) es) image
    ≡ bytes_in_row g (take k es) image ++ body_on g es k image
row-next g [] k image lt = absurd (omega (arith, lt))
row-next g (e ∷ es) zero image lt =
    append-nil (slice_range image (area_start g + e.0) (area_start g + e.0 + e.1))
row-next g (e ∷ es) (suc k) image lt =
    let here = slice_range image (area_start g + e.0) (area_start g + e.0 + e.1) in
    let more = row-next g es k image (omega (arith, lt)) in
    ap (λ l. here ++ l) more
    ∙ sym (append_assoc here (bytes_in_row g (take k es) image) (body_on g es k image))

-- and its length
pub bytes-next : (es : List (ℕ × ℕ)) (k : ℕ) → k < length es
    → bytes_of_extents (take (k + 1) es)
    ≡ bytes_of_extents (take k es) + (extent_at es k).1
bytes-next es k lt = sum_by_more (λ (e : ℕ × ℕ). e.1) es k (0, 0) lt

pub bytes-fit : (es : List (ℕ × ℕ)) (k : ℕ) → k < length es
    → bytes_of_extents (take k es) + (extent_at es k).1 ≤ bytes_of_extents es
bytes-fit es k lt = sum_by_more_le (λ (e : ℕ × ℕ). e.1) es k (0, 0) lt

-- ---- which disk failed

rises_on : (start mid now : ℕ) → start ≤ mid → mid ≤ now → Rises mid now → Rises start now
rises_on start mid now le later rises =
    ⊎_elim (λ e. subst (λ n. Rises n now) (sym e) rises) (λ lt. inl (omega (arith, lt, later)))
    (eq-or-lt_of_le le)

-- a fault in the later part of a time is one of the whole
pub fault_on : {why : NotCopied} (d e d1 e1 d' e' : ℕ) → d ≤ d1 → d1 ≤ d' → e ≤ e1 → e1 ≤ e'
    → IsFault d1 d' e1 e' why → IsFault d d' e e' why
fault_on d e d1 e1 d' e' le later le2 later2 (unreadable is rises) =
    unreadable is (rises_on d d1 d' le later rises)
fault_on d e d1 e1 d' e' le later le2 later2 (device is rises) =
    device is (rises_on e e1 e' le2 later2 rises)
