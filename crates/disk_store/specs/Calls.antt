-- The calls on a file and what they answered, and what the disk model makes of them.
use Rattle.std.specs.Prelude.{◌≡◌, ℕ, ◌+◌, List, [], ◌∷◌, ◌++◌, length, take}
use Rattle.std.specs.Prelude.{replicate, true}
use Rattle.std.specs.Prelude.{slice_range}
use Rattle.disk_store.specs.Content.{Content, at_start, after_write, after_touch, after_sync}
use Rattle.disk_store.specs.Content.{replay}

-- A call and its answer.
pub data Call : Type 0 where
  -- the lock was taken
  Locked : Call
  -- a file that was there was this long
  Opened : (len : ℕ) → Call
  -- so many zeros were written into a new file
  Made : (len : ℕ) → Call
  -- a read at this position gave these bytes
  Gave : (at : ℕ) (bytes : List ℕ) → Call
  -- a read at this position failed
  FailedRead : (at : ℕ) → Call
  -- these bytes were written
  Wrote : (at : ℕ) (bytes : List ℕ) → Call
  -- these bytes were to be written, and the call failed
  FailedWrite : (at : ℕ) (bytes : List ℕ) → Call
  -- a sync succeeded
  Synced : Call
  -- a sync failed
  FailedSync : Call
  -- what the system kept of the file was dropped
  Dropped : Call
  -- the folder that names the file was synced
  Named : Call

-- the calls that open a file of this length: what is read of it comes from the device
abbrev pub opening_calls : ℕ → List Call
opening_calls len = Locked ∷ Synced ∷ Dropped ∷ Opened len ∷ []

-- the calls that make a new file of this length
abbrev pub making_calls : ℕ → List Call
making_calls len = Locked ∷ Made len ∷ Synced ∷ Dropped ∷ Named ∷ []

-- the first of these bytes, with zeros behind them where there are fewer
abbrev pub first_bytes : ℕ → List ℕ → List ℕ
first_bytes len bytes = take len (bytes ++ replicate len 0)

-- zeros that were written into a new file
abbrev pub new_zeros : ℕ → Content
new_zeros len =
    record { bytes = replicate len 0; loose = replicate len true; synced = replicate len 0 }

-- before the opening
abbrev pub no_content : Content
no_content = at_start []

-- the answer is what a file of the model that holds this gives: of a read, its bytes
abbrev pub IsRight : Call → Content → Type 0
IsRight (Gave at bytes) s = bytes ≡ slice_range s.bytes at (at + length bytes)
IsRight call s = Unit {0}

-- a file that holds these bytes as it is opened
module _ (first : List ℕ) where
  -- What a file of the model holds after a call. One that was made has zeros, loose up to its sync.
  -- A write that failed leaves the old bytes to be read.
  abbrev pub after_call : Call → Content → Content
  after_call (Opened len) s = at_start (first_bytes len first)
  after_call (Made len) s = new_zeros len
  after_call (Wrote at bytes) s = after_write at bytes s
  after_call (FailedWrite at bytes) s = after_touch at (length bytes) s
  after_call Synced s = after_sync s
  after_call call s = s

  -- each answer is the one of a file of the model that held this before
  abbrev pub AreRight : List Call → Content → Type 0
  AreRight [] s = Unit {0}
  AreRight (call ∷ calls) s = IsRight call s × AreRight calls (after_call call s)

  -- what a file of the model holds after these calls
  abbrev pub content_after : List Call → Content
  content_after calls = replay after_call calls no_content
