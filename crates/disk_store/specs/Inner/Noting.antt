-- How calls on a file are noted, and how they begin.
use Rattle.std.specs.Prelude.{ℕ, zero, suc, List, slice_index, ◌≡◌, ◌<◌, length, All, Option, Some}
use Rattle.std.specs.Prelude.{None, Result, Ok, Err}
use Rattle.disk_store.specs.Calls.{Call, Dropped, FailedRead, FailedSync, FailedWrite, Gave, Locked}
use Rattle.disk_store.specs.Calls.{Made, Named, Opened, Synced, Wrote, content_after, AreRight}
use Rattle.disk_store.specs.Calls.{no_content}
use Rattle.disk_store.specs.Content.{at_start}

-- A call by a number for its kind, a position or a length, and bytes: so it is noted, since nothing
-- in memory is a call.
abbrev pub call_of_kind : ℕ → ℕ → List ℕ → Call
call_of_kind zero at bytes = Locked
call_of_kind (suc zero) at bytes = Opened at
call_of_kind (suc (suc zero)) at bytes = Made at
call_of_kind (suc (suc (suc zero))) at bytes = Gave at bytes
call_of_kind (suc (suc (suc (suc zero)))) at bytes = FailedRead at
call_of_kind (suc (suc (suc (suc (suc zero))))) at bytes = Wrote at bytes
call_of_kind (suc (suc (suc (suc (suc (suc zero)))))) at bytes = FailedWrite at bytes
call_of_kind (suc (suc (suc (suc (suc (suc (suc zero))))))) at bytes = Synced
call_of_kind (suc (suc (suc (suc (suc (suc (suc (suc zero)))))))) at bytes = FailedSync
call_of_kind (suc (suc (suc (suc (suc (suc (suc (suc (suc zero))))))))) at bytes = Dropped
call_of_kind (suc (suc (suc (suc (suc (suc (suc (suc (suc (suc more)))))))))) at bytes = Named

abbrev pub call_of : List ℕ → List ℕ → Call
call_of numbers bytes = call_of_kind (slice_index numbers 0) (slice_index numbers 1) bytes

-- The file is this long, and nothing but its opening has happened.
pub record HasOnlyOpened (first : List ℕ) (len : ℕ) (calls : List Call) : Type 0 where
  pub firm : content_after first calls ≡ at_start (content_after first calls).bytes
  pub len_is : length (content_after first calls).bytes ≡ len
  pub are_bytes : All (λ b. b < 256) (content_after first calls).bytes
  pub are_right : AreRight first calls no_content

-- Why the first call on a file that failed did so.

-- a reason that was kept stays; else that of this call is kept, if it failed
abbrev pub KeepsFirst : {T E : Type 0} → Option E → Option E → Result T E → Type 0
KeepsFirst (Some first) kept result = kept ≡ Some first
KeepsFirst None kept (Ok value) = kept ≡ None
KeepsFirst None kept (Err error) = kept ≡ Some error
