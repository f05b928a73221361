-- What one call more does to a disk in memory to work on.
use Rattle.std.proofs.Common.{◌≡◌, ◌<◌, ◌∙◌, ap, subst, sym, length, OnOk, Result, Ok}
use Rattle.std.specs.List.{All}
use Rattle.disk_store.specs.File.{ram_content}
use Rattle.disk_store.specs.declared.memory.ram.RamDisk.{RamDisk}
use Rattle.disk_store.proofs.FileCalls.{IsWhole}

-- the note of a call that was answered with success was made
pub was_noted : {T E P : Type 0} (answer : Result T E) (value : T) → answer ≡ Ok value
    → OnOk answer P → P
was_noted {P = P} answer value is noted = subst (λ a. OnOk a P) is noted

-- what it holds is as long as its bytes, and told as loose or not throughout
pub whole : (disk : RamDisk) → IsWhole (length disk.bytes.items) (ram_content disk)
whole disk = record {
  len_is = ap length disk.is_noted;
  loose_len = disk.loose_len ∙ sym (ap length disk.is_noted);
  are_bytes = subst (All (λ b. b < 256)) (sym disk.is_noted) disk.are_bytes;
}
