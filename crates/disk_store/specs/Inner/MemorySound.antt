-- A disk in memory is an honest one.
use Rattle.std.specs.Prelude.{◌≡◌, ℕ, ◌≤◌, length, take}
use Rattle.std.proofs.Common.{refl, arith, ap, sym, ◌∙◌, subst}
use Rattle.std.proofs.lemmas.List.{take_all}
use Rattle.disk_model.specs.Disk.{IsHonestDisk}
use Rattle.disk_store.specs.Content.{after_event, at_start, replay, IsImageOf}
use Rattle.disk_store.specs.Memory.{content, memory_state}
use Rattle.disk_store.specs.declared.memory.MemoryDisk.{MemoryDisk}

now_is : (disk : MemoryDisk) (k : ℕ) → length disk.log.items ≤ k
    → replay after_event (take k disk.log.items) (at_start disk.first.items) ≡ content disk
now_is disk k le =
    ap (λ l. replay after_event l (at_start disk.first.items)) (take_all k disk.log.items le)
    ∙ disk.recorded

pub memory_sound : (disk : MemoryDisk) → IsHonestDisk (memory_state disk)
memory_sound disk = record {
  images = λ c left. left;
  bytes = record { len_is = refl; are_bytes = disk.cells.are_bytes; agrees = λ k firm. refl };
  counts_now = λ t c le left.
      let whole = sym (now_is disk (length disk.log.items) (omega arith)) in
      (length disk.log.items, le, omega arith, subst (λ s. IsImageOf s c) whole left);
  only_now = λ c left. subst (λ s. IsImageOf s c) (now_is disk left.0 left.1) left.3;
}
