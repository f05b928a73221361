-- A disk in memory to work on is an honest one.
use Rattle.std.specs.Prelude.{◌≡◌, ◌<◌, ◌≤◌, ℕ, [], length, take}
use Rattle.std.proofs.Common.{refl, arith, ap, sym, subst}
use Rattle.std.proofs.lemmas.List.{take_all}
use Rattle.std.specs.List.{All}
use Rattle.disk_model.specs.Disk.{IsHonestDisk}
use Rattle.disk_store.specs.Calls.{content_after}
use Rattle.disk_store.specs.Content.{IsImageOf}
use Rattle.disk_store.specs.File.{calls_in, ram_content, ram_state}
use Rattle.disk_store.specs.declared.memory.ram.RamDisk.{RamDisk}

now_is : (disk : RamDisk) (k : ℕ) → length (calls_in disk) ≤ k
    → content_after [] (take k (calls_in disk)) ≡ ram_content disk
now_is disk k le = ap (content_after []) (take_all k (calls_in disk) le)

pub ram_sound : (disk : RamDisk) → IsHonestDisk (ram_state disk)
ram_sound disk = record {
  images = λ c left. left;
  bytes = record {
    len_is = refl;
    are_bytes = subst (All (λ b. b < 256)) (sym disk.is_noted) disk.are_bytes;
    agrees = λ k firm. refl;
  };
  counts_now = λ t c le left.
      let whole = sym (now_is disk (length (calls_in disk)) (omega arith)) in
      (length (calls_in disk), le, omega arith, subst (λ s. IsImageOf s c) whole left);
  only_now = λ c left. subst (λ s. IsImageOf s c) (now_is disk left.0 left.1) left.3;
}
