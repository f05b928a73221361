-- What holds of a file as a disk.
use Rattle.std.specs.Prelude.{◌≡◌, ℕ, ◌≤◌, length, take}
use Rattle.std.proofs.Common.{refl, arith, ap, sym, subst}
use Rattle.std.proofs.lemmas.List.{take_all}
use Rattle.disk_model.specs.Disk.{IsHonestDisk}
use Rattle.disk_store.specs.Content.{IsImageOf}
use Rattle.disk_store.specs.Calls.{content_after}
use Rattle.disk_store.specs.File.{calls_on, file_content, file_state}
use Rattle.disk_store.specs.declared.file.start.Start.{Ghosts}
use Rattle.disk_store.specs.declared.file.FileDiskFrom.{FileDiskFrom}

module _ {S F : Type 0} {start : Ghosts S F} (disk : FileDiskFrom S F start) where
  now_is : (k : ℕ) → length (calls_on disk) ≤ k
      → content_after start.bytes (take k (calls_on disk)) ≡ file_content disk
  now_is k le = ap (content_after start.bytes) (take_all k (calls_on disk) le)

  pub file_sound : IsHonestDisk (file_state disk)
  file_sound = record {
    images = λ c left. left;
    bytes = record { len_is = refl; are_bytes = disk.are_bytes; agrees = λ k firm. refl };
    counts_now = λ t c le left.
        let whole = sym (now_is (length (calls_on disk)) (omega arith)) in
        (length (calls_on disk), le, omega arith, subst (λ s. IsImageOf s c) whole left);
    only_now = λ c left. subst (λ s. IsImageOf s c) (now_is left.0 left.1) left.3;
  }
