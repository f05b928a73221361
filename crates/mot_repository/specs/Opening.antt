-- What an opening gives, and why a disk is not opened.
use Rattle.std.specs.Prelude.{◌≡◌, ◌⊎◌, List, length, Ok, IsFalse}
use Rattle.disk_model.specs.Disk.{State, IsFirm, Rises}
use Rattle.mot_journal.specs.declared.record.Record.{Record}
use Rattle.mot_journal.specs.Image.{Standing, records_of, stands_for}
use Rattle.mot_journal.specs.Journal.{IsReadingRefusal, with_records}
use Rattle.mot_numbers.specs.declared.refusal.Refusal.{Refusal}
use Rattle.mot_numbers.specs.declared.refusal.Refusal.TheVariants.{OutOfMemory, DeviceFault}
use Rattle.mot_repository.specs.Repository.{RepositoryView, Agrees}

-- An open repository keeps what the bytes stand for, and no position of the disk is loose.
pub record IsOpened (old new : State) (view : RepositoryView) : Type 0 where
  pub standing : Standing
  pub stands : stands_for old.bytes ≡ Ok standing
  pub agrees : Agrees view standing
  pub firm : IsFirm new
  -- its journal stands where the bytes have their records
  pub records : List Record
  pub read : records_of old.bytes ≡ Ok (with_records view.journal records)
  pub count : view.journal.count ≡ length records
  pub unspent : IsFalse view.journal.spent

-- why what the bytes stand for is not had
abbrev pub IsOpeningRefusal : State → State → Refusal → Type 0
IsOpeningRefusal old new refusal = IsReadingRefusal stands_for old new refusal

-- want of memory, or a failure of the device
abbrev pub IsPassing : State → State → Refusal → Type 0
IsPassing old new refusal = (refusal ≡ OutOfMemory)
    ⊎ ((refusal ≡ DeviceFault) × Rises old.failures new.failures)
