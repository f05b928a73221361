-- What ended serving.
use Rattle.std.proofs.Common.{◌≡◌, ℕ, Some, None, ap}
use Rattle.mot_numbers.specs.declared.refusal.Refusal.{Refusal}
use Rattle.mot_numbers.specs.declared.refusal.Refusal.TheVariants.{OutOfMemory, ReadFault}
use Rattle.mot_numbers.specs.declared.refusal.Refusal.TheVariants.{WriteFault}
use Rattle.mot_session.specs.declared.serving.ServeEnd.{ServeEnd}

-- the lines of an end by a fault
pub lines_of_end : (end : ServeEnd) (lines : ℕ) (fault : Refusal)
    → end ≡ record { lines = lines; fault = Some fault } → end.lines ≡ lines
lines_of_end end lines fault is = ap (λ (e : ServeEnd). e.lines) is

-- the fault of an end by one
pub fault_of_end : (end : ServeEnd) (lines : ℕ) (fault : Refusal)
    → end ≡ record { lines = lines; fault = Some fault } → end.fault ≡ Some fault
fault_of_end end lines fault is = ap (λ (e : ServeEnd). e.fault) is

-- ---- no two ends are one

-- a fault is no end without one
pub not_none : {fault : Refusal} → Some fault ≡ None → ⊥
not_none e = cc

-- want of memory is no fault of the reader
pub memory_not_read : Some OutOfMemory ≡ Some ReadFault → ⊥
memory_not_read e = cc

-- want of memory is no fault of the writer
pub memory_not_write : Some OutOfMemory ≡ Some WriteFault → ⊥
memory_not_write e = cc

-- a fault of the reader is none of the writer
pub read_not_write : Some ReadFault ≡ Some WriteFault → ⊥
read_not_write e = cc
