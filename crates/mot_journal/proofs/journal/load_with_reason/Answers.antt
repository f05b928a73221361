use Rattle.std.proofs.Common.{◌≡◌, ℕ, Bool, ◌+◌, ◌-◌, ◌*◌, ◌≤◌, true, length, take, drop, Some}
use Rattle.std.proofs.Common.{refl, sym, ◌∙◌, ap, arith, rules, subst, inl, inr, is_err, false, ◌⊎◌}
use Rattle.std.proofs.Common.{None}
use Rattle.std.proofs.lemmas.Bool.{cases_lt}
use Rattle.std.specs.Prelude.{Result, slice_index, if◌then◌else◌, ◌==◌, IfSome, List, Option}
use Rattle.disk_model.specs.Disk.{HasCause, Rises, OnlyReads}
use Rattle.std.proofs.Math.Nat.{mul-le-mul_left, mul_comm}
use Rattle.disk_model.proofs.Laws.{reads_none, reads_on, reads_once}
use Rattle.mot_journal.specs.Geometry.{geometry_of}
use Rattle.mot_journal.specs.Journal.IsReadingRefusal.{not_formatted, no_memory, device}
use Rattle.mot_journal.proofs.Heads.{short_has_none}
use Rattle.mot_journal.proofs.Loads.{told_good, geometry_told, none_formatted, half_told, on_ok}
use Rattle.mot_journal.proofs.Loads.{chosen_one, chosen_none, load_refused_of_half, sub-same}
use Rattle.mot_journal.proofs.Loads.{written_back, refused, fault_told, fault_of, IsHalfRead}
use Rattle.mot_journal.proofs.Loads.{reason_told}
use Rattle.mot_journal.specs.declared.reason.Reason.TheVariants.{Head}
use Rattle.mot_journal.specs.Inner.Reading.{IsNoHead}
use Rattle.mot_journal.specs.Reason.{HasReason, IsReasonOf}
use Rattle.mot_journal.specs.declared.reason.HeadFault.TheVariants.{Short}
use Rattle.mot_numbers.specs.declared.refusal.Refusal.TheVariants.{DeviceFault, OutOfMemory}
use Rattle.mot_journal.specs.declared.reason.Fault.{Fault}
use Rattle.mot_journal.specs.declared.reason.Reason.{Reason}
use Rattle.mot_numbers.specs.declared.refusal.Refusal.{Refusal}
use Rattle.mot_journal.proofs.journal.load_with_reason.Given as given
use Rattle.mot_journal.proofs.journal.load_with_reason.Goals as goal
use Rattle.mot_journal.proofs.journal.load_with_reason.Goals.{In-Ok, In-Err, After-read-2}
use Rattle.mot_journal.proofs.journal.load_with_reason.Goals.{After-deref-2, then-head-eq1}
use Rattle.mot_journal.proofs.journal.load_with_reason.Goals.{else-head-eq1}
use Rattle.mot_numbers.specs.Geometry.{is_valid, length_of, half_size, half_start}

-- the refusal of a fault
refused_as : {f f' : Fault} → f ≡ f' → f.refusal ≡ f'.refusal
refused_as e = ap (λ (f : Fault). f.refusal) e

-- the same refusal of records
refused_with : {r r' : Refusal} → r ≡ r' → refused r ≡ refused r'
refused_with e = ap refused e

-- what is so of a fault's reason
reason_as : (bytes : List ℕ) (f : Fault) (reason : Reason)
    → f ≡ fault_of reason → IsReasonOf bytes reason → IfSome f.reason (IsReasonOf bytes)
reason_as bytes f reason e is =
    subst (λ (o : Option Reason). IfSome o (IsReasonOf bytes)) (sym (ap (λ (x : Fault). x.reason) e))
    is

-- a fault has its reason, or none if it is not about the bytes
given_reason : (f : Fault) (reason : Reason) → f ≡ fault_of reason → HasReason f.refusal f.reason
given_reason f reason e = subst (λ (x : Fault). HasReason x.refusal x.reason) (sym e) refl

plain_reason : (f : Fault) (r : Refusal) → f ≡ record { refusal = r; reason = None }
    → (r ≡ OutOfMemory) ⊎ (r ≡ DeviceFault) → HasReason f.refusal f.reason
plain_reason f r e is = subst (λ (x : Fault). HasReason x.refusal x.reason) (sym e) is

plain_so : (bytes : List ℕ) (f : Fault) (r : Refusal) → f ≡ record { refusal = r; reason = None }
    → IfSome f.reason (IsReasonOf bytes)
plain_so bytes f r e = subst (λ (x : Fault). IfSome x.reason (IsReasonOf bytes)) (sym e) tt

not_both : false ≡ true → ⊥
not_both e = cc

-- a call that did not err has not failed
calm : {T E : Type 0} {before now : ℕ} (r : Result T E) (b : Bool) → b ≡ is_err r → b ≡ false
    → HasCause before now r → now ≡ before
calm {T} {E} {before} {now} r b is isnt cause = elim (cases_lt before now) [
  | inl lt ↦ absurd (not_both (sym isnt ∙ is ∙ cause.shown (inl lt)))
  | inr le ↦ let later = cause.later in omega (arith, le, later)
]

no_less : (a : ℕ) → a ≤ a + 2
no_less a = omega arith

once : (old new : ℕ) → new ≡ old + 1 → new ≤ old + 2
once old new e = omega arith

twice : (old mid new : ℕ) → mid ≡ old + 1 → new ≡ mid + 1 → new ≡ old + 2
twice old mid new e f = omega arith

at_most_twice : (old mid new : ℕ) → mid ≡ old + 1 → new ≡ mid + 1 → new ≤ old + 2
at_most_twice old mid new e f = omega arith

pub returns-then-len-clause-only_reads : goal.returns-then-len-clause-only_reads
returns-then-len-clause-only_reads g c = reads_none (g.D.Disk.state c.args.disk.now)

pub returns-then-len-clause-calm : goal.returns-then-len-clause-calm
returns-then-len-clause-calm g c = inr refl

pub returns-then-len-clause-cost : goal.returns-then-len-clause-cost
returns-then-len-clause-cost g c = record { at_most = no_less _; exact = tt }

pub returns-then-is_err-clause-only_reads : goal.returns-then-is_err-clause-only_reads
returns-then-is_err-clause-only_reads g c =
    reads_once (g.D.Disk.state c.args.disk.now) (g.D.Disk.state c.read.new.self)
    c.read.ensures.keeps c.read.ensures.unchanged

pub returns-then-is_err-clause-calm : goal.returns-then-is_err-clause-calm
returns-then-is_err-clause-calm g c = inl (refused_as c.plain.ensures)

pub returns-then-is_err-clause-cost : goal.returns-then-is_err-clause-cost
returns-then-is_err-clause-cost g c = record {
  at_most = once _ _ c.read.ensures.called;
  exact =
      tt;
}

pub returns-then-is_err-clause-refused : goal.returns-then-is_err-clause-refused
returns-then-is_err-clause-refused g c =
    device (refused_as c.plain.ensures) (c.read.ensures.cause.cause (sym c.is_err.ensures.value ∙ c.if-is_err.true))

pub returns-in-Err-clause-only_reads : goal.returns-in-Err-clause-only_reads
returns-in-Err-clause-only_reads g c =
    reads_once (g.D.Disk.state c.args.disk.now) (g.D.Disk.state c.read.new.self)
    c.read.ensures.keeps c.read.ensures.unchanged

pub returns-in-Err-clause-calm : goal.returns-in-Err-clause-calm
returns-in-Err-clause-calm g c =
    inr (calm c.read.result c.is_err.result c.is_err.ensures.value c.if-is_err.false
    c.read.ensures.cause)

pub returns-in-Err-clause-cost : goal.returns-in-Err-clause-cost
returns-in-Err-clause-cost g c = record { at_most = once _ _ c.read.ensures.called; exact = tt }

pub returns-in_default-clause-only_reads : goal.returns-in_default-clause-only_reads
returns-in_default-clause-only_reads g c =
    reads_once (g.D.Disk.state c.args.disk.now) (g.D.Disk.state c.read.new.self)
    c.read.ensures.keeps c.read.ensures.unchanged

pub returns-in_default-clause-calm : goal.returns-in_default-clause-calm
returns-in_default-clause-calm g c =
    inr (calm c.read.result c.is_err.result c.is_err.ensures.value c.if-is_err.false
    c.read.ensures.cause)

pub returns-in_default-clause-cost : goal.returns-in_default-clause-cost
returns-in_default-clause-cost g c =
    record { at_most = once _ _ c.read.ensures.called; exact = tt }

pub returns-in_default-clause-refused : goal.returns-in_default-clause-refused
returns-in_default-clause-refused g c =
    no_memory (refused_as c.plain-in_default.ensures)

pub returns-then-is_err-2-clause-calm : goal.returns-then-is_err-2-clause-calm
returns-then-is_err-2-clause-calm g c = inl (refused_as c.plain-then-is_err-2.ensures)

pub returns-then-is_err-2-clause-cost : goal.returns-then-is_err-2-clause-cost
returns-then-is_err-2-clause-cost g c =
    record {
      at_most = at_most_twice _ _ _ c.read.ensures.called c.read-2.ensures.called;
      exact = tt;
    }

pub returns-then-is_err-2-clause-refused : goal.returns-then-is_err-2-clause-refused
returns-then-is_err-2-clause-refused g c =
    device (refused_as c.plain-then-is_err-2.ensures) (subst (λ n. Rises n (g.D.Disk.state c.read-2.new.self).failures)
    (calm c.read.result c.is_err.result c.is_err.ensures.value c.if-is_err.false
    c.read.ensures.cause)
    (c.read-2.ensures.cause.cause (sym c.is_err-2.ensures.value ∙ c.if-is_err-2.true)))

pub returns-in-Ok-records_of_half-clause-calm : goal.returns-in-Ok-records_of_half-clause-calm
returns-in-Ok-records_of_half-clause-calm g c =
    calm c.read-2.result c.is_err-2.result c.is_err-2.ensures.value c.if-is_err-2.false
    c.read-2.ensures.cause
    ∙ calm c.read.result c.is_err.result c.is_err.ensures.value c.if-is_err.false
    c.read.ensures.cause

pub returns-in-Ok-records_of_half-clause-cost : goal.returns-in-Ok-records_of_half-clause-cost
returns-in-Ok-records_of_half-clause-cost g c = record {
  at_most = at_most_twice _ _ _ c.read.ensures.called c.read-2.ensures.called;
  exact = twice _ _ _ c.read.ensures.called c.read-2.ensures.called;
}

pub returns-in-Ok-records_of_half-clause-few : goal.returns-in-Ok-records_of_half-clause-few
returns-in-Ok-records_of_half-clause-few g c = c.in-Ok-records_of_half.ensures.few

pub returns-in-Ok-records_of_half-clause-sound : goal.returns-in-Ok-records_of_half-clause-sound
returns-in-Ok-records_of_half-clause-sound g c = c.in-Ok-records_of_half.ensures.sound

pub returns-clause-calm : goal.returns-clause-calm
returns-clause-calm g c =
    inr (calm c.read-2.result c.is_err-2.result c.is_err-2.ensures.value c.if-is_err-2.false
    c.read-2.ensures.cause
    ∙ calm c.read.result c.is_err.result c.is_err.ensures.value c.if-is_err.false
    c.read.ensures.cause)

pub returns-clause-cost : goal.returns-clause-cost
returns-clause-cost g c =
    record {
      at_most = at_most_twice _ _ _ c.read.ensures.called c.read-2.ensures.called;
      exact = tt;
    }

pub returns-then-len-clause-refused : goal.returns-then-len-clause-refused
returns-then-len-clause-refused g c =
    not_formatted (refused_as c.of.ensures) (λ honest.
    let sound = g.met.D.Disk.sound c.args.disk.now honest in
    none_formatted (g.D.Disk.state c.args.disk.now).bytes
    (short_has_none (g.D.Disk.state c.args.disk.now).bytes
    (omega (arith, (sound.images _ sound.bytes).len_is, c.len-len.ensures, c.if-len.true)))
    ∙ refused_with (sym (refused_as c.of.ensures)))

-- why the head that was read gives no geometry
no_head : (g : given.Over) (c : In-Err g) → (g.D.Disk.state c.read.new.self).IsHonest
    → IsNoHead (g.D.Disk.state c.args.disk.now).bytes c.in-Err.fault
no_head g c honest =
    let old = g.D.Disk.state c.args.disk.now in
    let sound = g.met.D.Disk.sound c.args.disk.now (c.read.ensures.keeps.was_honest honest) in
    let head = on_ok c.read.result c.is_err.result c.is_err.ensures.value c.if-is_err.false
    (c.read.ensures.bytes honest) in
    fault_told old.bytes c.read.new.out c.len-len.result c.in-Err.fault
    (omega (arith, (sound.images _ sound.bytes).len_is, c.len-len.ensures)) (omega arith) head
    (λ rest long. c.in-Err.ensures.fault rest long)

pub returns-in-Err-clause-refused : goal.returns-in-Err-clause-refused
returns-in-Err-clause-refused g c =
    not_formatted (refused_as c.of-in-Err.ensures) (λ honest.
    none_formatted (g.D.Disk.state c.args.disk.now).bytes
    (no_head g (goal.at.returns-in-Err-clause-refused g c).In-Err honest).0
    ∙ refused_with (sym (refused_as c.of-in-Err.ensures)))

pub returns-in-Err-clause-so : goal.returns-in-Err-clause-so
returns-in-Err-clause-so g c = λ honest.
    reason_as (g.D.Disk.state c.args.disk.now).bytes c.of-in-Err.result (Head c.in-Err.fault)
    c.of-in-Err.ensures (no_head g (goal.at.returns-in-Err-clause-so g c).In-Err honest).1

-- what the geometry that the head tells has
good : (g : given.Over) (c : In-Ok g)
    → (is_valid c.in-Ok.geometry ≡ true)
    × (length_of c.in-Ok.geometry ≤ c.len-len.result)
    × (c.in-Ok.geometry.objects ≤ 250)
good g c =
    let whole : length c.read.new.out ≡ 64 = search rules in
    told_good c.read.new.out c.len-len.result c.in-Ok.geometry whole (omega arith)
    (λ rest long. c.in-Ok.ensures.read rest long)

pub read-requires-2 : goal.read-requires-2
read-requires-2 g c =
    let long = (good g (goal.at.read-requires-2 g c).In-Ok).1 in
    let few : c.if-head-eq1.half ≤ 1 =
    elim c.if-head-eq1.branch
    [ then-head-eq1 w ↦ omega arith | else-head-eq1 w ↦ omega arith ] in
    let size : ℕ = half_size c.in-Ok.geometry in
    let most : size * c.if-head-eq1.half ≤ size * 1 = mul-le-mul_left size few in
    let here : c.if-head-eq1.half * size ≡ size * c.if-head-eq1.half =
    mul_comm c.if-head-eq1.half size in
    omega (
      arith,
      most,
      here,
      long,
      c.half_start.ensures.value,
      c.half_size.ensures.value,
      c.deref_mut.ensures.len,
      c.in-Ok-vec.ensures.len,
      c.read.ensures.keeps.len,
      c.len-len.ensures,
    )

-- the disk was read twice, and no more
read_twice : (g : given.Over) (c : After-read-2 g)
    → OnlyReads (g.D.Disk.state c.args.disk.now) (g.D.Disk.state c.read-2.new.self)
read_twice g c =
    let old = g.D.Disk.state c.args.disk.now in
    let mid = g.D.Disk.state c.read.new.self in
    let new = g.D.Disk.state c.read-2.new.self in
    reads_on old mid new (reads_once old mid c.read.ensures.keeps c.read.ensures.unchanged)
    (reads_once mid new c.read-2.ensures.keeps c.read-2.ensures.unchanged)

pub returns-then-is_err-2-clause-only_reads : goal.returns-then-is_err-2-clause-only_reads
returns-then-is_err-2-clause-only_reads g c =
    read_twice g (goal.at.returns-then-is_err-2-clause-only_reads g c).After-read-2

pub returns-in-Ok-records_of_half-clause-only_reads :
    goal.returns-in-Ok-records_of_half-clause-only_reads
returns-in-Ok-records_of_half-clause-only_reads g c =
    read_twice g (goal.at.returns-in-Ok-records_of_half-clause-only_reads g c).After-read-2

pub returns-clause-only_reads : goal.returns-clause-only_reads
returns-clause-only_reads g c = read_twice g (goal.at.returns-clause-only_reads g c).After-read-2

pub records_of_half-requires-clause-few : goal.records_of_half-requires-clause-few
records_of_half-requires-clause-few g c =
    (good g (goal.at.records_of_half-requires-clause-few g c).In-Ok).2

pub returns-in-Ok-records_of_half-clause-valid : goal.returns-in-Ok-records_of_half-clause-valid
returns-in-Ok-records_of_half-clause-valid g c =
    (good g (goal.at.returns-in-Ok-records_of_half-clause-valid g c).In-Ok).0

pub returns-in-Ok-records_of_half-clause-long_enough :
    goal.returns-in-Ok-records_of_half-clause-long_enough
returns-in-Ok-records_of_half-clause-long_enough g c =
    let long = (good g (goal.at.returns-in-Ok-records_of_half-clause-long_enough g c).In-Ok).1 in
    omega (arith, long, c.len-len.ensures)

-- the half was read that the head selects
half_read : (g : given.Over) (c : After-deref-2 g) → (g.D.Disk.state c.read-2.new.self).IsHonest
    → IsHalfRead (g.D.Disk.state c.args.disk.now).bytes c.read.new.out c.deref-2.result.now
    c.in-Ok.geometry c.if-head-eq1.half
half_read g c honest =
    let B = (g.D.Disk.state c.args.disk.now).bytes in
    let geometry = c.in-Ok.geometry in
    let half = c.if-head-eq1.half in
    let mid = c.read-2.ensures.keeps.was_honest honest in
    let first = c.read.ensures.keeps.was_honest mid in
    let sound = g.met.D.Disk.sound c.args.disk.now first in
    let head = on_ok c.read.result c.is_err.result c.is_err.ensures.value c.if-is_err.false
    (c.read.ensures.bytes mid) in
    let told : Some geometry ≡ geometry_of B =
    geometry_told B c.read.new.out c.len-len.result (Some geometry)
    (omega (arith, (sound.images _ sound.bytes).len_is, c.len-len.ensures)) (omega arith) head
    (λ rest long. c.in-Ok.ensures.read rest long) in
    let at = c.half_start.result in
    let n = length c.deref_mut.result.now in
    let place : at ≡ half_start geometry half = c.half_start.ensures.value in
    let size : n ≡ half_size geometry =
    c.deref_mut.ensures.len ∙ c.in-Ok-vec.ensures.len ∙ c.half_size.ensures.value in
    let width : at + n - at ≡ half_size geometry = sub-same at n ∙ size in
    let read = on_ok c.read-2.result c.is_err-2.result c.is_err-2.ensures.value c.if-is_err-2.false
    (c.read-2.ensures.bytes honest) in
    let bytes : c.read-2.new.out ≡ take (half_size geometry) (drop (half_start geometry half) B) =
    read ∙ ap (λ b. take (at + n - at) (drop at b)) (c.read.ensures.unchanged first).bytes
    ∙ ap (λ k. take k (drop at B)) width ∙ ap (λ k. take (half_size geometry) (drop k B)) place in
    let chosen : half ≡ (if slice_index c.read.new.out 8 == 1 then 1 else 0) =
    elim c.if-head-eq1.branch [
      | then-head-eq1 w ↦ chosen_one (slice_index c.read.new.out 8) half w.if-head-eq1.true
          w.half-is
      | else-head-eq1 w ↦ chosen_none (slice_index c.read.new.out 8) half w.if-head-eq1.false
          w.half-is
    ] in
    let passed : c.deref-2.result.now ≡ c.read-2.new.out =
    c.deref-2.ensures.value ∙ written_back c.in-Ok-vec.bytes.len c.read-2.new.out _
    (omega (arith, c.deref_mut.ensures.len, c.in-Ok-vec.ensures.len)) in
    record { front = head; told = sym told; chosen = chosen; read = passed ∙ bytes }

pub returns-in-Ok-records_of_half-clause-loaded : goal.returns-in-Ok-records_of_half-clause-loaded
returns-in-Ok-records_of_half-clause-loaded g c = λ honest.
    half_told (g.D.Disk.state c.args.disk.now).bytes c.read.new.out c.deref-2.result.now
    c.in-Ok.geometry c.if-head-eq1.half
    (half_read g (goal.at.returns-in-Ok-records_of_half-clause-loaded g c).After-deref-2 honest)
    ∙ c.in-Ok-records_of_half.ensures.ok c.if-head-eq1.half

pub returns-clause-refused : goal.returns-clause-refused
returns-clause-refused g c =
    load_refused_of_half (g.D.Disk.state c.args.disk.now) (g.D.Disk.state c.read-2.new.self)
    c.in-Ok.geometry c.deref-2.result.now c.in-Err-records_of_half.fault.refusal c.if-head-eq1.half
    c.in-Err-records_of_half.ensures.refused
    (λ honest. half_told (g.D.Disk.state c.args.disk.now).bytes c.read.new.out
    c.deref-2.result.now c.in-Ok.geometry c.if-head-eq1.half
    (half_read g (goal.at.returns-clause-refused g c).After-deref-2 honest))

pub returns-clause-so : goal.returns-clause-so
returns-clause-so g c = λ honest.
    reason_told (g.D.Disk.state c.args.disk.now).bytes c.read.new.out c.deref-2.result.now
    c.in-Ok.geometry c.if-head-eq1.half
    (half_read g (goal.at.returns-clause-so g c).After-deref-2 honest)
    c.in-Err-records_of_half.fault.reason c.in-Err-records_of_half.ensures.so

pub returns-then-len-clause-reason : goal.returns-then-len-clause-reason
returns-then-len-clause-reason g c = given_reason c.of.result _ c.of.ensures

pub returns-then-len-clause-so : goal.returns-then-len-clause-so
returns-then-len-clause-so g c = λ honest.
    let sound = g.met.D.Disk.sound c.args.disk.now honest in
    reason_as (g.D.Disk.state c.args.disk.now).bytes c.of.result (Head (Short c.len-len.result))
    c.of.ensures
    (omega (arith, (sound.images _ sound.bytes).len_is, c.len-len.ensures), c.if-len.true)

pub returns-then-is_err-clause-reason : goal.returns-then-is_err-clause-reason
returns-then-is_err-clause-reason g c =
    plain_reason c.plain.result DeviceFault c.plain.ensures (inr refl)

pub returns-then-is_err-clause-so : goal.returns-then-is_err-clause-so
returns-then-is_err-clause-so g c = λ honest.
    plain_so (g.D.Disk.state c.args.disk.now).bytes c.plain.result DeviceFault c.plain.ensures

pub returns-in-Err-clause-reason : goal.returns-in-Err-clause-reason
returns-in-Err-clause-reason g c =
    given_reason c.of-in-Err.result (Head c.in-Err.fault) c.of-in-Err.ensures

pub returns-in_default-clause-reason : goal.returns-in_default-clause-reason
returns-in_default-clause-reason g c =
    plain_reason c.plain-in_default.result OutOfMemory c.plain-in_default.ensures (inl refl)

pub returns-in_default-clause-so : goal.returns-in_default-clause-so
returns-in_default-clause-so g c = λ honest.
    plain_so (g.D.Disk.state c.args.disk.now).bytes c.plain-in_default.result OutOfMemory
    c.plain-in_default.ensures

pub returns-then-is_err-2-clause-reason : goal.returns-then-is_err-2-clause-reason
returns-then-is_err-2-clause-reason g c =
    plain_reason c.plain-then-is_err-2.result DeviceFault c.plain-then-is_err-2.ensures (inr refl)

pub returns-then-is_err-2-clause-so : goal.returns-then-is_err-2-clause-so
returns-then-is_err-2-clause-so g c = λ honest.
    plain_so (g.D.Disk.state c.args.disk.now).bytes c.plain-then-is_err-2.result DeviceFault
    c.plain-then-is_err-2.ensures

pub returns-clause-reason : goal.returns-clause-reason
returns-clause-reason g c = c.in-Err-records_of_half.ensures.reason

pub slice_bounds-read-end : goal.slice_bounds-read-end
slice_bounds-read-end g c = omega arith

pub read-requires : goal.read-requires
read-requires g c = omega arith

pub slice_bounds-geometry_of_head-end : goal.slice_bounds-geometry_of_head-end
slice_bounds-geometry_of_head-end g c = omega arith

pub geometry_of_head-requires : goal.geometry_of_head-requires
geometry_of_head-requires g c = omega arith

pub bounds-head-8 : goal.bounds-head-8
bounds-head-8 g c = omega arith

pub half_start-requires : goal.half_start-requires
half_start-requires g c = omega arith
