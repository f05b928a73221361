use Rattle.std.proofs.Common.{◌≡◌, ℕ, ◌+◌, ◌*◌, ◌≤◌, List, [], ◌++◌, take, length, Option, subst}
use Rattle.std.proofs.Common.{arith, append-nil, length-append, length-take, inl, inr, sym, ap, ◌∙◌}
use Rattle.std.proofs.Common.{refl, Some, None}
use Rattle.std.proofs.Math.Logic.{⊎_elim}
use Rattle.std.specs.Io.KnownBytes.{Consumes, Keeps}
use Rattle.std.proofs.KnownBytes.{Consumes-nil, Consumes-trans}
use Rattle.mot_session.specs.declared.serving.TheConstants.{READ_SIZE}
use Rattle.mot_session.specs.Served.{TakesInput}
use Rattle.mot_session.proofs.SessionLaws.{session-laws}
use Rattle.mot_session.proofs.Each.{each-none}
use Rattle.mot_session.proofs.Ends.{fault_of_end, lines_of_end, not_none}
use Rattle.mot_session.proofs.Ends.{memory_not_read, memory_not_write, read_not_write}
use Rattle.mot_session.proofs.Requests.{goes_on-more, goes_on-none}
use Rattle.mot_session.proofs.Runs.{InHand-none}
use Rattle.mot_session.proofs.serving.serve.Goals as goal

-- a read of nothing
none_read : (a b d : Option (List ℕ)) (input buf : List ℕ) (count : ℕ) → Consumes a b input
    → Consumes b d (take count buf) → count ≡ 0 → Consumes a d input
none_read a b d input buf count p q e =
    subst (Consumes a d) (append-nil input) (Consumes-trans a b d input [] p
    (subst (λ n. Consumes b d (take n buf)) e q))

-- more reads may have been allowed
allowed : (few many : ℕ) (a b d : Option (List ℕ)) (input : List ℕ) → few ≤ many
    → TakesInput few a b input → Consumes a d input → TakesInput many a d input
allowed few many a b d input l t q = record {
  consumed = q;
  bounded = let some = t.bounded in omega (arith, some, l);
}

-- one more read
read_more : (few many : ℕ) (a b d : Option (List ℕ)) (input bytes : List ℕ) → few + 1 ≤ many
    → length bytes ≤ READ_SIZE → TakesInput few a b input → Consumes b d bytes
    → TakesInput many a d (input ++ bytes)
read_more few many a b d input bytes l short t q = record {
  consumed = Consumes-trans a b d input bytes t.consumed q;
  bounded = let some = t.bounded in omega (arith, some, length-append input bytes);
}

-- a read that fails
unmoved : (a b d : Option (List ℕ)) (input : List ℕ) → Consumes a b input → Keeps b d
    → Consumes a d input
unmoved None b d input p k = tt
unmoved (Some xs) None d input p k = absurd p
unmoved (Some xs) (Some ys) None input p k = absurd k
unmoved (Some xs) (Some ys) (Some zs) input p k = p ∙ ap (λ l. input ++ l) (sym k)

same_known : (known : Option (List ℕ)) → Keeps known known
same_known None = tt
same_known (Some xs) = refl

pub loop-init : goal.loop-init
loop-init g c =
    let server = c.args.server.now in record {
      bound = omega arith;
      goes = goes_on-none server (g.D.Disk.state server.disk);
      taken = (
        [],
        record { consumed = Consumes-nil _; bounded = omega arith },
        InHand-none _ c.in-Ok.ensures,
        each-none g.D.Disk.state server (g.W.Write.contents c.args.writer.now),
      );
    }

pub returns-then-count-eq0-clause-ended : goal.returns-then-count-eq0-clause-ended
returns-then-count-eq0-clause-ended g c = λ none.
    let t = c.loop.invariant.taken in
    let r = c.in-Ok-read.ensures.bytes in
    let more = c.loop-test.true in
    let first = c.args.server.now in (
      t.0,
      allowed c.loop.counter c.args.reads _ _ _ t.0 (omega (arith, more)) t.1
          (none_read _ _ _ t.0 c.read.new.buf c.in-Ok-read.count t.1.consumed r.0
          c.if-count-eq0.true),
      r.1 c.if-count-eq0.true (omega arith),
      c.answer_last.ensures.lines none t.0 t.2,
      c.answer_last.ensures.each none first (g.W.Write.contents c.args.writer.now) t.0 t.2 t.3,
    )

pub returns-then-count-eq0-clause-unwritten : goal.returns-then-count-eq0-clause-unwritten
returns-then-count-eq0-clause-unwritten g c = λ fault.
    let t = c.loop.invariant.taken in
    let r = c.in-Ok-read.ensures.bytes in
    let more = c.loop-test.true in
    let first = c.args.server.now in (
      t.0,
      allowed c.loop.counter c.args.reads _ _ _ t.0 (omega (arith, more)) t.1
          (none_read _ _ _ t.0 c.read.new.buf c.in-Ok-read.count t.1.consumed r.0
          c.if-count-eq0.true),
      inr (
        r.1 c.if-count-eq0.true (omega arith),
        c.answer_last.ensures.some fault first (g.W.Write.contents c.args.writer.now) t.0 t.2 t.3,
      ),
    )

pub returns-in_default-answer_chunk-clause-unwritten :
    goal.returns-in_default-answer_chunk-clause-unwritten
returns-in_default-answer_chunk-clause-unwritten g c = λ fault.
    let t = c.loop.invariant.taken in
    let r = c.in-Ok-read.ensures.bytes in
    let m = c.in-Ok-read.ensures.bound in
    let more = c.loop-test.true in
    let first = c.args.server.now in
    rw c.ended-in_default-answer_chunk.ensures (
      t.0 ++ take c.in-Ok-read.count c.read.new.buf,
      read_more c.loop.counter c.args.reads _ _ _ t.0 (take c.in-Ok-read.count c.read.new.buf)
          (omega (arith, more))
          (omega (arith, length-take c.in-Ok-read.count c.read.new.buf, m.0, m.1)) t.1 r.0,
      inl (c.in_default-answer_chunk.ensures.some first (g.W.Write.contents c.args.writer.now)
          t.0 t.2 t.3),
    )

pub loop-preserved : goal.loop-preserved
loop-preserved g c =
    let state = g.D.Disk.state in
    let inv = c.loop.invariant in
    let t = inv.taken in
    let r = c.in-Ok-read.ensures.bytes in
    let one = c.in-Ok-answer_chunk.ensures in
    let b = one.bound in
    let m = c.in-Ok-read.ensures.bound in
    let first = c.args.server.now in
    let mid_server = c.loop.server in
    let new = c.answer_chunk.new.server in
    record {
      bound = let l : c.loop.lines ≤ READ_SIZE * c.loop.counter = c.loop.invariant.bound in
          omega (arith, b, m.0, m.1, l);
      goes = goes_on-more first mid_server new (state first.disk) (state mid_server.disk)
          (state new.disk)
          inv.goes one.goes;
      taken = (
        t.0 ++ take c.in-Ok-read.count c.read.new.buf,
        read_more c.loop.counter (c.loop.counter + 1) _ _ _ t.0
            (take c.in-Ok-read.count c.read.new.buf) (omega arith)
            (omega (arith, length-take c.in-Ok-read.count c.read.new.buf, m.0, m.1)) t.1 r.0,
        one.hand t.0 t.2,
        one.each first (g.W.Write.contents c.args.writer.now) t.0 t.2 t.3,
      );
    }

-- on each way out

pub returns-in_default-clause-laws : goal.returns-in_default-clause-laws
returns-in_default-clause-laws g c = session-laws

pub returns-in_default-read-clause-laws : goal.returns-in_default-read-clause-laws
returns-in_default-read-clause-laws g c = session-laws

pub returns-then-count-eq0-clause-laws : goal.returns-then-count-eq0-clause-laws
returns-then-count-eq0-clause-laws g c = session-laws

pub returns-in_default-answer_chunk-clause-laws : goal.returns-in_default-answer_chunk-clause-laws
returns-in_default-answer_chunk-clause-laws g c = session-laws

pub returns-clause-laws : goal.returns-clause-laws
returns-clause-laws g c = session-laws

pub returns-in_default-clause-ended : goal.returns-in_default-clause-ended
returns-in_default-clause-ended g c = λ none.
    absurd (not_none (sym (fault_of_end _ _ _ c.ended.ensures) ∙ none))

pub returns-in_default-read-clause-ended : goal.returns-in_default-read-clause-ended
returns-in_default-read-clause-ended g c = λ none.
    absurd (not_none (sym (fault_of_end _ _ _ c.ended-in_default-read.ensures) ∙ none))

pub returns-in_default-answer_chunk-clause-ended :
    goal.returns-in_default-answer_chunk-clause-ended
returns-in_default-answer_chunk-clause-ended g c = λ none.
    absurd (not_none (sym (fault_of_end _ _ _ c.ended-in_default-answer_chunk.ensures) ∙ none))

pub returns-clause-ended : goal.returns-clause-ended
returns-clause-ended g c = λ none.
    absurd (not_none (sym (fault_of_end _ _ _ c.ended-2.ensures) ∙ none))

pub returns-in_default-clause-unread : goal.returns-in_default-clause-unread
returns-in_default-clause-unread g c = λ read.
    absurd (memory_not_read (sym (fault_of_end _ _ _ c.ended.ensures) ∙ read))

pub returns-in_default-clause-unwritten : goal.returns-in_default-clause-unwritten
returns-in_default-clause-unwritten g c = λ write.
    absurd (memory_not_write (sym (fault_of_end _ _ _ c.ended.ensures) ∙ write))

pub returns-in_default-clause-none : goal.returns-in_default-clause-none
returns-in_default-clause-none g c = λ memory. (
  lines_of_end _ _ _ c.ended.ensures,
  refl,
  same_known (g.R.Read.remaining c.args.reader.now),
  same_known (g.W.Write.contents c.args.writer.now),
)

pub returns-in_default-clause-faults : goal.returns-in_default-clause-faults
returns-in_default-clause-faults g c = inr (inl (fault_of_end _ _ _ c.ended.ensures))

pub returns-in_default-clause-goes : goal.returns-in_default-clause-goes
returns-in_default-clause-goes g c =
    goes_on-none c.args.server.now (g.D.Disk.state c.args.server.now.disk)

pub returns-in_default-read-clause-unwritten : goal.returns-in_default-read-clause-unwritten
returns-in_default-read-clause-unwritten g c = λ write.
    absurd (read_not_write (sym (fault_of_end _ _ _ c.ended-in_default-read.ensures) ∙ write))

pub returns-in_default-read-clause-none : goal.returns-in_default-read-clause-none
returns-in_default-read-clause-none g c = λ memory.
    absurd (memory_not_read (sym memory ∙ (fault_of_end _ _ _ c.ended-in_default-read.ensures)))

pub returns-in_default-read-clause-faults : goal.returns-in_default-read-clause-faults
returns-in_default-read-clause-faults g c =
    inr (inr (inl (fault_of_end _ _ _ c.ended-in_default-read.ensures)))

pub returns-in_default-read-clause-goes : goal.returns-in_default-read-clause-goes
returns-in_default-read-clause-goes g c = c.loop.invariant.goes

pub returns-clause-unwritten : goal.returns-clause-unwritten
returns-clause-unwritten g c = λ write.
    absurd (read_not_write (sym (fault_of_end _ _ _ c.ended-2.ensures) ∙ write))

pub returns-clause-none : goal.returns-clause-none
returns-clause-none g c = λ memory.
    absurd (memory_not_read (sym memory ∙ (fault_of_end _ _ _ c.ended-2.ensures)))

pub returns-clause-faults : goal.returns-clause-faults
returns-clause-faults g c = inr (inr (inl (fault_of_end _ _ _ c.ended-2.ensures)))

pub returns-clause-goes : goal.returns-clause-goes
returns-clause-goes g c = c.loop.invariant.goes

pub returns-in_default-read-clause-unread : goal.returns-in_default-read-clause-unread
returns-in_default-read-clause-unread g c = λ read.
    let t = c.loop.invariant.taken in
    let more = c.loop-test.true in (
      t.0,
      allowed c.loop.counter c.args.reads _ _ _ t.0 (omega (arith, more)) t.1
          (unmoved _ _ _ t.0 t.1.consumed c.in_default-read.ensures.bytes),
      lines_of_end _ _ _ c.ended-in_default-read.ensures ∙ t.2.counted,
      t.3,
    )

pub returns-clause-unread : goal.returns-clause-unread
returns-clause-unread g c = λ read.
    let t = c.loop.invariant.taken in (
      t.0,
      allowed c.loop.counter c.args.reads _ _ _ t.0 (omega arith) t.1 t.1.consumed,
      lines_of_end _ _ _ c.ended-2.ensures ∙ t.2.counted,
      t.3,
    )

pub returns-in_default-answer_chunk-clause-unread :
    goal.returns-in_default-answer_chunk-clause-unread
returns-in_default-answer_chunk-clause-unread g c = λ read.
    absurd (read_not_write
    (sym read ∙ (fault_of_end _ _ _ c.ended-in_default-answer_chunk.ensures)))

pub returns-in_default-answer_chunk-clause-none : goal.returns-in_default-answer_chunk-clause-none
returns-in_default-answer_chunk-clause-none g c = λ memory.
    absurd (memory_not_write
    (sym memory ∙ (fault_of_end _ _ _ c.ended-in_default-answer_chunk.ensures)))

pub returns-in_default-answer_chunk-clause-faults :
    goal.returns-in_default-answer_chunk-clause-faults
returns-in_default-answer_chunk-clause-faults g c =
    inr (inr (inr (fault_of_end _ _ _ c.ended-in_default-answer_chunk.ensures)))

pub returns-in_default-answer_chunk-clause-goes :
    goal.returns-in_default-answer_chunk-clause-goes
returns-in_default-answer_chunk-clause-goes g c =
    let state = g.D.Disk.state in
    let first = c.args.server.now in
    let mid = c.loop.server in
    let new = c.answer_chunk.new.server in
    goes_on-more first mid new (state first.disk) (state mid.disk) (state new.disk)
    c.loop.invariant.goes c.in_default-answer_chunk.ensures.goes

pub returns-then-count-eq0-clause-unread : goal.returns-then-count-eq0-clause-unread
returns-then-count-eq0-clause-unread g c = λ read.
    ⊎_elim (λ none. absurd (not_none (sym read ∙ none)))
    (λ write. absurd (read_not_write (sym read ∙ write))) c.answer_last.ensures.fault

pub returns-then-count-eq0-clause-none : goal.returns-then-count-eq0-clause-none
returns-then-count-eq0-clause-none g c = λ memory.
    ⊎_elim (λ none. absurd (not_none (sym memory ∙ none)))
    (λ write. absurd (memory_not_write (sym memory ∙ write))) c.answer_last.ensures.fault

pub returns-then-count-eq0-clause-faults : goal.returns-then-count-eq0-clause-faults
returns-then-count-eq0-clause-faults g c =
    ⊎_elim (λ none. inl none) (λ write. inr (inr (inr write))) c.answer_last.ensures.fault

pub returns-then-count-eq0-clause-goes : goal.returns-then-count-eq0-clause-goes
returns-then-count-eq0-clause-goes g c =
    let state = g.D.Disk.state in
    let first = c.args.server.now in
    let mid = c.loop.server in
    let new = c.answer_last.new.server in
    goes_on-more first mid new (state first.disk) (state mid.disk) (state new.disk)
    c.loop.invariant.goes c.answer_last.ensures.goes
