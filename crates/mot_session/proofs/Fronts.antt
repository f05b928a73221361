-- Some first bytes that were written.
use Rattle.std.proofs.Common.{ℕ, List, [], ◌++◌, take, drop, Option, Result, Ok, Err, sym, ap, ◌∙◌}
use Rattle.std.proofs.Common.{append_assoc, append-nil, take-append-drop}
use Rattle.std.specs.Prelude.{OnOk}
use Rattle.std.specs.Io.KnownBytes.{Appends, Keeps}
use Rattle.std.proofs.KnownBytes.{Appends-trans, Appends-kept}
use Rattle.mot_session.specs.declared.serving.output.WriteFault.{WriteFault}
use Rattle.mot_session.specs.Served.{Writes, WritesFront}

-- bytes up to a place, if they were written, are some first ones
pub WritesFront-take : (bytes : List ℕ) (at : ℕ) (old new : Option (List ℕ))
    → Appends old new (take at bytes) → WritesFront bytes old new
WritesFront-take bytes at old new h = record {
  written = take at bytes;
  unwritten = drop at bytes;
  split = sym (take-append-drop at bytes);
  appended = h;
}

-- all of them
pub WritesFront-all : (bytes : List ℕ) (old new : Option (List ℕ)) → Appends old new bytes
    → WritesFront bytes old new
WritesFront-all bytes old new h = record {
  written = bytes;
  unwritten = [];
  split = sym (append-nil bytes);
  appended = h;
}

-- a front of what comes after bytes that were written
pub WritesFront-after : (front bytes : List ℕ) (old mid new : Option (List ℕ))
    → Appends old mid front
    → WritesFront bytes mid new → WritesFront (front ++ bytes) old new
WritesFront-after front bytes old mid new h w = record {
  written = front ++ w.written;
  unwritten = w.unwritten;
  split = ap (λ l. front ++ l) w.split ∙ sym (append_assoc front w.written w.unwritten);
  appended = Appends-trans old mid new front w.written h w.appended;
}

-- a front of bytes that others come after
pub WritesFront-before : (bytes rest : List ℕ) (old new : Option (List ℕ))
    → WritesFront bytes old new
    → WritesFront (bytes ++ rest) old new
WritesFront-before bytes rest old new w = record {
  written = w.written;
  unwritten = w.unwritten ++ rest;
  split = ap (λ l. l ++ rest) w.split ∙ append_assoc w.written w.unwritten rest;
  appended = w.appended;
}

-- writing goes on after bytes that were written
pub Writes-after : {T E : Type 0} (result : Result T E) (front bytes : List ℕ)
    (old mid new : Option (List ℕ)) → Appends old mid front → Writes result bytes mid new
    → Writes result (front ++ bytes) old new
Writes-after (Ok done) front bytes old mid new h w = Appends-trans old mid new front bytes h w
Writes-after (Err fault) front bytes old mid new h w = WritesFront-after front bytes old mid new h w

-- a flush keeps what was written, and may fail after all of it
pub Writes-kept : {T E : Type 0} (result : Result T E) (bytes : List ℕ)
    (old mid new : Option (List ℕ)) → Appends old mid bytes → Keeps mid new
    → Writes result bytes old new
Writes-kept (Ok done) bytes old mid new h k = Appends-kept old mid new bytes h k
Writes-kept (Err fault) bytes old mid new h k =
    WritesFront-all bytes old new (Appends-kept old mid new bytes h k)

-- what was written, told of both ways out
pub told : {T : Type 0} (result : Result T WriteFault) (bytes : List ℕ) (old new : Option (List ℕ))
    → Writes result bytes old new → WritesFront bytes old new × OnOk result (Appends old new bytes)
told (Ok done) bytes old new w = (WritesFront-all bytes old new w, w)
told (Err fault) bytes old new w = (w, tt)
