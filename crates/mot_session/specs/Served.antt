-- What was read and written so far.
use Rattle.std.specs.Prelude.{ℕ, ◌≡◌, ◌≤◌, ◌*◌, ◌⊎◌, List, [], ◌∷◌, ◌++◌, length, Option, Some}
use Rattle.std.specs.Prelude.{None, Result, IsFalse, true, false, Ok, Err}
use Rattle.std.specs.Io.KnownBytes.{Appends, Consumes}
use Rattle.disk_model.specs.Disk.{State}
use Rattle.mot_lines.specs.Line.{line_of}
use Rattle.mot_lines.specs.declared.line.Line.{Line}
use Rattle.mot_numbers.specs.declared.refusal.Refusal.{Refusal}
use Rattle.mot_numbers.specs.declared.refusal.Refusal.TheVariants.{OutOfMemory, ReadFault}
use Rattle.mot_numbers.specs.declared.refusal.Refusal.TheVariants.{WriteFault}
use Rattle.mot_player.specs.Place.{Sent}
use Rattle.mot_session.specs.declared.serving.TheConstants.{READ_SIZE}
use Rattle.mot_session.specs.Kept.{IsToldAndStored}
use Rattle.mot_session.specs.Life.{Told, done_in, fails_in}
use Rattle.mot_session.specs.Session.{PlaysForRequest, sent_lines, ServerState, Reply, played}
use Rattle.mot_session.specs.Session.{Answers, text_of}

-- the reader gave these bytes, in at most so many reads
pub record TakesInput (reads : ℕ) (unread left : Option (List ℕ)) (input : List ℕ) : Type 0 where
  pub consumed : Consumes unread left input
  pub bounded : length input ≤ READ_SIZE * reads

-- In each of these the writer's known bytes were old and are new.

-- some first bytes of these were written
pub record WritesFront (bytes : List ℕ) (old new : Option (List ℕ)) : Type 0 where
  pub written : List ℕ
  pub unwritten : List ℕ
  pub split : bytes ≡ written ++ unwritten
  pub appended : Appends old new written

-- What a request's answering had made when its reply was broken off: the whole reply; or some first
-- packets of a `next` or a `turn` line's, and no more were asked for.
pub data Begins (before : ServerState) (request : Result Line Refusal) (reply : Reply)
    (after : ServerState) : Type 0 where
  whole : Answers before request reply after → Begins before request reply after
  begun : (sents : List Sent) → IsFalse before.halted → reply ≡ played sents false
      → PlaysForRequest before request true sents after → Begins before request reply after

-- The request was answered, or its answer was begun, and some first bytes of the reply were
-- written; a packet was asked for only where the lines of those before it were.
pub record BrokenOff (before : ServerState) (request : Result Line Refusal) (reply : Reply)
    (after : ServerState) (old new : Option (List ℕ)) : Type 0 where
  pub begins : Begins before request reply after
  pub written : WritesFront (text_of reply) old new
  pub in_order : (first : List Sent) (last : Sent) → reply ≡ played (first ++ last ∷ []) false
      → length (sent_lines first) ≤ length written.written
  pub cut_in_order : (sents : List Sent) → reply ≡ played sents true
      → length (sent_lines sents) ≤ length written.written

-- The line was answered on a disk that was in a state start and is in a state now, the whole reply
-- was written, and what was told is stored.
pub record ServedLine (start now : State) (before : ServerState) (line : List ℕ)
    (after : ServerState) (old new : Option (List ℕ)) : Type 0 where
  pub reply : Reply
  pub answers : Answers before (line_of line) reply after
  pub appended : Appends old new (text_of reply)
  pub stored : let t : Told = record { line = line; text = text_of reply } in
      IsToldAndStored start now before (done_in t) (fails_in t) after

-- So, but the reply was broken off. Its command is stored all the same.
pub record StoppedLine (start now : State) (before : ServerState) (line : List ℕ)
    (after : ServerState) (old new : Option (List ℕ)) : Type 0 where
  pub reply : Reply
  pub broken : BrokenOff before (line_of line) reply after old new
  pub stored : let t : Told = record { line = line; text = text_of reply } in
      IsToldAndStored start now before (done_in t) (fails_in t) after

-- what ends serving: the end of the input, or one of three faults
abbrev pub EndsServing : Option Refusal → Type 0
EndsServing fault = (fault ≡ None) ⊎ (fault ≡ Some OutOfMemory) ⊎ (fault ≡ Some ReadFault)
    ⊎ (fault ≡ Some WriteFault)

-- What a call that writes wrote. The writer's known bytes were old and are new.

-- it wrote these bytes, or, after a fault, some first of them
abbrev pub Writes : {T E : Type 0} → Result T E → List ℕ → Option (List ℕ) → Option (List ℕ)
    → Type 0
Writes (Ok done) bytes old new = Appends old new bytes
Writes (Err fault) bytes old new = WritesFront bytes old new
