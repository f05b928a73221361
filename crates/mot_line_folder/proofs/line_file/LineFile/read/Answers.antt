use Rattle.std.proofs.Common.{ℕ, List, [], ◌∷◌, ◌++◌, ◌≡◌, ◌≢◌, ◌≤◌, zero, suc, Ok, length, refl, arith, set, take}
use Rattle.mot_files.specs.Call.{Call, read}
use Rattle.mot_files.specs.declared.system.Handle.{Handle}
use Rattle.mot_line_folder.specs.LineReads.ReadsLines.{failed, given, line_end}
use Rattle.mot_line_folder.proofs.Steps.{failed_is}
use Rattle.mot_line_folder.proofs.line_file.LineFile.read.Goals as goal

pub returns-in_err-count-clause-reads : goal.returns-in_err-count-clause-reads
returns-in_err-count-clause-reads g c =
    failed c.in_err-count.field-0.0 (failed_is _ _ c.from_residual.ensures.1) refl c.in_err-count.ensures.noted

pub returns-then-count-gt0-clause-reads : goal.returns-then-count-gt0-clause-reads
returns-then-count-gt0-clause-reads g c =
    given c.in_ok-count.count (omega (arith, c.if-count-gt0.true)) refl refl c.in_ok-count.ensures.noted

first_is : (room : List ℕ) → length room ≢ 0 → take 1 (set room 0 10) ≡ 10 ∷ []
first_is [] some = absurd (some refl)
first_is (x ∷ room) some = refl

none_read : (handle : Handle) (room : List ℕ) (count : ℕ) (old new : List Call) → count ≤ 0
    → new ≡ old ++ read handle room (Ok count) ∷ [] → new ≡ old ++ read handle [] (Ok 0) ∷ []
none_read handle room zero old new none here = here
none_read handle room (suc n) old new none here = absurd (omega (arith, none))

pub returns-clause-reads : goal.returns-clause-reads
returns-clause-reads g c =
    line_end refl c.if-not-self.false refl
    (first_is c.read.new.room (grind (arith, c.if-is_empty.ensures)))
    (none_read _ c.read.new.room c.in_ok-count.count _ _ c.if-count-gt0.false c.in_ok-count.ensures.noted)
