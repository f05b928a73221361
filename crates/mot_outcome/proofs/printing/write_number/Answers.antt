use Rattle.mot_playout.specs.Attempts.{fault_of}
use Rattle.std.proofs.Common.{◌≡◌, ◌++◌, ◌∙◌, ◌∷◌, [], subst}
use Rattle.std.proofs.KnownBytes.{Appends-trans}
use Rattle.std.specs.Prelude.{Some}
use Rattle.std.specs.Fmt.{decimal}
use Rattle.std.specs.Io.KnownBytes.{Appends}
use Rattle.mot_outcome.specs.Outcome.{number_line}
use Rattle.mot_outcome.proofs.Parts.{Prints-after, Prints-before, Prints-passed}
use Rattle.mot_outcome.proofs.printing.write_number.Goals as goal
use Rattle.mot_session.specs.Served.{WritesFront}

pub returns-in_err-write_bytes : goal.returns-in_err-write_bytes
returns-in_err-write_bytes g c =
    let old = g.W.Write.contents c.args.writer.now in
    let new = g.W.Write.contents c.write_bytes.new.writer in
    let number = decimal c.args.number in
    Prints-passed c.from_residual.result _ (number_line c.args.bytes.now c.args.number) old new
    c.from_residual.ensures.1
    (Prints-before _ (c.args.bytes.now ++ number) (10 ∷ []) old new
    (Prints-before _ c.args.bytes.now number old new c.in_err-write_bytes.ensures))

pub returns-in_err-write_bytes-2 : goal.returns-in_err-write_bytes-2
returns-in_err-write_bytes-2 g c =
    let old = g.W.Write.contents c.args.writer.now in
    let mid = g.W.Write.contents c.write_bytes.new.writer in
    let new = g.W.Write.contents c.write_bytes-2.new.writer in
    let number = decimal c.args.number in
    let is : c.as_bytes.result.now ≡ number =
    c.as_bytes.ensures.value ∙ c.format.ensures.text in
    let broken = c.in_err-write_bytes-2.ensures in
    Prints-passed c.from_residual-in_err-write_bytes-2.result _
    (number_line c.args.bytes.now c.args.number) old new
    c.from_residual-in_err-write_bytes-2.ensures.1
    (Prints-before _ (c.args.bytes.now ++ number) (10 ∷ []) old new
    (Prints-after (Some _) c.args.bytes.now number old mid new c.in_ok-write_bytes.ensures
    (broken.0, subst (λ l. WritesFront l mid new) is broken.1)))

pub returns : goal.returns
returns g c =
    let old = g.W.Write.contents c.args.writer.now in
    let first = g.W.Write.contents c.write_bytes.new.writer in
    let mid = g.W.Write.contents c.write_bytes-2.new.writer in
    let new = g.W.Write.contents c.write_last.new.writer in
    let number = decimal c.args.number in
    let is : c.as_bytes.result.now ≡ number =
    c.as_bytes.ensures.value ∙ c.format.ensures.text in
    let written = Appends-trans _ _ _ _ _ c.in_ok-write_bytes.ensures
    (subst (Appends first mid) is c.in_ok-write_bytes-2.ensures) in
    Prints-after (fault_of c.write_last.result) (c.args.bytes.now ++ number) (10 ∷ []) old mid
    new written c.write_last.ensures
