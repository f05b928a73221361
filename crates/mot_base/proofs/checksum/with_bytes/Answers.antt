use Rattle.std.proofs.Common.{◌≡◌, ◌+◌, ◌*◌, ◌<◌, false, ◌++◌, [], ◌∷◌, length, replicate, drop}
use Rattle.std.proofs.Common.{get_or, sym, ap, ◌∙◌, arith, add-one, drop-cons}
use Rattle.std.proofs.lemmas.List.{drop_all}
use Rattle.mot_base.specs.Checksum.{remainder, added_to_front, bits_of, bits_of_bytes}
use Rattle.mot_base.proofs.Division.{at_last, byte_step}
use Rattle.mot_base.proofs.checksum.with_bytes.Goals as goal

pub loop-byte-preserved : goal.loop-byte-preserved
loop-byte-preserved c =
    let bytes = c.args.bytes.now in
    let i = c.loop-byte.byte-index in
    let h : i < length bytes = omega arith in
    let cut : drop i bytes ≡ get_or bytes i 0 ∷ drop (i + 1) bytes =
    rw add-one (drop-cons bytes i 0 h) in
    sym (byte_step c.loop-byte.register c.with_byte-register.result (get_or bytes i 0)
    (drop (i + 1) bytes) c.with_byte-register.ensures)
    ∙ ap (λ l. remainder (8 * length l)
    (added_to_front (bits_of 16 c.loop-byte.register) (bits_of_bytes l ++ replicate 16 false)))
    (sym cut)
    ∙ c.loop-byte.invariant

pub returns : goal.returns
returns c =
    let bytes = c.args.bytes.now in
    let none : drop c.loop-byte.byte-index bytes ≡ [] =
    drop_all c.loop-byte.byte-index bytes (omega arith) in
    sym c.loop-byte.invariant
    ∙ ap (λ l. remainder (8 * length l)
    (added_to_front (bits_of 16 c.loop-byte.register) (bits_of_bytes l ++ replicate 16 false)))
    none
    ∙ at_last c.loop-byte.register
