use Rattle.std.proofs.Common.{◌-◌, ◌*◌, false, List, ℕ, ◌++◌, length, replicate, take, drop, get_or}
use Rattle.std.proofs.Common.{sym, ap, ◌∙◌, arith}
use Rattle.mot_base.specs.Checksum.{remainder, added_to_front, bits_of, bits_of_bytes}
use Rattle.mot_base.proofs.Division.{ones, eight_step, eight_front}
use Rattle.mot_base.proofs.checksum.register_of_short.Goals as goal

pub loop-rest-init : goal.loop-rest-init
loop-rest-init c =
    ap (λ l. remainder (8 * length c.args.bytes.now)
    (added_to_front l (bits_of_bytes c.args.bytes.now ++ replicate 16 false))) ones

pub loop-rest-preserved : goal.loop-rest-preserved
loop-rest-preserved c =
    let rest : List ℕ = c.loop-rest.rest.now in
    let others : List ℕ = take (length rest - 8) (drop 8 rest) in
    sym (eight_step c.loop-rest.register c.with_eight-register.result (get_or rest 0 0)
    (get_or rest 1 0) (get_or rest 2 0) (get_or rest 3 0)
    (get_or rest 4 0) (get_or rest 5 0) (get_or rest 6 0) (get_or rest 7 0)
    others c.with_eight-register.ensures)
    ∙ ap (λ l. remainder (8 * length l)
    (added_to_front (bits_of 16 c.loop-rest.register) (bits_of_bytes l ++ replicate 16 false)))
    (sym (eight_front rest c.in-len8-up.len_at_least))
    ∙ c.loop-rest.invariant

pub loop-rest-smaller : goal.loop-rest-smaller
loop-rest-smaller c = omega
    (arith, ap length (eight_front c.loop-rest.rest.now c.in-len8-up.len_at_least))

pub returns : goal.returns
returns c = sym c.loop-rest.invariant ∙ c.with_rest.ensures
