use Rattle.std.proofs.Common.{◌-◌, ◌*◌, false, List, ℕ, ◌++◌, length, replicate, take, drop, get_or}
use Rattle.std.proofs.Common.{ap, ◌∙◌}
use Rattle.mot_base.specs.Checksum.{remainder, added_to_front, bits_of, bits_of_bytes}
use Rattle.mot_base.proofs.Division.{six_step, six_front}
use Rattle.mot_base.proofs.checksum.with_rest.Goals as goal

pub returns-in-len6-up : goal.returns-in-len6-up
returns-in-len6-up c =
    let rest : List ℕ = c.args.rest.now in
    let others : List ℕ = take (length rest - 6) (drop 6 rest) in
    ap (λ l. remainder (8 * length l)
    (added_to_front (bits_of 16 c.args.register) (bits_of_bytes l ++ replicate 16 false)))
    (six_front rest c.in-len6-up.len_at_least)
    ∙ six_step c.args.register c.with_six-after_six.result (get_or rest 0 0) (get_or rest 1 0)
    (get_or rest 2 0) (get_or rest 3 0) (get_or rest 4 0) (get_or rest 5 0)
    others c.with_six-after_six.ensures
    ∙ c.with_bytes-in-len6-up.ensures
