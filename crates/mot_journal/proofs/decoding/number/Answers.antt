use Rattle.std.proofs.Common.{◌≡◌, ◌^◌, ◌+◌, ◌-◌, ◌<◌, ◌≤◌, ap, ◌∙◌, subst, length, take, drop}
use Rattle.std.proofs.Common.{arith}
use Rattle.std.proofs.Math.Nat.{pow-le-pow_right}
use Rattle.std.proofs.lemmas.List.{length-take, length-drop}
use Rattle.mot_journal.proofs.Encoded.{number_read, number_below, All-get_or-below}
use Rattle.mot_journal.proofs.decoding.number.Goals as goal
use Rattle.mot_numbers.specs.Reading.{number_in}

pub returns-clause-value : goal.returns-clause-value
returns-clause-value c =
    let l = take (c.args.at + c.args.width - c.args.at) (drop c.args.at c.args.bytes.now) in
    c.read_uint.ensures
    ∙ number_read c.args.width l
    (omega (
      arith,
      length-take (c.args.at + c.args.width - c.args.at)
          (drop c.args.at c.args.bytes.now),
      length-drop c.args.at c.args.bytes.now,
      c.requires.within,
    ))
    ∙ ap (λ n. number_in (take n (drop c.args.at c.args.bytes.now))) (omega arith)

pub returns-clause-fits : goal.returns-clause-fits
returns-clause-fits c =
    let l = take c.args.width (drop c.args.at c.args.bytes.now) in
    let n : length l ≡ c.args.width =
    omega (
      arith,
      length-take c.args.width (drop c.args.at c.args.bytes.now),
      length-drop c.args.at c.args.bytes.now,
      c.requires.within,
    ) in
    let below : number_in l < 256 ^ c.args.width =
    subst (λ k. number_in l < 256 ^ k) n
    (number_below l (λ i. All-get_or-below c.args.bytes.now c.args.at c.args.width i
    c.type_inv.bytes)) in
    rw (returns-clause-value c) below

pub overflow_cast-result : goal.overflow_cast-result
overflow_cast-result c =
    let most : 256 ^ c.args.width ≤ 256 ^ 4 =
    pow-le-pow_right {n = 256} (omega arith) {i = c.args.width} {j = 4} c.requires.narrow in
    omega (arith, most, returns-clause-fits c)
