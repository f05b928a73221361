use Rattle.std.proofs.Common.{◌≡◌, ap, inl, inr, refl}
use Rattle.std.specs.Prelude.{◌⊎◌}
use Rattle.mot_folder.specs.Inner.Reading.Misses.{was_refused, was_unread}
use Rattle.mot_folder.specs.declared.folder.Untaken.TheVariants.{Refused}
use Rattle.mot_folder.proofs.folder.read.Goals as goal
use Rattle.mot_numbers.specs.declared.refusal.Refusal.{Refusal}
use Rattle.mot_numbers.specs.declared.refusal.Refusal.TheVariants.{OutOfMemory}
use Rattle.mot_shelf.proofs.Laws.{gives_one}
use Rattle.mot_shelf.specs.Given.{and_missed, and_read}

-- why nothing is wanted of it
why : {P : Type 0} (refusal : Refusal) → P ⊎ (refusal ≡ OutOfMemory)
    → P ⊎ (Refused refusal ≡ Refused OutOfMemory)
why refusal (inl untakable) = inl untakable
why refusal (inr none) = inr (ap Refused none)

pub returns-in-Err-wanted_of_file-clause-took : goal.returns-in-Err-wanted_of_file-clause-took
returns-in-Err-wanted_of_file-clause-took g c = λ given.
    let bytes = c.in-Ok.file.bytes.items in
    let stamp = c.in-Ok.file.stamp in
    let new = and_read given c.as_bytes.result.now bytes stamp in (
      new,
      gives_one _ _ given new (c.in-Ok.ensures.asks given),
      was_refused bytes stamp (ap (λ n. and_read given n bytes stamp) c.as_bytes.ensures.value)
          (why c.in-Err-wanted_of_file.refusal c.in-Err-wanted_of_file.ensures.why),
    )

pub returns-in-Ok-wanted_of_file-clause-took : goal.returns-in-Ok-wanted_of_file-clause-took
returns-in-Ok-wanted_of_file-clause-took g c = λ given.
    let made = c.in-Ok-wanted_of_file.ensures.made in
    let bytes = c.in-Ok.file.bytes.items in
    let stamp = c.in-Ok.file.stamp in
    let new = and_read given c.as_bytes.result.now bytes stamp in (
      new,
      gives_one _ _ given new (c.in-Ok.ensures.asks given),
      (
        record {
          bytes = bytes;
          type = made.0;
          stamp = stamp;
          typed = made.1;
          read = ap (λ n. and_read given n bytes stamp) c.as_bytes.ensures.value;
          made = made.2;
        },
        refl,
      ),
    )

pub returns-in-Err-clause-took : goal.returns-in-Err-clause-took
returns-in-Err-clause-took g c = λ given.
    let new = and_missed given c.as_bytes.result.now in (
      new,
      gives_one _ _ given new (c.in-Err.ensures.asks given),
      was_unread (ap (and_missed given) c.as_bytes.ensures.value),
    )
