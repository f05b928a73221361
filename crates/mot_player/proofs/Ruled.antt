-- A sound carousel that keeps the rules can be played.
use Rattle.std.proofs.Common.{ℕ, ◌≤◌, List, [], ◌∷◌, refl, map, arith}
use Rattle.std.proofs.lemmas.List.Elements.{All-from_recursion}
use Rattle.std.specs.List.{AllByRecursion}
use Rattle.mot_directory.specs.Entries.{HasDirectory, IsWithinLimits}
use Rattle.mot_directory.proofs.Laws.{length-directory_of, read_directory-directory_of}
use Rattle.mot_numbers.specs.declared.numbers.TheConstants.{MAX_SEGMENT, MIN_SEGMENT}
use Rattle.mot_objects.specs.Carousel.{Carousel, IsSound, Object, AllKeepRules, KeepsRules}
use Rattle.mot_player.specs.Turn.{IsPlayable, IsSendable, IsTurnOf, bodies_with_ids}
use Rattle.mot_player.specs.Turn.{turn_of_carousel}
use Rattle.mot_player.proofs.WholeTurn.{IsId}

within-limits : (objects : List Object) → AllByRecursion KeepsRules objects →
    AllByRecursion IsId (map (λ (o : Object). o.tid) objects) →
    AllByRecursion IsWithinLimits objects
within-limits [] rules ids = tt
within-limits (o ∷ objects) rules ids =
    grind (arith, within-limits objects rules.1 ids.1)

sendable : (size : ℕ) (objects : List Object) → MIN_SEGMENT ≤ size →
    AllByRecursion KeepsRules objects →
    AllByRecursion (λ (b : ℕ × List ℕ). IsSendable size b.1) (bodies_with_ids objects)
sendable size [] least rules = tt
sendable size (o ∷ objects) least rules =
    grind (arith, sendable size objects least rules.1)

-- its turn is a turn of it, and can be sent in segments of each size that a geometry may have
pub plays-carousel : (c : Carousel) (size : ℕ) → IsSound c → AllKeepRules c →
    (MIN_SEGMENT ≤ size) × (size ≤ MAX_SEGMENT) →
    IsTurnOf (turn_of_carousel c size) c size × IsPlayable (turn_of_carousel c size) size
plays-carousel c size sound rules range =
    let has : HasDirectory c size = record {
      period = rules.period;
      size = range.1;
      few = sound.few;
      objects = All-from_recursion IsWithinLimits c.objects
          (within-limits c.objects rules.objects sound.range.1);
    } in
    let long = length-directory_of c size has in (
      record { tid = refl; directory = read_directory-directory_of c size has; bodies = refl },
      record {
        directory = record {
          some = long.0;
          numbered = omega (arith, long.1, range.0);
        };
        bodies = All-from_recursion (λ (b : ℕ × List ℕ). IsSendable size b.1)
            (bodies_with_ids c.objects) (sendable size c.objects range.0 rules.objects);
      },
    )
