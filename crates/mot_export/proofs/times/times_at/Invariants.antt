use Rattle.std.proofs.Common.{◌≡◌, ◌∷◌, map, take}
use Rattle.mot_objects.specs.declared.object.Object.{Object}
use Rattle.mot_export.specs.Inspecting.{time_of}
use Rattle.mot_listening.specs.Entities.{turn_lengths}
use Rattle.mot_export.proofs.times.times_at.Given as goal

-- the times of the rates so far
abbrev pub invariant-loop-rate : goal.invariant-loop-rate
invariant-loop-rate l = record {
  times : l.times.items ≡ map (time_of (λ room. turn_lengths room l.segment_size
      (l.directory ∷ map (λ (o : Object). o.length) l.carousel.objects.items)))
      (take l.rate-index l.rates);
}
