-- What marks of a run can't be, on worked rows: what the disk has room for is accepted.
use Rattle.std.proofs.Common.{◌≡◌, ⊎_elim, ℕ, ◌≤◌, Bool, true, false, [], ◌∷◌, Some, None, Ok, Err}
use Rattle.std.proofs.Common.{arith}
use Rattle.std.proofs.lemmas.Bool.Decides.{nat_tests}
use Rattle.std.specs.Prelude.{codes, nat_le, if◌then◌else◌}
use Rattle.mot_numbers.specs.declared.geometry.Geometry.{Geometry}
use Rattle.mot_objects.specs.declared.command.Command.TheVariants.{Put, Period}
use Rattle.mot_numbers.specs.declared.refusal.Refusal.TheVariants.{TooManyObjects}
use Rattle.mot_objects.specs.Carousel.{Carousel, carousel_if_accepted, change}
use Rattle.mot_objects.specs.declared.command.Done.{Done}
use Rattle.mot_objects.specs.Name.{ContentNumbers}
use Rattle.mot_playout.specs.Life.{AreMarksOf, carousel_from}

some-carousel : (c : Carousel) → Some c ≡ None → ⊥
some-carousel c e = cc

-- a period is never refused
period_marked : (g : Geometry) (first period : ℕ)
    → AreMarksOf g (carousel_from first) (Period period ∷ []) (false ∷ []) → ⊥
unfolding change
period_marked g first period so =
    ⊎_elim {C = ⊥} (λ e. some-carousel _ e) (λ none. none) so.0

-- nor is the first object of a new disk whose data area holds it
put_marked : (g : Geometry) (first : ℕ) (content : ContentNumbers) → 2 ≤ g.area
    → 1 ≤ g.objects
    → AreMarksOf g (carousel_from first)
    (Put (codes "a") content None (1 ∷ 2 ∷ []) ∷ []) (false ∷ []) → ⊥
unfolding change
put_marked g first content area objects so =
    ⊎_elim {C = ⊥} (λ e. few (nat_le g.objects 0) (leb-over g.objects objects) _ e)
    (λ full. omega (arith, full, area)) so.0
  where
    leb-over : (n : ℕ) → 1 ≤ n → nat_le n 0 ≡ false
    leb-over n le = grind (arith, nat_tests, le)

    few : (b : Bool) → b ≡ false → (made : Carousel × Done)
        → carousel_if_accepted (if b then Err TooManyObjects else Ok made) ≡ None → ⊥
    few true e made none = cc
    few false e made none = some-carousel made.0 none
