-- Laws of whole runs of commands.
use Rattle.std.specs.Prelude.{◌≡◌, ℕ, ◌≤◌, List, [], ◌∷◌, ◌++◌, Ok, IfSome}
use Rattle.mot_numbers.specs.Reading.{◌>>=◌}
use Rattle.mot_numbers.specs.declared.geometry.TheConstants.{MAX_OBJECTS}
use Rattle.mot_objects.specs.declared.command.Command.{Command}
use Rattle.mot_objects.specs.declared.command.Done.{Done}
use Rattle.mot_objects.specs.Carousel.{Carousel, new_carousel, change, carousel_after}
use Rattle.mot_objects.specs.Carousel.{carousel_if_accepted, IsSound}

-- an accepted command leaves a sound carousel sound
abbrev pub ChangesKeepSoundness : Type 0
ChangesKeepSoundness =
    (c next : Carousel) (limit : ℕ) (command : Command) (done : Done) → limit ≤ MAX_OBJECTS →
    IsSound c → change c limit command ≡ Ok (next, done) → IsSound next

-- whatever commands make of the new carousel is sound
abbrev pub CommandsMakeSoundCarousels : Type 0
CommandsMakeSoundCarousels =
    (limit : ℕ) (commands : List Command) → limit ≤ MAX_OBJECTS →
    IfSome (carousel_after new_carousel limit commands) IsSound

-- one more command changes what the commands before it made
abbrev pub CommandsGoOn : Type 0
CommandsGoOn =
    (c : Carousel) (limit : ℕ) (commands : List Command) (command : Command) →
    carousel_after c limit (commands ++ command ∷ [])
    ≡ (carousel_after c limit commands >>= λ last. carousel_if_accepted (change last limit command))
