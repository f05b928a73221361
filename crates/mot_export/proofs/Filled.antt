-- How long turns are, by the lengths of what they carry.
use Rattle.std.proofs.Common.{◌≡◌, ℕ, List, [], ◌∷◌, length, map, refl}
use Rattle.mot_directory.specs.Directory.{bytes_of_directory}
use Rattle.mot_directory.specs.Entries.{directory_of}
use Rattle.mot_export.specs.Inspecting.{time_of, times_of}
use Rattle.mot_objects.specs.Stands.{AreBodiesOf, carousel_of}
use Rattle.mot_objects.specs.declared.carousel.Carousel.{Carousel}
use Rattle.mot_player.specs.Turn.{turn_of_carousel}
use Rattle.mot_listening.proofs.Laws.{carousel-lengths, sizes}
use Rattle.mot_listening.specs.Entities.{turn_lengths}
use Rattle.mot_listening.specs.Lengths.{lengths_of_turn}

-- lists of the same lengths take the same times
same-times : (f g : ℕ → List ℕ) (rates : List ℕ) → ((room : ℕ) → f room ≡ g room)
    → map (time_of f) rates ≡ map (time_of g) rates
same-times f g [] same = refl
same-times f g (rate ∷ rates) same =
    rw (same 19, same 43, same 67, same 91, same-times f g rates same) refl

-- the times of entities are those of the turn that has them
pub carousel-times : (rates : List ℕ) (size directory : ℕ) (c : Carousel)
    (bodies : List (List ℕ)) → AreBodiesOf c bodies
    → directory ≡ length (bytes_of_directory (directory_of (carousel_of c bodies) size))
    → map (time_of (λ room. turn_lengths room size (directory ∷ sizes c.objects.items))) rates
    ≡ times_of rates size (turn_of_carousel (carousel_of c bodies) size)
carousel-times rates size directory c bodies are is =
    same-times (λ room. turn_lengths room size (directory ∷ sizes c.objects.items))
    (λ room. lengths_of_turn room size (turn_of_carousel (carousel_of c bodies) size)) rates
    (λ room. carousel-lengths room size directory c bodies are is)
