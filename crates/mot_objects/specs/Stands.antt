-- What a carousel and the bodies that stand beside it mean together.
use Rattle.std.specs.Prelude.{◌≡◌, ℕ, List, [], ◌∷◌, ◌++◌, length, map, position, remove, slice_set}
use Rattle.std.specs.Prelude.{Option, Some, None, Result, Ok, Err, MatchResult, ◌⊎◌, bytes_eq}
use Rattle.mot_numbers.specs.declared.refusal.Refusal.{Refusal}
use Rattle.mot_numbers.specs.declared.refusal.Refusal.TheVariants.{OutOfMemory}
use Rattle.mot_objects.specs.declared.object.Object.{Object}
use Rattle.mot_objects.specs.declared.carousel.Carousel.{Carousel}
use Rattle.mot_objects.specs.declared.command.Command.{Command}
use Rattle.mot_objects.specs.declared.command.Command.TheVariants.{Put, Replace, Withdraw, Period}
use Rattle.mot_objects.specs.declared.command.Change.{Change}
use Rattle.mot_objects.specs.Carousel.{change}
use Rattle.mot_objects.specs.Carousel as whole

-- the object with its body
abbrev pub object_of : Object → List ℕ → whole.Object
object_of o body = record {
  name = o.name;
  content = o.content;
  mime = o.mime;
  version = o.version;
  tid = o.tid;
  body = body;
}

abbrev pub objects_of : List Object → List (List ℕ) → List whole.Object
objects_of (o ∷ objects) (body ∷ bodies) = object_of o body ∷ objects_of objects bodies
objects_of [] bodies = []
objects_of (o ∷ objects) [] = []

-- the carousel, with its bodies in the order of its objects
abbrev pub carousel_of : Carousel → List (List ℕ) → whole.Carousel
carousel_of c bodies = record {
  period = c.period;
  directory = c.directory;
  cursor = c.cursor;
  objects = objects_of c.objects.items bodies;
}

-- there is a body for each object, of the length that it gives
abbrev pub AreBodiesOf : Carousel → List (List ℕ) → Type 0
AreBodiesOf c bodies = map length bodies ≡ map (λ (o : Object). o.length) c.objects.items

-- where the object of this name stands
abbrev pub index_of : List ℕ → List Object → Option ℕ
index_of name objects = position (λ (o : Object). bytes_eq o.name name) objects

abbrev pub bodies_with : Option ℕ → List ℕ → List (List ℕ) → List (List ℕ)
bodies_with None body bodies = bodies
bodies_with (Some i) body bodies = slice_set bodies i body

abbrev pub bodies_without : Option ℕ → List (List ℕ) → List (List ℕ)
bodies_without None bodies = bodies
bodies_without (Some i) bodies = remove bodies i

-- the bodies after an accepted command
abbrev pub bodies_after : Carousel → Command → List (List ℕ) → List (List ℕ)
bodies_after c (Put name content mime body) bodies = bodies ++ body ∷ []
bodies_after c (Replace name content mime body) bodies =
    bodies_with (index_of name c.objects.items) body bodies
bodies_after c (Withdraw name) bodies = bodies_without (index_of name c.objects.items) bodies
bodies_after c (Period period) bodies = bodies

-- The change is that of the carousel and its bodies, whatever these are; else its refusal, or want
-- of memory.
abbrev pub IsPlan : Carousel → ℕ → Command → Result Change Refusal → Type 0
IsPlan c limit command r =
    (bodies : List (List ℕ)) → AreBodiesOf c bodies →
    let after = bodies_after c command bodies in
    MatchResult r
    (λ planned. (change (carousel_of c bodies) limit command
    ≡ Ok (carousel_of planned.next after, planned.done)) × AreBodiesOf planned.next after)
    (λ refusal. (refusal ≡ OutOfMemory)
    ⊎ (change (carousel_of c bodies) limit command ≡ Err refusal))
