-- What commands come to, computed on worked rows.
use Rattle.std.proofs.Common.{◌≡◌, ℕ, List, [], ◌∷◌, replicate, Some, None, Ok, Err, refl}
use Rattle.mot_journal.specs.declared.layout.Layout.TheVariants.{One, Two}
use Rattle.mot_journal.specs.Image.{Standing}
use Rattle.mot_numbers.specs.declared.geometry.Geometry.{Geometry}
use Rattle.mot_numbers.specs.declared.refusal.Refusal.TheVariants.{BadName, NameTaken, NoSuchName}
use Rattle.mot_numbers.specs.declared.refusal.Refusal.TheVariants.{TooManyObjects, NoRoom}
use Rattle.mot_objects.specs.declared.command.Command.TheVariants.{Put, Replace, Withdraw, Period}
use Rattle.mot_objects.specs.Name.{ContentNumbers}
use Rattle.mot_objects.specs.Carousel.{Object, Carousel, change}
use Rattle.mot_objects.specs.Ids.{next_free_id}
use Rattle.mot_carousel.specs.Gap.{least_gap}
use Rattle.mot_repository.specs.Outcome.{after_command}

abbrev picture : ContentNumbers
picture = record { content_type = 2; subtype = 3 }

abbrev object : List ℕ → ℕ → ℕ → List ℕ → Object
object name version tid body = record {
  name = name;
  content = picture;
  mime = None;
  version = version;
  tid = tid;
  body = body;
}

-- room for so many objects, and for ten bytes
abbrev sizes : ℕ → Geometry
sizes objects =
    record { objects = objects; area = 10; segment = 64; address = 1; packet = 24 }

abbrev carousel : ℕ → ℕ → List Object → Carousel
carousel period last objects =
    record { period = period; directory = last; cursor = last; objects = objects }

abbrev disk : ℕ → Carousel → List (ℕ × ℕ) → Standing
disk objects c extents =
    record { geometry = sizes objects; carousel = c; extents = extents; rest = 7 ∷ 7 ∷ [] }

-- one object, `a`, whose four bytes lie at the beginning
abbrev a : Object
a = object (97 ∷ []) 0 2 (1 ∷ 2 ∷ 3 ∷ 4 ∷ [])

abbrev start : Standing
start = disk 2 (carousel 0 3 (a ∷ [])) ((0, 4) ∷ [])

abbrev long : List ℕ
long = replicate 101 97

put : after_command Two start (Put (98 ∷ []) picture None (5 ∷ 6 ∷ 7 ∷ [])) ≡ Ok (
  disk 2 (carousel 0 5 (a ∷ object (98 ∷ []) 0 4 (5 ∷ 6 ∷ 7 ∷ []) ∷ [])) ((0, 4) ∷ (4, 3) ∷ []),
  record { object = Some 4; directory = 5 },
)
unfolding after_command change next_free_id least_gap
put = refl

-- the old bytes are in the way of the new ones
replaced : after_command One start (Replace (97 ∷ []) picture None (5 ∷ [])) ≡ Ok (
  disk 2 (carousel 0 5 (object (97 ∷ []) 1 4 (5 ∷ []) ∷ [])) ((4, 1) ∷ []),
  record { object = Some 4; directory = 5 },
)
unfolding after_command change next_free_id least_gap
replaced = refl

withdrawn : after_command One start (Withdraw (97 ∷ []))
    ≡ Ok (disk 2 (carousel 0 4 []) [], record { object = None; directory = 4 })
unfolding after_command change next_free_id least_gap
withdrawn = refl

another_period : after_command One start (Period 7)
    ≡ Ok (disk 2 (carousel 7 4 (a ∷ [])) ((0, 4) ∷ []), record { object = None; directory = 4 })
unfolding after_command change next_free_id least_gap
another_period = refl

no_room : after_command Two start (Put (98 ∷ []) picture None (replicate 7 0)) ≡ Err NoRoom
unfolding after_command change next_free_id least_gap
no_room = refl

no_room_beside_the_old : after_command Two start (Replace (97 ∷ []) picture None (replicate 7 0))
    ≡ Err NoRoom
unfolding after_command change next_free_id least_gap
no_room_beside_the_old = refl

-- the rules are asked before there is room or not
taken_before_room : after_command Two start (Put (97 ∷ []) picture None (replicate 7 0))
    ≡ Err NameTaken
unfolding after_command change next_free_id least_gap
taken_before_room = refl

too_many_before_room : after_command Two (disk 1 (carousel 0 3 (a ∷ [])) ((0, 4) ∷ []))
    (Put (98 ∷ []) picture None (replicate 7 0)) ≡ Err TooManyObjects
unfolding after_command change next_free_id least_gap
too_many_before_room = refl

not_there : after_command Two start (Withdraw (98 ∷ [])) ≡ Err NoSuchName
unfolding after_command change next_free_id least_gap
not_there = refl

-- and before them the layout has room for the name or not
too_long : after_command One start (Withdraw long) ≡ Err BadName
unfolding after_command change next_free_id least_gap
too_long = refl

not_too_long : after_command Two start (Withdraw long) ≡ Err NoSuchName
unfolding after_command change next_free_id least_gap
not_too_long = refl
