-- Worked rows of what commands add to a turn, and of which objects stay.
use Rattle.std.proofs.Common.{◌≡◌, ℕ, ◌+◌, ◌*◌, true, false, [], ◌∷◌, None, refl, arith}
use Rattle.mot_feed.specs.Ends.{added_among, carousel_with, packets_of_directory, packets_of_new}
use Rattle.mot_feed.specs.Ends.{stays_among}
use Rattle.mot_feed.specs.Feeding.{Accepted, Asked}
use Rattle.mot_objects.specs.Carousel.{Carousel, change, new_carousel}
use Rattle.mot_objects.specs.Name.{ContentNumbers}
use Rattle.mot_objects.specs.Ids.{next_free_id}
use Rattle.mot_objects.specs.declared.command.Command.{Command}
use Rattle.mot_objects.specs.declared.command.Command.TheVariants.{Put, Replace, Withdraw, Period}

abbrev picture : ContentNumbers
picture = record { content_type = 2; subtype = 3 }

-- an object of id 2, and then one of id 4 in its place
abbrev put : Command
put = Put (97 ∷ []) picture None (0 ∷ [])

abbrev replace : Command
replace = Replace (97 ∷ []) picture None (1 ∷ [])

abbrev withdraw : Command
withdraw = Withdraw (97 ∷ [])

abbrev one_object : Carousel
one_object = carousel_with 16 new_carousel put

-- a command that only changes the period leaves the object; one that is refused does so, too
period_row : stays_among 16 2 one_object (Asked ∷ Accepted (Period 5) ∷ []) ≡ true
unfolding change next_free_id
period_row = refl

refused_row : stays_among 16 2 one_object (Accepted put ∷ []) ≡ true
unfolding change next_free_id
refused_row = refl

-- one that is replaced does not stay, nor does the new one from the beginning on
replaced_row : stays_among 16 2 one_object (Accepted replace ∷ []) ≡ false
unfolding change next_free_id
replaced_row = refl

new_row : stays_among 16 4 one_object (Accepted replace ∷ []) ≡ false
unfolding change next_free_id
new_row = refl

-- nor does one that is withdrawn and put again
withdrawn_row : stays_among 16 2 one_object (Accepted withdraw ∷ Accepted put ∷ []) ≡ false
unfolding change next_free_id
withdrawn_row = refl

-- the new bodies, in packets of 91 bytes
replace_new : packets_of_new 91 200 one_object (carousel_with 16 one_object replace) ≡ 1
unfolding change next_free_id
replace_new = refl

withdraw_new : packets_of_new 91 200 one_object (carousel_with 16 one_object withdraw) ≡ 0
unfolding change next_free_id
withdraw_new = refl

-- the directory of a carousel, in packets of 91 bytes
abbrev directory : Carousel → ℕ
directory c = packets_of_directory 91 200 c

-- the directory, asked for twice
asked_row : added_among 16 91 200 one_object (Asked ∷ Asked ∷ [])
    ≡ 2 * directory one_object
asked_row = omega arith

-- a body of one packet comes twice with the new directory, which is the one that is asked for then;
-- with a command that brings no body the directory comes alone
replace_row : added_among 16 91 200 one_object (Accepted replace ∷ Asked ∷ [])
    ≡ 2 * directory (carousel_with 16 one_object replace) + 2
replace_row =
    let one : packets_of_new 91 200 one_object (carousel_with 16 one_object replace) ≡ 1 =
    replace_new in
    omega (arith, one)

withdraw_row : added_among 16 91 200 one_object (Accepted withdraw ∷ [])
    ≡ directory (carousel_with 16 one_object withdraw)
withdraw_row =
    let none : packets_of_new 91 200 one_object (carousel_with 16 one_object withdraw) ≡ 0 =
    withdraw_new in
    omega (arith, none)
