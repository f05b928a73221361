-- The definitions, computed on the worked rows.
use Rattle.std.proofs.Common.{◌≡◌, [], ◌∷◌, Some, None, Err, refl}
use Rattle.mot_numbers.specs.declared.refusal.Refusal.TheVariants.{NameTaken, NoSuchName}
use Rattle.mot_numbers.specs.declared.refusal.Refusal.TheVariants.{TooManyObjects}
use Rattle.mot_objects.specs.declared.command.Command.{Command}
use Rattle.mot_objects.specs.declared.command.Command.TheVariants.{Put, Replace, Withdraw, Period}
use Rattle.mot_objects.specs.Name.{ContentNumbers}
use Rattle.mot_objects.specs.Carousel.{Carousel, new_carousel, change, carousel_after}
use Rattle.mot_objects.specs.Ids.{next_free_id}
use Rattle.mot_objects.specs.declared.mime.TheConstants.{MAX_MIME}
use Rattle.mot_objects.specs.declared.body.TheConstants.{MAX_BODY}
use Rattle.mot_objects.specs.declared.period.TheConstants.{MAX_PERIOD}
use Rattle.mot_objects.specs.declared.content.TheConstants.{MAX_TYPE, MAX_SUBTYPE}
use Rattle.mot_objects.specs.declared.name.TheConstants.{MAX_NAME}

wraps : next_free_id 65535 (1 ∷ 2 ∷ []) ≡ 3
unfolding next_free_id
wraps = refl

first_after_the_last : next_free_id 65535 [] ≡ 1
unfolding next_free_id
first_after_the_last = refl

passes_used : next_free_id 2 (3 ∷ 5 ∷ []) ≡ 4
unfolding next_free_id
passes_used = refl

abbrev picture : ContentNumbers
picture = record { content_type = 2; subtype = 3 }

abbrev put : Command
put = Put (97 ∷ []) picture None (0 ∷ [])

abbrev replace : Command
replace = Replace (97 ∷ []) picture None (1 ∷ [])

first_put : carousel_after new_carousel 16 (put ∷ [])
    ≡ Some (record {
      period = 0;
      directory = 3;
      cursor = 3;
      objects =
          record {
            name = 97 ∷ [];
            content = picture;
            mime = None;
            version = 0;
            tid = 2;
            body =
                0 ∷ [];
          } ∷ [];
    })
unfolding carousel_after change next_free_id
first_put = refl

replaced_once : carousel_after new_carousel 16 (put ∷ replace ∷ [])
    ≡ Some (record {
      period = 0;
      directory = 5;
      cursor = 5;
      objects =
          record {
            name = 97 ∷ [];
            content = picture;
            mime = None;
            version = 1;
            tid = 4;
            body =
                1 ∷ [];
          } ∷ [];
    })
unfolding carousel_after change next_free_id
replaced_once = refl

withdrawn_again : carousel_after new_carousel 16 (put ∷ Withdraw (97 ∷ []) ∷ [])
    ≡ Some (record { period = 0; directory = 4; cursor = 4; objects = [] })
unfolding carousel_after change next_free_id
withdrawn_again = refl

the_same_period_again : carousel_after new_carousel 16 (Period 16777215 ∷ Period 16777215 ∷ [])
    ≡ Some (record { period = 16777215; directory = 3; cursor = 3; objects = [] })
unfolding carousel_after change next_free_id
the_same_period_again = refl

abbrev one_object : Carousel
one_object = record {
  period = 0;
  directory = 513;
  cursor = 513;
  objects =
      record {
        name = 97 ∷ [];
        content = picture;
        mime = None;
        version = 255;
        tid = 512;
        body =
            0 ∷ [];
      } ∷ [];
}

version_wraps : carousel_after one_object 1 (replace ∷ [])
    ≡ Some (record {
      period = 0;
      directory = 515;
      cursor = 515;
      objects =
          record {
            name = 97 ∷ [];
            content = picture;
            mime = None;
            version = 0;
            tid = 514;
            body =
                1 ∷ [];
          } ∷ [];
    })
unfolding carousel_after change next_free_id
version_wraps = refl

taken_at_the_limit : change one_object 1 put ≡ Err NameTaken
unfolding change next_free_id
taken_at_the_limit = refl

too_many : change one_object 1 (Put (98 ∷ []) picture None (0 ∷ [])) ≡ Err TooManyObjects
unfolding change next_free_id
too_many = refl

not_there : change one_object 1 (Withdraw (98 ∷ [])) ≡ Err NoSuchName
unfolding change next_free_id
not_there = refl

-- the limits
max_mime : MAX_MIME ≡ 64
max_mime = refl

max_body : MAX_BODY ≡ 262144
max_body = refl

max_period : MAX_PERIOD ≡ 16777215
max_period = refl

max_type : MAX_TYPE ≡ 63
max_type = refl

max_subtype : MAX_SUBTYPE ≡ 511
max_subtype = refl

max_name : MAX_NAME ≡ 255
max_name = refl
