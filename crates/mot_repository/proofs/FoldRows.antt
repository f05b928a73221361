-- Records and what they fold to, computed on worked rows.
use Rattle.std.proofs.Common.{◌≡◌, ℕ, [], ◌∷◌, None, Ok, Err, refl}
use Rattle.mot_journal.specs.declared.record.Record.{Record}
use Rattle.mot_journal.specs.declared.record.Action.{Action}
use Rattle.mot_journal.specs.declared.record.Action.TheVariants.{Nothing, Set, Remove}
use Rattle.mot_journal.specs.Image.{catalogue_of, fold_from}
use Rattle.mot_journal.specs.Catalogue.{Placed}
use Rattle.mot_numbers.specs.declared.refusal.Refusal.TheVariants.{Damaged}

-- a record after which the directory has this id
abbrev with_directory : ℕ → Action → Record
with_directory id action = record { period = 0; directory = id; cursor = id; action = action }

-- ten bytes from this start on, of this id and of the name of this one letter
abbrev set-object : ℕ → ℕ → ℕ → Action
set-object tid start letter =
    Set tid 0 (record { content_type = 2; subtype = 1 }) start 10 (letter ∷ []) None

abbrev placed-object : ℕ → ℕ → ℕ → Placed
placed-object tid start letter = record {
  object = record {
    name = letter ∷ [];
    content = record { content_type = 2; subtype = 1 };
    mime =
        None;
    version = 0;
    tid = tid;
    length = 10;
  };
  start = start;
}

extents_that_meet : catalogue_of 2
    (with_directory 3 (set-object 2 0 97) ∷ with_directory 5 (set-object 4 0 98) ∷ [])
    ≡ Err (Damaged 1)
unfolding fold_from
extents_that_meet = refl

two_names_with_one_id : catalogue_of 2
    (with_directory 3 (set-object 2 0 97) ∷ with_directory 4 (set-object 2 10 98) ∷ [])
    ≡ Err (Damaged 1)
unfolding fold_from
two_names_with_one_id = refl

an_object_with_the_id_of_the_directory : catalogue_of 2 (with_directory 2 (set-object 2 0 97) ∷ [])
    ≡ Err (Damaged 0)
unfolding fold_from
an_object_with_the_id_of_the_directory = refl

no_object_of_the_id : catalogue_of 2
    (with_directory 3 (set-object 2 0 97) ∷ with_directory 4 (Remove 9) ∷ []) ≡ Err (Damaged 1)
unfolding fold_from
no_object_of_the_id = refl

one_object_too_many : catalogue_of 1
    (with_directory 3 (set-object 2 0 97) ∷ with_directory 5 (set-object 4 10 98) ∷ [])
    ≡ Err (Damaged 1)
unfolding fold_from
one_object_too_many = refl

a_later_set_in_its_place : catalogue_of 2
    (with_directory 3 (set-object 2 0 97) ∷ with_directory 5 (set-object 4 10 98)
    ∷ with_directory 7 (set-object 6 20 97) ∷ [])
    ≡ Ok (record {
      period = 0;
      directory = 7;
      cursor = 7;
      objects =
          placed-object 6 20 97 ∷ placed-object 4 10 98 ∷ [];
    })
unfolding fold_from
a_later_set_in_its_place = refl

a_removed_object : catalogue_of 2
    (with_directory 3 (set-object 2 0 97) ∷ with_directory 5 (set-object 4 10 98)
    ∷ with_directory 6 (Remove 2) ∷ with_directory 7 Nothing ∷ [])
    ≡ Ok (record { period = 0; directory = 7; cursor = 7; objects = placed-object 4 10 98 ∷ [] })
unfolding fold_from
a_removed_object = refl
