-- Copies, computed on worked rows.
use Rattle.std.proofs.Common.{◌≡◌, true, false, [], ◌∷◌, Some, None, refl}
use Rattle.mot_objects.specs.Ids.{next_free_id}
use Rattle.mot_repository.specs.Copy.{copied_ids, packed_from}

-- three bodies that lay apart and in another order lie one after the other
in_a_row : packed_from 0 ((50, 3) ∷ (7, 5) ∷ (90, 1) ∷ []) ≡ (0, 3) ∷ (3, 5) ∷ (8, 1) ∷ []
in_a_row = refl

-- all ids stay where they go on after the directory's
same_ids : copied_ids None false 5 5 (2 ∷ 3 ∷ []) ≡ (2 ∷ 3 ∷ [], 5)
unfolding next_free_id
same_ids = refl

-- also after a given one
same_given : copied_ids (Some 5) false 5 5 (2 ∷ 3 ∷ []) ≡ (2 ∷ 3 ∷ [], 5)
unfolding next_free_id
same_given = refl

-- after another one the directory takes the next free id, and objects keep theirs
given_id : copied_ids (Some 40) false 5 5 (2 ∷ 3 ∷ []) ≡ (2 ∷ 3 ∷ [], 41)
unfolding next_free_id
given_id = refl

-- which neither it nor an object had
next_unused_id : copied_ids (Some 1) false 4 4 (2 ∷ 3 ∷ []) ≡ (2 ∷ 3 ∷ [], 5)
unfolding next_free_id
next_unused_id = refl

-- also if the cursor lay elsewhere
cursor_elsewhere : copied_ids None false 5 9 (2 ∷ 3 ∷ []) ≡ (2 ∷ 3 ∷ [], 10)
unfolding next_free_id
cursor_elsewhere = refl

-- with other segments all take new ids, none of which was used
all_new : copied_ids None true 5 5 (2 ∷ 3 ∷ []) ≡ (6 ∷ 7 ∷ [], 8)
unfolding next_free_id
all_new = refl

all_new_after : copied_ids (Some 1) true 4 4 (2 ∷ 6 ∷ []) ≡ (3 ∷ 5 ∷ [], 7)
unfolding next_free_id
all_new_after = refl

-- 1 comes after 65,535
next_id_round : copied_ids (Some 65535) true 1 1 (2 ∷ 3 ∷ []) ≡ (4 ∷ 5 ∷ [], 6)
unfolding next_free_id
next_id_round = refl
