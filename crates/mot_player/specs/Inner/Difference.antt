-- What the code of a player finds that changed of a turn's bodies.
use Rattle.std.specs.Prelude.{ℕ, suc, ◌+◌, Bool, true, false, ◌&&◌, ◌==◌, if◌then◌else◌, List, []}
use Rattle.std.specs.Prelude.{◌∷◌, length, map, nat_lt, Option, Some, None}
use Rattle.mot_player.specs.Course.{CourseView}
use Rattle.mot_player.specs.PlayerView.{BodyPlan}
use Rattle.mot_player.specs.declared.difference.Difference.{Difference}
use Rattle.mot_player.specs.declared.difference.Difference.TheVariants.{Nothing, Added, Changed}
use Rattle.mot_player.specs.declared.difference.Difference.TheVariants.{Removed}
use Rattle.mot_player.specs.declared.planned_body.PlannedBody.{PlannedBody}

abbrev pub plan_of_body : PlannedBody → BodyPlan
plan_of_body b = record { tid = b.tid; length = b.length }

abbrev pub plans_of : List PlannedBody → List BodyPlan
plans_of bodies = map plan_of_body bodies

-- a body of the same id and length
abbrev pub is_same : BodyPlan → BodyPlan → Bool
is_same old new = old.tid == new.tid && old.length == new.length

-- how many bodies both begin with
abbrev pub alike : List BodyPlan → List BodyPlan → ℕ
alike [] news = 0
alike (old ∷ olds) [] = 0
alike (old ∷ olds) (new ∷ news) = if is_same old new then suc (alike olds news) else 0

abbrev pub are_alike : List BodyPlan → List BodyPlan → Bool
are_alike [] [] = true
are_alike [] (new ∷ news) = false
are_alike (old ∷ olds) [] = false
are_alike (old ∷ olds) (new ∷ news) = is_same old new && are_alike olds news

-- the change where so many bodies come behind the old ones
abbrev pub added : ℕ → Option Difference
added count =
    if count == 0 then Some Nothing else if count == 1 then Some Added else None

-- the change from the first bodies that differ on, of which the first has this number
abbrev pub difference_here : ℕ → List BodyPlan → List BodyPlan → Option Difference
difference_here n olds [] = if are_alike olds [] then Some (Removed n) else None
difference_here n olds (new ∷ news) =
    if are_alike olds (new ∷ news) then Some (Removed n)
    else if are_alike olds news then Some (Changed n) else None

-- the one change between bodies, of which the first has this number
abbrev pub difference_from : ℕ → List BodyPlan → List BodyPlan → Option Difference
difference_from n [] news = added (length news)
difference_from n (old ∷ olds) [] = difference_here n olds []
difference_from n (old ∷ olds) (new ∷ news) =
    if is_same old new then difference_from (n + 1) olds news
    else difference_here n olds (new ∷ news)

-- the one change of a turn that is followed, if a queue has room for one more
abbrev pub difference_in : Bool → ℕ → CourseView → List BodyPlan → List BodyPlan
    → Option Difference
difference_in follows room c olds news =
    if follows && nat_lt (length c.queue) room then difference_from 1 olds news else None
