-- Where a group is under way: it, and what was sent of it.
use Rattle.std.proofs.Common.{ℕ, List, [], ◌∷◌, Option, Some, None, take}
use Rattle.mot_player.specs.Place.{UnderWay}

abbrev pub group_of : Option UnderWay → List (List ℕ)
group_of None = []
group_of (Some u) = u.group ∷ []

abbrev pub front_of : Option UnderWay → List ℕ
front_of None = []
front_of (Some u) = take u.sent u.group
