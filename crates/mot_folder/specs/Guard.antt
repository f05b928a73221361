-- Which looks change nothing, since too much would go.
use Rattle.std.specs.Prelude.{ℕ, ◌/◌, ◌&&◌, ◌||◌, nat_eq, nat_lt, Bool, true, false, List, length}
use Rattle.std.specs.Prelude.{if◌then◌else◌}
use Rattle.mot_events.specs.declared.event.LookResult.{LookResult}
use Rattle.mot_events.specs.declared.event.LookResult.TheVariants.{Kept, KeptMost}
use Rattle.mot_folder.specs.declared.guard.Guard.{Guard}
use Rattle.mot_folder.specs.declared.guard.Guard.TheVariants.{Empty, Most, Off}
use Rattle.mot_objects.specs.Carousel.{Carousel}
use Rattle.mot_update.specs.Updating.{withdrawals}

-- what two flags ask for: where all may go, nothing is held back
abbrev pub guard_of : (allow_empty keep_most : Bool) → Guard
guard_of true keep_most = Off
guard_of false true = Most
guard_of false false = Empty

-- how many objects of a carousel go where these are the names of a folder
abbrev pub going : (names : List (List ℕ)) → Carousel → ℕ
going names c = length (withdrawals names c.objects)

-- there are objects, and the folder has no name of one
abbrev pub are_all : (names : List (List ℕ)) → (objects : ℕ) → Bool
are_all names objects = nat_eq (length names) 0 && nat_lt 0 objects

-- more than half of so many objects go, and more than three
abbrev pub are_most : (going objects : ℕ) → Bool
are_most going objects = nat_lt (objects / 2) going && nat_lt 3 going

-- Whether so many objects stay as they are, where these are the names of a folder, and so many of
-- them would go.
abbrev pub is_kept : Guard → (names : List (List ℕ)) → (going objects : ℕ) → Bool
is_kept Off names going objects = false
is_kept Empty names going objects = are_all names objects
is_kept Most names going objects = are_all names objects || are_most going objects

-- what is told then
abbrev pub kept_so : (names : List (List ℕ)) → (going objects : ℕ) → LookResult
kept_so names going objects = if nat_eq (length names) 0 then Kept else KeptMost going objects
