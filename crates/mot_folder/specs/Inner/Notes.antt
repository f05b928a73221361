-- The objects that a look withdraws.
use Rattle.std.specs.Prelude.{ℕ, not, List, filter}
use Rattle.mot_objects.specs.declared.object.Object.{Object}
use Rattle.mot_update.specs.Updating.{is_known}

-- the objects whose names are none of these
abbrev pub unknown_objects : List (List ℕ) → List Object → List Object
unknown_objects names objects = filter (λ (o : Object). not (is_known names o.name)) objects
