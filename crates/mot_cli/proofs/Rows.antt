-- The definitions, computed on worked rows.
use Rattle.std.proofs.Common.{◌≡◌, Some, None, refl}
use Rattle.mot_numbers.specs.Geometry.{IsDefault}
use Rattle.mot_cli.specs.Options.{default_geometry, geometry_asked, geometry_over, last_id}
use Rattle.mot_cli.specs.declared.options.Options.{Options}

default : IsDefault default_geometry
default = refl

abbrev none : Options
none = record { objects = None; data_area = None; segment = None; address = None; packet = None }

none_given : geometry_asked none ≡ Some default_geometry
unfolding geometry_over
none_given = refl

too_great : geometry_asked (record none { packet = Some 65560 }) ≡ None
unfolding geometry_over
too_great = refl

-- over another geometry
smaller : geometry_over (record default_geometry { objects = 60 }) (record none { packet = Some 24 })
    ≡ Some (record default_geometry { objects = 60; packet = 24 })
unfolding geometry_over
smaller = refl

not_given : last_id None ≡ Some None
not_given = refl

behind_none : last_id (Some 0) ≡ Some (Some 65535)
behind_none = refl

behind_last : last_id (Some 65535) ≡ Some (Some 65535)
behind_last = refl

behind_too_great : last_id (Some 65536) ≡ None
behind_too_great = refl
