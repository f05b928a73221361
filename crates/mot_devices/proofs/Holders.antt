-- The device that stands on another, as far as its name is told.
use Rattle.std.proofs.Common.{◌≡◌, List, None, Option, Some, option_map, take, ℕ}
use Rattle.mot_devices.specs.Inner.{TellsHolder}
use Rattle.mot_devices.specs.Tables.{HolderIs, short_bytes}
use Rattle.mot_devices.specs.declared.short_name.ShortName.{ShortName}
use Rattle.mot_devices.specs.declared.short_name.TheConstants.{LONGEST}
use Rattle.mot_files.specs.Call.{Call}

pub held_by : (number : ℕ) (name : Option ShortName) (holder : Option (List ℕ))
    (old new : List Call) → HolderIs number holder old new
    → option_map short_bytes name ≡ option_map (take LONGEST) holder
    → TellsHolder number name old new
held_by number None None old new is same = is
held_by number None (Some device) old new is same = cc
held_by number (Some name) None old new is same = cc
held_by number (Some name) (Some device) old new is same = (device, is, cc)
