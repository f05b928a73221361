use Rattle.std.proofs.Common.{◌≡◌, length}
use Rattle.mot_devices.specs.Mounts.{mount_in}
use Rattle.mot_devices.proofs.mounts.find_mount.Given as goal

abbrev pub invariant-loop-line : goal.invariant-loop-line
invariant-loop-line l =
    mount_in l.numbers.own.items l.numbers.others.items l.mounts
    ≡ mount_in l.numbers.own.items l.numbers.others.items l.rest

abbrev pub decreases-loop-line : goal.decreases-loop-line
decreases-loop-line l = length l.rest
