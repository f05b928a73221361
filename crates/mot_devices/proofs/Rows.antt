-- The definitions, computed on worked rows.
use Rattle.std.proofs.Common.{◌≡◌, ◌++◌, ◌∷◌, [], List, None, Some, refl, ℕ, replicate}
use Rattle.std.specs.Prelude.{codes}
use Rattle.mot_devices.specs.Mounts.{mount_in, parts_of}
use Rattle.mot_devices.specs.Tables.{major_of, minor_of}
use Rattle.mot_devices.specs.Signatures.{signature_in}
use Rattle.mot_devices.specs.declared.signature.Signature.TheVariants.{BootSector, Xfs}

-- three lines of a machine: two file systems of devices, and one of none
mounts : List ℕ
mounts = codes "22 27 0:21 / /proc rw - proc proc rw\n36 27 8:1 / /srv/x rw - ext4 /dev/sda1 rw\n41 27 7:10 / /mnt ro - squashfs /dev/loop10 ro\n"

parts_ended : parts_of 10 (codes "8:1\n8:2\n8") ≡ codes "8:1" ∷ codes "8:2" ∷ []
parts_ended = refl

mounted : mount_in (codes "8:1") [] mounts ≡ Some (codes "/srv/x")
unfolding mounts
mounted = refl

-- a number that begins with another is not that one
another_mounted : mount_in (codes "7:1") [] mounts ≡ None
unfolding mounts
another_mounted = refl

-- a disk whose partition is mounted
partition_mounted : mount_in (codes "8:0") (codes "8:1\n8:2\n") mounts ≡ Some (codes "/srv/x")
unfolding mounts
partition_mounted = refl

-- a line that is cut off says nothing
cut_off : mount_in (codes "8:1") [] (codes "36 27 8:1 / /srv/x") ≡ None
cut_off = refl

-- /dev/sda1 is 8:1, and /dev/nvme0n1p300 of a large machine may be 259:300
first_parts : (major_of 2049 ∷ minor_of 2049 ∷ []) ≡ 8 ∷ 1 ∷ []
first_parts = refl

large_parts : (major_of 1114924 ∷ minor_of 1114924 ∷ []) ≡ 259 ∷ 300 ∷ []
large_parts = refl

xfs_found : signature_in (codes "XFSB" ++ replicate 600 0) ≡ Some Xfs
unfolding signature_in
xfs_found = refl

boot_found : signature_in (replicate 510 0 ++ 85 ∷ 170 ∷ []) ≡ Some BootSector
unfolding signature_in
boot_found = refl

none_found : signature_in (replicate 600 0) ≡ None
unfolding signature_in
none_found = refl

-- a disk of ours, whatever stands further on
ours_found : signature_in (codes "MOTCAR01" ++ replicate 502 0 ++ 85 ∷ 170 ∷ []) ≡ None
unfolding signature_in
ours_found = refl
