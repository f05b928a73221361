-- What stands at the head of a device that has a file system or a partition table.
use Rattle.std.specs.Prelude.{ℕ, ◌+◌, ◌&&◌, if◌then◌else◌, nat_le, Bool, false, true, List, [], ◌∷◌, Option}
use Rattle.std.specs.Prelude.{None, Some, bytes_eq, codes, length, slice_range}
use Rattle.mot_devices.specs.declared.signature.Signature.{Signature}
use Rattle.mot_devices.specs.declared.signature.Signature.TheVariants.{Btrfs, BootSector, Ext, Gpt}
use Rattle.mot_devices.specs.declared.signature.Signature.TheVariants.{Iso9660, Luks, Lvm, Raid}
use Rattle.mot_devices.specs.declared.signature.Signature.TheVariants.{Squashfs, Swap, Xfs}

-- where a signature stands
abbrev pub start_of : Signature → ℕ
start_of Ext = 1080
start_of Xfs = 0
start_of Btrfs = 65600
start_of Swap = 4086
start_of Luks = 0
start_of Lvm = 512
start_of Raid = 4096
start_of Squashfs = 0
start_of Iso9660 = 32769
start_of Gpt = 512
start_of BootSector = 510

-- its bytes
abbrev pub bytes_of : Signature → List ℕ
bytes_of Ext = 83 ∷ 239 ∷ []
bytes_of Xfs = codes "XFSB"
bytes_of Btrfs = codes "_BHRfS_M"
bytes_of Swap = codes "SWAPSPACE2"
bytes_of Luks = 76 ∷ 85 ∷ 75 ∷ 83 ∷ 186 ∷ 190 ∷ []
bytes_of Lvm = codes "LABELONE"
bytes_of Raid = 252 ∷ 78 ∷ 43 ∷ 169 ∷ []
bytes_of Squashfs = codes "hsqs"
bytes_of Iso9660 = codes "CD001"
bytes_of Gpt = codes "EFI PART"
bytes_of BootSector = 85 ∷ 170 ∷ []

-- all that are known, in the order in which they are looked for
abbrev pub known_signatures : List Signature
known_signatures = Ext ∷ Xfs ∷ Btrfs ∷ Swap ∷ Luks ∷ Lvm ∷ Raid ∷ Squashfs ∷ Iso9660 ∷ Gpt
    ∷ BootSector ∷ []

-- these bytes stand there
abbrev pub has_at : (head : List ℕ) → ℕ → List ℕ → Bool
has_at head start bytes = nat_le (start + length bytes) (length head)
    && bytes_eq (slice_range head start (start + length bytes)) bytes

-- the first of these signatures that the first bytes of a device have
abbrev pub signature_among : (head : List ℕ) → List Signature → Option Signature
signature_among head [] = None
signature_among head (signature ∷ others) =
    if has_at head (start_of signature) (bytes_of signature) then Some signature
    else signature_among head others

-- the first of the known ones, unless it is a disk of ours
abbrev pub signature_unless : (ours : Bool) → (head : List ℕ) → Option Signature
signature_unless true head = None
signature_unless false head = signature_among head known_signatures

-- A disk of ours has none, whatever its other bytes are: formatting refuses it, and writes nothing.
unfoldable pub signature_in : (head : List ℕ) → Option Signature
signature_in head = signature_unless (has_at head 0 (codes "MOTCAR01")) head
