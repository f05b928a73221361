-- What holds of every raw reply, of every session, and of the replies to lines.
use Rattle.std.specs.Prelude.{ℕ, ◌≡◌, ◌+◌, ◌⊎◌, ◌<◌, ◌≤◌, Bool, false, List, [], ◌∷◌, ◌++◌, length}
use Rattle.std.specs.Prelude.{if◌then◌else◌, Option, Some, Result}
use Rattle.disk_model.specs.Disk.{most_failures}
use Rattle.mot_groups.specs.Group.{read_group}
use Rattle.mot_lines.specs.declared.line.Line.{Line}
use Rattle.mot_numbers.specs.Geometry.{IsValid}
use Rattle.mot_numbers.specs.declared.geometry.Geometry.{Geometry}
use Rattle.mot_numbers.specs.declared.group_kind.GroupKind.{GroupKind}
use Rattle.mot_numbers.specs.declared.numbers.TheConstants.{MAX_SEGMENT}
use Rattle.mot_numbers.specs.declared.refusal.Refusal.{Refusal}
use Rattle.mot_numbers.specs.Refusal.{is_device_fault}
use Rattle.mot_objects.specs.declared.command.Command.{Command}
use Rattle.mot_packets.specs.Gather.{gather}
use Rattle.mot_player.specs.Continuity.{IsContinuous}
use Rattle.mot_session.specs.Life.{Tells, Told}
use Rattle.mot_session.specs.Session.{raw_group, raw_packets, Exchange, Reply, Session, played}
use Rattle.mot_session.specs.Session.{packets_in, packets_played, refused, HasJustOpened}
use Rattle.mot_session.specs.Session.{ServerState}
use Rattle.mot_session.specs.Served.{Begins}

-- a receiver gathers one group from the packets of a raw reply, and reads in it the segment that
-- was asked for
abbrev pub RawRepliesRead : Type 0
RawRepliesRead =
    (g : Geometry) (kind : GroupKind) (tid : ℕ) (body : List ℕ) → IsValid g → 1 ≤ tid → tid ≤ 65535
    → 0 < length body → length body ≤ MAX_SEGMENT
    → (group : List ℕ) × (gather (raw_packets g kind tid body) ≡ Some (group ∷ []))
    × (read_group group ≡ Some (raw_group kind tid body))

-- On a server just opened all packets of the replies to `next` and `turn` lines, in order, have
-- their continuity indexes, whatever lines come between them, with those of the reply behind them,
-- whole or broken off.
abbrev pub SessionsAreContinuous : Type 0
SessionsAreContinuous =
    (before : ServerState) (exchanges : List Exchange) (between : ServerState)
    (request : Result Line Refusal) (reply : Reply) (after : ServerState)
    → IsValid before.standing.geometry → HasJustOpened before → Session before exchanges between
    → Begins between request reply after
    → IsContinuous (packets_played exchanges ++ packets_in reply)

-- a reply that holds a device fault
abbrev pub has_fault : Reply → Bool
has_fault (refused r) = is_device_fault r
has_fault (played sents failed) = failed
has_fault reply = false

-- how many replies hold one
abbrev pub faults_in : List Exchange → ℕ
faults_in [] = 0
faults_in (x ∷ exchanges) = (if has_fault x.reply then 1 else 0) + faults_in exchanges

-- The replies hold a device fault at most as often as the disk's failures rose, unless their count
-- reached the greatest `u64`.
abbrev pub FaultsAreTheDisks : Type 0
FaultsAreTheDisks =
    (before : ServerState) (exchanges : List Exchange) (after : ServerState)
    → Session before exchanges after
    → (faults_in exchanges + before.failures ≤ after.failures)
    ⊎ (most_failures ≤ after.failures)

-- what holds of every session
pub record SessionLaws : Type 0 where
  pub raw : RawRepliesRead
  pub continuous : SessionsAreContinuous
  pub device_faults : FaultsAreTheDisks

-- Two ways to cut what was written into whole replies to the lines that were read are one: so what
-- was told of each line, and which commands are done, is a function of these bytes.
abbrev pub RepliesAreCutOnce : Type 0
RepliesAreCutOnce =
    (g : Geometry) (input : List ℕ) (left : Option (List ℕ)) (count : ℕ) (fault : Option Refusal)
    (told others : List Told) (flight fly : List Command) (old new : List ℕ) → IsValid g
    → Tells g input left count fault told flight (Some old) (Some new)
    → Tells g input left count fault others fly (Some old) (Some new) → told ≡ others
