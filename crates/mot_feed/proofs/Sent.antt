-- Packets in a row.
use Rattle.std.proofs.Common.{◌≡◌, ◌∙◌, ℕ, ◌<◌, List, [], ◌∷◌, length, Some, Result, Ok, Err, sym}
use Rattle.std.proofs.Common.{ap, subst, arith, inl, inr}
use Rattle.std.specs.Prelude.{◌≢◌}
use Rattle.disk_model.specs.Disk.{State}
use Rattle.mot_feed.specs.Feeding.{IsFeedFault}
use Rattle.mot_journal.specs.Image.{Standing}
use Rattle.mot_numbers.specs.declared.refusal.Refusal.{Refusal}
use Rattle.mot_numbers.specs.declared.refusal.Refusal.TheVariants.{DeviceFault, Halted, OutOfMemory}
use Rattle.mot_numbers.specs.declared.refusal.Refusal.TheVariants.{WriteFault}
use Rattle.mot_packets.specs.Packet.{PacketFields, read_packet}
use Rattle.mot_player.specs.PlayerView as player
use Rattle.mot_repository.specs.Repository.{RepositoryView}
use Rattle.mot_playout.specs.Runs.{ServerView, bodies_of, place_in}
use Rattle.mot_playout.specs.Playing.{IsReadRefusal}
use Rattle.mot_playout.specs.Playing as reading
use Rattle.mot_update.specs.Faults.{StaysCalm, IsUpdateFault}
use Rattle.mot_update.specs.Faults as update
use Rattle.mot_update.proofs.Laws.{fault_on}

abbrev IsFine : {T : Type 0} → Result T Refusal → Type 0
IsFine (Ok x) = Unit {0}
IsFine (Err e) = ⊥

-- what is Ok is no error
pub not_fine : {T : Type 0} (x : T) (e : Refusal) → Ok x ≡ Err e → ⊥
not_fine x e same = subst IsFine same tt

-- a packet has some bytes
pub some_bytes : (packet : List ℕ) (p : PacketFields) → read_packet packet ≡ Some p
    → 0 < length packet
unfolding read_packet
some_bytes [] p is = absurd (cc)
some_bytes (b ∷ bytes) p is = omega arith

-- a server whose player stays stands in the same place
pub same_place : {D : Type 0} (old new : ServerView D) (s : Standing) → new.player ≡ old.player
    → place_in new s ≡ place_in old s
same_place old new s played =
    ap (λ (p : player.PlayerView). player.place_of p (bodies_of s.carousel)) played

-- ---- faults

module _ {D : Type 0} (state : D → State) where
  -- why a packet could not be made
  pub unread : (old new : ServerView D) (refusal : Refusal)
      → IsReadRefusal old new (state old.disk).failures (state new.disk).failures refusal
      → IsFeedFault old (state old.disk) (state new.disk) refusal
  unread old new refusal (reading.halted is e same) =
      inl (update.halted is e (ap (λ (v : ServerView D). (state v.disk).failures) same))
  unread old new refusal (reading.failed is e rises) = inl (update.device is e rises)

-- which is none of writing
pub not_written : {D : Type 0} (old new : ServerView D) (before now : ℕ) (refusal : Refusal)
    → IsReadRefusal old new before now refusal → refusal ≢ WriteFault
not_written old new before now refusal (reading.halted is e same) w =
    absurd (let wrong : Halted ≡ WriteFault = sym e ∙ w in cc)
not_written old new before now refusal (reading.failed is e rises) w =
    absurd (let wrong : DeviceFault ≡ WriteFault = sym e ∙ w in cc)

-- neither is what ends an update
pub not_of_writing : {D : Type 0} (old : ServerView D) (start now : State) (refusal : Refusal)
    → IsUpdateFault old start now refusal → refusal ≢ WriteFault
not_of_writing old start now refusal (update.halted is e same) w =
    absurd (let wrong : Halted ≡ WriteFault = sym e ∙ w in cc)
not_of_writing old start now refusal (update.no_memory e same) w =
    absurd (let wrong : OutOfMemory ≡ WriteFault = sym e ∙ w in cc)
not_of_writing old start now refusal (update.device is e rises) w =
    absurd (let wrong : DeviceFault ≡ WriteFault = sym e ∙ w in cc)

-- a packet that was sent leaves all calm
pub sent_calm : {D : Type 0} (old new : ServerView D) (start now : State)
    → now.failures ≡ start.failures → new.view ≡ old.view → StaysCalm old new start now
sent_calm old new start now calm view =
    record { failures = calm; halted = ap (λ (v : RepositoryView). v.halted) view }

-- a fault behind updates without one
pub feed_fault_on : {D : Type 0} (old mid : ServerView D) (start between now : State)
    (refusal : Refusal) → StaysCalm old mid start between → IsFeedFault mid between now refusal
    → IsFeedFault old start now refusal
feed_fault_on old mid start between now refusal calm (inl fault) =
    inl (fault_on old mid start between now refusal calm fault)
feed_fault_on old mid start between now refusal calm (inr unwritten) =
    inr (unwritten.0, unwritten.1 ∙ calm.failures)
