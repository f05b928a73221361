-- What a server answers, line by line.
use Rattle.std.specs.Prelude.{ℕ, ◌≡◌, ⊤, Bool, true, false, List, [], ◌∷◌, ◌++◌, Result, Ok, Err}
use Rattle.std.specs.Prelude.{IsTrue, IsFalse, ◌≤◌, length, map}
use Rattle.std.specs.List.{flat_map}
use Rattle.disk_model.specs.Disk.{Rises}
use Rattle.mot_journal.specs.Image.{Standing}
use Rattle.mot_lines.specs.declared.line.Line.{Line}
use Rattle.mot_lines.specs.declared.line.Line.TheVariants.{Command, Raw}
use Rattle.mot_lines.specs.declared.line.Line.TheVariants as asks
use Rattle.mot_lines.specs.Line.{NeedsMemory, line_of}
use Rattle.mot_lines.specs.Listing.{listing_text}
use Rattle.mot_lines.specs.Text.{done_line, packet_line, refusal_line, played_line}
use Rattle.mot_numbers.specs.declared.refusal.Refusal.{Refusal}
use Rattle.mot_numbers.specs.declared.refusal.Refusal.TheVariants.{OutOfMemory, DeviceFault, Halted}
use Rattle.mot_objects.specs.declared.command.Command as command
use Rattle.mot_objects.specs.declared.command.Done.{Done}
use Rattle.mot_objects.specs.Carousel.{Carousel}
use Rattle.mot_player.specs.Place.{Sent, changed, Place, opened_place}
use Rattle.mot_player.specs.Laws.{packets_sent, HasSent}
use Rattle.mot_player.specs.Turn.{turn_of_carousel}
use Rattle.mot_repository.specs.Outcome.{after_command}
use Rattle.mot_groups.specs.Group.{GroupFields, bytes_of_group}
use Rattle.mot_numbers.specs.Geometry.{packet_room}
use Rattle.mot_numbers.specs.PacketLength.{kind_number}
use Rattle.mot_numbers.specs.declared.geometry.Geometry.{Geometry}
use Rattle.mot_numbers.specs.declared.group_kind.GroupKind.{GroupKind}
use Rattle.mot_packets.specs.Written.{packets_of_group, bytes_of_packet}
use Rattle.disk_model.specs.Disk as disk
use Rattle.mot_journal.specs.declared.layout.Layout.{Layout}
use Rattle.mot_repository.specs.Repository.{RepositoryView, Agrees, Holds}
use Rattle.mot_playout.specs.Runs.{ServerView, place_in}
use Rattle.mot_session.specs.Replies.{AreAsked}

-- What a server on a disk stands for.

pub record ServerState : Type 0 where
  -- its geometry, its carousel with the bodies, and where they lie
  pub standing : Standing
  pub layout : Layout
  -- where it stands in playing the carousel
  pub place : Place
  -- a device fault has come in a command
  pub halted : Bool
  -- how often a call of the disk has failed
  pub failures : ℕ

-- a server of this standing, on a disk in this state
abbrev pub state_of : {D : Type 0} → ServerView D → Standing → disk.State → ServerState
state_of server s state = record {
  standing = s;
  layout = server.view.journal.layout;
  place = place_in server s;
  halted = server.view.halted;
  failures = state.failures;
}

-- What it keeps in memory is of this standing; and while it is not halted, each image that a crash
-- now may leave stands for it.
pub record StandsFor (view : RepositoryView) (s : Standing) (state : disk.State) : Type 0 where
  pub agrees : Agrees view s
  pub holds : IsFalse view.halted → Holds view s state

-- Where a server stood for something, and its disk is honest to the end, it stands for something
-- again, and between the two there is P.
abbrev pub Leads : {D : Type 0} → (D → disk.State) → ServerView D → ServerView D
    → (ServerState → ServerState → Type 0) → Type 0
Leads state old new P =
    (s : Standing) → StandsFor old.view s (state old.disk) → (state new.disk).IsHonest
    → (last : Standing) × StandsFor new.view last (state new.disk)
    × P (state_of old s (state old.disk)) (state_of new last (state new.disk))

-- This is what the server stands for then, where it stands in playing that, and whether it is
-- halted. The layout stays, and the failures do not become fewer.
pub record Becomes (before : ServerState) (s : Standing) (p : Place) (b : Bool)
    (after : ServerState) : Type 0 where
  pub standing : after.standing ≡ s
  pub place : after.place ≡ p
  pub halted : after.halted ≡ b
  pub layout : after.layout ≡ before.layout
  pub failures : before.failures ≤ after.failures

-- nothing is stored or halted
abbrev pub KeepsCarousel : ServerState → ServerState → Type 0
KeepsCarousel before after = Becomes before before.standing after.place before.halted after

-- nor is anything played
abbrev pub Stays : ServerState → ServerState → Type 0
Stays before after = Becomes before before.standing before.place before.halted after

-- nothing was played yet
abbrev pub HasJustOpened : ServerState → Type 0
HasJustOpened state =
    let g = state.standing.geometry in
    state.place ≡ opened_place g.address (packet_room g) g.segment
    (turn_of_carousel state.standing.carousel g.segment)

-- What a line may store.

-- the command that a request is
abbrev pub command_in : Result Line Refusal → List command.Command
command_in (Ok (Command c)) = c ∷ []
command_in request = []

-- What requests of packets give.

-- a line for each packet that was sent
abbrev pub sent_line : Sent → List ℕ
sent_line s = played_line (bytes_of_packet s.packet) s.ends_turn

abbrev pub sent_lines : List Sent → List ℕ
sent_lines sents = flat_map sent_line sents

-- These packets of a `next` or a `turn` line were sent, and nothing else changed. They are all that
-- it asks for, or some first ones.
pub record PlaysForRequest (before : ServerState) (request : Result Line Refusal) (some : Bool)
    (sents : List Sent) (after : ServerState) : Type 0 where
  pub asked : AreAsked before.standing.geometry request some (map (λ (s : Sent). s.ends_turn) sents)
  pub sent : HasSent before.place (length sents) sents after.place
  pub keeps : KeepsCarousel before after

-- The packets of a raw request.

-- the group of a raw request: its one segment is number 0 and the last, and its continuity index is
-- 0
abbrev pub raw_group : GroupKind → ℕ → List ℕ → GroupFields
raw_group kind tid body = record {
  index = 0;
  segment = record { kind = kind_number kind; tid = tid; number = 0; last = true; bytes = body };
}

-- the packets of a group, with continuity indexes from 0 on, the geometry's address and its packet
-- length
abbrev pub packets_at : Geometry → List ℕ → List (List ℕ)
packets_at g group = packets_of_group (packet_room g) g.address 0 group

abbrev pub raw_packets : Geometry → GroupKind → ℕ → List ℕ → List (List ℕ)
raw_packets g kind tid body = packets_at g (bytes_of_group (raw_group kind tid body))

pub data Reply : Type 0 where
  refused : Refusal → Reply
  accepted : Done → Reply
  listing : Carousel → Reply
  packets : List (List ℕ) → Reply
  -- packets, and whether a device fault stands behind them
  played : List Sent → Bool → Reply

-- a reply's bytes
unfoldable pub text_of : Reply → List ℕ
text_of (refused r) = refusal_line r
text_of (accepted d) = done_line d
text_of (listing c) = listing_text c
text_of (packets ps) = flat_map packet_line ps
text_of (played sents false) = sent_lines sents
text_of (played sents true) = sent_lines sents ++ refusal_line DeviceFault

-- What a command is answered. It is accepted: the disk stands for what it comes to, and the new
-- carousel's turn comes behind the group under way. (On a server that was told to follow changes
-- the turn goes on, and on every other one it begins.) Or it is refused, and nothing changes; or
-- the disk fails, and the server is halted, with the carousel from before.
pub data IsCommandAnswer (s : ServerState) (c : command.Command) (reply : Reply)
    (after : ServerState) : Type 0 where
  accepts : (done : Done) (next : Standing) → reply ≡ accepted done
      → after_command s.layout s.standing c ≡ Ok (next, done)
      → Becomes s next (changed (turn_of_carousel next.carousel next.geometry.segment) s.place)
      s.halted after → IsCommandAnswer s c reply after
  refuses : (refusal : Refusal) → reply ≡ refused refusal
      → after_command s.layout s.standing c ≡ Err refusal → Stays s after
      → IsCommandAnswer s c reply after
  fails : reply ≡ refused DeviceFault → Rises s.failures after.failures
      → Becomes s s.standing s.place true after → IsCommandAnswer s c reply after

-- What answers a request, and the state after it. A line that is no request gets its refusal, a
-- list line the carousel, a raw line the packets of its group, and none of them changes anything. A
-- `next` and a `turn` line get the packets that they ask for, or those before a device fault.
unfoldable pub IsAnswer : ServerState → Result Line Refusal → Reply → ServerState → Type 0
IsAnswer s (Err r) reply after = (reply ≡ refused r) × Stays s after
IsAnswer s (Ok (Command c)) reply after = IsCommandAnswer s c reply after
IsAnswer s (Ok asks.List) reply after = (reply ≡ listing s.standing.carousel) × Stays s after
IsAnswer s (Ok (Raw kind tid body)) reply after =
    (reply ≡ packets (raw_packets s.standing.geometry kind tid body)) × Stays s after
IsAnswer s request reply after = (sents : List Sent) × (failed : Bool)
    × (reply ≡ played sents failed) × PlaysForRequest s request failed sents after
    × (IsTrue failed → Rises s.failures after.failures)

-- a request that needs a server which is not halted: every one but a raw line
abbrev pub NeedsCarousel : Result Line Refusal → Type 0
NeedsCarousel (Err r) = ⊥
NeedsCarousel (Ok (Raw kind tid body)) = ⊥
NeedsCarousel (Ok line) = ⊤

-- The reply to a request, and the state after it. A growth of memory that is refused may stand in
-- a reply's place, but not of a list, a `next` or a `turn` line's.
pub data Answers (before : ServerState) (request : Result Line Refusal) (reply : Reply)
    (after : ServerState) : Type 0 where
  decided : (NeedsCarousel request → IsFalse before.halted) → IsAnswer before request reply after
      → Answers before request reply after
  halted : IsTrue before.halted → NeedsCarousel request → reply ≡ refused Halted
      → Stays before after → Answers before request reply after
  no_memory : NeedsMemory request → reply ≡ refused OutOfMemory → Stays before after
      → Answers before request reply after

-- a line, its reply, and the state after it
pub record Exchange : Type 0 where
  pub line : List ℕ
  pub reply : Reply
  pub after : ServerState

-- line by line, from a state to a state
unfoldable pub Session : ServerState → List Exchange → ServerState → Type 0
Session before [] after = after ≡ before
Session before (x ∷ exchanges) after =
    Answers before (line_of x.line) x.reply x.after × Session x.after exchanges after

-- the packets of the replies to `next` and `turn` lines
abbrev pub packets_in : Reply → List (List ℕ)
packets_in (played sents failed) = packets_sent sents
packets_in reply = []

abbrev pub packets_played : List Exchange → List (List ℕ)
packets_played exchanges = flat_map (λ (x : Exchange). packets_in x.reply) exchanges
