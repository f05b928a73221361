-- What a call that writes did. The writer's known bytes were old and are new.
use Rattle.std.specs.Prelude.{ℕ, ◌≡◌, Bool, true, false, ◌||◌, List, [], ◌++◌, Option, Some, None}
use Rattle.std.specs.Prelude.{Result, if◌then◌else◌, Ok, Err, IfOk, IsTrue, IsFalse, length, ◌≤◌}
use Rattle.std.specs.Prelude.{◌∷◌}
use Rattle.std.specs.Io.KnownBytes.{Appends}
use Rattle.disk_model.specs.Disk.{State, IsUnchanged, OnlyReads, Throughout, Rises, KeepsLength}
use Rattle.mot_lines.specs.declared.line.Line.{Line}
use Rattle.mot_lines.specs.Line.{line_of}
use Rattle.mot_lines.specs.Text.{refusal_line}
use Rattle.mot_numbers.specs.declared.refusal.Refusal.{Refusal}
use Rattle.mot_numbers.specs.declared.refusal.Refusal.TheVariants.{DeviceFault}
use Rattle.mot_numbers.specs.Refusal.{is_device_fault}
use Rattle.mot_objects.specs.declared.command.Command.{Command}
use Rattle.mot_packets.specs.Packet.{read_packet}
use Rattle.mot_packets.specs.Written.{bytes_of_packet}
use Rattle.mot_player.specs.Place.{Sent, request}
use Rattle.mot_playout.specs.Runs.{StandsAfterSome, ServerView}
use Rattle.mot_session.specs.declared.serving.output.WriteFault.{WriteFault}
use Rattle.mot_session.specs.Served.{Writes, BrokenOff}
use Rattle.mot_session.specs.Session.{sent_line, KeepsCarousel, ServerState, Stays, command_in}
use Rattle.mot_session.specs.Session.{Reply, Answers, Exchange, accepted, refused, text_of}
use Rattle.mot_session.specs.Session.{packets_at, listing, packets}
use Rattle.mot_journal.specs.Image.{Standing}
use Rattle.mot_lines.specs.declared.line.Line.TheVariants as asks
use Rattle.mot_objects.specs.declared.command.Command as command
use Rattle.mot_repository.specs.Repository.{Holds, RepositoryView}
use Rattle.mot_session.specs.declared.deciding.Decision.{Decision}
use Rattle.mot_session.specs.declared.deciding.Decision.TheVariants.{Refused, Accepted, Listing}
use Rattle.mot_session.specs.declared.deciding.Decision.TheVariants.{Packets, Next, Turn}
use Rattle.mot_lines.specs.Lines.{bytes_in_hand, whole_lines, rest_of}
use Rattle.mot_session.specs.Life.{Told, commands_done, done_in}

-- a request was answered, and the whole reply was written
pub record Answered (before : ServerState) (request : Result Line Refusal) (reply : Reply)
    (after : ServerState) (old new : Option (List ℕ)) : Type 0 where
  pub answers : Answers before request reply after
  pub written : Appends old new (text_of reply)

-- it answered a request, or, after a fault, the reply was broken off
abbrev pub AnswersWith : {T : Type 0} → Result T WriteFault → ServerState → Result Line Refusal
    → Reply → ServerState → Option (List ℕ) → Option (List ℕ) → Type 0
AnswersWith (Ok done) before request reply after old new =
    Answered before request reply after old new
AnswersWith (Err fault) before request reply after old new =
    BrokenOff before request reply after old new

abbrev pub is_accepting : Reply → Bool
is_accepting (accepted d) = true
is_accepting reply = false

abbrev pub is_failing : Reply → Bool
is_failing (refused r) = is_device_fault r
is_failing reply = false

-- the command that a reply accepts, and the one that a device fault cut off
abbrev pub accepted_in : Exchange → List Command
accepted_in x = if is_accepting x.reply then command_in (line_of x.line) else []

abbrev pub failed_in : Exchange → List Command
failed_in x = if is_failing x.reply then command_in (line_of x.line) else []

-- a reply behind which a command may be done
abbrev pub may_have_done : Reply → Bool
may_have_done reply = is_accepting reply || is_failing reply

-- so, with a reply behind which a command may be done, or with one behind which none is
abbrev pub AnswersRequest : {T : Type 0} → Result T WriteFault → Bool → ServerState
    → Result Line Refusal → ServerState → Option (List ℕ) → Option (List ℕ) → Type 0
AnswersRequest result does before request after old new =
    (reply : Reply) × (may_have_done reply ≡ does)
    × AnswersWith result before request reply after old new

-- What a crash leaves of one line, whose answering began on the disk as it was at start: on a
-- halted server nothing comes, and else the carousel from before, or after the line's command.
pub record Crosses (start now : State) (before : ServerState) (x : Exchange) : Type 0 where
  pub going : IsFalse before.halted → Throughout start now (StandsAfterSome before.standing []
      (accepted_in x ++ failed_in x))
  pub halted : IsTrue before.halted → IsUnchanged start now

-- a line was answered so
pub record AnswersLine {T : Type 0} (result : Result T WriteFault) (start now : State)
    (before : ServerState) (line : List ℕ) (after : ServerState) (old new : Option (List ℕ)) :
    Type 0 where
  pub reply : Reply
  pub answers : AnswersWith result before (line_of line) reply after old new
  pub crosses : Crosses start now before (record { line = line; reply = reply; after = after })

-- a request of a packet was made, which sent this
pub record SendsOne (before : ServerState) (sent : Sent) (after : ServerState) : Type 0 where
  pub asked : request before.place ≡ Some sent
  pub read : read_packet (bytes_of_packet sent.packet) ≡ Some sent.packet
  pub place : after.place ≡ sent.place
  pub keeps : KeepsCarousel before after

-- a request failed, since a body could not be read; nothing changed, and the next one tries again
pub record FailsToSend (before after : ServerState) : Type 0 where
  pub rises : Rises before.failures after.failures
  pub stays : Stays before after

-- a request of a packet was made, and the line of what came was written: the packet's, with whether
-- it ends the turn, or the device fault's
pub data AnswersOne (result : Result (Option Bool) WriteFault) (before after : ServerState)
    (old new : Option (List ℕ)) : Type 0 where
  sends : (sent : Sent) → SendsOne before sent after
      → IfOk result (λ shown. shown ≡ Some sent.ends_turn)
      → Writes result (sent_line sent) old new → AnswersOne result before after old new
  fails : FailsToSend before after → IfOk result (λ shown. shown ≡ None)
      → Writes result (refusal_line DeviceFault) old new → AnswersOne result before after old new

-- of a server: its disk was only read, and nothing was stored or halted
pub record ReadsAlone {D : Type 0} (old new : ServerView D) (before now : State) : Type 0 where
  pub view : new.view ≡ old.view
  pub disk : OnlyReads before now

-- What the server decides, before it is written.

-- a decision answers the request, with the reply that it stands for on the server then; or it is to
-- play packets, and nothing was done yet
abbrev pub Decides : ServerState → Result Line Refusal → Decision → ServerState → Type 0
Decides before request (Refused r) after = Answers before request (refused r) after
Decides before request (Accepted d) after = Answers before request (accepted d) after
Decides before request Listing after =
    Answers before request (listing after.standing.carousel) after
Decides before request (Packets group) after =
    Answers before request (packets (packets_at after.standing.geometry group.items)) after
Decides before request (Next count) after =
    (request ≡ Ok (asks.Next count)) × IsFalse before.halted × (after ≡ before)
Decides before request Turn after =
    (request ≡ Ok asks.Turn) × IsFalse before.halted × (after ≡ before)

-- the command that was written to the disk, whole or in part
abbrev pub may_be_done : Decision → Bool
may_be_done (Accepted d) = true
may_be_done (Refused r) = is_device_fault r
may_be_done Listing = false
may_be_done (Packets group) = false
may_be_done (Next count) = false
may_be_done Turn = false

abbrev pub written_by : Decision → Result Line Refusal → List command.Command
written_by decision request = if may_be_done decision then command_in request else []

-- At most these commands were written: at each moment a crash leaves the carousel from before, or
-- after them. On a halted server nothing changes, and the disk keeps its length.
pub record MayWrite (old new : RepositoryView) (start now : State)
    (commands : List command.Command) : Type 0 where
  pub crosses : (s : Standing) → Holds old s start
      → Throughout start now (StandsAfterSome s [] commands)
  pub halted : IsTrue old.halted → (new ≡ old) × IsUnchanged start now
  pub keeps : KeepsLength start now

-- What of the input was cut into lines.

-- the whole lines of the input so far were counted, and the rest is in hand
pub record InHand (input : List ℕ) (hand : List ℕ) (count : ℕ) : Type 0 where
  pub rest : hand ≡ bytes_in_hand (rest_of input)
  pub counted : count ≡ length (whole_lines input)

-- What a crash leaves since a moment of each reply.

-- P tells of a moment of the disk's clock what a crash leaves that comes since then: all of the
-- sure commands, and a beginning of the others. Of each reply there is a moment, none before that
-- of an earlier one, since which its command is sure.
unfoldable pub IsKeptFrom : (ℕ → List Command → List Command → Type 0) → ℕ → List Command
    → List Told → List Command → Type 0
IsKeptFrom P moment sure [] in_flight = P moment sure in_flight
IsKeptFrom P moment sure (t ∷ told) in_flight =
    P moment sure (commands_done (t ∷ told) ++ in_flight)
    × (later : ℕ) × (moment ≤ later) × IsKeptFrom P later (sure ++ done_in t) told in_flight
