-- What becomes of a disk that is formatted and served lines, in the words of the bytes that were
-- read and written.
use Rattle.std.specs.Prelude.{⊤, ◌≡◌, ◌⊎◌, ℕ, ◌≤◌, Bool, List, [], ◌∷◌, ◌++◌, length, map, take}
use Rattle.std.specs.Prelude.{Option, None, Some, Result, Ok, Err, IsTrue, bytes_eq, codes}
use Rattle.std.specs.Prelude.{if◌then◌else◌}
use Rattle.std.specs.List.{AllByRecursion, flat_map}
use Rattle.std.specs.Io.KnownBytes.{Appends, IsAtEnd}
use Rattle.mot_journal.specs.declared.layout.Layout.{Layout}
use Rattle.mot_journal.specs.declared.layout.Layout.TheVariants.{Two}
use Rattle.mot_lines.specs.Line.{NeedsMemory, line_of}
use Rattle.mot_lines.specs.Lines.{lines_of, rest_of, unless_empty}
use Rattle.mot_lines.specs.Text.{refusal_line}
use Rattle.mot_numbers.specs.declared.geometry.Geometry.{Geometry}
use Rattle.mot_numbers.specs.declared.refusal.Refusal.{Refusal}
use Rattle.mot_numbers.specs.declared.refusal.Refusal.TheVariants.{DeviceFault, OutOfMemory}
use Rattle.mot_numbers.specs.declared.refusal.Refusal.TheVariants.{ReadFault, WriteFault}
use Rattle.mot_objects.specs.declared.command.Command.{Command}
use Rattle.mot_objects.specs.Carousel.{Carousel}
use Rattle.mot_session.specs.Replies.{IsReply, IsRightReply}
use Rattle.mot_session.specs.Session.{command_in}

-- a line, and the whole text that was written as its reply
pub record Told : Type 0 where
  pub line : List ℕ
  pub text : List ℕ

-- Each reply is right where it stands, from this carousel on, or there was no memory for what its
-- line asks for. A fault of the disk is told for this cause alone.
abbrev pub AreRightReplies : (Cause : Type 0) → Geometry → Option Carousel → List Told → Type 0
AreRightReplies Cause g c [] = ⊤
AreRightReplies Cause g c (t ∷ told) =
    (NeedsMemory (line_of t.line) × (t.text ≡ refusal_line OutOfMemory)
    × AreRightReplies Cause g c told)
    ⊎ ((new : Option Carousel) × IsRightReply Cause g c (line_of t.line) t.text new
    × AreRightReplies Cause g new told)

-- the text accepts a command
abbrev pub is_done : List ℕ → Bool
is_done text = bytes_eq (take 5 text) (codes "done ")

-- the command of the line, where it was told that it is done
abbrev pub done_in : Told → List Command
done_in t = if is_done t.text then command_in (line_of t.line) else []

-- the command of the line, where it was told that the disk failed
abbrev pub fails_in : Told → List Command
fails_in t = if bytes_eq t.text (refusal_line DeviceFault) then command_in (line_of t.line) else []

abbrev pub commands_done : List Told → List Command
commands_done told = flat_map done_in told

-- The first lines of the input, so many, were answered, each by one reply, and these were written.
-- Where no fault ended that, the input is all that there is, and each line of it was answered; and
-- where a fault of the reader did, each line whose end was read. At most one command was in flight.
-- Either nothing more was written, and it is the one that a fault of the disk cut off. Or the
-- writer failed in the reply to the next line, of which some first bytes were written: then it may
-- be that line's, and it is where they say `done`.
pub record Tells (g : Geometry) (input : List ℕ) (left : Option (List ℕ)) (count : ℕ)
    (fault : Option Refusal) (told : List Told) (in_flight : List Command)
    (old new : Option (List ℕ)) : Type 0 where
  pub unanswered : List (List ℕ)
  pub lines : lines_of input ≡ map (λ (t : Told). t.line) told ++ unanswered
  pub counted : count ≡ length told
  pub replies : AllByRecursion (λ (t : Told). IsReply g (line_of t.line) t.text) told
  pub whole : fault ≡ None → (unanswered ≡ []) × IsAtEnd left
  pub unread : fault ≡ Some ReadFault → unanswered ≡ unless_empty (rest_of input)
  pub front : List ℕ
  pub written : Appends old new (flat_map (λ (t : Told). t.text) told ++ front)
  pub few : length in_flight ≤ 1
  pub ends : ((front ≡ []) × (in_flight ≡ flat_map fails_in told))
      ⊎ ((line rest : List ℕ) × (others : List (List ℕ)) × (unanswered ≡ line ∷ others)
      × (fault ≡ Some WriteFault) × IsReply g (line_of line) (front ++ rest)
      × ((in_flight ≡ flat_map fails_in told) ⊎ (in_flight ≡ command_in (line_of line)))
      × (IsTrue (is_done front) → in_flight ≡ command_in (line_of line)))

-- What was told of one line, which made these commands, and of which a fault of the disk cut off
-- others: its whole reply, which on a disk of layout 2 is right where the carousel is so; or, where
-- the writer failed, some first bytes of one, and then its command may be made, and it is where
-- they say `done`. A fault of the disk is told for this cause alone.
abbrev pub TellsLine : {T E : Type 0} → (Cause : Type 0) → Geometry → Layout → Option Carousel
    → Result T E → List ℕ
    → List Command → List Command → Option (List ℕ) → Option (List ℕ) → Type 0
TellsLine Cause g layout c (Ok it) line made cut_off old new = (t : Told) × (t.line ≡ line)
    × IsReply g (line_of line) t.text × (layout ≡ Two → AreRightReplies Cause g c (t ∷ []))
    × Appends old new t.text × (made ≡ done_in t) × (cut_off ≡ fails_in t)
TellsLine Cause g layout c (Err fault) line made cut_off old new = (front rest : List ℕ)
    × IsReply g (line_of line) (front ++ rest) × Appends old new front
    × ((made ++ cut_off ≡ []) ⊎ (made ++ cut_off ≡ command_in (line_of line)))
    × (IsTrue (is_done front) → made ≡ command_in (line_of line))
