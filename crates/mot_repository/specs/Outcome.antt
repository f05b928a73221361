-- What a command makes of what a disk stands for, or why it is refused (own rules).
use Rattle.std.specs.Prelude.{ℕ, Bool, false, nat_lt, if◌then◌else◌, List, [], ◌∷◌, ◌++◌, length}
use Rattle.std.specs.Prelude.{map, position, remove, slice_set, bytes_eq, Option, Some, None}
use Rattle.std.specs.Prelude.{Result, Ok, Err, ◌+◌, nat_le}
use Rattle.std.specs.Option.{option_map_or}
use Rattle.mot_journal.specs.declared.layout.Layout.{Layout}
use Rattle.mot_journal.specs.Slot.{longest_name, slot_count}
use Rattle.mot_numbers.specs.Refusal.{◌>>=◌}
use Rattle.mot_journal.specs.Image.{Standing}
use Rattle.mot_numbers.specs.declared.refusal.Refusal.{Refusal}
use Rattle.mot_numbers.specs.declared.refusal.Refusal.TheVariants.{BadName, NoRoom}
use Rattle.mot_objects.specs.declared.command.Command.{Command}
use Rattle.mot_objects.specs.declared.command.Command.TheVariants.{Put, Replace, Withdraw, Period}
use Rattle.mot_objects.specs.declared.command.Done.{Done}
use Rattle.mot_objects.specs.Carousel.{Object, change}
use Rattle.mot_carousel.specs.Gap.{least_gap}
use Rattle.mot_journal.specs.Journal.{JournalView}

-- the slots of the layout have no room for the name that the command speaks of
abbrev pub has_long_name : Layout → Command → Bool
has_long_name layout (Put name content mime body) = nat_lt (longest_name layout) (length name)
has_long_name layout (Replace name content mime body) = nat_lt (longest_name layout) (length name)
has_long_name layout (Withdraw name) = nat_lt (longest_name layout) (length name)
has_long_name layout (Period period) = false

-- the bytes that a command brings
abbrev pub body_of : Command → List ℕ
body_of (Put name content mime body) = body
body_of (Replace name content mime body) = body
body_of (Withdraw name) = []
body_of (Period period) = []

-- where they go: to the least gap of a data area of this size, and no bytes to 0
abbrev pub start_of : List (ℕ × ℕ) → ℕ → Command → Option ℕ
start_of extents size command = least_gap extents (length (body_of command)) size

abbrev pub or_no_room : Option ℕ → Result ℕ Refusal
or_no_room None = Err NoRoom
or_no_room (Some start) = Ok start

-- the extents of the objects of these names after an accepted command, whose bytes, if it brings
-- any, begin here: all other bodies stay where they lie
abbrev pub extents_after : List (List ℕ) → List (ℕ × ℕ) → Command → ℕ → List (ℕ × ℕ)
extents_after names extents (Put name content mime body) start =
    extents ++ (start, length body) ∷ []
extents_after names extents (Replace name content mime body) start =
    option_map_or (λ i. slice_set extents i (start, length body))
    (position (λ n. bytes_eq n name) names) extents
extents_after names extents (Withdraw name) start =
    option_map_or (remove extents) (position (λ n. bytes_eq n name) names) extents
extents_after names extents (Period period) start = extents

-- What a disk of this layout stands for after a command, and the ids that it took; or the first
-- reason why it is refused: no room for its name, the rules of the carousel, no room for its bytes.
unfoldable pub after_command : Layout → Standing → Command → Result (Standing × Done) Refusal
after_command layout s command =
    if has_long_name layout command then Err BadName
    else (do
      made ← change s.carousel s.geometry.objects command
      start ← or_no_room (start_of s.extents s.geometry.area command)
      let names = map (λ (o : Object). o.name) s.carousel.objects
      let extents = extents_after names s.extents command start
      Ok (record s { carousel = made.0; extents = extents }, made.1))

-- How many calls of the disk a command makes.

-- where the half is full, the slots of the other one, a sync, the selector, and a sync
abbrev pub calls_for_room : JournalView → ℕ
calls_for_room journal =
    let slots = slot_count journal.layout journal.geometry in
    if nat_le slots journal.count then slots + 3 else 0

-- a body is one write
abbrev pub calls_for_body : List ℕ → ℕ
calls_for_body [] = 0
calls_for_body (b ∷ bytes) = 1

-- then the slot without its gate, a sync, the gate, and a sync
abbrev pub calls_for : JournalView → List ℕ → ℕ
calls_for journal body = calls_for_room journal + (calls_for_body body + 4)

abbrev pub calls_of_command : JournalView → Command → ℕ
calls_of_command journal command = calls_for journal (body_of command)
