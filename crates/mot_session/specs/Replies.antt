-- Whole replies to lines, and which of them are right where the carousel is so.
use Rattle.std.specs.Prelude.{⊤, IsTrue, ◌≡◌, ◌⊎◌, ℕ, ◌+◌, ◌-◌, ◌<◌, Bool, true, false, List, []}
use Rattle.std.specs.Prelude.{◌∷◌, ◌++◌}
use Rattle.std.specs.Prelude.{length, map, replicate, Option, None, Some, Result, Ok, Err, codes}
use Rattle.std.specs.Prelude.{if◌then◌else◌}
use Rattle.std.specs.Int.{div_ceil}
use Rattle.std.specs.List.{AllByRecursion, flat_map}
use Rattle.mot_lines.specs.declared.line.Line.{Line}
use Rattle.mot_lines.specs.declared.line.Line.TheVariants.{Command, Raw, Next, Turn}
use Rattle.mot_lines.specs.declared.line.Line.TheVariants as asks
use Rattle.mot_lines.specs.Lines.{HasNoLineEnd}
use Rattle.mot_lines.specs.Text.{done_line, played_line, refusal_line}
use Rattle.mot_numbers.specs.declared.geometry.Geometry.{Geometry}
use Rattle.mot_numbers.specs.declared.refusal.Refusal.{Refusal}
use Rattle.mot_numbers.specs.declared.refusal.Refusal.TheVariants.{DeviceFault, Halted, NoRoom}
use Rattle.mot_objects.specs.declared.command.Command as command
use Rattle.mot_objects.specs.declared.command.Done.{Done}
use Rattle.mot_objects.specs.Carousel.{Carousel, change}
use Rattle.mot_playout.specs.Life.{LacksRoom}

-- a packet that is shown, and whether it ends a turn
abbrev pub Shown : Type 0
Shown = List ℕ × Bool

-- a line for each
abbrev pub shown_lines : List Shown → List ℕ
shown_lines shown = flat_map (λ (p : Shown). played_line p.0 p.1) shown

-- which of them end a turn
abbrev pub ends_of : List Shown → List Bool
ends_of shown = map (λ (p : Shown). p.1) shown

-- Of so many packets these end a turn: they are all that a request asks for, or, where the disk
-- failed behind them, some first ones. A `raw` line's group has 11 bytes more than its body.
abbrev pub AreAsked : Geometry → Result Line Refusal → Bool → List Bool → Type 0
AreAsked g (Ok (Raw kind tid body)) false ends =
    ends ≡ replicate (div_ceil (length body + 11) (g.packet - 5)) false
AreAsked g (Ok (Next count)) false ends = length ends ≡ count
AreAsked g (Ok (Next count)) true ends = length ends < count
AreAsked g (Ok Turn) false ends = (n : ℕ) × (ends ≡ replicate n false ++ true ∷ [])
AreAsked g (Ok Turn) true ends = (n : ℕ) × (ends ≡ replicate n false)
AreAsked g request failed ends = ⊥

-- the text shows what the request asks for: lines of the carousel, or of packets; where the disk
-- failed behind these, it does so for this cause
pub data IsShown (Cause : Type 0) (g : Geometry) (request : Result Line Refusal) (text : List ℕ) :
    Type 0 where
  listed : (numbers : List ℕ) (objects : List (List ℕ)) → request ≡ Ok asks.List
      → AllByRecursion HasNoLineEnd (numbers ∷ objects)
      → text ≡ codes "carousel " ++ numbers ++ 10 ∷ []
      ++ flat_map (λ o. codes "object " ++ o ++ 10 ∷ []) objects
      → IsShown Cause g request text
  packets : (shown : List Shown) (failed : Bool) → AreAsked g request failed (ends_of shown)
      → (IsTrue failed → Cause)
      → text ≡ shown_lines shown ++ (if failed then refusal_line DeviceFault else [])
      → IsShown Cause g request text

-- The text is a whole reply to the request. Where one such text ends is seen from the lines alone:
-- so the bytes of replies say which of their lines answers which request.
abbrev pub IsReply : Geometry → Result Line Refusal → List ℕ → Type 0
IsReply g request text = ((r : Refusal) × (text ≡ refusal_line r))
    ⊎ ((c : command.Command) × (d : Done) × (request ≡ Ok (Command c)) × (text ≡ done_line d))
    ⊎ IsShown ⊤ g request text

-- The text is right for the request where the carousel is so, and it is this then. A command is
-- done where the rules accept it, with the ids that they give; or refused as they say, or since
-- there is no room for what it brings, where that may be. A fault of the disk in a command halts
-- the server, which has no carousel from then on, and refuses whatever needs one. A line that is no
-- request is refused as it is parsed. The disk failed for this cause alone.
abbrev pub IsRightReply : (Cause : Type 0) → Geometry → Option Carousel → Result Line Refusal
    → List ℕ
    → Option Carousel → Type 0
IsRightReply Cause g c (Err r) text new = (text ≡ refusal_line r) × (new ≡ c)
IsRightReply Cause g c (Ok (Raw kind tid body)) text new =
    (new ≡ c) × IsShown Cause g (Ok (Raw kind tid body)) text
IsRightReply Cause g None (Ok request) text new = (text ≡ refusal_line Halted) × (new ≡ None)
IsRightReply Cause g (Some c) (Ok (Command x)) text None =
    (text ≡ refusal_line DeviceFault) × Cause
IsRightReply Cause g (Some c) (Ok (Command x)) text (Some new) =
    ((d : Done) × (change c g.objects x ≡ Ok (new, d)) × (text ≡ done_line d))
    ⊎ ((r : Refusal) × (change c g.objects x ≡ Err r) × (text ≡ refusal_line r) × (new ≡ c))
    ⊎ ((made : Carousel × Done) × (change c g.objects x ≡ Ok made) × (text ≡ refusal_line NoRoom)
    × (new ≡ c) × LacksRoom g.area c.objects x)
IsRightReply Cause g (Some c) (Ok request) text new =
    (new ≡ Some c) × IsShown Cause g (Ok request) text
