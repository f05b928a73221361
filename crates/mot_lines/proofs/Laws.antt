-- What crates above may cite: the lines of an input that grows, what is kept of a line in hand,
-- why a line is refused, what a list shows, and what the lines ask for that rebuild a carousel.
use Rattle.std.proofs.Common.{◌≡◌, ℕ, List, [], ◌∷◌, ◌++◌, Err}
use Rattle.mot_lines.specs.Lines.{HasNoLineEnd}
use Rattle.mot_lines.specs.Listing.{listing_text_beside}
use Rattle.mot_lines.specs.Line.{line_of}
use Rattle.mot_lines.specs.Lines.{whole_lines, rest_of, lines_of}
use Rattle.mot_lines.specs.Listing.{listing_text}
use Rattle.mot_lines.specs.Export.{ExportsAskForTheirCommands}
use Rattle.mot_lines.proofs.Exported as exported
use Rattle.mot_lines.proofs.Faults as faults
use Rattle.mot_lines.proofs.Input as input
use Rattle.mot_lines.proofs.Listed as listed
use Rattle.mot_numbers.specs.declared.refusal.Refusal.TheVariants.{DeviceFault}
use Rattle.mot_objects.specs.declared.carousel.Carousel.{Carousel}
use Rattle.mot_objects.specs.Stands.{carousel_of, AreBodiesOf}

-- an input of no bytes has no lines, and no line has begun
pub whole_lines-none : whole_lines [] ≡ []
whole_lines-none = input.no_lines

-- of no input nothing is left over
pub rest_of-none : rest_of [] ≡ []
rest_of-none = input.no_rest

-- a line end ends the line that has begun
pub whole_lines-end : (xs : List ℕ)
    → whole_lines (xs ++ 10 ∷ []) ≡ whole_lines xs ++ rest_of xs ∷ []
whole_lines-end xs = input.whole_end xs

-- behind a line's end nothing is left over
pub rest_of-end : (xs : List ℕ) → rest_of (xs ++ 10 ∷ []) ≡ []
rest_of-end xs = input.rest_end xs

-- other bytes go on with it
pub whole_lines-within : (xs ys : List ℕ) → HasNoLineEnd ys
    → whole_lines (xs ++ ys) ≡ whole_lines xs
whole_lines-within xs ys none = input.whole_within xs ys none

-- bytes without a line's end are left over behind what was
pub rest_of-within : (xs ys : List ℕ) → HasNoLineEnd ys → rest_of (xs ++ ys) ≡ rest_of xs ++ ys
rest_of-within xs ys none = input.rest_within xs ys none

-- the whole lines of a front are a front of the whole lines
pub whole_lines-front : (xs ys : List ℕ)
    → (more : List (List ℕ)) × (whole_lines (xs ++ ys) ≡ whole_lines xs ++ more)
whole_lines-front xs ys = input.whole_front xs ys

-- at an input's end what has begun is a line, unless it is empty
pub lines_of-ended : (xs : List ℕ) → rest_of xs ≡ [] → lines_of xs ≡ whole_lines xs
lines_of-ended xs none = input.lines_empty xs none

-- the lines of an input that ends within one are the whole ones, and what is left over
pub lines_of-begun : (xs : List ℕ) → (rest_of xs ≡ [] → ⊥)
    → lines_of xs ≡ whole_lines xs ++ rest_of xs ∷ []
lines_of-begun xs some = input.lines_last xs some

-- no line is refused for a fault of the disk
pub line_of-no_fault : (line : List ℕ) → line_of line ≡ Err DeviceFault → ⊥
line_of-no_fault line = faults.line line

-- what a list shows of a carousel, made of the objects and their bodies' lengths alone
pub listing_text-beside : (c : Carousel) (bodies : List (List ℕ)) → AreBodiesOf c bodies
    → listing_text_beside c ≡ listing_text (carousel_of c bodies)
listing_text-beside c bodies b = listed.listing_text_beside-whole c bodies b

-- the lines that rebuild a carousel ask for the commands that do
pub export_text-asks : ExportsAskForTheirCommands
export_text-asks = exported.export_laws
