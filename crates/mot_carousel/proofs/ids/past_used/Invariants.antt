use Rattle.std.proofs.Common.{take}
use Rattle.mot_carousel.proofs.Window.{Marks}
use Rattle.mot_carousel.proofs.ids.past_used.Given as goal

-- the window says which of its ids are among those so far
abbrev pub invariant-loop-id : goal.invariant-loop-id
invariant-loop-id l = Marks l.first (take l.id-index l.used) l.window
