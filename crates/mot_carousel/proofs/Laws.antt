-- What holds of the definitions, for the crates above.

-- one more command goes on behind the others
pub use Rattle.mot_carousel.proofs.Runs.{goes_on}
-- and each refusal of the rules is one of three
pub use Rattle.mot_carousel.proofs.Refused.{refused_by_rules}
-- the place of the first object of a name, by recursion, and what it being there or not comes to
pub use Rattle.mot_carousel.proofs.Beside.{Located, located, place, index_of-place}
-- the same of any test
pub use Rattle.mot_carousel.proofs.Places.{LocatedWhere, located_where, nowhere-cases, place_where}
pub use Rattle.mot_carousel.proofs.Places.{position-place_where}
-- lists of numbers that are equal
pub use Rattle.mot_carousel.proofs.Beside.{head, tail, same_step}
-- the least gap is one, none fits before it, and no bytes lie at 0
pub use Rattle.mot_carousel.proofs.Gaps.{least_gap_is_least, no_bytes}
-- extents in another order leave the same places and gaps free
pub use Rattle.mot_carousel.proofs.Reordered.{free-reordered, least_gap-reordered}
-- ids that are taken one after the other: how many, and that they are new
pub use Rattle.mot_carousel.proofs.NewIds.{new_ids-count, new_ids-new}
