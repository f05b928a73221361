pub mod Answering
pub mod Apart
mod Bodies
pub mod Bounds
pub mod ByStart
pub mod Committing
pub mod Extents
mod CopyRows
mod Copied
mod FoldRows
pub mod FoldSteps
mod Folding
mod Following
pub mod Laws
mod Layouts
pub mod ListFaults
mod Listing
mod Moved
pub mod OpenDisk
mod OutcomeRows
pub mod Outcomes
pub mod Pairwise
mod Places
pub mod Planned
pub mod Preparing
mod Reading
mod Renumbered
mod Rewriting
mod Room
mod Rows
mod Rules
pub mod Soundness
