pub mod Entity
pub mod Group
pub mod Laws
pub mod SegmentBytes
