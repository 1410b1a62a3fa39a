pub mod Segments
pub mod Scan
pub mod SegmentBytes
pub mod PiecesLoop
pub mod SegmentsWithin
pub mod Bound
