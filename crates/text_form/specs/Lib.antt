-- The text form of an itinerary: its lines, how they are read and how they are written; then what is proved of them.
pub mod Lines
pub mod Reading
pub mod Writing
pub mod Parts
pub mod Laws
