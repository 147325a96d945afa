pub mod NoteSheet
pub mod Reading
pub mod Check
pub mod Accepted
