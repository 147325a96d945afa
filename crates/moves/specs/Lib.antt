pub mod Moving
pub mod Slide
pub mod Tidy
pub mod Moved
