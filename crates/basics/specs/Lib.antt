pub mod Numbers
pub mod Answers
pub mod Counting
pub mod Tables
pub mod Faults
