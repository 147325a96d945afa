pub mod Search
pub mod Walking
pub mod Cheapest
