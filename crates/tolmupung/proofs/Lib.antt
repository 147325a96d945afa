pub mod StarredHold
