-- The step: what the code is proved against, in the shape of the code.
pub mod Memory
pub mod Walk
pub mod Rights
pub mod Rows
pub mod Track
pub mod Checks
pub mod Machine
pub mod WalkAnswer
