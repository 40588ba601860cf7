-- Kinds and their numbers, and the C functions by cases.
pub mod Laws
pub mod CallCases
