-- The names that lists and reports have in common.
pub mod Names
