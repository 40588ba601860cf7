-- Numbers brought into the ranges of the table, and what its answers say.
pub mod Ranges
