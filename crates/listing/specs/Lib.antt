-- A list: a line, the whole, and what turns it back.
pub mod Line
pub mod Whole
pub mod Refusals
