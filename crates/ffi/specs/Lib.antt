-- What the C functions take and give.
pub mod Words
