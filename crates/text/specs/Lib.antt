-- Text: taken apart, numbers in it, and put into a buffer.
pub mod Split
pub mod Hex
pub mod Put
pub mod Quoted
