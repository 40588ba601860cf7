-- An image as lines: a line, words and images, the two ways between them, what turns lines back, and the limit of the programs.
pub mod Form
pub mod Words
pub mod Ways
pub mod Refusals
pub mod Settings
