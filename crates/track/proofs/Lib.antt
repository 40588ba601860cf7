-- Laws of words, and of lists of words in rows.
pub mod Words
pub mod Rows
