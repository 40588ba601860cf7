-- The answers to all questions about permissions and domains: as a list and as text, and by their places.
pub mod Sheet
pub mod Places
