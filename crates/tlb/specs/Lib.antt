-- A theory of TLBs, for any machine with tables: the models, the two halves of what is to be proved, and the laws to prove them from.
pub mod Machine
pub mod Chip
pub mod Tracker
pub mod Seen
pub mod Laws
pub mod Places
pub mod Words
