-- Noting by the pages of a MiB.
pub mod Mib
