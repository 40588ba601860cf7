-- Laws of noting: the pages of a MiB, and what noting leaves as it is.
pub mod Mib
pub mod Settled
