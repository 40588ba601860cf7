-- Laws of accesses.
pub mod Laws
