-- Laws of the table's look-up.
pub mod Laws
