-- What the C function of the report returns.
pub mod Call
