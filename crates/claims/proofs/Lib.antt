-- The claims.
pub mod Claims
