-- The two halves, proved from the laws.
pub mod Agree
pub mod SeenLaws
pub mod TlbSound
pub mod Exact
pub mod PlaceLaws
pub mod WordLaws
