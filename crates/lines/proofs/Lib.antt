-- Laws of an image as lines, the theorem on the two ways, cases, and the limit of the programs.
pub mod LineLaws
pub mod WordLaws
pub mod ReadLaws
pub mod Theorem
pub mod RefusalLaws
pub mod Cases
pub mod Settings
