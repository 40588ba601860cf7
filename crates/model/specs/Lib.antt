-- The definitions: limits and numbers that all share, the reference (for reading), and the step (what the code does).
pub mod Types
pub mod Limits
pub mod Numbers
pub mod Telling
pub mod reference
pub mod step
pub mod Demands
pub mod RootChanges
pub mod Invisible
pub mod Domains
pub mod Sections
pub mod Wrong
