-- Laws of names.
pub mod NameLaws
pub mod NameCases
