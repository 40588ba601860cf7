-- Laws of lines, the canonical theorem, the theorem on refusals, and cases.
pub mod CanonicalLaws
pub mod RefusalLaws
pub mod FieldCases
