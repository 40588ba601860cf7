-- The theorems of the step for runs, and where a list may be cut.
pub mod Walks
pub mod UsedLaws
pub mod Stores
pub mod Noted
pub mod SameLaws
pub mod SameRuns
pub mod Cuts
