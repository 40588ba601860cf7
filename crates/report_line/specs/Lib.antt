-- The lines of a report.
pub mod Text
