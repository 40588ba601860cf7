-- The cases of lists and reports, computed by the definitions.
pub mod ReportCases
