-- Laws of the lines of a report.
pub mod ReportLineLaws
pub mod ReportLineCases
