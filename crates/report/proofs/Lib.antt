-- Laws of the report, and its settings.
pub mod LinesLaws
pub mod Running
pub mod ReportLaws
pub mod ShownLaws
pub mod Settings
