pub mod ReportLaws
pub mod ServeLaws
pub mod PlayLaws
