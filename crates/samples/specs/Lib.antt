pub mod Longest
pub mod Samples
pub mod PastSamples
pub mod PastExamples
pub mod FormSamples
pub mod TextExamples
pub mod ReportSamples
pub mod CableSample
