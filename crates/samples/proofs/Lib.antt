pub mod LongestTexts
pub mod SampleTexts
pub mod PastSampleTexts
pub mod PastExampleLaws
pub mod SampleForms
pub mod TextExampleLaws
pub mod SampleReports
pub mod SampleCable
