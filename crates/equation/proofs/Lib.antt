pub mod RoundingLaws
pub mod DemandLaws
pub mod AnswerLaws
pub mod SequenceLaws
pub mod SliceLaws
pub mod Laws
pub mod StartLaws
