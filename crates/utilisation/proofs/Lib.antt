pub mod UtilisationLaws
pub mod SumLaws
pub mod TableLaws
pub mod BoundLaws
