pub mod SolverLaws
pub mod RoundLaws
