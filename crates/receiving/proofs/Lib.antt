pub mod TakesLaws
pub mod OneOutcomeOnly
