pub mod ClearingLaws
pub mod ClearAllLaws
pub mod ClearRiseLaws
pub mod OneOutcomeOnly
