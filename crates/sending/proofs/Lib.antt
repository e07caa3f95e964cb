pub mod FramedLaws
pub mod OneOutcomeOnly
