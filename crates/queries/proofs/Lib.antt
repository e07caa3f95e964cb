pub mod ReadingLaws
pub mod OneOutcomeOnly
