pub mod OneOutcomeOnly
