pub mod FreshLaws
pub mod OneOutcomeOnly
