pub mod OneOutcomeOnly
pub mod NearLaws
pub mod RepliesLaws
pub mod ShowLaws
pub mod RequestLaws
