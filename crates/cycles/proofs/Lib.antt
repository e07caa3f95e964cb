pub mod CyclesLaws
pub mod StopRiseLaws
pub mod OneOutcomeOnly
