pub mod PanelLaws
pub mod OneOutcomeOnly
