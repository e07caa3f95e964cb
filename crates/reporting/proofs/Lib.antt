pub mod CountedLaws
pub mod ReportLaws
pub mod TickLaws
pub mod OneOutcomeOnly
