pub mod LayoutLaws
pub mod JudgementLaws
pub mod SaveLaws
pub mod WidenedLaws
pub mod RestoreLaws
pub mod OneOutcomeOnly
