pub mod LentLaws
pub mod ReadyLaws
pub mod TurnsLaws
