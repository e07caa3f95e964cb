pub mod RunsLaws
pub mod WellFormedLaws
pub mod BeginLaws
pub mod JudgedLaws
