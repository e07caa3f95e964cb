pub mod BlockLaws
pub mod PlacesLaws
pub mod SurgeryLaws
pub mod VictimLaws
pub mod StoreLaws
pub mod JudgementLaws
pub mod SeenLaws
