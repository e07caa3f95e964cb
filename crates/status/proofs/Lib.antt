pub mod MasksLaws
pub mod CountsLaws
pub mod RecordsLaws
pub mod ClausesLaws
pub mod RestsLaws
