pub mod SmallNumbersLaws
pub mod RowsLaws
pub mod RowOfPart
pub mod NumberStaysInRange
