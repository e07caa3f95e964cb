pub mod SignedInCode
pub mod Tests
pub mod RowsLaws
pub mod PartLaws
pub mod JudgedInOnePass
pub mod SearchLaws
pub mod HalvingLaws
