pub mod CopiesLaws
pub mod LastLaws
