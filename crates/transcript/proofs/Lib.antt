pub mod Examples
pub mod TextLaws
pub mod LineLaws
pub mod WrittenReadsBack
