pub mod Utf8Laws
pub mod NamesLaws
pub mod Examples
