pub mod TextLaws
pub mod PageLaws
pub mod FlatMapLaws
pub mod NamesStayInPlace
pub mod Examples
