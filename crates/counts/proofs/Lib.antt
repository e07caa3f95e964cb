pub mod FiveLaws
pub mod NearLaws
