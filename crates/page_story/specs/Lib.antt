pub mod Story
pub mod Page
