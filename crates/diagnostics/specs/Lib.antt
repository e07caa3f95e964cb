pub mod Replies
pub mod Showing
