pub mod StoryLaws
pub mod PlayedToTheEnd
pub mod PageLaws
