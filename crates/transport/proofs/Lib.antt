pub mod FramesLaws
pub mod SegmentsLaws
pub mod SenderRefuses
pub mod ReceiverRefuses
pub mod SenderSendsSegments
pub mod MessageArrives
