pub mod BeginningLaws
pub mod TurnLaws
pub mod EachCallTakesAByte
pub mod LengthsKept
