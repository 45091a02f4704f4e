pub mod Frames
pub mod GroReading
pub mod GroText
pub mod GroWriting
pub mod GroFaults
