pub mod CommandLineLaws
pub mod OneCommand
pub mod CountLaws
pub mod PartLaws
pub mod SyntaxLaws
pub mod Words
