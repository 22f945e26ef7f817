pub mod Choices
pub mod DifferenceText
pub mod WrongTokens
