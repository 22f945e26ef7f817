mod Cuts
mod FirstFields
mod KnownStreams
mod Lines
pub mod NumberTexts
