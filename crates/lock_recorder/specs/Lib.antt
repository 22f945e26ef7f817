pub mod ModeWords
pub mod RawCalls
