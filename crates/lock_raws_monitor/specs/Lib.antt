pub mod TokenArbiter
pub mod Waking
pub mod Journal
pub mod Recording
pub mod ModeTokens
