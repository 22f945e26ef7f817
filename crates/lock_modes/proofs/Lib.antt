pub mod ModeLemmas
pub mod TokenBags
pub mod TokenSteps
