-- expressions
pub mod ExpressionLemmas
-- effects in flat arrays
pub mod EffectPlaceLemmas
-- what the match has bound
pub mod BindingLemmas
