-- lists
pub mod EachLemmas
pub mod AmongLemmas
pub mod StepByStepLemmas
pub mod PlaceLemmas
-- the machine: its steps, effects and memories, and what it keeps
pub mod StepLemmas
pub mod EffectLemmas
pub mod MemoryLemmas
pub mod ChoiceLemmas
pub mod ConflictSetLemmas
pub mod ListedLemmas
pub mod OrderLemmas
pub mod ElementMatchLemmas
pub mod MachineLemmas
pub mod RunLemmas
pub mod StillFiredLemmas
pub mod TakenLemmas
pub mod FitsLemmas
pub mod BaseLemmas
-- expressions
pub mod Written
