-- locks, and the modes in which they are asked for
pub mod Modes
pub mod Locks
-- what a candidate's elements say of what it accepts and makes
pub mod Given
pub mod Pins
pub mod Splits
pub mod Regions
-- footprints, and the law on them
pub mod Footprint
pub mod PhantomLaw
-- which rules may interfere, and how rules are shared
pub mod MayInterfere
pub mod Parts
-- laws of footprints
pub mod FootprintLaws
-- what those who have taken a lock add up to
pub mod Words
pub mod WordLaws
-- what the crate's functions promise each other
pub mod Finding
pub mod Counting
-- worked examples of all of these
pub mod Examples
