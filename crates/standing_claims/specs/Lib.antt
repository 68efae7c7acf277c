-- the claims that stand
pub mod Standing
-- what footprints add to the words of their locks
pub mod Amounts
-- what the crate's functions promise each other
pub mod Held
