-- the canonical text
pub mod CanonicalValues
pub mod CanonicalConditions
pub mod CanonicalActions
pub mod Canonical
-- laws
pub mod RoundTrip
