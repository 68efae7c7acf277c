-- what the public calls ask and promise
pub mod Asking
pub mod Unbinding
-- what the crate's functions promise each other
pub mod Taking
pub mod PredicateTable
