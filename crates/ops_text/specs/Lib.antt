pub mod Names
pub mod Numeral
pub mod Faults
pub mod Files
pub mod Output
