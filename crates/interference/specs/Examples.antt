-- Worked examples of the definitions, each a record of named rows.
pub mod Values
pub mod Footprints
pub mod Rules
