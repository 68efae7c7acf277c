-- Worked examples of the definitions, each a record of named rows.
pub mod Work
