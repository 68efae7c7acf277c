-- Worked examples of the definitions, each a record of named rows: what they say of small programs is known from the
-- programs' texts, which stand above them.
pub mod Programs
pub mod Predicates
pub mod Matches
pub mod Effects
pub mod Firings
pub mod Bases
pub mod Layouts
pub mod Soundness
