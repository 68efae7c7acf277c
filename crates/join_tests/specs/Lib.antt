-- what elements have at places
pub mod Reading
-- when an element joins those before it
pub mod Joining
-- keys as numbers
pub mod Hashing
-- where variables have their values
pub mod Sources
-- what a condition element's tests are compiled to
pub mod Compiling
-- what a compiled rule means
pub mod Meaning
-- laws of keys and rows
pub mod JoinLaws
