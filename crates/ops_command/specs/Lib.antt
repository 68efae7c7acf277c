-- the call, and what it promises
pub mod Call
pub mod Promise
pub mod Answer
-- when each answer comes: a law of that
pub mod Decided
-- a stage each: the words, the files, their texts, the run
pub mod Words
pub mod Asking
pub mod FileBytes
pub mod FaultyText
pub mod ProgramText
pub mod ProgramFile
pub mod MemoryText
pub mod MemoryFile
pub mod Ran
-- what is printed and told
pub mod Account
pub mod Refusals
pub mod EndingWords
pub mod RunReport
pub mod Findings
