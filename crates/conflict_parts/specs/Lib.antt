-- how full matches stand
pub mod Standings
-- who waits at which place
pub mod Waiters
-- who is to be looked at
pub mod Queue
-- which full matches are candidates
pub mod Part
-- what becomes of them as elements come and go
pub mod Change
-- the choices that they stand for
pub mod Choices
-- how their marks end
pub mod Marks
-- and what comes of it
pub mod Renewing
