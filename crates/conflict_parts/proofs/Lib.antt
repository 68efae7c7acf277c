-- who waits where
pub mod WaiterLemmas
-- how full matches stand after a change
pub mod StandingLemmas
-- who is in the queue
pub mod QueueLemmas
-- full rows, as elements come and go
pub mod RowLemmas
-- what is kept of full matches
pub mod PartLemmas
-- full matches that come to stand
pub mod OpeningLemmas
-- the choices that living rows stand for
pub mod ChoiceLemmas
-- marks that end
pub mod RenewingLemmas
-- what comes of an element that comes
pub mod AddLemmas
