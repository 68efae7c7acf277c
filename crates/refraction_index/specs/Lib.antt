-- when choices last fired, and what an index tells of that
pub mod Firings
-- whether they are fired still
pub mod StillFired
pub mod Beside
-- numbers by the words of choices
pub mod Numbers
