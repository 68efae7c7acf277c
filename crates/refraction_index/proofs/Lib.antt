-- numbers by words, once one is set
pub mod NumberLemmas
-- when choices last fired, once one more has
pub mod FiringLemmas
-- a match beside further elements
pub mod BesideLemmas
-- whether what has fired is fired still
pub mod MemberLemmas
pub mod SinceLemmas
pub mod StillFiredLemmas
