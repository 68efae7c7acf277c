-- lists and their places
pub mod PlaceLemmas
-- rows of bindings, and tests taken one after another
pub mod RowLemmas
pub mod PassLemmas
