-- places in rising order, and filters of them
pub mod PlaceLemmas
-- slots with flags
pub mod KeptLemmas
-- groups by codes of their keys
pub mod GroupLemmas
