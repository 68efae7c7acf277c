-- which places are in working memory
pub mod Memory
-- places by the values of their elements
pub mod Groups
