-- the numbers under each hash
pub mod Buckets
-- the links that hold them
pub mod Links
