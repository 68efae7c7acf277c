-- counting
pub mod Times
-- stores and what is filed in them
pub mod Stores
-- how stores are found
pub mod Dispatch
