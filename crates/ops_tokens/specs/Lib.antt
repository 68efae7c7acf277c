-- how bytes fall into tokens, where those begin, and the names that they stand for
pub mod Byte
pub mod Token
pub mod Word
pub mod Tokens
pub mod Places
pub mod Naming
-- laws
pub mod Cut
pub mod CutPlaces
pub mod WordShapes
pub mod TokenRows
