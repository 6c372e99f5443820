pub mod Places
pub mod FreeOrder
