pub mod Guards
pub mod Safety
