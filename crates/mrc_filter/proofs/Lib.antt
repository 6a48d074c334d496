pub mod Few
pub mod Shapes
pub mod Differing
pub mod Answering
