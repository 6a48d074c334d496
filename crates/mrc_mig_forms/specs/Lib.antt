pub mod Shapes
pub mod Bodies
pub mod Files
pub mod Puts
pub mod Bounds
pub mod Marks
pub mod Laws
pub mod Examples
