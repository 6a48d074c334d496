pub mod Limits
pub mod Rows
pub mod ShownProp
pub mod Halves
pub mod HalvesProp
pub mod Joining
pub mod Walking
pub mod Planes
