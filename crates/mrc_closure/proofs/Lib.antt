pub mod Cuts
pub mod Keeping
pub mod Counting
pub mod Within
pub mod Deriving
pub mod Placing
pub mod Dealing
pub mod Barring
