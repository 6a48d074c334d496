pub mod Order
pub mod Sets
pub mod Laws
pub mod Worked
