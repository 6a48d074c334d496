pub mod Burials
pub mod Faults
pub mod Parcels
pub mod Queues
pub mod Slots
pub mod Tables
