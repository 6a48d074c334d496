pub mod Carrying
pub mod Giving
pub mod Queueing
pub mod SendPlans
pub mod Receiving
pub mod Room
pub mod Sending
pub mod Staging
