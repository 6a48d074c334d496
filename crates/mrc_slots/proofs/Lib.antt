pub mod Passing
pub mod Marked
mod ReplyPorts
