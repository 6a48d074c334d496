pub mod Counting
pub mod Making
pub mod Walking
pub mod Finding
pub mod OneWay
