mod Chosen
mod Made
mod Worked
