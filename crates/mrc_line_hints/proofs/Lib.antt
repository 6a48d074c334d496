mod Loops
mod Begins
mod Ends
mod Closings
mod Longest
mod Worked
