-- walks over values, the next one last
pub mod Cases
pub mod Reversed
pub mod Within
pub mod Integers
pub mod Placing
-- a map of the places of parameters
pub mod Places
-- runs that are done
pub mod Runs
-- the newest walk and function are there, and go first
pub mod Newest
-- steps, walks and functions come and go
pub mod Walking
-- arguments go where they belong
pub mod Bindings
-- the first of several checks that finds a fault
pub mod FirstFault
