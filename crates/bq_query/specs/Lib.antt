pub mod Operators
pub mod Stands
pub mod Faults
pub mod Answer
pub mod Printed
pub mod Laws
