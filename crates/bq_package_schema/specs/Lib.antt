pub mod Line
pub mod Schema
pub mod Draft
pub mod Reading
pub mod Standard
pub mod Laws
