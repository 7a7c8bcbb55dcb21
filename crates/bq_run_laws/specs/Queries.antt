pub mod Edges
pub mod Chosen
pub mod Missing
pub mod InText
pub mod Numbers
