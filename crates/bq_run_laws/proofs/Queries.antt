-- paths are edges one after another
pub mod Edges
-- what is chosen, target by target
pub mod Chosen
-- the first word of which something is missing
pub mod Missing
-- the target patterns of a query are read from words of its text, in its order
pub mod InText
-- what is read of decimal digits is their number
pub mod Numbers
-- operators in a row are done from left to right
pub mod Chains
