-- paths that came or went
pub mod Noted
pub mod Covered
-- files with the same schema, and with the same paths but for some
pub mod Frames
-- modules that have stayed what they were, one after another
pub mod Stayed
