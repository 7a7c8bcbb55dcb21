-- what a query is answered
pub mod Replies
-- newlines are counted
pub mod Newlines
-- what a session has, step by step
pub mod States
-- what was done so far
pub mod Progress
-- the whole
pub mod Outcomes
