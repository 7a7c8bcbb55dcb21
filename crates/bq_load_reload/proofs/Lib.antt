-- what files read as whose texts are what they were
mod Texts
-- outcomes of what is the same, and what is kept with them
mod Along
-- modules that have stayed what they were are unchanged
mod Unchanged
-- the load graph after a change
mod Renewed
