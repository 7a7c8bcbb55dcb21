-- a list or dict that is changed, or not
pub mod Changing
-- the methods of lists, and assignments to an index
pub mod Lists
-- the methods of dicts, and assignments to a key
pub mod Dicts
-- what `+=` leaves
pub mod Same
-- what `popitem` answers
pub mod Items
-- a rule is refused for its type
pub mod Rules
-- `get` only looks
pub mod Getting
-- the index that `list.index` answers
pub mod Indices
