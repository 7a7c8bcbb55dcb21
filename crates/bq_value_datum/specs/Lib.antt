pub mod Folding
pub mod ListText
pub mod AttributeValue
pub mod AttributeSame
pub mod AttributeCodes
pub mod CommonAttributes
pub mod Class
pub mod AttributeLaws
-- attributes that are the same, and equal ones
pub mod EqualAttributes
pub mod Datum
pub mod Codes
pub mod View
pub mod Deep
pub mod Range
pub mod Same
pub mod SameLaws
pub mod Key
