pub mod AttributeType
pub mod AttributeTypeLaws
pub mod RuleFunctions
pub mod HostFunctions
pub mod Predeclared
pub mod PredeclaredLaws
