-- runs that end alike
pub mod Runs
-- walks that resolve, and what they make
pub mod Walks
-- environments and frames
pub mod Slots
pub mod Envs
pub mod Uses
-- what is in an expression, in two kinds of environments
pub mod Parts
-- comprehensions: their names, and what their clauses do, in two kinds of environments
pub mod ComprehensionNames
pub mod Turns
pub mod Clauses
-- the outermost layer of what is made
pub mod Making
-- what each rule of the resolver makes
pub mod ResolvedParts
pub mod ResolvedClauses
pub mod ResolvedExpressions
-- the law
pub mod ExpressionAgreement
-- names that are bound
pub mod BoundNames
-- the expressions in a statement
pub mod Visits
-- what is assigned to
pub mod Targets
-- statements, where what is in them does the same
pub mod Statements
-- what each rule of the resolver makes
pub mod ResolvedTargets
pub mod ResolvedStatements
-- the laws
pub mod StatementAgreement
-- names stay in their places
pub mod Places
-- what walks keep and make
pub mod FunctionWalks
-- functions: their parameters, what a call begins with, and calls
pub mod Parameters
pub mod Entry
pub mod Called
-- loads
pub mod Fresh
pub mod Loads
-- files
pub mod LoadPlaces
pub mod Files
pub mod Modules
pub mod ModuleAgreement
-- what is bound at the end
pub mod GlobalsBound
pub mod Cases
-- a file's globals, each once, and their values
pub mod Once
pub mod Values
-- frozen modules, and what is evaluated with them
pub mod Units
pub mod Evaluations
-- what is bound at the end
pub mod Bound
