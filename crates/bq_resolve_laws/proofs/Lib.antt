-- `Binds`: the names of a block are those that are bound in it. `Steps`: what a made node needs. `Needs`: what a walk makes needs no
-- more slots than the frame has after it. `Uses`, `Expressions`, `Statements`: the same of names, of expressions and of the statements
-- of functions. `Growth`: what is bound stays bound. `Files`: functions, and what stands outside them. `Bound`: uses of what is bound.
-- `Finds`: walks whose fault is the first of given ones. `UnknownNames`, `FaultyExpressions`, `FaultyStatements`, `FaultyFiles`: the fault
-- of each rule is the first rule of names and flow that is broken. `Makes`: what walks make. `ResolvedExpressions`, `ResolvedStatements`,
-- `ResolvedFiles`: what each rule makes is what the relation says. `KindNames`: what files have without binding it. `Loads`: what a
-- file resolves to has its loads.
pub mod Binds
mod Steps
mod Needs
pub mod Uses
mod Expressions
mod Statements
mod Growth
mod Files
mod Bound
mod Finds
mod UnknownNames
mod FaultyExpressions
mod FaultyStatements
pub mod FaultyFiles
pub mod Makes
pub mod ResolvedExpressions
pub mod ResolvedStatements
pub mod ResolvedFiles
mod KindNames
pub mod Loads
-- Parts of definitions, as words that proofs name.
pub mod Cases
-- slots of functions
pub mod Slots
-- the depth of trees
pub mod Depths
