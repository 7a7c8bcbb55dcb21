-- what is in a tree
pub mod Anything
-- relations between actions that respect the rules, and then each group of rules
pub mod Respects
pub mod TargetRules
pub mod ComprehensionRules
pub mod ExpressionRules
pub mod StatementRules
pub mod CallRules
pub mod ModuleRules
-- the law of depth
pub mod Depths
-- the laws of frames
pub mod Frames
-- the laws of order
pub mod InOrder
pub mod Passing
pub mod Deciding
pub mod Updating
-- the laws of a comprehension's turns and of targets
pub mod Collecting
pub mod Assigning
-- the laws of steps and of flow
pub mod Stepping
pub mod Flowing
-- the law of loaded names
pub mod Loading
-- walks of the resolver, and what is measured of a tree's form
pub mod Gives
pub mod Measures
-- what trees resolve to has the same form
pub mod KeptExpressions
pub mod KeptStatements
pub mod KeptFiles
-- the depth is such a measure, and trees that are no deeper fit
pub mod Fitting
-- what fits has no more layers
pub mod Within
-- what is measured of a tree: what the language leaves out, and what is where it may not be
pub mod LeftOut
pub mod Misplaced
-- nothing is misplaced in what the grammar gives
pub mod ParsedExpressions
pub mod ParsedStatements
pub mod ParsedFiles
-- trees in which nothing is are sound
pub mod SoundTrees
pub mod Sound
-- what does not get stuck, and the rules of the language over sound trees
pub mod Unstuck
pub mod Arguments
pub mod UnstuckTargetRules
pub mod UnstuckComprehensionRules
pub mod UnstuckExpressionRules
pub mod UnstuckStatementRules
pub mod UnstuckCallRules
pub mod UnstuckModuleRules
pub mod Running
-- evaluations of files
pub mod Evaluations
-- calls
pub mod Calls
-- unpacking
pub mod Parts
-- calls of build functions
pub mod BuildFunctions
-- calls of rules
pub mod RuleCalls
-- the evaluation of BUILD files
pub mod BuildFiles
