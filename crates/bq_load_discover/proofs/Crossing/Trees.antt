-- The trees of resolved files may cross threads.
use denote.Param.Send.{IsSend, IsSync, sendable}
use Rattle.std.proofs.Crossing.{crosses}
use Rattle.bq_base_takeable.proofs.takeable.Takeable.TheSendSync as Takeable
use Rattle.bq_predeclared.specs.contracts.attribute_type.AttributeType as AttributeType
use Rattle.bq_predeclared.specs.contracts.rule_function.RuleFunction as RuleFunction
use Rattle.bq_predeclared.specs.contracts.predeclared.Predeclared as Predeclared
use Rattle.bq_parse_grammar.proofs.tree.Argument.TheLaws.TheKnot as Trees
use Rattle.bq_parse_grammar.proofs.tree.Stmt.TheLaws.TheKnot as Blocks
use Rattle.bq_parse_grammar.specs.contracts.tree.Referent as Referent
use Rattle.bq_parse_grammar.specs.contracts.tree.Identifier as Identifier
use Rattle.bq_parse_grammar.specs.contracts.tree.ComprehensionFrame as ComprehensionFrame
use Rattle.bq_parse_grammar.specs.contracts.tree.Expr as Expr
use Rattle.bq_parse_grammar.specs.contracts.tree.TargetExpr as TargetExpr
use Rattle.bq_parse_grammar.specs.contracts.tree.LoadClause as LoadClause
use Rattle.bq_parse_grammar.specs.contracts.tree.Load as Load
use Rattle.bq_parse_grammar.specs.contracts.tree.SmallKind as SmallKind
use Rattle.bq_parse_grammar.specs.contracts.tree.SmallStmt as SmallStmt
use Rattle.bq_parse_grammar.specs.contracts.tree.Parameter as Parameter
use Rattle.bq_parse_grammar.specs.contracts.tree.Stmt as Stmt
use Rattle.bq_resolve_scope.specs.contracts.file.Formal as Formal
use Rattle.bq_resolve_scope.specs.contracts.loads.LoadStmt as LoadStmt
use Rattle.bq_resolve_scope.specs.contracts.file.Function as Function
use Rattle.bq_resolve_scope.specs.contracts.file.Def as Def
use Rattle.bq_resolve_scope.specs.contracts.file.Outside as Outside
use Rattle.bq_resolve_scope.specs.contracts.file.FileLine as FileLine
use Rattle.bq_resolve_scope.specs.contracts.file.ResolvedFile as ResolvedFile

pub attribute_type_send : IsSend (AttributeType.the_field).row
attribute_type_send = search (crosses, sendable) depth 60 fits 20000

pub attribute_type_sync : IsSync (AttributeType.the_field).row
attribute_type_sync = search (crosses, sendable) depth 60 fits 20000

pub rule_function_send : IsSend (RuleFunction.the_field).row
rule_function_send = let attribute_type = attribute_type_send in search (crosses, sendable) depth 60 fits 20000

pub rule_function_sync : IsSync (RuleFunction.the_field).row
rule_function_sync = let attribute_type = attribute_type_sync in search (crosses, sendable) depth 60 fits 20000

pub predeclared_send : IsSend (Predeclared.the_field).row
predeclared_send = let rule_function = rule_function_send in search (crosses, sendable) depth 60 fits 20000

pub predeclared_sync : IsSync (Predeclared.the_field).row
predeclared_sync = let rule_function = rule_function_sync in search (crosses, sendable) depth 60 fits 20000

pub referent_send : IsSend (Referent.the_field).row
referent_send = let predeclared = predeclared_send in search (crosses, sendable) depth 60 fits 20000

pub referent_sync : IsSync (Referent.the_field).row
referent_sync = let predeclared = predeclared_sync in search (crosses, sendable) depth 60 fits 20000

pub identifier_send : IsSend (Identifier.the_field).row
identifier_send = let referent = referent_send in search (crosses, sendable) depth 60 fits 20000

pub identifier_sync : IsSync (Identifier.the_field).row
identifier_sync = let referent = referent_sync in search (crosses, sendable) depth 60 fits 20000

pub frame_send : IsSend (ComprehensionFrame.the_field).row
frame_send = search (crosses, sendable) depth 60 fits 20000

pub frame_sync : IsSync (ComprehensionFrame.the_field).row
frame_sync = search (crosses, sendable) depth 60 fits 20000

pub expr_send : IsSend (Expr.the_field).row
expr_send = let identifier = identifier_send in let frame = frame_send in search (crosses, Trees.crosses, sendable) depth 60 fits 20000

pub expr_sync : IsSync (Expr.the_field).row
expr_sync = let identifier = identifier_sync in let frame = frame_sync in search (crosses, Trees.crosses, sendable) depth 60 fits 20000

pub target_send : IsSend (TargetExpr.the_field).row
target_send = let identifier = identifier_send in let frame = frame_send in search (crosses, Trees.crosses, sendable) depth 60 fits 20000

pub target_sync : IsSync (TargetExpr.the_field).row
target_sync = let identifier = identifier_sync in let frame = frame_sync in search (crosses, Trees.crosses, sendable) depth 60 fits 20000

pub load_clause_send : IsSend (LoadClause.the_field).row
load_clause_send = let identifier = identifier_send in search (crosses, sendable) depth 60 fits 20000

pub load_clause_sync : IsSync (LoadClause.the_field).row
load_clause_sync = let identifier = identifier_sync in search (crosses, sendable) depth 60 fits 20000

pub load_send : IsSend (Load.the_field).row
load_send = let load_clause = load_clause_send in search (crosses, sendable) depth 60 fits 20000

pub load_sync : IsSync (Load.the_field).row
load_sync = let load_clause = load_clause_sync in search (crosses, sendable) depth 60 fits 20000

pub kind_send : IsSend (SmallKind.the_field).row
kind_send = let expr = expr_send in let target = target_send in let load = load_send in search (crosses, sendable) depth 60 fits 20000

pub kind_sync : IsSync (SmallKind.the_field).row
kind_sync = let expr = expr_sync in let target = target_sync in let load = load_sync in search (crosses, sendable) depth 60 fits 20000

pub small_send : IsSend (SmallStmt.the_field).row
small_send = let kind = kind_send in search (crosses, sendable) depth 60 fits 20000

pub small_sync : IsSync (SmallStmt.the_field).row
small_sync = let kind = kind_sync in search (crosses, sendable) depth 60 fits 20000

pub parameter_send : IsSend (Parameter.the_field).row
parameter_send = let identifier = identifier_send in let expr = expr_send in search (crosses, sendable) depth 60 fits 20000

pub parameter_sync : IsSync (Parameter.the_field).row
parameter_sync = let identifier = identifier_sync in let expr = expr_sync in search (crosses, sendable) depth 60 fits 20000

pub statement_send : IsSend (Stmt.the_field).row
statement_send = let identifier = identifier_send in let expr = expr_send in let target = target_send in let small = small_send in let parameter = parameter_send in search (crosses, Blocks.crosses, sendable) depth 60 fits 20000

pub statement_sync : IsSync (Stmt.the_field).row
statement_sync = let identifier = identifier_sync in let expr = expr_sync in let target = target_sync in let small = small_sync in let parameter = parameter_sync in search (crosses, Blocks.crosses, sendable) depth 60 fits 20000

pub formal_send : IsSend (Formal.the_field).row
formal_send = let identifier = identifier_send in search (crosses, sendable) depth 60 fits 20000

pub formal_sync : IsSync (Formal.the_field).row
formal_sync = let identifier = identifier_sync in search (crosses, sendable) depth 60 fits 20000

pub function_send : IsSend (Function.the_field).row
function_send = let formal = formal_send in let statement = statement_send in search (crosses, sendable) depth 60 fits 20000

pub function_sync : IsSync (Function.the_field).row
function_sync = let formal = formal_sync in let statement = statement_sync in search (crosses, sendable) depth 60 fits 20000

pub def_send : IsSend (Def.the_field).row
def_send = let identifier = identifier_send in let expr = expr_send in search (crosses, sendable) depth 60 fits 20000

pub def_sync : IsSync (Def.the_field).row
def_sync = let identifier = identifier_sync in let expr = expr_sync in search (crosses, sendable) depth 60 fits 20000

pub outside_send : IsSend (Outside.the_field).row
outside_send = let small = small_send in let def = def_send in search (crosses, sendable) depth 60 fits 20000

pub outside_sync : IsSync (Outside.the_field).row
outside_sync = let small = small_sync in let def = def_sync in search (crosses, sendable) depth 60 fits 20000

pub line_send : IsSend (FileLine.the_field).row
line_send = let outside = outside_send in search (crosses, sendable) depth 60 fits 20000

pub line_sync : IsSync (FileLine.the_field).row
line_sync = let outside = outside_sync in search (crosses, sendable) depth 60 fits 20000

pub load_stmt_send : IsSend (LoadStmt.the_field).row
load_stmt_send = search (crosses, sendable) depth 60 fits 20000

pub load_stmt_sync : IsSync (LoadStmt.the_field).row
load_stmt_sync = search (crosses, sendable) depth 60 fits 20000

pub resolved_send : IsSend (ResolvedFile.the_field).row
resolved_send = let line = line_send in let function = function_send in let load_stmt = load_stmt_send in search (Takeable.the_send, crosses, sendable) depth 60 fits 20000

pub resolved_sync : IsSync (ResolvedFile.the_field).row
resolved_sync = let sent = line_send in let line = line_sync in let function = function_sync in let load_stmt = load_stmt_sync in search (Takeable.the_sync, crosses, sendable) depth 60 fits 20000
