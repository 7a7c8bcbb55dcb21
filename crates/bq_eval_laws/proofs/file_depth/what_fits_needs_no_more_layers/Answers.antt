use Rattle.bq_resolve_scope.specs.Names.{max_layers}
use Rattle.bq_eval_laws.proofs.Depths.{expression_depth, statement_depth, binding_depth, place_depth}
use Rattle.bq_eval_laws.specs.Fits.{ExprFitsTo}
use Rattle.bq_eval_laws.proofs.Within.{expr_within, target_within, stmt_within}
use Rattle.bq_eval_laws.proofs.file_depth.what_fits_needs_no_more_layers.Goals as goal

pub returns-clause-expressions : goal.returns-clause-expressions
returns-clause-expressions c w m scoping call round k x env s are fits few = expression_depth m scoping call round max_layers k x env s are (expr_within max_layers x fits) few

pub returns-clause-statements : goal.returns-clause-statements
returns-clause-statements c w m scoping eval k x env s fits few = statement_depth m scoping eval max_layers k x env s (stmt_within max_layers x fits) few

pub returns-clause-bindings : goal.returns-clause-bindings
returns-clause-bindings c w m scoping inner k t v env ps s fits few = binding_depth m scoping max_layers k t v env ps s (target_within (ExprFitsTo inner) max_layers t fits) few

pub returns-clause-places : goal.returns-clause-places
returns-clause-places c w m scoping eval inner k t env ps s fits few = place_depth m scoping eval max_layers k t env ps s (target_within (ExprFitsTo inner) max_layers t fits) few
