use Rattle.bq_eval_laws.proofs.BuildFunctions.Orders.{rule_in_order, declared_rule_in_order, group_in_order, exports_in_order}
use Rattle.bq_eval_laws.proofs.build_function.declarations_are_refused_in_order.Goals as goal

pub returns-clause-rule : goal.returns-clause-rule
returns-clause-rule c = rule_in_order

pub returns-clause-declared_rule : goal.returns-clause-declared_rule
returns-clause-declared_rule c = declared_rule_in_order

pub returns-clause-package_group : goal.returns-clause-package_group
returns-clause-package_group c = group_in_order

pub returns-clause-exports_files : goal.returns-clause-exports_files
returns-clause-exports_files c = exports_in_order
