use Rattle.bq_eval_laws.proofs.BuildFunctions.Orders.{globbed_in_order, named_in_order}
use Rattle.bq_eval_laws.proofs.build_function.build_functions_are_refused_in_order.Goals as goal

pub returns-clause-glob : goal.returns-clause-glob
returns-clause-glob c = globbed_in_order

pub returns-clause-exports_files : goal.returns-clause-exports_files
returns-clause-exports_files c = named_in_order
