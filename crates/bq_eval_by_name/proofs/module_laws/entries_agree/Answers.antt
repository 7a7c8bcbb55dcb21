use Rattle.bq_eval_by_name.proofs.Entry.{signatures_are, entry_alike}
use Rattle.bq_eval_by_name.proofs.module_laws.entries_agree.Goals as goal

pub returns-clause-signatures : goal.returns-clause-signatures
returns-clause-signatures c w file d f is = signatures_are file d f is

pub returns-clause-entries : goal.returns-clause-entries
returns-clause-entries c w m file d f is defaults p s = entry_alike file d f is m defaults p s
