use Rattle.bq_eval_by_name.proofs.GlobalsBound as bound
use Rattle.bq_eval_by_name.proofs.module_laws.globals_are_bound.Goals as goal

pub returns : goal.returns
returns c w m counted units number universe ts r e loaded s = bound.globals_are_bound m counted units number universe ts r e loaded s
