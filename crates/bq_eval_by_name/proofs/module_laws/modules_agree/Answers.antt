use Rattle.bq_eval_by_name.proofs.ModuleAgreement.{module_alike, frozen_is}
use Rattle.bq_eval_by_name.proofs.module_laws.modules_agree.Goals as goal

pub returns-clause-modules : goal.returns-clause-modules
returns-clause-modules c w m named units agree number universe ts r e loaded s = module_alike universe ts r e m named units agree number loaded s

pub returns-clause-frozen : goal.returns-clause-frozen
returns-clause-frozen c w universe ts r e globals frame values reads same = frozen_is universe ts r e globals frame values reads same
