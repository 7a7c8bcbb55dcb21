use Rattle.std.proofs.Common.{◌∙◌}
use Rattle.bq_builtin_strings.proofs.Fits.{fitted_is}
use Rattle.bq_builtin_strings.proofs.integer.fit.Goals as goal

pub returns : goal.returns
returns c = λ z h. c.ok_or.ensures.value ∙ fitted_is c.args.answer z h
