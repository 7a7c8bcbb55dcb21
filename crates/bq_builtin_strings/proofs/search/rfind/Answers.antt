use Rattle.bq_builtin_strings.proofs.Places.{rfind_is}
use Rattle.bq_builtin_strings.proofs.search.rfind.Goals as goal

pub returns-clause-place : goal.returns-clause-place
returns-clause-place c = rfind_is c.args.sub.now c.args.text.now c.rfind.result c.rfind.ensures
