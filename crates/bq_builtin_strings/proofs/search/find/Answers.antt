use Rattle.bq_builtin_strings.proofs.Places.{find_is}
use Rattle.bq_builtin_strings.proofs.search.find.Goals as goal

pub returns-clause-place : goal.returns-clause-place
returns-clause-place c = find_is c.args.sub.now c.args.text.now c.find.result c.find.ensures
