use Rattle.std.proofs.Common.{subst}
use Rattle.bq_value_dict.specs.Pairs.{HasNoKeyTwice}
use Rattle.bq_value_dict.proofs.few.Few.has_no_key_twice.Goals as goal

pub returns : goal.returns
returns c = subst HasNoKeyTwice c.self.view_is c.self.invariant
