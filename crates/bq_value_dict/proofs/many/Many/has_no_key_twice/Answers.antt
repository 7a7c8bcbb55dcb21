use Rattle.std.proofs.Common.{subst}
use Rattle.bq_value_dict.specs.Pairs.{HasNoKeyTwice}
use Rattle.bq_value_dict.proofs.Live.{once_live}
use Rattle.bq_value_dict.proofs.many.Many.has_no_key_twice.Goals as goal

pub returns : goal.returns
returns c = subst HasNoKeyTwice c.self.view_is (once_live c.self.inside.entries.entries c.len-len.ensures.unique)
