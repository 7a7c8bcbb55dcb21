use Rattle.bq_label_glob.proofs.Pieces.{has_star_by}
use Rattle.bq_label_glob.proofs.pattern.has_star.Goals as goal

pub returns : goal.returns
returns c = has_star_by c.args.text.now c.memchr.result c.is_some.result c.memchr.ensures c.is_some.ensures
