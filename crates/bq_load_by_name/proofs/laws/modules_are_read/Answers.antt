use Rattle.bq_load_by_name.proofs.Read as read
use Rattle.bq_load_by_name.proofs.laws.modules_are_read.Goals as goal

pub returns : goal.returns
returns c files rules g is = read.modules_are_read files rules g is
