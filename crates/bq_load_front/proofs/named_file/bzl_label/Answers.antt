use Rattle.std.proofs.Common.{arith}
use Rattle.std.proofs.lemmas.Grind.{common_steps}
use Rattle.bq_load_front.proofs.UnreadLabels.{unread}
use Rattle.bq_load_front.proofs.named_file.bzl_label.Goals as goal

pub returns-in-Err-Bad : goal.returns-in-Err-Bad
returns-in-Err-Bad c = unread c.args.own.now c.args.text.now c.in-Err-Bad.field-0-0 (c.in-Err-Bad.ensures c.in-Err-Bad.field-0-0 (grind (arith, common_steps)))
