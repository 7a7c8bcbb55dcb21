use Rattle.bq_package_values.proofs.Fronts.{quoted_text}
use Rattle.bq_package_values.proofs.json_string.push_string.Goals as goal

pub returns : goal.returns
returns c =
    quoted_text c.args.text.now.items c.push.new.self.items c.push_escaped.new.text.items c.push-2.new.self.items c.args.bytes.now c.in_ok-push.ensures.items
    c.in_ok-push_escaped.ensures c.in_ok-push-2.ensures.items
