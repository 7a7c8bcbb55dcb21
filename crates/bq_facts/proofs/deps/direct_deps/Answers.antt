use Rattle.bq_facts.proofs.Direct.{direct_deps_of}
use Rattle.bq_facts.proofs.deps.direct_deps.Goals as goal

pub returns : goal.returns
returns c =
    direct_deps_of c.args.row.now c.in_ok-direct.direct.items c.sort_unstable.new.self.items c.dedup.new.self.items c.args.own c.in_ok-direct.ensures
    c.sort_unstable.ensures.permutation c.sort_unstable.ensures.sorted c.dedup.ensures.filtered
