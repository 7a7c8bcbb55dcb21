use Rattle.bq_load_order.proofs.Filled.{one_tabulated}
use Rattle.bq_load_order.proofs.order_laws.one_list.Goals as goal

pub returns : goal.returns
returns g c n f xs ys a b = one_tabulated n f xs ys a b
