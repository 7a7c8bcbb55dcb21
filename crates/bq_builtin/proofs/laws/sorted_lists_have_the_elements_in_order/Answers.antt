use Rattle.std.specs.Ordering.{int_cmp}
use Rattle.std.specs.Cmp.{int_cmp_total}
use Rattle.std.specs.Cmp.Lexicographic.{nat_list_cmp_total}
use Rattle.bq_builtin.specs.Choosing.{text_cmp}
use Rattle.bq_builtin.proofs.Orders.{same_elements, sorted_ascending}
use Rattle.bq_builtin.proofs.laws.sorted_lists_have_the_elements_in_order.Goals as goal

pub returns : goal.returns
returns c = record { elements = same_elements; integers = sorted_ascending int_cmp int_cmp_total; strings = sorted_ascending text_cmp nat_list_cmp_total }
