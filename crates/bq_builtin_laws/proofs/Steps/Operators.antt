-- Operators have numbers of steps and outcomes of their own.
use Rattle.std.proofs.Common.{ℕ, ℤ, List, Result}
use Rattle.bq_base.specs.declared.fault.EvalFault.{EvalFault}
use Rattle.bq_base.specs.declared.fault.EvalFault.TheVariants as f
use Rattle.bq_parse_grammar.specs.declared.tree.Comparison.{Comparison}
use Rattle.bq_parse_grammar.specs.declared.tree.Operator.{Operator}
use Rattle.bq_parse_grammar.specs.declared.tree.Operator.TheVariants as op
use Rattle.bq_parse_grammar.specs.declared.tree.UnaryOperator.{UnaryOperator}
use Rattle.bq_value.specs.Cells.{StoreView}
use Rattle.bq_value.specs.Contents.{Contents, items, pairs, rule}
use Rattle.bq_value.specs.Datum.{Datum, boolean, int, string, tuple, cell, list_of}
use Rattle.bq_value.specs.Looked.{max_levels}
use Rattle.bq_value.specs.KeyWalk.{walked_at, keyed}
use Rattle.bq_value_text.specs.Shown.{text_of, repr_of}
use Rattle.bq_value_text.proofs.Counting.{text_takes, repr_takes}
use Rattle.bq_builtin_format.specs.Percent.{percent_of}
use Rattle.bq_builtin_machine.specs.Action.{pure, given, look}
use Rattle.bq_builtin_machine.specs.Cells.{content, may_change, changing, new_content}
use Rattle.bq_builtin_machine.specs.Iteration.{elements}
use Rattle.bq_builtin_machine.specs.Machine.{walk, key, text, repr}
use Rattle.bq_builtin_operators.specs.Operand.{as_tuple, int_of, list_in, dict_in}
use Rattle.bq_builtin_machine.specs.Answer.{as_int, as_string}
use Rattle.bq_builtin_operators.specs.Integers.{arithmetic, integers, signed}
use Rattle.bq_builtin_operators.specs.Comparing.{compared}
use Rattle.bq_builtin_operators.specs.Sequence.{repeated}
use Rattle.bq_builtin_operators.specs.Slicing.{sliced}
use Rattle.bq_builtin_operators.specs.Subscript.{item_of}
use Rattle.bq_builtin_operators.specs.Sum.{string_sum, tuple_sum, list_sum, listed, sum}
use Rattle.bq_builtin_operators.specs.Product.{list_product, times, int_product, product}
use Rattle.bq_builtin_operators.specs.Remainder.{remainder}
use Rattle.bq_builtin_operators.specs.Union.{dict_union, union}
use Rattle.bq_builtin_operators.specs.Operate.{binary, unary, compare, index, list_slice, slice}
use Rattle.bq_builtin_operators.specs.InPlace.{list_extended, dict_united, element_set, pair_put, augment_sum, augment_union, augment, set_in, set_item, set_index}
use Rattle.bq_builtin_laws.specs.Steps.Laws.{Own}
use Rattle.bq_builtin_laws.proofs.Steps.Machine.{pure_owns, stop_owns, given_owns, bind_owns, then_owns, look_owns, walk_owns, new_owns, content_owns, may_owns, SparesRules, changing_owns, elements_owns}
use Rattle.bq_builtin_laws.proofs.Steps.Walks.{key_looked, compared_takes, item_takes, percent_takes}

pub key_owns : (v : Datum) → Own (key v)
unfolding key
key_owns v = walk_owns (λ store n. keyed v (walked_at max_levels n v)) (λ store. key_looked v)

pub text_owns : (v : Datum) → Own (text v)
unfolding text
text_owns v = walk_owns (λ store n. text_of store n v) (λ store. text_takes store v)

pub repr_owns : (v : Datum) → Own (repr v)
unfolding repr
repr_owns v = walk_owns (λ store n. repr_of store n v) (λ store. repr_takes store v)

-- ---- operators between values

listed_owns : (values : StoreView → Result (List Datum) EvalFault) → Own (listed values)
listed_owns values = bind_owns (look (λ s. values s.store)) (λ xs. new_content (items xs)) (look_owns values) (λ xs. new_owns (items xs))

sum_owns : (a b : Datum) → Own (sum a b)
unfolding sum
sum_owns (string text) b = given_owns (string_sum text b)
sum_owns (tuple xs) b = given_owns (tuple_sum (list_of xs) b)
sum_owns (cell home number) b = listed_owns (λ s. list_sum s (cell home number) b)
sum_owns a b = given_owns (integers op.Add a b)

times_owns : (a : Datum) (n : ℤ) → Own (times a n)
unfolding times
times_owns (string text) n = given_owns (as_string (repeated text n))
times_owns (tuple xs) n = given_owns (as_tuple (repeated (list_of xs) n))
times_owns (cell home number) n = listed_owns (λ s. list_product s (cell home number) n)
times_owns a n = stop_owns Datum f.WrongType

int_product_owns : (n : ℤ) (b : Datum) → Own (int_product n b)
unfolding int_product
int_product_owns n (int m) = given_owns (as_int (arithmetic op.Multiply n m))
int_product_owns n b = times_owns b n

product_owns : (a b : Datum) → Own (product a b)
unfolding product
product_owns (int n) b = int_product_owns n b
product_owns a b = bind_owns (given (int_of b)) (λ n. times a n) (given_owns (int_of b)) (λ n. times_owns a n)

remainder_owns : (a b : Datum) → Own (remainder a b)
unfolding remainder
remainder_owns (string format) b =
    bind_owns (walk (λ s n. percent_of s n format b)) (λ text. pure (string text)) (walk_owns (λ s n. percent_of s n format b) (λ s. percent_takes s format b)) (λ text. pure_owns (string text))
remainder_owns a b = given_owns (integers op.Modulo a b)

union_owns : (a b : Datum) → Own (union a b)
unfolding union
union_owns (cell home number) b =
    bind_owns (look (λ s. dict_union s.store (cell home number) b)) (λ ps. new_content (pairs ps)) (look_owns (λ s. dict_union s (cell home number) b)) (λ ps. new_owns (pairs ps))
union_owns a b = given_owns (integers op.BitOr a b)

pub binary_owns : (o : Operator) (a b : Datum) → Own (binary o a b)
unfolding binary
binary_owns op.Multiply a b = product_owns a b
binary_owns op.Modulo a b = remainder_owns a b
binary_owns op.Add a b = sum_owns a b
binary_owns op.BitOr a b = union_owns a b
binary_owns o a b = given_owns (integers o a b)

pub unary_owns : (o : UnaryOperator) (v : Datum) → Own (unary o v)
unfolding unary
unary_owns o v = look_owns (λ s. signed o s v)

pub compare_owns : (o : Comparison) (a b : Datum) → Own (compare o a b)
unfolding compare
compare_owns o a b =
    bind_owns (walk (λ s n. compared o s n a b)) (λ so. pure (boolean so)) (walk_owns (λ s n. compared o s n a b) (λ s. compared_takes o s a b)) (λ so. pure_owns (boolean so))

pub index_owns : (container at : Datum) → Own (index container at)
unfolding index
index_owns container at = walk_owns (λ s n. item_of s n container at) (λ s. item_takes s container at)

pub slice_owns : (a start stop step : Datum) → Own (slice a start stop step)
unfolding slice
slice_owns (string text) start stop step = given_owns (as_string (sliced text start stop step))
slice_owns (tuple xs) start stop step = given_owns (as_tuple (sliced (list_of xs) start stop step))
slice_owns a start stop step = listed_owns (λ s. list_slice s a start stop step)

-- ---- changes in place

extended_spares : (more : List Datum) → SparesRules (list_extended more)
unfolding list_extended
extended_spares more class = tt

pub united_spares : (more : List (Datum × Datum)) → SparesRules (dict_united more)
unfolding dict_united
united_spares more class = tt

set_spares : (i : ℤ) (v : Datum) → SparesRules (element_set i v)
unfolding element_set
set_spares i v class = tt

put_spares : (k v : Datum) → SparesRules (pair_put k v)
unfolding pair_put
put_spares k v class = tt

augment_sum_owns : (a b : Datum) → Own (augment_sum a b)
unfolding augment_sum
augment_sum_owns (cell home number) b =
    bind_owns (look (λ s. list_in s.store (cell home number))) _ (look_owns (λ s. list_in s (cell home number)))
    (λ xs. bind_owns (elements b) _ (elements_owns b)
    (λ more. bind_owns (changing home number (list_extended more)) (λ u. pure (cell home number)) (changing_owns home number (list_extended more) (extended_spares more)) (λ u. pure_owns (cell home number))))
augment_sum_owns a b = sum_owns a b

augment_union_owns : (a b : Datum) → Own (augment_union a b)
unfolding augment_union
augment_union_owns (cell home number) b =
    bind_owns (look (λ s. dict_in s.store (cell home number))) _ (look_owns (λ s. dict_in s (cell home number)))
    (λ ps. bind_owns (look (λ s. dict_in s.store b)) _ (look_owns (λ s. dict_in s b))
    (λ more. bind_owns (changing home number (dict_united more)) (λ u. pure (cell home number)) (changing_owns home number (dict_united more) (united_spares more)) (λ u. pure_owns (cell home number))))
augment_union_owns a b = union_owns a b

pub augment_owns : (o : Operator) (a b : Datum) → Own (augment o a b)
unfolding augment
augment_owns op.Add a b = augment_sum_owns a b
augment_owns op.BitOr a b = augment_union_owns a b
augment_owns o a b = binary_owns o a b

set_in_owns : (home number : ℕ) (at v : Datum) (c : Contents) → Own (set_in home number at v c)
set_in_owns home number at v (items xs) = bind_owns (given (int_of at)) _ (given_owns (int_of at)) (λ i. changing_owns home number (element_set i v) (set_spares i v))
set_in_owns home number at v (pairs ps) =
    then_owns (may_change home number) _ (may_owns home number) (bind_owns (key at) _ (key_owns at) (λ k. changing_owns home number (pair_put k v) (put_spares k v)))
set_in_owns home number at v (rule class) = stop_owns (Unit {0}) f.WrongType

set_item_owns : (home number : ℕ) (at v : Datum) → Own (set_item home number at v)
unfolding set_item
set_item_owns home number at v = bind_owns (content home number) (λ c. set_in home number at v c) (content_owns home number) (λ c. set_in_owns home number at v c)

pub set_index_owns : (container at v : Datum) → Own (set_index container at v)
unfolding set_index
set_index_owns (cell home number) at v = set_item_owns home number at v
set_index_owns container at v = stop_owns (Unit {0}) f.WrongType
