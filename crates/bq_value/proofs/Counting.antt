-- Each walk takes a number of steps of its own.
use Rattle.std.proofs.Common.{◌≡◌, ◌∙◌, ◌+◌, ◌-◌, ◌<◌, ◌≤◌, ◌⊎◌, inl, inr, ◌==◌, ◌&&◌, ℕ, zero, suc, ℤ, Bool, true, false, cond, List, [], ◌∷◌, length, Option, Some, None, Result, Ok, Err, refl, ap, arith}
use Rattle.std.proofs.lemmas.Bool.{cases_lt}
use Rattle.std.specs.declared.cmp.Ordering.{Ordering}
use Rattle.bq_base.specs.declared.fault.EvalFault.{EvalFault}
use Rattle.bq_base.specs.declared.fault.EvalFault.TheVariants.{StepLimit, TooDeep, WrongType}
use Rattle.bq_value.specs.Datum.{Datum, none, boolean, int, string, tuple, range, cell, function, built_in, rule_function, attribute, list_of}
use Rattle.bq_value.specs.Contents.{Contents, items, pairs, rule}
use Rattle.bq_value.specs.Cells.{StoreView, content_at}
use Rattle.bq_value.specs.Pairs.{found}
use Rattle.bq_value.specs.Looked.{Looked, stepped}
use Rattle.bq_value.specs.Equality.{Compares, if_so, all_equal, lists_equal, partner_equal, pairs_equal, contents_equal, cells_equal, parts_equal, equal_at}
use Rattle.bq_value.specs.Order.{Orders, at_first, lists_ordered, contents_ordered, cells_ordered, bool_ordered, int_ordered, string_ordered, tuple_ordered, cell_ordered, parts_ordered, ordered_at}
use Rattle.bq_value.specs.WalkLaws.{Takes, with_left}

pub ok_takes : {A : Type 0} (a : A) → Takes (λ n. Ok (a, n))
ok_takes a = record { steps = 0; outcome = Ok a; enough = λ more. ap (λ (k : ℕ). Ok (a, k)) (omega arith); short = λ n h. absurd (omega (arith, h)) }

pub err_takes : {A : Type 0} (kind : EvalFault) → Takes {A = A} (λ n. Err kind)
err_takes kind = record { steps = 0; outcome = Err kind; enough = λ more. refl; short = λ n h. absurd (omega (arith, h)) }

short_stepped : {A : Type 0} (r : ℕ → Looked A) (steps : ℕ) → ((n : ℕ) → n < steps → r n ≡ Err StepLimit) → (n : ℕ) → n < suc steps → stepped n r ≡ Err StepLimit
short_stepped r steps short zero h = refl
short_stepped r steps short (suc n) h = short n (omega (arith, h))

pub stepped_takes : {A : Type 0} (r : ℕ → Looked A) → Takes r → Takes (λ n. stepped n r)
stepped_takes r t = record {
  steps = suc t.steps;
  outcome = t.outcome;
  enough = λ more. ap (λ (k : ℕ). stepped k r) (one_more t.steps more) ∙ t.enough more;
  short = short_stepped r t.steps t.short;
}
  where
    one_more : (a b : ℕ) → suc a + b ≡ suc (a + b)
    one_more a b = omega arith

module _ {A B : Type 0} (r : ℕ → Looked A) (f : Looked A → Looked B) (err : (kind : EvalFault) → f (Err kind) ≡ Err kind) where
  short_by : (a : A) (steps more : ℕ) → ((n : ℕ) → n < steps → r n ≡ Err StepLimit) → ((left : ℕ) → r (steps + left) ≡ Ok (a, left)) → ((n : ℕ) → n < more → f (Ok (a, n)) ≡ Err StepLimit)
      → (n : ℕ) → n < steps + more → (n < steps) ⊎ (steps ≤ n) → f (r n) ≡ Err StepLimit
  short_by a steps more short enough after n h (inl k) = ap f (short n k) ∙ err StepLimit
  short_by a steps more short enough after n h (inr k) =
      let at : n ≡ steps + (n - steps) = omega (arith, k) in
      ap (λ (j : ℕ). f (r j)) at ∙ (ap f (enough (n - steps)) ∙ after (n - steps) (omega (arith, h, k)))

  followed_by : (steps : ℕ) (outcome : Result A EvalFault) → ((more : ℕ) → r (steps + more) ≡ with_left outcome more) → ((n : ℕ) → n < steps → r n ≡ Err StepLimit)
      → ((a : A) → Takes (λ n. f (Ok (a, n)))) → Takes (λ n. f (r n))
  followed_by steps (Err kind) enough short next = record {
    steps = steps;
    outcome = Err kind;
    enough = λ more. ap f (enough more) ∙ err kind;
    short = λ n h. ap f (short n h) ∙ err StepLimit;
  }
  followed_by steps (Ok a) enough short next =
      let t = next a in
      record {
        steps = steps + t.steps;
        outcome = t.outcome;
        enough = λ more. ap (λ (k : ℕ). f (r k)) (regrouped steps t.steps more) ∙ (ap f (enough (t.steps + more)) ∙ t.enough more);
        short = λ n h. short_by a steps t.steps short enough t.short n h (cases_lt n steps);
      }
    where
      regrouped : (a b c : ℕ) → (a + b) + c ≡ a + (b + c)
      regrouped a b c = omega arith

  -- one walk, and then what its answer leads to
  pub followed : Takes r → ((a : A) → Takes (λ n. f (Ok (a, n)))) → Takes (λ n. f (r n))
  followed t next = followed_by t.steps t.outcome t.enough t.short next

so_takes : (next : ℕ → Looked Bool) → Takes next → (b : Bool) → Takes (λ n. if_so (Ok (b, n)) next)
so_takes next t true = t
so_takes next t false = ok_takes false

cond_takes : (b : Bool) (r : ℕ → Looked Bool) → Takes r → Takes (λ n. cond b (r n) (Ok (false, n)))
cond_takes true r t = t
cond_takes false r t = ok_takes false

module _ (same : Compares) (takes : (x y : Datum) → Takes (λ n. same n x y)) where
  all_take : (xs ys : List Datum) → Takes (λ n. all_equal same n xs ys)
  all_take [] ys = ok_takes true
  all_take (x ∷ xs) [] = ok_takes false
  all_take (x ∷ xs) (y ∷ ys) =
      followed (λ n. same n x y) (λ r. if_so r (λ m. all_equal same m xs ys)) (λ kind. refl) (takes x y) (so_takes (λ m. all_equal same m xs ys) (all_take xs ys))

  lists_take : (xs ys : List Datum) → Takes (λ n. lists_equal same n xs ys)
  lists_take xs ys = cond_takes (length xs == length ys) (λ n. all_equal same n xs ys) (all_take xs ys)

  partner_takes : (v : Datum) (o : Option Datum) → Takes (λ n. partner_equal same n v o)
  partner_takes v None = ok_takes false
  partner_takes v (Some w) = takes v w

  pairs_take : (ps qs : List (Datum × Datum)) → Takes (λ n. pairs_equal same n ps qs)
  pairs_take [] qs = ok_takes true
  pairs_take (p ∷ ps) qs =
      followed (λ n. partner_equal same n p.1 (found p.0 qs)) (λ r. if_so r (λ m. pairs_equal same m ps qs)) (λ kind. refl) (partner_takes p.1 (found p.0 qs))
      (so_takes (λ m. pairs_equal same m ps qs) (pairs_take ps qs))

  contents_take : (one : Bool) (c d : Contents) → Takes (λ n. contents_equal same n one c d)
  contents_take one (items xs) (items ys) = lists_take xs ys
  contents_take one (pairs ps) (pairs qs) = cond_takes (length ps == length qs) (λ n. pairs_equal same n ps qs) (pairs_take ps qs)
  contents_take one (rule c) (rule d) = ok_takes one
  contents_take one _ _ = ok_takes false

  cells_take : (one : Bool) (c d : Option Contents) → Takes (λ n. cells_equal same n one c d)
  cells_take one (Some c) (Some d) = contents_take one c d
  cells_take one None None = ok_takes true
  cells_take one (Some c) None = ok_takes false
  cells_take one None (Some d) = ok_takes false

  parts_take : (s : StoreView) (x y : Datum) → Takes (λ n. parts_equal same s n x y)
  parts_take s none none = ok_takes true
  parts_take s (boolean a) (boolean b) = ok_takes _
  parts_take s (int a) (int b) = ok_takes _
  parts_take s (string a) (string b) = ok_takes _
  parts_take s (tuple a) (tuple b) = lists_take (list_of a) (list_of b)
  parts_take s (range a b c) (range d e f) = ok_takes _
  parts_take s (cell a i) (cell b j) = cells_take ((a == b) && (i == j)) (content_at s a i) (content_at s b j)
  parts_take s (function a i t vs) (function b j u ws) = ok_takes _
  parts_take s (built_in a) (built_in b) = ok_takes _
  parts_take s (rule_function f) (rule_function g) = ok_takes _
  parts_take s (attribute a) (attribute b) = ok_takes _
  parts_take s _ _ = ok_takes false

pub equal_takes : (l : ℕ) (s : StoreView) (x y : Datum) → Takes (λ n. equal_at l s n x y)
equal_takes zero s x y = stepped_takes (λ m. Err TooDeep) (err_takes TooDeep)
equal_takes (suc l) s x y = stepped_takes (λ m. parts_equal (equal_at l s) s m x y) (parts_take (equal_at l s) (equal_takes l s) s x y)

first_takes : (rest here : ℕ → Looked Ordering) → Takes rest → Takes here → (b : Bool) → Takes (λ n. at_first (Ok (b, n)) rest here)
first_takes rest here t u true = t
first_takes rest here t u false = u

module _ (same : Compares) (order : Orders) (same_takes : (x y : Datum) → Takes (λ n. same n x y)) (takes : (x y : Datum) → Takes (λ n. order n x y)) where
  orders_take : (xs ys : List Datum) → Takes (λ n. lists_ordered same order n xs ys)
  orders_take [] [] = ok_takes _
  orders_take [] (y ∷ ys) = ok_takes _
  orders_take (x ∷ xs) [] = ok_takes _
  orders_take (x ∷ xs) (y ∷ ys) =
      followed (λ n. same n x y) (λ r. at_first r (λ m. lists_ordered same order m xs ys) (λ m. order m x y)) (λ kind. refl) (same_takes x y)
      (first_takes (λ m. lists_ordered same order m xs ys) (λ m. order m x y) (orders_take xs ys) (takes x y))

  ordered_contents_take : (c d : Contents) → Takes (λ n. contents_ordered same order n c d)
  ordered_contents_take (items xs) (items ys) = orders_take xs ys
  ordered_contents_take (items xs) (pairs qs) = err_takes WrongType
  ordered_contents_take (items xs) (rule d) = err_takes WrongType
  ordered_contents_take (pairs ps) d = err_takes WrongType
  ordered_contents_take (rule c) d = err_takes WrongType

  ordered_cells_take : (c d : Option Contents) → Takes (λ n. cells_ordered same order n c d)
  ordered_cells_take (Some c) (Some d) = ordered_contents_take c d
  ordered_cells_take (Some c) None = err_takes WrongType
  ordered_cells_take None d = err_takes WrongType

  bool_takes : (a : Bool) (y : Datum) → Takes (λ n. bool_ordered n a y)
  unfolding bool_ordered
  bool_takes a (boolean b) = ok_takes _
  bool_takes a _ = err_takes WrongType

  int_takes : (a : ℤ) (y : Datum) → Takes (λ n. int_ordered n a y)
  unfolding int_ordered
  int_takes a (int b) = ok_takes _
  int_takes a _ = err_takes WrongType

  string_takes : (a : List ℕ) (y : Datum) → Takes (λ n. string_ordered n a y)
  unfolding string_ordered
  string_takes a (string b) = ok_takes _
  string_takes a _ = err_takes WrongType

  tuple_takes : (xs : List Datum) (y : Datum) → Takes (λ n. tuple_ordered same order n xs y)
  unfolding tuple_ordered
  tuple_takes xs (tuple b) = orders_take xs (list_of b)
  tuple_takes xs _ = err_takes WrongType

  cell_takes : (s : StoreView) (c : Option Contents) (y : Datum) → Takes (λ n. cell_ordered same order s n c y)
  unfolding cell_ordered
  cell_takes s c (cell b j) = ordered_cells_take c (content_at s b j)
  cell_takes s c _ = err_takes WrongType

  ordered_parts_take : (s : StoreView) (x y : Datum) → Takes (λ n. parts_ordered same order s n x y)
  ordered_parts_take s (boolean a) y = bool_takes a y
  ordered_parts_take s (int a) y = int_takes a y
  ordered_parts_take s (string a) y = string_takes a y
  ordered_parts_take s (tuple a) y = tuple_takes (list_of a) y
  ordered_parts_take s (cell a i) y = cell_takes s (content_at s a i) y
  ordered_parts_take s none y = err_takes WrongType
  ordered_parts_take s (range a b c) y = err_takes WrongType
  ordered_parts_take s (function a i t vs) y = err_takes WrongType
  ordered_parts_take s (built_in t) y = err_takes WrongType
  ordered_parts_take s (rule_function f) y = err_takes WrongType
  ordered_parts_take s (attribute a) y = err_takes WrongType

pub order_takes : (l : ℕ) (s : StoreView) (x y : Datum) → Takes (λ n. ordered_at l s n x y)
order_takes zero s x y = stepped_takes (λ m. Err TooDeep) (err_takes TooDeep)
order_takes (suc l) s x y =
    stepped_takes (λ m. parts_ordered (equal_at l s) (ordered_at l s) s m x y) (ordered_parts_take (equal_at l s) (ordered_at l s) (equal_takes l s) (order_takes l s) s x y)
