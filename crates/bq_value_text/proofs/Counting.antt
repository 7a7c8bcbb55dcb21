-- The walk of a text takes a number of steps of its own.
use Rattle.std.proofs.Common.{ℕ, zero, suc, List, [], ◌∷◌, Option, Some, None, Ok, Err, refl}
use Rattle.std.specs.Prelude.{codes}
use Rattle.bq_base.specs.declared.fault.EvalFault.TheVariants.{TooDeep, TooLong}
use Rattle.bq_value.specs.Datum.{Datum, none, boolean, int, string, tuple, range, cell, function, built_in, rule_function, attribute, list_of}
use Rattle.bq_value.specs.Contents.{Contents, items, pairs, rule}
use Rattle.bq_value.specs.Cells.{StoreView, content_at}
use Rattle.bq_value.specs.Looked.{max_levels}
use Rattle.bq_value.specs.WalkLaws.{Takes}
use Rattle.bq_value.proofs.Counting.{ok_takes, err_takes, stepped_takes, followed}
use Rattle.bq_value_text.specs.Page.{PageView, written}
use Rattle.bq_value_text.specs.Shown.{Shows, and_then, all_shown, pairs_shown, closed, list_shown, contents_shown, cell_shown, tuple_end, parts_shown, shown_at, repr_shown, text_by, text_shown, string_in, finished_by, repr_of, text_of}

module _ (show : Shows) (takes : (page : PageView) (v : Datum) → Takes (λ n. show page n v)) where
  all_take : (separator : List ℕ) (page : PageView) (xs : List Datum) → Takes (λ n. all_shown show separator page n xs)
  all_take separator page [] = ok_takes page
  all_take separator page (x ∷ xs) =
      followed (λ n. show (written page separator) n x) (λ r. and_then r (λ p m. all_shown show (codes ", ") p m xs)) (λ kind. refl) (takes (written page separator) x)
      (λ p. all_take (codes ", ") p xs)

  pairs_take : (separator : List ℕ) (page : PageView) (xs : List (Datum × Datum)) → Takes (λ n. pairs_shown show separator page n xs)
  pairs_take separator page [] = ok_takes page
  pairs_take separator page (x ∷ xs) =
      followed (λ n. show (written page separator) n x.0) (λ r. and_then r (λ p m. and_then (show (written p (codes ": ")) m x.1) (λ q k. pairs_shown show (codes ", ") q k xs))) (λ kind. refl)
      (takes (written page separator) x.0)
      (λ p. followed (λ m. show (written p (codes ": ")) m x.1) (λ r. and_then r (λ q k. pairs_shown show (codes ", ") q k xs)) (λ kind. refl) (takes (written p (codes ": ")) x.1) (λ q. pairs_take (codes ", ") q xs))

  list_takes : (begin close : List ℕ) (page : PageView) (xs : List Datum) → Takes (λ n. list_shown show begin close page n xs)
  list_takes begin close page xs =
      followed (λ n. all_shown show [] (written page begin) n xs) (λ r. closed close r) (λ kind. refl) (all_take [] (written page begin) xs) (λ p. ok_takes (written p close))

  contents_take : (page : PageView) (c : Contents) → Takes (λ n. contents_shown show page n c)
  contents_take page (items xs) = list_takes (codes "[") (codes "]") page xs
  contents_take page (pairs ps) =
      followed (λ n. pairs_shown show [] (written page (codes "{")) n ps) (λ r. closed (codes "}") r) (λ kind. refl) (pairs_take [] (written page (codes "{")) ps) (λ p. ok_takes (written p (codes "}")))
  contents_take page (rule c) = ok_takes _

  cell_takes : (page : PageView) (c : Option Contents) → Takes (λ n. cell_shown show page n c)
  cell_takes page (Some c) = contents_take page c
  cell_takes page None = ok_takes page

  parts_take : (s : StoreView) (page : PageView) (v : Datum) → Takes (λ n. parts_shown show s page n v)
  parts_take s page (tuple xs) = list_takes (codes "(") (tuple_end (list_of xs)) page (list_of xs)
  parts_take s page (cell home number) = cell_takes page (content_at s home number)
  parts_take s page none = ok_takes _
  parts_take s page (boolean b) = ok_takes _
  parts_take s page (int n) = ok_takes _
  parts_take s page (string t) = ok_takes _
  parts_take s page (range a b c) = ok_takes _
  parts_take s page (function m i t vs) = ok_takes _
  parts_take s page (built_in t) = ok_takes _
  parts_take s page (rule_function f) = ok_takes _
  parts_take s page (attribute a) = ok_takes _

shown_takes : (l : ℕ) (s : StoreView) (page : PageView) (v : Datum) → Takes (λ n. shown_at l s page n v)
shown_takes zero s page v = stepped_takes (λ m. Err TooDeep) (err_takes TooDeep)
shown_takes (suc l) s page v = stepped_takes (λ m. parts_shown (shown_at l s) s page m v) (parts_take (shown_at l s) (shown_takes l s) s page v)

repr_shown_takes : (s : StoreView) (page : PageView) (v : Datum) → Takes (λ n. repr_shown s page n v)
unfolding repr_shown
repr_shown_takes s page v = shown_takes max_levels s page v

finish_takes : (page : PageView) → Takes (λ n. finished_by (Ok (page, n)))
finish_takes (Some text) = ok_takes text
finish_takes None = err_takes TooLong

pub repr_takes : (s : StoreView) (v : Datum) → Takes (λ n. repr_of s n v)
repr_takes s v = followed (λ n. repr_shown s (Some []) n v) (λ r. finished_by r) (λ kind. refl) (repr_shown_takes s (Some []) v) finish_takes

text_by_takes : (s : StoreView) (page : PageView) (v : Datum) (o : Option (List ℕ)) → Takes (λ n. text_by s page n v o)
text_by_takes s page v (Some bytes) = stepped_takes (λ m. Ok (written page bytes, m)) (ok_takes (written page bytes))
text_by_takes s page v None = repr_shown_takes s page v

pub text_takes : (s : StoreView) (v : Datum) → Takes (λ n. text_of s n v)
text_takes s v = followed (λ n. text_shown s (Some []) n v) (λ r. finished_by r) (λ kind. refl) (text_by_takes s (Some []) v (string_in v)) finish_takes
