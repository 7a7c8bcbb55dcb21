-- The walks that operators, methods and functions make take a number of steps of their own.
use Rattle.std.proofs.Common.{ℕ, zero, suc, ◌+◌, ◌==◌, ◌-◌, ℤ, Bool, true, false, cond, List, [], ◌∷◌, length, drop, take, Option, Some, None, Result, Ok, Err, refl}
use Rattle.std.specs.Prelude.{codes}
use Rattle.std.specs.declared.cmp.Ordering.{Ordering}
use Rattle.std.specs.Ordering.{is_lt, is_le, is_gt, is_ge}
use Rattle.bq_base.specs.declared.fault.EvalFault.{EvalFault}
use Rattle.bq_base.specs.declared.fault.EvalFault.TheVariants as f
use Rattle.bq_parse_grammar.specs.declared.tree.Comparison.{Comparison}
use Rattle.bq_parse_grammar.specs.declared.tree.Comparison.TheVariants as comparison
use Rattle.bq_value.specs.Datum.{Datum, none, boolean, int, string, tuple, range, cell, function, built_in, rule_function, attribute, list_of}
use Rattle.bq_value.specs.Contents.{Contents, items, pairs, rule}
use Rattle.bq_value.specs.Pairs.{found}
use Rattle.bq_value.specs.Cells.{StoreView, content_at}
use Rattle.bq_value.specs.Looked.{Looked, max_levels}
use Rattle.bq_value.specs.KeyWalk.{walked_at, keyed}
use Rattle.bq_value.specs.WalkLaws.{Takes}
use Rattle.bq_value.proofs.Counting.{ok_takes, err_takes, followed, equal_takes, order_takes}
use Rattle.bq_value.proofs.KeySteps.{key_takes}
use Rattle.bq_value_text.specs.Page.{PageView, written}
use Rattle.bq_value_text.specs.Shown as shown
use Rattle.bq_value_text.specs.Shown.{text_shown, repr_shown, finished_by}
use Rattle.bq_builtin_format.specs.declared.argument.Numbering.{Numbering}
use Rattle.bq_builtin_format.specs.Piece.{Piece, byte, field, lone, pieces}
use Rattle.bq_builtin_format.specs.Argument.{argument, next_after, no_fields, numbering_after}
use Rattle.bq_builtin_format.specs.Percent as percent
use Rattle.bq_builtin_format.specs.Percent.{DraftView, and_write, spoiled, onto, decimal, takes_value, next_shown, converted, values_after, filled_by, filled, blank, finished_draft, text_by, percent_of}
use Rattle.bq_builtin_format.specs.Method.{field_shown, unmixed, made, formatted}
use Rattle.bq_builtin_strings.specs.Parts.{partition}
use Rattle.bq_builtin_machine.specs.Machine.{looked_equal, looked_order}
use Rattle.bq_builtin_strings.specs.Place.{bound}
use Rattle.bq_builtin_operators.specs.Comparing.{negated, by_order, compared}
use Rattle.bq_builtin_operators.specs.Membership.{if_not, among, in_string, in_range, in_list, in_dict, in_content, contained}
use Rattle.bq_builtin_operators.specs.Subscript.{or_fault, byte_in, item_in, integer_in, at_no_cost, value_in, content_item, item_of}
use Rattle.bq_builtin_methods.specs.Search.{if_unequal, first_equal, found_between}
use Rattle.bq_builtin.specs.Texts.{others_shown, values_shown, joined_texts}
use Rattle.bq_builtin_laws.proofs.Steps.Texts.{repr_shown_takes, finish_takes, text_shown_takes}
use Rattle.bq_builtin_format.proofs.Cases.{with_steps}
use Rattle.bq_builtin_operators.proofs.Cases.{among_keys, value_by}

-- ---- comparisons

equal_looked : (s : StoreView) (a b : Datum) → Takes (λ n. looked_equal s n a b)
unfolding looked_equal
equal_looked s a b = equal_takes max_levels s a b

order_looked : (s : StoreView) (a b : Datum) → Takes (λ n. looked_order s n a b)
unfolding looked_order
order_looked s a b = order_takes max_levels s a b

pub key_looked : (v : Datum) → Takes (λ n. keyed v (walked_at max_levels n v))
key_looked v = key_takes v max_levels v

negated_takes : (r : ℕ → Looked Bool) → Takes r → Takes (λ n. negated (r n))
negated_takes r t = followed r negated (λ kind. refl) t (λ so. ok_takes _)

ordered_takes : (test : Ordering → Bool) (s : StoreView) (a b : Datum) → Takes (λ n. by_order test (looked_order s n a b))
ordered_takes test s a b = followed (λ n. looked_order s n a b) (λ r. by_order test r) (λ kind. refl) (order_looked s a b) (λ so. ok_takes _)

not_takes : (next : ℕ → Looked Bool) → Takes next → (b : Bool) → Takes (λ n. if_not (Ok (b, n)) next)
not_takes next t true = ok_takes true
not_takes next t false = t

among_takes : (s : StoreView) (v : Datum) (xs : List Datum) → Takes (λ n. among (looked_equal s) n v xs)
among_takes s v [] = ok_takes false
among_takes s v (x ∷ xs) =
    followed (λ n. looked_equal s n v x) (λ r. if_not r (λ m. among (looked_equal s) m v xs)) (λ kind. refl) (equal_looked s v x)
    (not_takes (λ m. among (looked_equal s) m v xs) (among_takes s v xs))

string_takes : (v : Datum) (text : List ℕ) → Takes (λ n. in_string n v text)
unfolding in_string
string_takes (string sub) text = ok_takes _
string_takes v text = err_takes f.WrongType

range_takes : (v : Datum) (start stop step : ℤ) → Takes (λ n. in_range n v start stop step)
unfolding in_range
range_takes (int i) start stop step = ok_takes _
range_takes v start stop step = err_takes f.WrongType

list_takes : (s : StoreView) (v : Datum) (xs : List Datum) → Takes (λ n. in_list s n v xs)
unfolding in_list
list_takes s v xs = among_takes s v xs

dict_takes : (v : Datum) (ps : List (Datum × Datum)) → Takes (λ n. in_dict n v ps)
unfolding in_dict
dict_takes v ps = followed (λ n. keyed v (walked_at max_levels n v)) (λ r. among_keys r ps) (λ kind. refl) (key_looked v) (λ k. ok_takes _)

content_takes : (s : StoreView) (v : Datum) (c : Option Contents) → Takes (λ n. in_content s n v c)
content_takes s v (Some (items xs)) = list_takes s v xs
content_takes s v (Some (pairs ps)) = dict_takes v ps
content_takes s v (Some (rule class)) = err_takes f.WrongType
content_takes s v None = err_takes f.WrongType

contained_takes : (s : StoreView) (v container : Datum) → Takes (λ n. contained s n v container)
contained_takes s v (string text) = string_takes v text
contained_takes s v (tuple xs) = list_takes s v (list_of xs)
contained_takes s v (range start stop step) = range_takes v start stop step
contained_takes s v (cell home number) = content_takes s v (content_at s home number)
contained_takes s v none = err_takes f.WrongType
contained_takes s v (boolean b) = err_takes f.WrongType
contained_takes s v (int n) = err_takes f.WrongType
contained_takes s v (function home place name ds) = err_takes f.WrongType
contained_takes s v (built_in b) = err_takes f.WrongType
contained_takes s v (rule_function g) = err_takes f.WrongType
contained_takes s v (attribute a) = err_takes f.WrongType

pub compared_takes : (c : Comparison) (s : StoreView) (a b : Datum) → Takes (λ n. compared c s n a b)
unfolding compared
compared_takes comparison.Equal s a b = equal_looked s a b
compared_takes comparison.NotEqual s a b = negated_takes (λ n. looked_equal s n a b) (equal_looked s a b)
compared_takes comparison.Less s a b = ordered_takes is_lt s a b
compared_takes comparison.Greater s a b = ordered_takes is_gt s a b
compared_takes comparison.LessEqual s a b = ordered_takes is_le s a b
compared_takes comparison.GreaterEqual s a b = ordered_takes is_ge s a b
compared_takes comparison.In s a b = contained_takes s a b
compared_takes comparison.NotIn s a b = negated_takes (λ n. contained s n a b) (contained_takes s a b)

-- ---- items

free_takes : (r : Result Datum EvalFault) → Takes (λ n. at_no_cost n r)
free_takes (Ok v) = ok_takes v
free_takes (Err kind) = err_takes kind

value_takes : (ps : List (Datum × Datum)) (key : Datum) → Takes (λ n. value_in n ps key)
unfolding value_in
value_takes ps key = followed (λ n. keyed key (walked_at max_levels n key)) (λ r. value_by ps r) (λ kind. refl) (key_looked key) (λ k. free_takes (or_fault f.NoKey (found k ps)))

content_item_takes : (c : Option Contents) (at : Datum) → Takes (λ n. content_item n c at)
content_item_takes (Some (items xs)) at = free_takes (item_in xs at)
content_item_takes (Some (pairs ps)) at = value_takes ps at
content_item_takes (Some (rule class)) at = err_takes f.WrongType
content_item_takes None at = err_takes f.WrongType

pub item_takes : (s : StoreView) (container at : Datum) → Takes (λ n. item_of s n container at)
item_takes s (string text) at = free_takes (byte_in text at)
item_takes s (tuple xs) at = free_takes (item_in (list_of xs) at)
item_takes s (range start stop step) at = free_takes (integer_in start stop step at)
item_takes s (cell home number) at = content_item_takes (content_at s home number) at
item_takes s none at = err_takes f.WrongType
item_takes s (boolean b) at = err_takes f.WrongType
item_takes s (int n) at = err_takes f.WrongType
item_takes s (function home place name ds) at = err_takes f.WrongType
item_takes s (built_in b) at = err_takes f.WrongType
item_takes s (rule_function g) at = err_takes f.WrongType
item_takes s (attribute a) at = err_takes f.WrongType

-- ---- the place of an element

unequal_takes : (at : ℕ) (next : ℕ → Looked (Option ℕ)) → Takes next → (b : Bool) → Takes (λ n. if_unequal (Ok (b, n)) at next)
unequal_takes at next t true = ok_takes (Some at)
unequal_takes at next t false = t

first_takes : (s : StoreView) (at : ℕ) (v : Datum) (xs : List Datum) → Takes (λ n. first_equal s n at v xs)
first_takes s at v [] = ok_takes None
first_takes s at v (x ∷ xs) =
    followed (λ n. looked_equal s n x v) (λ r. if_unequal r at (λ m. first_equal s m (at + 1) v xs)) (λ kind. refl) (equal_looked s x v)
    (unequal_takes at (λ m. first_equal s m (at + 1) v xs) (first_takes s (at + 1) v xs))

pub found_takes : (s : StoreView) (xs : List Datum) (v : Datum) (start end : Option ℤ) → Takes (λ n. found_between s n xs v start end)
unfolding found_between
found_takes s xs v start end =
    first_takes s (bound (length xs) 0 start) v (take (bound (length xs) (length xs) end - bound (length xs) 0 start) (drop (bound (length xs) 0 start) xs))

-- ---- texts in a row

others_take : (separator : List ℕ) (s : StoreView) (page : PageView) (vs : List Datum) → Takes (λ n. others_shown separator s page n vs)
others_take separator s page [] = ok_takes page
others_take separator s page (v ∷ vs) =
    followed (λ n. text_shown s (written page separator) n v) (λ r. shown.and_then r (λ q m. others_shown separator s q m vs)) (λ kind. refl)
    (text_shown_takes s (written page separator) v) (λ q. others_take separator s q vs)

all_take : (separator : List ℕ) (s : StoreView) (page : PageView) (vs : List Datum) → Takes (λ n. values_shown separator s page n vs)
all_take separator s page [] = ok_takes page
all_take separator s page (v ∷ vs) =
    followed (λ n. text_shown s page n v) (λ r. shown.and_then r (λ q m. others_shown separator s q m vs)) (λ kind. refl) (text_shown_takes s page v) (λ q. others_take separator s q vs)

pub joined_takes : (separator : List ℕ) (s : StoreView) (vs : List Datum) → Takes (λ n. joined_texts separator s n vs)
unfolding joined_texts
joined_takes separator s vs = followed (λ n. values_shown separator s (Some []) n vs) finished_by (λ kind. refl) (all_take separator s (Some []) vs) finish_takes

-- ---- formats

onto_takes : (malformed : Bool) (r : ℕ → Looked PageView) → Takes r → Takes (λ n. onto malformed (r n))
onto_takes malformed r t = followed r (λ l. onto malformed l) (λ kind. refl) t (λ page. ok_takes _)

cond_takes : {A : Type 0} (b : Bool) (r q : ℕ → Looked A) → Takes r → Takes q → Takes (λ n. cond b (r n) (q n))
cond_takes true r q t u = t
cond_takes false r q t u = u

conversion_takes : (s : StoreView) (d : DraftView) (k : ℕ) (v : Datum) → Takes (λ n. percent.shown s d n k v)
conversion_takes s d k v =
    cond_takes (k == 115) (λ n. onto d.malformed (text_shown s d.page n v)) (λ n. cond (k == 114) (onto d.malformed (repr_shown s d.page n v)) (Ok (decimal d v, n)))
    (onto_takes d.malformed (λ n. text_shown s d.page n v) (text_shown_takes s d.page v))
    (cond_takes (k == 114) (λ n. onto d.malformed (repr_shown s d.page n v)) (λ n. Ok (decimal d v, n))
    (onto_takes d.malformed (λ n. repr_shown s d.page n v) (repr_shown_takes s d.page v)) (ok_takes (decimal d v)))

next_takes : (s : StoreView) (d : DraftView) (k : ℕ) (vs : List Datum) → Takes (λ n. next_shown s d n k vs)
next_takes s d k [] = ok_takes (spoiled d)
next_takes s d k (v ∷ vs) = conversion_takes s d k v

converted_takes : (s : StoreView) (d : DraftView) (text : List ℕ) (vs : List Datum) → Takes (λ n. converted s d n text vs)
converted_takes s d [] vs = ok_takes (spoiled d)
converted_takes s d (k ∷ rest) vs =
    cond_takes (takes_value k) (λ n. next_shown s d n k vs) (λ n. cond (k == 37) (Ok (and_write d (codes "%"), n)) (Ok (spoiled d, n))) (next_takes s d k vs)
    (cond_takes (k == 37) (λ n. Ok (and_write d (codes "%"), n)) (λ n. Ok (spoiled d, n)) (ok_takes _) (ok_takes _))

filled_by_takes : (later : DraftView → ℕ → List Datum → List ℕ → Looked DraftView) → ((d : DraftView) (vs : List Datum) (text : List ℕ) → Takes (λ n. later d n vs text))
    → (s : StoreView) (d : DraftView) (vs : List Datum) (text : List ℕ) (o : Option (List ℕ × List ℕ)) → Takes (λ n. filled_by later s d n vs text o)
filled_by_takes later laters s d vs text None = ok_takes _
filled_by_takes later laters s d vs text (Some p) =
    followed (λ n. converted s (and_write d p.0) n p.1 vs) (λ r. percent.and_then r (λ e m. later e m (values_after p.1 vs) (drop 1 p.1))) (λ kind. refl)
    (converted_takes s (and_write d p.0) p.1 vs) (λ e. laters e (values_after p.1 vs) (drop 1 p.1))

filled_takes : (most : ℕ) (s : StoreView) (d : DraftView) (vs : List Datum) (text : List ℕ) → Takes (λ n. filled most s d n vs text)
unfolding filled
filled_takes zero s d vs text = ok_takes _
filled_takes (suc most) s d vs text = filled_by_takes (filled most s) (filled_takes most s) s d vs text (partition (codes "%") text)

steps_take : (r : Result (List ℕ) EvalFault) → Takes (λ n. with_steps n r)
steps_take (Ok text) = ok_takes text
steps_take (Err kind) = err_takes kind

draft_takes : (r : ℕ → Looked DraftView) → Takes r → Takes (λ n. text_by (r n))
draft_takes r t = followed r text_by (λ kind. refl) t (λ d. steps_take (finished_draft d))

pub percent_takes : (s : StoreView) (format : List ℕ) (v : Datum) → Takes (λ n. percent_of s n format v)
percent_takes s format (tuple xs) = draft_takes (λ n. filled (length format) s blank n (list_of xs) format) (filled_takes (length format) s blank (list_of xs) format)
percent_takes s format none = draft_takes (λ n. filled (length format) s blank n (none ∷ []) format) (filled_takes (length format) s blank (none ∷ []) format)
percent_takes s format (boolean b) = draft_takes (λ n. filled (length format) s blank n (boolean b ∷ []) format) (filled_takes (length format) s blank (boolean b ∷ []) format)
percent_takes s format (int i) = draft_takes (λ n. filled (length format) s blank n (int i ∷ []) format) (filled_takes (length format) s blank (int i ∷ []) format)
percent_takes s format (string t) = draft_takes (λ n. filled (length format) s blank n (string t ∷ []) format) (filled_takes (length format) s blank (string t ∷ []) format)
percent_takes s format (range a b c) = draft_takes (λ n. filled (length format) s blank n (range a b c ∷ []) format) (filled_takes (length format) s blank (range a b c ∷ []) format)
percent_takes s format (cell a i) = draft_takes (λ n. filled (length format) s blank n (cell a i ∷ []) format) (filled_takes (length format) s blank (cell a i ∷ []) format)
percent_takes s format (function a i t ds) = draft_takes (λ n. filled (length format) s blank n (function a i t ds ∷ []) format) (filled_takes (length format) s blank (function a i t ds ∷ []) format)
percent_takes s format (built_in t) = draft_takes (λ n. filled (length format) s blank n (built_in t ∷ []) format) (filled_takes (length format) s blank (built_in t ∷ []) format)
percent_takes s format (rule_function g) = draft_takes (λ n. filled (length format) s blank n (rule_function g ∷ []) format) (filled_takes (length format) s blank (rule_function g ∷ []) format)
percent_takes s format (attribute a) = draft_takes (λ n. filled (length format) s blank n (attribute a ∷ []) format) (filled_takes (length format) s blank (attribute a ∷ []) format)

field_takes : (s : StoreView) (d : DraftView) (o : Option Datum) → Takes (λ n. field_shown s d n o)
field_takes s d None = ok_takes (spoiled d)
field_takes s d (Some v) = onto_takes d.malformed (λ n. text_shown s d.page n v) (text_shown_takes s d.page v)

made_takes : (s : StoreView) (all : List Datum) (named : List (List ℕ × Datum)) (d : DraftView) (next : List Datum) (m : Numbering) (ps : List Piece) → Takes (λ n. made s all named d n next m ps)
unfolding made
made_takes s all named d next m [] = ok_takes (unmixed m d)
made_takes s all named d next m (byte b ∷ ps) = made_takes s all named (and_write d (b ∷ [])) next m ps
made_takes s all named d next m (lone ∷ ps) = made_takes s all named (spoiled d) next m ps
made_takes s all named d next m (field name ∷ ps) =
    followed (λ n. field_shown s d n (argument all named next name)) (λ r. percent.and_then r (λ e k. made s all named e k (next_after next name) (numbering_after m name) ps)) (λ kind. refl)
    (field_takes s d (argument all named next name)) (λ e. made_takes s all named e (next_after next name) (numbering_after m name) ps)

pub formatted_takes : (s : StoreView) (format : List ℕ) (all : List Datum) (named : List (List ℕ × Datum)) → Takes (λ n. formatted s n format all named)
unfolding formatted
formatted_takes s format all named = draft_takes (λ n. made s all named blank n all no_fields (pieces format)) (made_takes s all named blank all no_fields (pieces format))
