-- What is written of a value has the form of its text.
use Rattle.std.proofs.Common.{◌≡◌, ◌∙◌, ℕ, zero, suc, ℤ, pos, Bool, true, false, cond, List, [], ◌∷◌, ◌++◌, Option, Some, None, Ok, Err, refl, sym, ap, subst, append_assoc, append-nil}
use Rattle.std.specs.Prelude.{codes}
use Rattle.std.specs.Ordering.{int_eq}
use Rattle.std.specs.Fmt.{signed_decimal}
use Rattle.bq_source.specs.StringLiteral.{quoted}
use Rattle.bq_predeclared.specs.RuleFunctions.{rule_function_name}
use Rattle.bq_predeclared.specs.AttributeType.{type_name}
use Rattle.bq_value.specs.Datum.{Datum, none, boolean, int, string, tuple, range, cell, function, built_in, built_in_name, rule_function, attribute, list_of}
use Rattle.bq_value.specs.Contents.{Contents, items, pairs, rule}
use Rattle.bq_value.specs.Cells.{StoreView, content_at}
use Rattle.bq_value.specs.Looked.{Looked, max_levels}
use Rattle.bq_value_text.specs.Laws.{joined_on, joined, tuple_close, step_text, HasTexts, AllHaveText, PairHasText, PairsHaveText, ContentHasText, IsTextOf, HasText}
use Rattle.bq_value_text.specs.Page.{PageView, written}
use Rattle.bq_value_text.specs.Leaf.{range_written, named_written, leaf_written}
use Rattle.bq_value_text.specs.Shown.{Shows, and_then, all_shown, pairs_shown, closed, list_shown, dict_shown, cell_shown, tuple_end, parts_shown, shown_at, repr_shown, finished_by, repr_of}
use Rattle.bq_value_text.proofs.Pages.{written_more}
use Rattle.bq_value_text.proofs.KeyTexts.{page_in, two_end, text_in, written_is}

-- where a walk answers, a text of which this holds is written
abbrev Writes : (List ℕ → Type 0) → PageView → Looked PageView → Type 0
Writes is page r = (p : PageView) (m : ℕ) → r ≡ Ok (p, m) → (t : List ℕ) × (is t × (p ≡ written page t))

-- what is written after some pages
row : (page : PageView) (a b c : List ℕ) → written (written (written page a) b) c ≡ written page (a ++ (b ++ c))
row page a b c = written_more (written page a) b c ∙ written_more page a (b ++ c)

-- the texts of what comes after the first value, up to the closing bracket
abbrev Ends : {A : Type 0} → (A → List (List ℕ) → Type 0) → List ℕ → PageView → A → Looked PageView → Type 0
Ends all close page xs r = (p : PageView) (m : ℕ) → r ≡ Ok (p, m) → (ts : List (List ℕ)) × (all xs ts × (p ≡ written page (joined_on ts ++ close)))

-- a page on which nothing more is written stays, if it was written at all
abbrev IsWritten : PageView → Type 0
IsWritten page = written page [] ≡ page

is_written : (page : PageView) (a : List ℕ) → IsWritten (written page a)
is_written page a = written_more page a [] ∙ ap (written page) (append-nil a)

-- a step that isn't 1 is written
step_is : (b : Bool) (page : PageView) (step : ℤ) (close : List ℕ) → written (cond b page (written (written page (codes ", ")) (signed_decimal step))) close ≡ written page (cond b [] (codes ", " ++ signed_decimal step) ++ close)
step_is true page step close = refl
step_is false page step close = row page (codes ", ") (signed_decimal step) close

range_is : (page : PageView) (a b c : ℤ) → range_written page a b c ≡ written page (codes "range(" ++ (signed_decimal a ++ (codes ", " ++ (signed_decimal b ++ (step_text c ++ codes ")")))))
unfolding range_written
range_is page a b c =
    let one = written page (codes "range(") in
    let two = written one (signed_decimal a) in
    let three = written two (codes ", ") in
    let end = step_text c ++ codes ")" in
    step_is (int_eq c (pos 1)) (written three (signed_decimal b)) c (codes ")")
    ∙ (written_more three (signed_decimal b) end
    ∙ (written_more two (codes ", ") (signed_decimal b ++ end)
    ∙ (written_more one (signed_decimal a) (codes ", " ++ (signed_decimal b ++ end)) ∙ written_more page (codes "range(") (signed_decimal a ++ (codes ", " ++ (signed_decimal b ++ end))))))

module _ (has : HasTexts) (show : Shows) (h : (page : PageView) → IsWritten page → (n : ℕ) (v : Datum) → Writes (has v) page (show page n v)) where
  next_by : (close : List ℕ) (x : Datum) (xs : List Datum) (page : PageView) (r : Looked PageView) → Writes (has x) (written page (codes ", ")) r
      → ((q : PageView) (k : ℕ) → Ends (AllHaveText has) close q xs (closed close (all_shown show (codes ", ") q k xs)))
      → Ends (AllHaveText has) close page (x ∷ xs) (closed close (and_then r (λ q k. all_shown show (codes ", ") q k xs)))
  next_by close x xs page (Ok q) first rest p m e =
      let a = first q.0 q.1 refl in
      let b = rest q.0 q.1 p m e in (
        a.0 ∷ b.0,
        (
          (a.1.0, b.1.0),
          b.1.1 ∙ (ap (λ (z : PageView). written z (joined_on b.0 ++ close)) a.1.1
              ∙ (row page (codes ", ") a.0 (joined_on b.0 ++ close) ∙ ap (λ (u : List ℕ). written page (codes ", " ++ u)) (sym (append_assoc a.0 (joined_on b.0) close)))),
        ),
      )
  next_by close x xs page (Err kind) first rest p m e = absurd (cc)

  rest_written : (close : List ℕ) (xs : List Datum) (page : PageView) (n : ℕ) → Ends (AllHaveText has) close page xs (closed close (all_shown show (codes ", ") page n xs))
  rest_written close [] page n p m e = ([], (tt, sym (ap page_in e)))
  rest_written close (x ∷ xs) page n p m e =
      next_by close x xs page (show (written page (codes ", ")) n x) (h (written page (codes ", ")) (is_written page (codes ", ")) n x) (λ q k. rest_written close xs q k) p m e

  first_by : (begin close : List ℕ) (x : Datum) (xs : List Datum) (page : PageView) (r : Looked PageView) → Writes (has x) (written (written page begin) []) r
      → (p : PageView) (m : ℕ) → closed close (and_then r (λ q k. all_shown show (codes ", ") q k xs)) ≡ Ok (p, m)
      → (ts : List (List ℕ)) × (AllHaveText has (x ∷ xs) ts × (p ≡ written page (begin ++ (joined ts ++ close))))
  first_by begin close x xs page (Ok q) first p m e =
      let a = first q.0 q.1 refl in
      let b = rest_written close xs q.0 q.1 p m e in (
        a.0 ∷ b.0,
        (
          (a.1.0, b.1.0),
          b.1.1 ∙ (ap (λ (z : PageView). written z (joined_on b.0 ++ close)) a.1.1
              ∙ (row (written page begin) [] a.0 (joined_on b.0 ++ close)
              ∙ (written_more page begin (a.0 ++ (joined_on b.0 ++ close)) ∙ ap (λ (u : List ℕ). written page (begin ++ u)) (sym (append_assoc a.0 (joined_on b.0) close))))),
        ),
      )
  first_by begin close x xs page (Err kind) first p m e = absurd (cc)

  list_written : (begin close : List ℕ) (xs : List Datum) (page : PageView) (n : ℕ) (p : PageView) (m : ℕ) → list_shown show begin close page n xs ≡ Ok (p, m)
      → (ts : List (List ℕ)) × (AllHaveText has xs ts × (p ≡ written page (begin ++ (joined ts ++ close))))
  list_written begin close [] page n p m e = ([], (tt, sym (ap page_in e) ∙ written_more page begin close))
  list_written begin close (x ∷ xs) page n p m e = first_by begin close x xs page (show (written (written page begin) []) n x) (h (written (written page begin) []) (is_written (written page begin) []) n x) p m e

  -- one pair, written after these
  value_by : (p : Datum × Datum) (page : PageView) (key : List ℕ) (q : PageView) → has p.0 key → q ≡ written page key → (r : Looked PageView) → Writes (has p.1) (written q (codes ": ")) r → Writes (PairHasText has p) page r
  value_by p page key q is at r w z m e =
      let a = w z m e in
      (key ++ (codes ": " ++ a.0), ((key, (a.0, (is, (a.1.0, refl)))), a.1.1 ∙ (ap (λ (y : PageView). written (written y (codes ": ")) a.0) at ∙ row page key (codes ": ") a.0)))

  pair_by : (p : Datum × Datum) (page : PageView) (r : Looked PageView) → Writes (has p.0) page r → Writes (PairHasText has p) page (and_then r (λ q k. show (written q (codes ": ")) k p.1))
  pair_by p page (Ok q) first z m e =
      let a = first q.0 q.1 refl in
      value_by p page a.0 q.0 a.1.0 a.1.1 (show (written q.0 (codes ": ")) q.1 p.1) (h (written q.0 (codes ": ")) (is_written q.0 (codes ": ")) q.1 p.1) z m e
  pair_by p page (Err kind) first z m e = absurd (cc)

  in_turn : (r : Looked PageView) (f g : PageView → ℕ → Looked PageView) → and_then r (λ q k. and_then (f q k) g) ≡ and_then (and_then r f) g
  in_turn (Ok q) f g = refl
  in_turn (Err kind) f g = refl

  next_pair : (close : List ℕ) (x : Datum × Datum) (xs : List (Datum × Datum)) (page : PageView) (r : Looked PageView) → Writes (PairHasText has x) (written page (codes ", ")) r
      → ((q : PageView) (k : ℕ) → Ends (PairsHaveText has) close q xs (closed close (pairs_shown show (codes ", ") q k xs)))
      → Ends (PairsHaveText has) close page (x ∷ xs) (closed close (and_then r (λ q k. pairs_shown show (codes ", ") q k xs)))
  next_pair close x xs page (Ok q) first rest p m e =
      let a = first q.0 q.1 refl in
      let b = rest q.0 q.1 p m e in (
        a.0 ∷ b.0,
        (
          (a.1.0, b.1.0),
          b.1.1 ∙ (ap (λ (z : PageView). written z (joined_on b.0 ++ close)) a.1.1
              ∙ (row page (codes ", ") a.0 (joined_on b.0 ++ close) ∙ ap (λ (u : List ℕ). written page (codes ", " ++ u)) (sym (append_assoc a.0 (joined_on b.0) close)))),
        ),
      )
  next_pair close x xs page (Err kind) first rest p m e = absurd (cc)

  rest_pairs : (close : List ℕ) (xs : List (Datum × Datum)) (page : PageView) (n : ℕ) → Ends (PairsHaveText has) close page xs (closed close (pairs_shown show (codes ", ") page n xs))
  rest_pairs close [] page n p m e = ([], (tt, sym (ap page_in e)))
  rest_pairs close (x ∷ xs) page n p m e =
      let here = written page (codes ", ") in
      let f : PageView → ℕ → Looked PageView = λ q k. show (written q (codes ": ")) k x.1 in
      let g : PageView → ℕ → Looked PageView = λ q k. pairs_shown show (codes ", ") q k xs in
      next_pair close x xs page (and_then (show here n x.0) f) (pair_by x here (show here n x.0) (h here (is_written page (codes ", ")) n x.0)) (λ q k. rest_pairs close xs q k) p m
      (ap (λ (r : Looked PageView). closed close r) (sym (in_turn (show here n x.0) f g)) ∙ e)

  first_pair : (begin close : List ℕ) (x : Datum × Datum) (xs : List (Datum × Datum)) (page : PageView) (r : Looked PageView) → Writes (PairHasText has x) (written (written page begin) []) r
      → (p : PageView) (m : ℕ) → closed close (and_then r (λ q k. pairs_shown show (codes ", ") q k xs)) ≡ Ok (p, m)
      → (ts : List (List ℕ)) × (PairsHaveText has (x ∷ xs) ts × (p ≡ written page (begin ++ (joined ts ++ close))))
  first_pair begin close x xs page (Ok q) first p m e =
      let a = first q.0 q.1 refl in
      let b = rest_pairs close xs q.0 q.1 p m e in (
        a.0 ∷ b.0,
        (
          (a.1.0, b.1.0),
          b.1.1 ∙ (ap (λ (z : PageView). written z (joined_on b.0 ++ close)) a.1.1
              ∙ (row (written page begin) [] a.0 (joined_on b.0 ++ close)
              ∙ (written_more page begin (a.0 ++ (joined_on b.0 ++ close)) ∙ ap (λ (u : List ℕ). written page (begin ++ u)) (sym (append_assoc a.0 (joined_on b.0) close))))),
        ),
      )
  first_pair begin close x xs page (Err kind) first p m e = absurd (cc)

  dict_written : (ps : List (Datum × Datum)) (page : PageView) (n : ℕ) (p : PageView) (m : ℕ) → dict_shown show page n ps ≡ Ok (p, m)
      → (ts : List (List ℕ)) × (PairsHaveText has ps ts × (p ≡ written page (codes "{" ++ (joined ts ++ codes "}"))))
  dict_written [] page n p m e = ([], (tt, sym (ap page_in e) ∙ written_more page (codes "{") (codes "}")))
  dict_written (x ∷ xs) page n p m e =
      let here = written (written page (codes "{")) [] in
      let f : PageView → ℕ → Looked PageView = λ q k. show (written q (codes ": ")) k x.1 in
      let g : PageView → ℕ → Looked PageView = λ q k. pairs_shown show (codes ", ") q k xs in
      first_pair (codes "{") (codes "}") x xs page (and_then (show here n x.0) f) (pair_by x here (show here n x.0) (h here (is_written (written page (codes "{")) []) n x.0)) p m
      (ap (λ (r : Looked PageView). closed (codes "}") r) (sym (in_turn (show here n x.0) f g)) ∙ e)

  -- a text is as long in values as the tuple
  close_of : (xs : List Datum) (ts : List (List ℕ)) → AllHaveText has xs ts → tuple_end xs ≡ tuple_close ts
  close_of [] [] k = refl
  close_of (x ∷ []) (t ∷ []) k = refl
  close_of (x ∷ y ∷ xs) (t ∷ u ∷ ts) k = two_end x y xs
  close_of [] (t ∷ ts) k = absurd k
  close_of (x ∷ xs) [] k = absurd k
  close_of (x ∷ []) (t ∷ u ∷ ts) k = absurd k.1
  close_of (x ∷ y ∷ xs) (t ∷ []) k = absurd k.1

  cell_written : (c : Option Contents) (page : PageView) → IsWritten page → (n : ℕ) → Writes (ContentHasText has c) page (cell_shown show page n c)
  cell_written (Some (items xs)) page w n p m e =
      let a = list_written (codes "[") (codes "]") xs page n p m e in
      (codes "[" ++ (joined a.0 ++ codes "]"), ((a.0, (a.1.0, refl)), a.1.1))
  cell_written (Some (pairs ps)) page w n p m e =
      let a = dict_written ps page n p m e in
      (codes "{" ++ (joined a.0 ++ codes "}"), ((a.0, (a.1.0, refl)), a.1.1))
  cell_written (Some (rule c)) page w n p m e = (codes "<rule>", (refl, sym (ap page_in e)))
  cell_written None page w n p m e = ([], (refl, sym (ap page_in e) ∙ sym w))

  tuple_written : (xs : List Datum) (page : PageView) (n : ℕ)
      → Writes (λ t. (ts : List (List ℕ)) × (AllHaveText has xs ts × (t ≡ codes "(" ++ (joined ts ++ tuple_close ts)))) page (list_shown show (codes "(") (tuple_end xs) page n xs)
  tuple_written xs page n p m e =
      let a = list_written (codes "(") (tuple_end xs) xs page n p m e in
      (codes "(" ++ (joined a.0 ++ tuple_close a.0), ((a.0, (a.1.0, refl)), a.1.1 ∙ ap (λ (c : List ℕ). written page (codes "(" ++ (joined a.0 ++ c))) (close_of xs a.0 a.1.0)))

  form_written : (s : StoreView) (page : PageView) → IsWritten page → (n : ℕ) (v : Datum) → Writes (IsTextOf has s v) page (parts_shown show s page n v)
  unfolding leaf_written named_written
  form_written s page w n none p m e = (codes "None", (refl, sym (ap page_in e)))
  form_written s page w n (boolean true) p m e = (codes "True", (refl, sym (ap page_in e)))
  form_written s page w n (boolean false) p m e = (codes "False", (refl, sym (ap page_in e)))
  form_written s page w n (int i) p m e = (signed_decimal i, (refl, sym (ap page_in e)))
  form_written s page w n (string bytes) p m e = (quoted bytes, (refl, sym (ap page_in e)))
  form_written s page w n (tuple xs) p m e = tuple_written (list_of xs) page n p m e
  form_written s page w n (range a b c) p m e =
      (codes "range(" ++ (signed_decimal a ++ (codes ", " ++ (signed_decimal b ++ (step_text c ++ codes ")")))), (refl, sym (ap page_in e) ∙ range_is page a b c))
  form_written s page w n (cell home number) p m e = cell_written (content_at s home number) page w n p m e
  form_written s page w n (function home place name vs) p m e =
      (codes "<function " ++ (name ++ codes ">"), (refl, sym (ap page_in e) ∙ row page (codes "<function ") name (codes ">")))
  form_written s page w n (built_in f) p m e =
      (codes "<built-in function " ++ (built_in_name f ++ codes ">"), (refl, sym (ap page_in e) ∙ row page (codes "<built-in function ") (built_in_name f) (codes ">")))
  form_written s page w n (rule_function f) p m e =
      (codes "<built-in function " ++ (rule_function_name f ++ codes ">"), (refl, sym (ap page_in e) ∙ row page (codes "<built-in function ") (rule_function_name f) (codes ">")))
  form_written s page w n (attribute a) p m e =
      (codes "<attr." ++ (type_name a.kind ++ codes ">"), (refl, sym (ap page_in e) ∙ row page (codes "<attr.") (type_name a.kind) (codes ">")))

level_written : (l : ℕ) (s : StoreView) (page : PageView) → IsWritten page → (n : ℕ) (v : Datum) → Writes (HasText l s v) page (shown_at l s page n v)
level_written zero s page w zero v p m e = absurd (cc)
level_written zero s page w (suc n) v p m e = absurd (cc)
level_written (suc l) s page w zero v p m e = absurd (cc)
level_written (suc l) s page w (suc n) v p m e = form_written (HasText l s) (shown_at l s) (level_written l s) s page w n v p m e

empty_written : IsWritten (Some [])
unfolding written
empty_written = refl

finished_form : (is : List ℕ → Type 0) (r : Looked PageView) (t : List ℕ) (m : ℕ) → Writes is (Some []) r → finished_by r ≡ Ok (t, m) → is t
finished_form is (Ok (Some y, k)) t m w e =
    let a = w (Some y) k refl in
    subst is (sym (written_is a.0 y a.1.1) ∙ ap text_in e) a.1.0
finished_form is (Ok (None, k)) t m w e = absurd (cc)
finished_form is (Err kind) t m w e = absurd (cc)

pub repr_form : (s : StoreView) (n m : ℕ) (v : Datum) (t : List ℕ) → repr_of s n v ≡ Ok (t, m) → HasText max_levels s v t
unfolding repr_shown
repr_form s n m v t e = finished_form (HasText max_levels s v) (shown_at max_levels s (Some []) n v) t m (level_written max_levels s (Some []) empty_written n v) e
