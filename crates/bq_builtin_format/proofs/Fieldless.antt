-- Formats in words, and formats without fields.
use Rattle.std.proofs.Common.{◌≡◌, ◌≢◌, ◌+◌, ◌≤◌, ◌<◌, ℕ, zero, suc, Bool, true, false, List, [], ◌∷◌, ◌++◌, Option, Some, None, Ok, length, take, drop, get_or, refl, sym, ap, subst, ◌∙◌, inl, inr, arith, length-take, length-append, append_assoc, append-nil, cond}
use native.Mathlib.Numerals.{one-add}
use Rattle.std.proofs.lemmas.Bool.{cases_Bool, eqb-true}
use Rattle.std.proofs.lemmas.Bool.Decides.{nat_tests}
use Rattle.std.proofs.lemmas.List.{get_or-take, take-append-drop}
use Rattle.std.proofs.lemmas.List.Sums.{prefix_len_passes, prefix_len-le-length}
use Rattle.std.specs.Prelude.{◌==◌, nat_le}
use Rattle.std.specs.List.{All, prefix_len}
use Rattle.bq_value.specs.Cells.{StoreView}
use Rattle.bq_value.specs.Datum.{Datum}
use Rattle.bq_value_text.specs.Page.{written, max_text}
use Rattle.bq_builtin_format.specs.Percent.{DraftView, and_write, blank, text_by}
use Rattle.bq_builtin_format.specs.Piece.{Piece, byte, field, lone, IsFieldText, IsCutInto, nothing, plain, doubled_opening, doubled_closing, in_braces, HasNoLone, bytes, cut, doubled, field_of, first_piece, is_brace, is_inside, opened, pieces, with_doubled_braces}
use Rattle.bq_builtin_format.specs.Argument.{no_fields}
use Rattle.bq_builtin_format.specs.Method.{formatted, made}
use Rattle.bq_builtin_format.proofs.Cutting.{first_shorter, pieces_none, pieces_plain, pieces_brace, pieces_field}
use Rattle.bq_builtin_format.proofs.Cases.{closed, piece_by}

-- ---- from the words to the pieces

no_brace : (b : ℕ) → (b ≢ 123) → (b ≢ 125) → is_brace b ≡ false
no_brace b p q = grind (arith, nat_tests, p, q)

inside_len : (name rest : List ℕ) → All (λ c. c ≢ 125) name → prefix_len is_inside (name ++ 125 ∷ rest) ≡ length name
inside_len [] rest h = refl
inside_len (c ∷ cs) rest h =
    let other : c ≢ 125 = h 0 0 (omega arith) in
    let unlike : (c == 125) ≡ false = grind (arith, nat_tests, other) in
    let again = inside_len cs rest (λ k d l. h (suc k) d (omega (arith, l))) in
    rw unlike (omega (arith, again))

take_front : (name rest : List ℕ) → take (length name) (name ++ rest) ≡ name
take_front [] rest = refl
take_front (c ∷ cs) rest = ap (λ (t : List ℕ). c ∷ t) (take_front cs rest)

drop_front : (name rest : List ℕ) → drop (length name) (name ++ rest) ≡ rest
drop_front [] rest = refl
drop_front (c ∷ cs) rest = drop_front cs rest

opened_name : (name rest : List ℕ) → IsFieldText name → opened (name ++ 125 ∷ rest) ≡ Some (name, rest)
opened_name [] rest h = refl
opened_name (c ∷ cs) rest (first, inside) =
    let unlike : (c == 123) ≡ false = grind (arith, nat_tests, first) in
    let n = inside_len (c ∷ cs) rest inside in
    rw (unlike, n, drop_front (c ∷ cs) (125 ∷ rest), n, take_front (c ∷ cs) (125 ∷ rest)) refl

field_name : (b : ℕ) (text name rest : List ℕ) → b ≡ 123 → text ≡ name ++ 125 ∷ rest → IsFieldText name → field_of (b ∷ text) ≡ Some (name, rest)
unfolding field_of
field_name b text name rest e whole h = rw (e, whole) (opened_name name rest h)

no_field_twice : (b c : ℕ) (rest : List ℕ) → c ≡ b → field_of (b ∷ c ∷ rest) ≡ None
unfolding field_of
no_field_twice b c rest e = rw e (elim (cases_Bool (b == 123)) [ inl y ↦ rw y refl | inr n ↦ rw n refl ])

same_twice : (b : ℕ) → (b == b) ≡ true
same_twice b = grind (arith, nat_tests)

pieces_doubled : (b c : ℕ) (rest : List ℕ) → c ≡ b → is_brace b ≡ true → pieces (b ∷ c ∷ rest) ≡ byte b ∷ pieces rest
pieces_doubled b c rest e is =
    let one : doubled b (c ∷ rest) ≡ (byte b, rest) = rw (e, same_twice b) refl in
    pieces_brace b (c ∷ rest) (no_field_twice b c rest e) is ∙ ap (λ (p : Piece × List ℕ). p.0 ∷ pieces (p.1)) one

pub only_pieces : (format : List ℕ) (ps : List Piece) → IsCutInto format ps → (pieces format ≡ ps) × HasNoLone ps
only_pieces _ _ nothing = (pieces_none, tt)
only_pieces _ _ (plain b rest ps p q cut) = let again = only_pieces rest ps cut in (pieces_plain b rest (no_brace b p q) ∙ ap (λ (l : List Piece). byte b ∷ l) (again.0), again.1)
only_pieces _ _ (doubled_opening b c rest ps e f cut) =
    let again = only_pieces rest ps cut in (pieces_doubled b c rest (f ∙ sym e) (rw e refl) ∙ ap (λ (l : List Piece). byte b ∷ l) (again.0), again.1)
only_pieces _ _ (doubled_closing b c rest ps e f cut) =
    let again = only_pieces rest ps cut in (pieces_doubled b c rest (f ∙ sym e) (rw e refl) ∙ ap (λ (l : List Piece). byte b ∷ l) (again.0), again.1)
only_pieces _ _ (in_braces b text name rest ps e whole h cut) =
    let again = only_pieces rest ps cut in (pieces_field (b ∷ text) name rest (field_name b text name rest e whole h) ∙ ap (λ (l : List Piece). field name ∷ l) (again.0), again.1)

-- ---- from the pieces to the words

passes : (p : ℕ → Bool) (text : List ℕ) → All (λ b. p b ≡ true) (take (prefix_len p text) text)
passes p text k d l =
    let len : length (take (prefix_len p text) text) ≡ prefix_len p text = length-take (prefix_len p text) text ∙ omega (arith, prefix_len-le-length p text) in
    let within : k < prefix_len p text = omega (arith, len, l) in
    ap p (get_or-take (prefix_len p text) text k d within) ∙ prefix_len_passes p text k d within

abbrev Stops : (ℕ → Bool) → List ℕ → Type 0
Stops p [] = Unit {0}
Stops p (b ∷ bs) = p b ≡ false

after_run : (p : ℕ → Bool) (text : List ℕ) → Stops p (drop (prefix_len p text) text)
after_run p [] = tt
after_run p (b ∷ bs) = elim (cases_Bool (p b)) [ inl y ↦ rw (y, one-add) (after_run p bs) | inr n ↦ rw n n ]

closing : (b : ℕ) → is_inside b ≡ false → b ≡ 125
closing b e = elim (cases_Bool (b == 125)) [ inl y ↦ eqb-true b 125 y | inr n ↦ absurd (cc (rw n at e)) ]

inside : (b : ℕ) → is_inside b ≡ true → b ≢ 125
inside b e is = absurd (cc (rw is at e))

closed_inv : (front left name after : List ℕ) → closed front left ≡ Some (name, after) → (x : ℕ) × (left ≡ x ∷ after) × (front ≡ name)
closed_inv front [] name after e = absurd (cc)
closed_inv front (x ∷ rest) name after e =
    let pair : (front, rest) ≡ (name, after) = cc in
    (x, ap (λ (p : List ℕ × List ℕ). x ∷ p.1) pair, ap (λ (p : List ℕ × List ℕ). p.0) pair)

field_text : (b : ℕ) (bs name after : List ℕ) → (b == 123) ≡ false → b ∷ bs ≡ name ++ after → All (λ c. is_inside c ≡ true) name → IsFieldText name
field_text b bs [] after n e h = tt
field_text b bs (c ∷ cs) after n e h =
    let same : b ≡ c = cc in
    let other : b ≢ 123 = grind (arith, nat_tests, n) in
    (subst (λ (x : ℕ). x ≢ 123) same other, λ k d l. inside (get_or (c ∷ cs) k d) (h k d l))

opened_false : (b : ℕ) (bs name after : List ℕ) → (b == 123) ≡ false → closed (take (prefix_len is_inside (b ∷ bs)) (b ∷ bs)) (drop (prefix_len is_inside (b ∷ bs)) (b ∷ bs)) ≡ Some (name, after) → (b ∷ bs ≡ name ++ 125 ∷ after) × IsFieldText name
opened_false b bs name after other e =
    let k : ℕ = prefix_len is_inside (b ∷ bs) in
    let found = closed_inv (take k (b ∷ bs)) (drop k (b ∷ bs)) name after e in
    let stops : is_inside (found.0) ≡ false = subst (Stops is_inside) (found.1) (after_run is_inside (b ∷ bs)) in
    let whole : b ∷ bs ≡ name ++ 125 ∷ after =
    sym (take-append-drop k (b ∷ bs)) ∙ (ap (λ (t : List ℕ). t ++ drop k (b ∷ bs)) (found.2) ∙ (ap (λ (t : List ℕ). name ++ t) (found.1) ∙ ap (λ (x : ℕ). name ++ x ∷ after) (closing (found.0) stops))) in
    (whole, field_text b bs name (125 ∷ after) other whole (subst (All (λ c. is_inside c ≡ true)) (found.2) (passes is_inside (b ∷ bs))))

opened_inv : (text name after : List ℕ) → opened text ≡ Some (name, after) → (text ≡ name ++ 125 ∷ after) × IsFieldText name
opened_inv [] name after e = absurd (cc)
opened_inv (b ∷ bs) name after e = elim (cases_Bool (b == 123)) [ inl y ↦ absurd (cc (rw y at e)) | inr n ↦ opened_false b bs name after n (rw n at e) ]

field_inv : (b : ℕ) (bs name after : List ℕ) → field_of (b ∷ bs) ≡ Some (name, after) → (b ≡ 123) × (bs ≡ name ++ 125 ∷ after) × IsFieldText name
unfolding field_of
field_inv b bs name after e =
    elim (cases_Bool (b == 123)) [ inl y ↦ let it = opened_inv bs name after (rw y at e) in (eqb-true b 123 y, it.0, it.1) | inr n ↦ absurd (cc (rw n at e)) ]

module _ (most : ℕ) (again : (t : List ℕ) → length t ≤ most → HasNoLone (cut most t) → IsCutInto t (cut most t)) where
  brace_found : (b c : ℕ) (cs : List ℕ) → is_brace b ≡ true → c ≡ b → length cs ≤ most → HasNoLone (cut most cs) → IsCutInto (b ∷ c ∷ cs) (byte b ∷ cut most cs)
  brace_found b c cs is e l h =
      elim (cases_Bool (b == 123)) [
        | inl y ↦ let one : b ≡ 123 = eqb-true b 123 y in doubled_opening b c cs (cut most cs) one (e ∙ one) (again cs l h)
        | inr n ↦ let two : b ≡ 125 = grind (arith, nat_tests, n, is) in doubled_closing b c cs (cut most cs) two (e ∙ two) (again cs l h)
      ]

  doubled_found : (b c : ℕ) (cs : List ℕ) (so : Bool) → (c == b) ≡ so → is_brace b ≡ true → suc (length cs) ≤ most → let p : Piece × List ℕ = cond {A = Piece × List ℕ} so (byte b, cs) (lone, cond (b == 123) [] (c ∷ cs)) in HasNoLone (p.0 ∷ cut most (p.1)) → IsCutInto (b ∷ c ∷ cs) (p.0 ∷ cut most (p.1))
  doubled_found b c cs true e is l h = brace_found b c cs is (eqb-true c b e) (omega (arith, l)) h
  doubled_found b c cs false e is l h = absurd h

  rest_found : (b : ℕ) (bs : List ℕ) (so : Bool) → is_brace b ≡ so → length bs ≤ most → let p : Piece × List ℕ = cond {A = Piece × List ℕ} so (doubled b bs) (byte b, bs) in HasNoLone (p.0 ∷ cut most (p.1)) → IsCutInto (b ∷ bs) (p.0 ∷ cut most (p.1))
  rest_found b bs false e l h =
      let p : b ≢ 123 = grind (arith, nat_tests, e) in
      let q : b ≢ 125 = grind (arith, nat_tests, e) in
      plain b bs (cut most bs) p q (again bs l h)
  rest_found b [] true e l h = absurd h
  rest_found b (c ∷ cs) true e l h = doubled_found b c cs (c == b) refl e l h

  piece_found : (b : ℕ) (bs : List ℕ) (f : Option (List ℕ × List ℕ)) → field_of (b ∷ bs) ≡ f → length bs ≤ most → length ((piece_by b bs f).1) ≤ length bs → HasNoLone ((piece_by b bs f).0 ∷ cut most ((piece_by b bs f).1)) → IsCutInto (b ∷ bs) ((piece_by b bs f).0 ∷ cut most ((piece_by b bs f).1))
  piece_found b bs None e l less h = rest_found b bs (is_brace b) refl l h
  piece_found b bs (Some (name, after)) e l less h =
      let it = field_inv b bs name after e in
      in_braces b bs name after (cut most after) (it.0) (it.1) (it.2) (again after (omega (arith, l, less)) h)

cut_found : (most : ℕ) (text : List ℕ) → length text ≤ most → HasNoLone (cut most text) → IsCutInto text (cut most text)
unfolding cut first_piece
cut_found most [] l h = nothing
cut_found zero (b ∷ bs) l h = absurd (omega (arith, l))
cut_found (suc most) (b ∷ bs) l h = piece_found most (cut_found most) b bs (field_of (b ∷ bs)) refl (omega (arith, l)) (first_shorter b bs) h

pub found_pieces : (format : List ℕ) → HasNoLone (pieces format) → IsCutInto format (pieces format)
unfolding pieces
found_pieces format h = cut_found (length format) format (omega arith) h

-- ---- without fields

cut_doubled : (text : List ℕ) → IsCutInto (with_doubled_braces text) (bytes text)
cut_doubled [] = nothing
cut_doubled (b ∷ bs) =
    elim (cases_Bool (is_brace b)) [
      | inl is ↦
          rw is
          (elim (cases_Bool (b == 123)) [
            | inl y ↦ let one : b ≡ 123 = eqb-true b 123 y in doubled_opening b b (with_doubled_braces bs) (bytes bs) one one (cut_doubled bs)
            | inr n ↦ let two : b ≡ 125 = grind (arith, nat_tests, n, is) in doubled_closing b b (with_doubled_braces bs) (bytes bs) two two (cut_doubled bs)
          ])
      | inr other ↦
          let p : b ≢ 123 = grind (arith, nat_tests, other) in
          let q : b ≢ 125 = grind (arith, nat_tests, other) in
          rw other (plain b (with_doubled_braces bs) (bytes bs) p q (cut_doubled bs))
    ]

first_same : (b c : ℕ) (ps qs : List Piece) → byte b ∷ ps ≡ byte c ∷ qs → b ≡ c
first_same b c ps qs e = cc

rest_same : (b c : ℕ) (ps qs : List Piece) → byte b ∷ ps ≡ byte c ∷ qs → ps ≡ qs
rest_same b c ps qs e = cc

doubled_only : (format : List ℕ) (ps : List Piece) → IsCutInto format ps → (text : List ℕ) → ps ≡ bytes text → format ≡ with_doubled_braces text
doubled_only _ _ nothing [] e = refl
doubled_only _ _ nothing (t ∷ ts) e = absurd (cc)
doubled_only _ _ (plain b rest ps p q cut) [] e = absurd (cc)
doubled_only _ _ (plain b rest ps p q cut) (t ∷ ts) e =
    let same : b ≡ t = first_same b t ps (bytes ts) e in
    let again = doubled_only rest ps cut ts (rest_same b t ps (bytes ts) e) in
    rw (← same) (rw (no_brace b p q) (ap (λ (l : List ℕ). b ∷ l) again))
doubled_only _ _ (doubled_opening b c rest ps p q cut) [] e = absurd (cc)
doubled_only _ _ (doubled_opening b c rest ps p q cut) (t ∷ ts) e =
    let same : b ≡ t = first_same b t ps (bytes ts) e in
    let again = doubled_only rest ps cut ts (rest_same b t ps (bytes ts) e) in
    rw (← same, q, p) (ap (λ (l : List ℕ). 123 ∷ 123 ∷ l) again)
doubled_only _ _ (doubled_closing b c rest ps p q cut) [] e = absurd (cc)
doubled_only _ _ (doubled_closing b c rest ps p q cut) (t ∷ ts) e =
    let same : b ≡ t = first_same b t ps (bytes ts) e in
    let again = doubled_only rest ps cut ts (rest_same b t ps (bytes ts) e) in
    rw (← same, q, p) (ap (λ (l : List ℕ). 125 ∷ 125 ∷ l) again)
doubled_only _ _ (in_braces b text name rest ps p whole h cut) [] e = absurd (cc)
doubled_only _ _ (in_braces b text name rest ps p whole h cut) (t ∷ ts) e = absurd (cc)

pub fieldless : (text format : List ℕ) → IsCutInto format (bytes text) → format ≡ with_doubled_braces text
fieldless text format cut = doubled_only format (bytes text) cut text refl

pub fieldless_cut : (text format : List ℕ) → format ≡ with_doubled_braces text → IsCutInto format (bytes text)
fieldless_cut text format e = subst (λ (f : List ℕ). IsCutInto f (bytes text)) (sym e) (cut_doubled text)

abbrev so_far : List ℕ → DraftView
so_far text = record { page = Some text; malformed = false }

one_more : (before : List ℕ) (b : ℕ) → length before + 1 ≤ max_text → and_write (so_far before) (b ∷ []) ≡ so_far (before ++ b ∷ [])
unfolding written
one_more before b l = let fits : nat_le (length before + 1) max_text ≡ true = grind (arith, nat_tests, l) in rw fits refl

made_bytes : (s : StoreView) (all next : List Datum) (named : List (List ℕ × Datum)) (n : ℕ) (text before : List ℕ) → length before + length text ≤ max_text → made s all named (so_far before) n next no_fields (bytes text) ≡ Ok (so_far (before ++ text), n)
unfolding made
made_bytes s all next named n [] before l = ap (λ (t : List ℕ). Ok (so_far t, n)) (sym (append-nil before))
made_bytes s all next named n (b ∷ bs) before l =
    ap (λ (d : DraftView). made s all named d n next no_fields (bytes bs)) (one_more before b (omega (arith, l)))
    ∙ (made_bytes s all next named n bs (before ++ b ∷ []) (omega (arith, l, length-append before (b ∷ []))) ∙ ap (λ (t : List ℕ). Ok (so_far t, n)) (append_assoc before (b ∷ []) bs))

pub fieldless_text : (s : StoreView) (n : ℕ) (text : List ℕ) (values : List Datum) (named : List (List ℕ × Datum)) → length text ≤ max_text → formatted s n (with_doubled_braces text) values named ≡ Ok (text, n)
unfolding formatted
fieldless_text s n text values named l =
    let cut = only_pieces (with_doubled_braces text) (bytes text) (cut_doubled text) in
    ap (λ (ps : List Piece). text_by (made s values named blank n values no_fields ps)) (cut.0) ∙ ap text_by (made_bytes s values values named n text [] (omega (arith, l)))
