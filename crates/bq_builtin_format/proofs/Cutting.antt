-- One piece of a format after another.
use Rattle.std.proofs.Common.{◌≡◌, ◌≢◌, ◌≤◌, ◌<◌, ℕ, zero, suc, Bool, true, false, List, [], ◌∷◌, ◌++◌, Option, Some, None, length, take, drop, refl, ap, ◌∙◌, inl, inr, get_or, arith, length-drop}
use Rattle.std.proofs.lemmas.Bool.{cases_Bool}
use Rattle.std.proofs.lemmas.Bool.Decides.{nat_tests}
use Rattle.std.specs.Prelude.{cond, ◌==◌}
use Rattle.std.specs.List.{prefix_len}
use Rattle.bq_value_text.proofs.Pages.{written_more}
use Rattle.bq_builtin_format.specs.Percent.{DraftView, and_write}
use Rattle.bq_builtin_format.specs.Piece.{Piece, byte, field, lone, cut, doubled, field_of, first_piece, is_brace, is_inside, is_plain, literal, opened, piece_written, pieces}
use Rattle.bq_builtin_format.proofs.Cases.{closed, piece_by}

-- ---- what is after a piece is shorter

closed_shorter : (text left name after : List ℕ) → closed text left ≡ Some (name, after) → length after < length left
closed_shorter text [] name after e = absurd (cc)
closed_shorter text (b ∷ bs) name after e =
    let pair : (text, bs) ≡ (name, after) = cc in
    let is : bs ≡ after = ap (λ (p : List ℕ × List ℕ). p.1) pair in
    omega (arith, ap length is)

opened_by : (b : ℕ) (bs name after : List ℕ) (so : Bool) → cond so None (closed (take (prefix_len is_inside (b ∷ bs)) (b ∷ bs)) (drop (prefix_len is_inside (b ∷ bs)) (b ∷ bs))) ≡ Some (name, after) → length after ≤ length bs
opened_by b bs name after true e = absurd (cc)
opened_by b bs name after false e =
    let n : ℕ = prefix_len is_inside (b ∷ bs) in
    let less = closed_shorter (take n (b ∷ bs)) (drop n (b ∷ bs)) name after e in
    omega (arith, less, length-drop n (b ∷ bs))

opened_shorter : (text name after : List ℕ) → opened text ≡ Some (name, after) → length after ≤ length text
opened_shorter [] name after e = absurd (cc)
opened_shorter (b ∷ bs) name after e = let less = opened_by b bs name after (b == 123) e in omega (arith, less)

field_by : (bs name after : List ℕ) (so : Bool) → cond so (opened bs) None ≡ Some (name, after) → length after ≤ length bs
field_by bs name after true e = opened_shorter bs name after e
field_by bs name after false e = absurd (cc)

pub field_shorter : (text name after : List ℕ) → field_of text ≡ Some (name, after) → length after < length text
unfolding field_of
field_shorter [] name after e = absurd (cc)
field_shorter (b ∷ bs) name after e = let less = field_by bs name after (b == 123) e in omega (arith, less)

alone_shorter : (c : ℕ) (cs : List ℕ) (so : Bool) → length (cond so [] (c ∷ cs)) ≤ length (c ∷ cs)
alone_shorter c cs true = omega arith
alone_shorter c cs false = omega arith

doubled_by : (b c : ℕ) (cs : List ℕ) (so : Bool) → length ((cond {A = Piece × List ℕ} so (byte b, cs) (lone, cond (b == 123) [] (c ∷ cs))).1) ≤ length (c ∷ cs)
doubled_by b c cs true = omega arith
doubled_by b c cs false = alone_shorter c cs (b == 123)

doubled_shorter : (b : ℕ) (bs : List ℕ) → length ((doubled b bs).1) ≤ length bs
doubled_shorter b [] = omega arith
doubled_shorter b (c ∷ cs) = doubled_by b c cs (c == b)

rest_shorter : (b : ℕ) (bs : List ℕ) (so : Bool) → length ((cond {A = Piece × List ℕ} so (doubled b bs) (byte b, bs)).1) ≤ length bs
rest_shorter b bs true = doubled_shorter b bs
rest_shorter b bs false = omega arith

piece_shorter : (b : ℕ) (bs : List ℕ) (f : Option (List ℕ × List ℕ)) → field_of (b ∷ bs) ≡ f → length ((piece_by b bs f).1) ≤ length bs
piece_shorter b bs None e = rest_shorter b bs (is_brace b)
piece_shorter b bs (Some (name, after)) e = let less = field_shorter (b ∷ bs) name after e in omega (arith, less)

pub first_shorter : (b : ℕ) (bs : List ℕ) → length ((first_piece b bs).1) ≤ length bs
unfolding first_piece
first_shorter b bs = piece_shorter b bs (field_of (b ∷ bs)) refl

-- ---- more pieces than the text has bytes change nothing

enough : (m n : ℕ) (text : List ℕ) → length text ≤ m → length text ≤ n → cut m text ≡ cut n text
unfolding cut
enough m n [] p q = refl
enough zero n (b ∷ bs) p q = absurd (omega (arith, p))
enough (suc m) zero (b ∷ bs) p q = absurd (omega (arith, q))
enough (suc m) (suc n) (b ∷ bs) p q =
    let less = first_shorter b bs in
    ap (λ (ps : List Piece). (first_piece b bs).0 ∷ ps) (enough m n ((first_piece b bs).1) (omega (arith, less, p)) (omega (arith, less, q)))

pub pieces_none : pieces [] ≡ []
unfolding pieces cut
pieces_none = refl

pub pieces_more : (b : ℕ) (bs : List ℕ) → pieces (b ∷ bs) ≡ (first_piece b bs).0 ∷ pieces ((first_piece b bs).1)
unfolding pieces cut
pieces_more b bs =
    let less = first_shorter b bs in
    ap (λ (ps : List Piece). (first_piece b bs).0 ∷ ps) (enough (length bs) (length ((first_piece b bs).1)) ((first_piece b bs).1) less (omega arith))

first_field : (b : ℕ) (bs name after : List ℕ) → field_of (b ∷ bs) ≡ Some (name, after) → first_piece b bs ≡ (field name, after)
unfolding first_piece
first_field b bs name after e = ap (λ o. piece_by b bs o) e

first_brace : (b : ℕ) (bs : List ℕ) → field_of (b ∷ bs) ≡ None → is_brace b ≡ true → first_piece b bs ≡ doubled b bs
unfolding first_piece
first_brace b bs e is = ap (λ o. piece_by b bs o) e ∙ rw is refl

first_plain : (b : ℕ) (bs : List ℕ) → is_brace b ≡ false → first_piece b bs ≡ (byte b, bs)
unfolding first_piece field_of
first_plain b bs other =
    let unlike : (b == 123) ≡ false = grind (arith, nat_tests, other) in
    let none : field_of (b ∷ bs) ≡ None = rw unlike refl in
    ap (λ o. piece_by b bs o) none ∙ rw other refl

pieces_when : (b : ℕ) (bs : List ℕ) (p : Piece × List ℕ) → first_piece b bs ≡ p → pieces (b ∷ bs) ≡ p.0 ∷ pieces (p.1)
pieces_when b bs p e = pieces_more b bs ∙ ap (λ (q : Piece × List ℕ). q.0 ∷ pieces (q.1)) e

pub pieces_field : (text name after : List ℕ) → field_of text ≡ Some (name, after) → pieces text ≡ field name ∷ pieces after
unfolding field_of
pieces_field [] name after e = absurd (cc)
pieces_field (b ∷ bs) name after e = pieces_when b bs (field name, after) (first_field b bs name after e)

pub pieces_brace : (b : ℕ) (bs : List ℕ) → field_of (b ∷ bs) ≡ None → is_brace b ≡ true → pieces (b ∷ bs) ≡ (doubled b bs).0 ∷ pieces ((doubled b bs).1)
pieces_brace b bs e is = pieces_when b bs (doubled b bs) (first_brace b bs e is)

pub pieces_plain : (b : ℕ) (bs : List ℕ) → is_brace b ≡ false → pieces (b ∷ bs) ≡ byte b ∷ pieces bs
pieces_plain b bs other = pieces_when b bs (byte b, bs) (first_plain b bs other)

-- ---- what is written up to a field

written_twice : (d : DraftView) (a b : List ℕ) → and_write (and_write d a) b ≡ and_write d (a ++ b)
written_twice d a b = ap (λ (p : Option (List ℕ)). record d { page = p }) (written_more d.page a b)

brace_of : (b : ℕ) → is_plain b ≡ true → is_brace b ≡ false
brace_of b e = elim (cases_Bool (is_brace b)) [ inl y ↦ absurd (cc (y, e)) | inr n ↦ n ]

plain_first : (b : ℕ) (bs : List ℕ) (n : ℕ) → suc n ≤ prefix_len is_plain (b ∷ bs) → (is_brace b ≡ false) × (n ≤ prefix_len is_plain bs)
plain_first b bs n h = elim (cases_Bool (is_brace b)) [ inl y ↦ absurd (omega (arith, rw y at h)) | inr other ↦ (other, omega (arith, rw other at h)) ]

literal_plain : (d : DraftView) (b : ℕ) (bs : List ℕ) → is_brace b ≡ false → literal d (pieces (b ∷ bs)) ≡ literal (and_write d (b ∷ [])) (pieces bs)
unfolding literal
literal_plain d b bs other = ap (literal d) (pieces_plain b bs other)

literal_run : (d : DraftView) (text : List ℕ) (b : ℕ) (n : ℕ) → is_brace b ≡ false → n ≤ prefix_len is_plain text → literal d (pieces (b ∷ text)) ≡ literal (and_write d (b ∷ take n text)) (pieces (drop n text))
literal_run d text b zero other h = literal_plain d b text other
literal_run d [] b (suc n) other h = literal_plain d b [] other
literal_run d (c ∷ cs) b (suc n) other h =
    let first = plain_first c cs n h in
    literal_plain d b (c ∷ cs) other
    ∙ (literal_run (and_write d (b ∷ [])) cs c n (first.0) (first.1)
    ∙ ap (λ (e : DraftView). literal e (pieces (drop n cs))) (written_twice d (b ∷ []) (c ∷ take n cs)))

-- the plain bytes that a text begins with
pub literal_plains : (d e : DraftView) (text rest : List ℕ) (n : ℕ) → n ≢ 0 → n ≡ prefix_len is_plain text → e ≡ and_write d (take n text) → rest ≡ drop n text → literal d (pieces text) ≡ literal e (pieces rest)
literal_plains d e text rest zero some len w r = absurd (some refl)
literal_plains d e [] rest (suc n) some len w r = absurd (omega (arith, len))
literal_plains d e (b ∷ bs) rest (suc n) some len w r =
    let first = plain_first b bs n (omega (arith, len)) in
    rw (w, r) (literal_run d bs b n (first.0) (first.1))

literal_piece_by : (d : DraftView) (b c : ℕ) (cs : List ℕ) (ps : List Piece) (so : Bool) → literal d ((cond {A = Piece × List ℕ} so (byte b, cs) (lone, cond (b == 123) [] (c ∷ cs))).0 ∷ ps) ≡ literal (piece_written d ((cond {A = Piece × List ℕ} so (byte b, cs) (lone, cond (b == 123) [] (c ∷ cs))).0)) ps
unfolding literal
literal_piece_by d b c cs ps true = refl
literal_piece_by d b c cs ps false = refl

literal_piece : (d : DraftView) (b : ℕ) (bs : List ℕ) (ps : List Piece) → literal d ((doubled b bs).0 ∷ ps) ≡ literal (piece_written d ((doubled b bs).0)) ps
unfolding literal
literal_piece d b [] ps = refl
literal_piece d b (c ∷ cs) ps = literal_piece_by d b c cs ps (c == b)

-- a brace that begins no field
literal_brace : (d e : DraftView) (b : ℕ) (bs rest : List ℕ) → field_of (b ∷ bs) ≡ None → is_brace b ≡ true → e ≡ piece_written d ((doubled b bs).0) → rest ≡ (doubled b bs).1 → literal d (pieces (b ∷ bs)) ≡ literal e (pieces rest)
literal_brace d e b bs rest none is w r = rw (w, r) (ap (literal d) (pieces_brace b bs none is) ∙ literal_piece d b bs (pieces ((doubled b bs).1)))

pub literal_brace_at : (d e : DraftView) (text after rest : List ℕ) → 0 < length text → field_of text ≡ None → is_brace (get_or text 0 0) ≡ true → after ≡ drop 1 text → e ≡ piece_written d ((doubled (get_or text 0 0) after).0)
    → rest ≡ (doubled (get_or text 0 0) after).1 → literal d (pieces text) ≡ literal e (pieces rest)
literal_brace_at d e [] after rest some none is a w r = absurd (omega (arith, some))
literal_brace_at d e (b ∷ bs) after rest some none is a w r = literal_brace d e b bs rest none is (w ∙ ap (λ (t : List ℕ). piece_written d ((doubled b t).0)) a) (r ∙ ap (λ (t : List ℕ). (doubled b t).1) a)

-- where the first byte is no brace, some are plain
pub some_plain : (text : List ℕ) → 0 < length text → is_brace (get_or text 0 0) ≡ false → prefix_len is_plain text ≢ 0
some_plain [] some other = λ e. absurd (omega (arith, some))
some_plain (b ∷ bs) some other = λ e. absurd (omega (arith, rw other at e))

pub literal_field : (d : DraftView) (text name after : List ℕ) → field_of text ≡ Some (name, after) → literal d (pieces text) ≡ (d, pieces text)
unfolding literal
literal_field d text name after e = rw (pieces_field text name after e) refl

pub literal_end : (d : DraftView) (text : List ℕ) → length text ≡ 0 → literal d (pieces text) ≡ (d, pieces text)
unfolding literal
literal_end d [] e = rw pieces_none refl
literal_end d (b ∷ bs) e = absurd (omega (arith, e))
