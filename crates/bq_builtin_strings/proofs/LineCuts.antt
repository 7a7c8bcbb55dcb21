-- One line after another.
use Rattle.std.proofs.Common.{◌≡◌, ◌+◌, ◌<◌, ◌≤◌, ◌++◌, ℕ, suc, true, false, List, [], ◌∷◌, length, take, drop, get_or, map, refl, sym, ap, ◌∙◌, inl, inr, arith, append_assoc, append-nil}
use Rattle.std.proofs.lemmas.Bool.{cases_Bool}
use Rattle.std.proofs.lemmas.List.{drop_more, drop_all}
use Rattle.std.specs.List.{concat}
use Rattle.bq_builtin_strings.specs.Line.{line_ends, line_len, lines}
use Rattle.bq_builtin_strings.proofs.WordCases.{onto}

len_none : line_len [] ≡ 0
unfolding line_len
len_none = refl

len_ends : (b : ℕ) (bs : List ℕ) → line_ends b bs ≡ true → line_len (b ∷ bs) ≡ 1
unfolding line_len
len_ends b bs e = rw e refl

len_goes : (b : ℕ) (bs : List ℕ) → line_ends b bs ≡ false → line_len (b ∷ bs) ≡ suc (line_len bs)
unfolding line_len
len_goes b bs e = rw e refl

pub ends_at : (text : List ℕ) (i total : ℕ) → i < length text → line_ends (get_or text i 0) (drop (i + 1) text) ≡ true → i + line_len (drop i text) ≡ total → i + 1 ≡ total
ends_at text i total l e h = let one : line_len (drop i text) ≡ 1 = ap line_len (drop_more text i 0 l) ∙ len_ends (get_or text i 0) (drop (i + 1) text) e in omega (arith, one, h)

pub goes_on : (text : List ℕ) (i total : ℕ) → i < length text → line_ends (get_or text i 0) (drop (i + 1) text) ≡ false → i + line_len (drop i text) ≡ total → i + 1 + line_len (drop (i + 1) text) ≡ total
goes_on text i total l e h = let more : line_len (drop i text) ≡ suc (line_len (drop (i + 1) text)) = ap line_len (drop_more text i 0 l) ∙ len_goes (get_or text i 0) (drop (i + 1) text) e in omega (arith, more, h)

pub ends_last : (text : List ℕ) (i total : ℕ) → length text ≤ i → i + line_len (drop i text) ≡ total → i ≡ total
ends_last text i total l h = let none : line_len (drop i text) ≡ 0 = ap line_len (drop_all i text l) ∙ len_none in omega (arith, none, h)

-- a text is its first line and the lines of what is after it
lines_first : (b : ℕ) (bs : List ℕ) → lines (b ∷ bs) ≡ take (line_len (b ∷ bs)) (b ∷ bs) ∷ lines (drop (line_len (b ∷ bs)) (b ∷ bs))
unfolding lines line_len
lines_first b [] = elim (cases_Bool (line_ends b [])) [ inl y ↦ rw y refl | inr n ↦ rw n refl ]
lines_first b (c ∷ cs) = elim (cases_Bool (line_ends b (c ∷ cs))) [ inl y ↦ rw y refl | inr n ↦ rw n (ap (onto b) (lines_first c cs)) ]

pub lines_none : (text : List ℕ) → length text ≡ 0 → lines text ≡ []
unfolding lines
lines_none [] e = refl
lines_none (b ∷ bs) e = absurd (omega (arith, e))

lines_cut : (text : List ℕ) → 0 < length text → lines text ≡ take (line_len text) text ∷ lines (drop (line_len text) text)
lines_cut [] l = absurd (omega (arith, l))
lines_cut (b ∷ bs) l = lines_first b bs

concat_onto : (b : ℕ) (parts : List (List ℕ)) → concat (onto b parts) ≡ b ∷ concat parts
concat_onto b [] = refl
concat_onto b (line ∷ parts) = refl

pub joined : (text : List ℕ) → concat (lines text) ≡ text
unfolding lines
joined [] = refl
joined (b ∷ bs) = elim (cases_Bool (line_ends b bs)) [ inl y ↦ rw y (ap (λ (t : List ℕ). b ∷ t) (joined bs)) | inr n ↦ rw n (concat_onto b (lines bs) ∙ ap (λ (t : List ℕ). b ∷ t) (joined bs)) ]

module _ (f : List ℕ → List ℕ) where
  pub lines_more : (text line after made : List ℕ) (n : ℕ) (parts more total : List (List ℕ)) → 0 < length text → n ≡ line_len text → line ≡ take n text → after ≡ drop n text → made ≡ f line → more ≡ parts ++ made ∷ []
      → parts ++ map f (lines text) ≡ total → more ++ map f (lines after) ≡ total
  lines_more text line after made n parts more total l e t a p m h =
      rw (m, p, t, a, e) (append_assoc parts (f (take (line_len text) text) ∷ []) (map f (lines (drop (line_len text) text)))
      ∙ (ap (λ (v : List (List ℕ)). parts ++ map f v) (sym (lines_cut text l)) ∙ h))

  pub lines_end : (text : List ℕ) (parts total : List (List ℕ)) → length text ≡ 0 → parts ++ map f (lines text) ≡ total → parts ≡ total
  lines_end text parts total e h = sym (append-nil parts) ∙ (ap (λ (v : List (List ℕ)). parts ++ map f v) (sym (lines_none text e)) ∙ h)
