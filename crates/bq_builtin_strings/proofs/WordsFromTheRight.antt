-- The words from the right are the words.
use Rattle.std.proofs.Common.{◌≡◌, ◌-◌, ◌<◌, ◌≤◌, ◌++◌, ◌⊎◌, ℕ, zero, suc, Bool, true, false, not, List, [], ◌∷◌, Some, length, take, drop, reverse, refl, sym, ap, subst, ◌∙◌, inl, inr, arith, append_assoc, append-nil, length-append, length-take, length-drop}
use native.Mathlib.Numerals.{one-add}
use Rattle.std.proofs.lemmas.Bool.{cases_Bool}
use Rattle.std.proofs.lemmas.List.{reverse-append, reverse-reverse, take-append-drop, length-reverse}
use Rattle.std.specs.List.{prefix_len, suffix_len, All}
use Rattle.bq_builtin_strings.specs.Trim.{lstrip, rstrip, spaces}
use Rattle.bq_builtin_strings.specs.Class.{has, is_space}
use Rattle.bq_builtin_strings.specs.declared.class.ByteClass.TheVariants.{NonSpace}
use Rattle.bq_builtin_strings.specs.Word.{AreWords, none, more, IsSpace, IsWord, IsApart, first_word, last_word, words, rwords, words_from, rwords_from}
use Rattle.bq_builtin_strings.proofs.WordCases.{words_by}

-- ---- runs

abbrev Every : (ℕ → Bool) → List ℕ → Type 0
Every p [] = Unit {0}
Every p (b ∷ bs) = (p b ≡ true) × Every p bs

abbrev Stops : (ℕ → Bool) → List ℕ → Type 0
Stops p [] = Unit {0}
Stops p (b ∷ bs) = p b ≡ false

every_append : (p : ℕ → Bool) (a b : List ℕ) → Every p a → Every p b → Every p (a ++ b)
every_append p [] b h i = i
every_append p (x ∷ xs) b (h, hs) i = (h, every_append p xs b hs i)

every_reverse : (p : ℕ → Bool) (a : List ℕ) → Every p a → Every p (reverse a)
every_reverse p [] h = tt
every_reverse p (x ∷ xs) (h, hs) = subst (Every p) (sym (reverse-append (x ∷ []) xs)) (every_append p (reverse xs) (x ∷ []) (every_reverse p xs hs) (h, tt))

run : (p : ℕ → Bool) (text : List ℕ) → Every p (take (prefix_len p text) text)
run p [] = tt
run p (b ∷ bs) = elim (cases_Bool (p b)) [ inl y ↦ rw (y, one-add) (y, run p bs) | inr n ↦ rw n tt ]

after_run : (p : ℕ → Bool) (text : List ℕ) → Stops p (drop (prefix_len p text) text)
after_run p [] = tt
after_run p (b ∷ bs) = elim (cases_Bool (p b)) [ inl y ↦ rw (y, one-add) (after_run p bs) | inr n ↦ rw n n ]

take_front : (a b : List ℕ) → take (length a) (a ++ b) ≡ a
take_front [] b = refl
take_front (x ∷ xs) b = ap (λ (t : List ℕ). x ∷ t) (take_front xs b)

drop_front : (a b : List ℕ) → drop (length a) (a ++ b) ≡ b
drop_front [] b = refl
drop_front (x ∷ xs) b = drop_front xs b

-- what a text ends in, and what is before that
module _ (p : ℕ → Bool) (text : List ℕ) where
  halves : text ≡ reverse (drop (prefix_len p (reverse text)) (reverse text)) ++ reverse (take (prefix_len p (reverse text)) (reverse text))
  halves =
      sym (reverse-reverse text)
      ∙ (ap reverse (sym (take-append-drop (prefix_len p (reverse text)) (reverse text)))
      ∙ reverse-append (take (prefix_len p (reverse text)) (reverse text)) (drop (prefix_len p (reverse text)) (reverse text)))

  front_len : length text - suffix_len p text ≡ length (reverse (drop (prefix_len p (reverse text)) (reverse text)))
  front_len = omega (arith, length-reverse (drop (prefix_len p (reverse text)) (reverse text)), length-drop (prefix_len p (reverse text)) (reverse text), length-reverse text)

  front_is : take (length text - suffix_len p text) text ≡ reverse (drop (prefix_len p (reverse text)) (reverse text))
  front_is = ap (λ (n : ℕ). take n text) front_len ∙ (ap (take (length (reverse (drop (prefix_len p (reverse text)) (reverse text))))) halves ∙ take_front (reverse (drop (prefix_len p (reverse text)) (reverse text))) (reverse (take (prefix_len p (reverse text)) (reverse text))))

  back_is : drop (length text - suffix_len p text) text ≡ reverse (take (prefix_len p (reverse text)) (reverse text))
  back_is = ap (λ (n : ℕ). drop n text) front_len ∙ (ap (drop (length (reverse (drop (prefix_len p (reverse text)) (reverse text))))) halves ∙ drop_front (reverse (drop (prefix_len p (reverse text)) (reverse text))) (reverse (take (prefix_len p (reverse text)) (reverse text))))

  last_run : Every p (drop (length text - suffix_len p text) text)
  last_run = subst (Every p) (sym back_is) (every_reverse p (take (prefix_len p (reverse text)) (reverse text)) (run p (reverse text)))

  before_last : Stops p (reverse (take (length text - suffix_len p text) text))
  before_last = subst (Stops p) (sym (ap reverse front_is ∙ reverse-reverse (drop (prefix_len p (reverse text)) (reverse text)))) (after_run p (reverse text))

-- ---- one word more at the end

all_space : (text : List ℕ) → Every (λ b. is_space b) text → IsSpace text
all_space [] h k d l = absurd (omega (arith, l))
all_space (b ∷ bs) (h, hs) zero d l = h
all_space (b ∷ bs) (h, hs) (suc k) d l = all_space bs hs k d (omega (arith, l))

not_true : (b : Bool) → not b ≡ true → b ≡ false
not_true true e = absurd (cc)
not_true false e = refl

all_word : (text : List ℕ) → Every (has NonSpace) text → All (λ b. is_space b ≡ false) text
all_word [] h k d l = absurd (omega (arith, l))
all_word (b ∷ bs) (h, hs) zero d l = not_true (is_space b) h
all_word (b ∷ bs) (h, hs) (suc k) d l = all_word bs hs k d (omega (arith, l))

joined_space : (a b : List ℕ) → IsSpace a → IsSpace b → IsSpace (a ++ b)
joined_space [] b g h k d l = h k d l
joined_space (x ∷ xs) b g h zero d l = g 0 d (omega arith)
joined_space (x ∷ xs) b g h (suc k) d l = joined_space xs b (λ j e m. g (suc j) e (omega (arith, m))) h k d (omega (arith, l))

apart_space : (gap : List ℕ) → IsSpace gap → IsApart gap
apart_space [] g = tt
apart_space (b ∷ bs) g = g 0 0 (omega arith)

apart_more : (rest gap word : List ℕ) → IsApart rest → IsSpace gap → 0 < length gap → IsApart (rest ++ (gap ++ word))
apart_more (b ∷ bs) gap word a g some = a
apart_more [] [] word a g some = absurd (omega (arith, some))
apart_more [] (x ∷ xs) word a g some = g 0 0 (omega arith)

some_word : (word : List ℕ) → IsWord word → 0 < length word
some_word [] w = absurd w
some_word (b ∷ bs) w = omega arith

apart_end : (rest gap : List ℕ) → IsApart rest → IsSpace gap → IsApart (rest ++ gap)
apart_end [] gap a g = apart_space gap g
apart_end (b ∷ bs) gap a g = a

word_last : (front gap word : List ℕ) (ws : List (List ℕ)) → AreWords front ws → IsSpace gap → IsWord word → (0 < length front → 0 < length gap) → AreWords (front ++ (gap ++ word)) (ws ++ word ∷ [])
word_last _ gap word _ (none front s) g w apart =
    let whole : front ++ (gap ++ word) ≡ (front ++ gap) ++ (word ++ []) = sym (append_assoc front gap word) ∙ ap (λ (t : List ℕ). (front ++ gap) ++ t) (sym (append-nil word)) in
    more (front ++ (gap ++ word)) (front ++ gap) word [] [] whole (joined_space front gap s g) w tt (none [] (λ k d l. absurd (omega (arith, l))))
word_last _ gap word _ (more front space first rest ws e s f a r) g w apart =
    let long = some_word first f in
    let some : 0 < length gap = apart (omega (arith, ap length e, length-append space (first ++ rest), length-append first rest, long)) in
    let whole : front ++ (gap ++ word) ≡ space ++ (first ++ (rest ++ (gap ++ word))) =
    ap (λ (t : List ℕ). t ++ (gap ++ word)) e ∙ (append_assoc space (first ++ rest) (gap ++ word) ∙ ap (λ (t : List ℕ). space ++ t) (append_assoc first rest (gap ++ word))) in
    more (front ++ (gap ++ word)) space first (rest ++ (gap ++ word)) (ws ++ word ∷ []) whole s f (apart_more rest gap word a g some) (word_last rest gap word ws r g w (λ _. some))

-- a byte is space or not
both_stop : (text : List ℕ) → Stops (λ b. is_space b) text → Stops (has NonSpace) text → length text ≡ 0
both_stop [] s n = refl
both_stop (b ∷ bs) s n = absurd (cc (rw s at n))

cases_empty : (text : List ℕ) → (text ≡ []) ⊎ (0 < length text)
cases_empty [] = inl refl
cases_empty (b ∷ bs) = inr (omega arith)

is_word : (word : List ℕ) → 0 < length word → Every (has NonSpace) word → IsWord word
is_word [] some h = absurd (omega (arith, some))
is_word (b ∷ bs) some h = all_word (b ∷ bs) h

module _ (n : ℕ) (again : (t : List ℕ) → length t ≤ n → Stops (λ b. is_space b) (reverse t) → AreWords t (rwords_from n t)) where
  word_by : (text before word front gap : List ℕ) → text ≡ before ++ word → before ≡ front ++ gap → length text ≤ suc n → Stops (λ b. is_space b) (reverse text) → Every (has NonSpace) word → Stops (has NonSpace) (reverse before)
      → Every (λ b. is_space b) gap → Stops (λ b. is_space b) (reverse front) → 0 < length text → AreWords text (rwords_from n front ++ word ∷ [])
  word_by text before word front gap e f l tight w stops g tidy some =
      let long : 0 < length word =
      elim (cases_empty word) [ inl nil ↦ absurd (omega (arith, some, both_stop (reverse text) tight (subst (λ (t : List ℕ). Stops (has NonSpace) (reverse t)) (sym (e ∙ (ap (λ (t : List ℕ). before ++ t) nil ∙ append-nil before))) stops), length-reverse text)) | inr h ↦ h ] in
      let apart : 0 < length front → 0 < length gap =
      λ h. elim (cases_empty gap) [ inl nil ↦ absurd (omega (arith, h, both_stop (reverse front) tidy (subst (λ (t : List ℕ). Stops (has NonSpace) (reverse t)) (f ∙ (ap (λ (t : List ℕ). front ++ t) nil ∙ append-nil front)) stops), length-reverse front)) | inr h ↦ h ] in
      let short : length front ≤ n = omega (arith, l, long, ap length e, ap length f, length-append before word, length-append front gap) in
      subst (λ (t : List ℕ). AreWords t (rwords_from n front ++ word ∷ [])) (sym (e ∙ (ap (λ (t : List ℕ). t ++ word) f ∙ append_assoc front gap word)))
      (word_last front gap word (rwords_from n front) (again front short tidy) (all_space gap g) (is_word word long w) apart)

from_right : (n : ℕ) (text : List ℕ) → length text ≤ n → Stops (λ b. is_space b) (reverse text) → AreWords text (rwords_from n text)
unfolding rwords_from last_word rstrip
from_right zero [] l tight = none [] (λ k d m. absurd (omega (arith, m)))
from_right zero (b ∷ bs) l tight = absurd (omega (arith, l))
from_right (suc n) [] l tight = none [] (λ k d m. absurd (omega (arith, m)))
from_right (suc n) (b ∷ bs) l tight =
    let k : ℕ = length (b ∷ bs) - suffix_len (has NonSpace) (b ∷ bs) in
    let before : List ℕ = take k (b ∷ bs) in
    let j : ℕ = length before - suffix_len (λ c. is_space c) before in
    word_by n (from_right n) (b ∷ bs) before (drop k (b ∷ bs)) (take j before) (drop j before) (sym (take-append-drop k (b ∷ bs))) (sym (take-append-drop j before)) l tight (last_run (has NonSpace) (b ∷ bs)) (before_last (has NonSpace) (b ∷ bs)) (last_run (λ c. is_space c) before) (before_last (λ c. is_space c) before) (omega arith)

-- ---- one list of words

run_len : (p : ℕ → Bool) (a b : List ℕ) → Every p a → Stops p b → prefix_len p (a ++ b) ≡ length a
run_len p [] [] h s = refl
run_len p [] (x ∷ xs) h s = rw s refl
run_len p (x ∷ xs) b (h, hs) s = let again = run_len p xs b hs s in rw h (omega (arith, again))

every_space : (text : List ℕ) → IsSpace text → Every (λ b. is_space b) text
every_space [] h = tt
every_space (b ∷ bs) h = (h 0 0 (omega arith), every_space bs (λ k d l. h (suc k) d (omega (arith, l))))

not_of_false : (b : Bool) → b ≡ false → not b ≡ true
not_of_false true e = absurd (cc)
not_of_false false e = refl

not_of_true : (b : Bool) → b ≡ true → not b ≡ false
not_of_true true e = refl
not_of_true false e = absurd (cc)

every_word : (text : List ℕ) → All (λ b. is_space b ≡ false) text → Every (has NonSpace) text
every_word [] h = tt
every_word (b ∷ bs) h = (not_of_false (is_space b) (h 0 0 (omega arith)), every_word bs (λ k d l. h (suc k) d (omega (arith, l))))

stops_word : (text : List ℕ) → IsApart text → Stops (has NonSpace) text
stops_word [] h = tt
stops_word (b ∷ bs) h = not_of_true (is_space b) h

stripped : (gap rest : List ℕ) → IsSpace gap → Stops (λ b. is_space b) rest → lstrip spaces (gap ++ rest) ≡ rest
unfolding lstrip
stripped gap rest g s = ap (λ (n : ℕ). drop n (gap ++ rest)) (run_len (λ b. is_space b) gap rest (every_space gap g) s) ∙ drop_front gap rest

first_of : (b : ℕ) (bs rest : List ℕ) → IsWord (b ∷ bs) → IsApart rest → first_word ((b ∷ bs) ++ rest) ≡ Some (b ∷ bs, rest)
unfolding first_word
first_of b bs rest w a =
    let n : prefix_len (has NonSpace) ((b ∷ bs) ++ rest) ≡ length (b ∷ bs) = run_len (has NonSpace) (b ∷ bs) rest (every_word (b ∷ bs) w) (stops_word rest a) in
    rw (n, take_front (b ∷ bs) rest, drop_front (b ∷ bs) rest) refl

words_none : (n : ℕ) → words_from n [] ≡ []
unfolding words_from first_word
words_none zero = refl
words_none (suc n) = refl

words_one : (n : ℕ) (text word rest : List ℕ) → first_word text ≡ Some (word, rest) → words_from (suc n) text ≡ word ∷ words_from n (lstrip spaces rest)
unfolding words_from
words_one n text word rest e = ap (words_by (words_from n) text) e

starts : (b : ℕ) (bs rest : List ℕ) → IsWord (b ∷ bs) → Stops (λ c. is_space c) ((b ∷ bs) ++ rest)
starts b bs rest w = w 0 0 (omega arith)

one_list : (text : List ℕ) (ws : List (List ℕ)) → AreWords text ws → (n : ℕ) → length text ≤ n → ws ≡ words_from n (lstrip spaces text)
one_list _ _ (none text s) n l = sym (ap (words_from n) (ap (lstrip spaces) (sym (append-nil text)) ∙ stripped text [] s tt) ∙ words_none n)
one_list _ _ (more text gap [] rest ws e g w a r) n l = absurd w
one_list _ _ (more text gap (b ∷ bs) rest ws e g w a r) zero l = absurd (omega (arith, l, ap length e, length-append gap ((b ∷ bs) ++ rest), length-append (b ∷ bs) rest))
one_list _ _ (more text gap (b ∷ bs) rest ws e g w a r) (suc n) l =
    let again = one_list rest ws r n (omega (arith, l, ap length e, length-append gap ((b ∷ bs) ++ rest), length-append (b ∷ bs) rest)) in
    ap (λ (t : List (List ℕ)). (b ∷ bs) ∷ t) again
    ∙ sym (ap (λ (t : List ℕ). words_from (suc n) (lstrip spaces t)) e ∙ (ap (words_from (suc n)) (stripped gap ((b ∷ bs) ++ rest) g (starts b bs rest w)) ∙ words_one n ((b ∷ bs) ++ rest) (b ∷ bs) rest (first_of b bs rest w a)))

space_at_end : (text gap : List ℕ) (ws : List (List ℕ)) → AreWords text ws → IsSpace gap → AreWords (text ++ gap) ws
space_at_end _ gap _ (none text s) g = none (text ++ gap) (joined_space text gap s g)
space_at_end _ gap _ (more text space word rest ws e s w a r) g =
    more (text ++ gap) space word (rest ++ gap) ws (ap (λ (t : List ℕ). t ++ gap) e ∙ (append_assoc space (word ++ rest) gap ∙ ap (λ (t : List ℕ). space ++ t) (append_assoc word rest gap))) s w (apart_end rest gap a g) (space_at_end rest gap ws r g)

pub words_from_right : (text : List ℕ) (most : ℕ) → length text ≤ most → rwords most text ≡ words most text
unfolding rstrip
words_from_right text most l =
    let j : ℕ = length text - suffix_len (λ c. is_space c) text in
    let short : length (take j text) ≤ most = omega (arith, l, length-take j text) in
    let front = from_right most (take j text) short (before_last (λ c. is_space c) text) in
    let all = space_at_end (take j text) (drop j text) (rwords_from most (take j text)) front (all_space (drop j text) (last_run (λ c. is_space c) text)) in
    one_list text (rwords_from most (take j text)) (subst (λ (t : List ℕ). AreWords t (rwords_from most (take j text))) (take-append-drop j text) all) most l
