-- The commands of edits are read as these edits.
use Rattle.std.proofs.Common.{◌≡◌, ◌≢◌, ◌≤◌, ◌<◌, ◌+◌, ◌-◌, ◌*◌, ◌/◌, ◌%◌, ◌^◌, ◌++◌, ◌==◌, ◌&&◌, ℕ, Bool, true, false, List, [], ◌∷◌, Some, length, take, take_all, get_or, refl, sym, ap, subst, ◌∙◌, arith, append_assoc, append-nil, length-append, decimal}
use Rattle.std.proofs.lemmas.Bool.{eqb-true, false_from_ne_true, le-leb, leb-true, and_from}
use Rattle.std.proofs.lemmas.Fmt.{decimal_by_steps}
use Rattle.std.specs.Prelude.{codes, map, nat_le, nat_lt}
use Rattle.std.specs.List.{AllByRecursion, list_all}
use Rattle.bq_label.specs.Paths.{is_path, is_path_byte}
use Rattle.bq_run.specs.Bundle.{lines}
use Rattle.bq_run.specs.Written.{HasNoNewline}
use Rattle.bq_run.proofs.Writing.{lines_first}
use Rattle.bq_label.specs.declared.workspace.File.{File}
use Rattle.bq_run_commands.specs.declared.edits.Edit.{Edit}
use Rattle.bq_run_commands.specs.declared.edits.Edit.TheVariants.{Put, Remove}
use Rattle.bq_run_commands.specs.declared.commands.Command.{Command}
use Rattle.bq_run_commands.specs.declared.commands.Command.TheVariants as command
use Rattle.bq_run_commands.specs.declared.items.Request.TheVariants as request
use Rattle.bq_run_commands.specs.Queries.{max_query_bytes, max_line_bytes, without_last, line_of, query_of}
use Rattle.bq_run_commands.specs.Commands.{command_of, command_by, count_and_path, goes_on, is_digit, put_words, put_at}
use Rattle.bq_run_commands.specs.Changes.{edit_text, edits_text, put_text, remove_line}
use Rattle.bq_run_commands.specs.Items.{IsItem, AreItems, ItemView, IsRequest}
use Rattle.bq_run_commands.specs.Items.IsPut.{whole}
use Rattle.bq_run_commands.specs.Items.AreItems.{none, more}
use Rattle.bq_run_commands.proofs.FirstLines.{without_last_end}
use Rattle.bq_run_commands.specs.Laws.{command_line, IsTaken, item_of}

-- ---- bytes that end no line

abbrev IsPlain : ℕ → Type 0
IsPlain b = ((b == 10) ≡ false) × ((b == 13) ≡ false)

other : (b c : ℕ) → b ≢ c → (b == c) ≡ false
other b c differ = false_from_ne_true (b == c) (λ same. differ (eqb-true b c same))

plain_above : (b : ℕ) → 32 ≤ b → IsPlain b
plain_above b high = (other b 10 (λ e. let bad : ⊥ = omega arith in bad), other b 13 (λ e. let bad : ⊥ = omega arith in bad))

plain_append : (xs ys : List ℕ) → AllByRecursion IsPlain xs → AllByRecursion IsPlain ys → AllByRecursion IsPlain (xs ++ ys)
plain_append [] ys first second = second
plain_append (x ∷ xs) ys first second = (first.0, plain_append xs ys first.1 second)

first_of : (a b : Bool) → (a && b) ≡ true → a ≡ true
first_of true b h = refl
first_of false b h = h

second_of : (a b : Bool) → (a && b) ≡ true → b ≡ true
second_of true b h = h
second_of false b h = cc

path_byte_high : (b : ℕ) → is_path_byte b ≡ true → 32 ≤ b
path_byte_high b h = leb-true 32 b (first_of (nat_le 32 b) (nat_le b 126) (first_of (nat_le 32 b && nat_le b 126) _ (first_of (nat_le 32 b && nat_le b 126 && _) _ h)))

plain_bytes : (bs : List ℕ) → list_all is_path_byte bs ≡ true → AllByRecursion IsPlain bs
plain_bytes [] h = tt
plain_bytes (b ∷ bs) h = (plain_above b (path_byte_high b (first_of (is_path_byte b) (list_all is_path_byte bs) h)), plain_bytes bs (second_of (is_path_byte b) (list_all is_path_byte bs) h))

plain_path : (path : List ℕ) → is_path path ≡ true → AllByRecursion IsPlain path
unfolding is_path
plain_path path h = plain_bytes path (first_of _ _ h)

no_newline : (bs : List ℕ) → AllByRecursion IsPlain bs → HasNoNewline bs
no_newline [] plain = tt
no_newline (b ∷ bs) plain = (plain.0.0, no_newline bs plain.1)

-- ---- a line with its newline

no_return : (xs : List ℕ) → AllByRecursion IsPlain xs → without_last 13 xs ≡ xs
no_return [] plain = refl
no_return (x ∷ []) plain = rw plain.0.1 refl
no_return (x ∷ y ∷ ys) plain = ap (λ t. x ∷ t) (no_return (y ∷ ys) plain.1)

line_read : (line : List ℕ) → AllByRecursion IsPlain line → length line ≤ max_query_bytes → line ≡ query_of (line ++ 10 ∷ [])
unfolding line_of
line_read line plain short =
    let long : length line ≤ max_line_bytes = omega arith in
    sym (ap (λ t. without_last 13 (take max_line_bytes t)) (without_last_end 10 line) ∙ (ap (without_last 13) (take_all max_line_bytes line long) ∙ no_return line plain))

-- ---- the number of bytes

counts : (limit n b : ℕ) (t : List ℕ) → 48 ≤ b → b ≤ 57 → n * 10 + (b - 48) ≤ limit → count_and_path limit n (b ∷ t) ≡ count_and_path limit (n * 10 + (b - 48)) t
counts limit n b t low high fits =
    let digit : is_digit b ≡ true = and_from (nat_le 48 b) (nat_le b 57) (le-leb 48 b low) (le-leb b 57 high) in
    let goes : goes_on limit n b ≡ true = and_from (is_digit b) (nat_le (n * 10 + (b - 48)) limit) digit (le-leb (n * 10 + (b - 48)) limit fits) in
    rw (other b 32 (λ e. let bad : ⊥ = omega arith in bad), goes) refl

-- digits that say the number
record AreDigits (limit n : ℕ) (ds : List ℕ) : Type 0 where
  pub first : (0 < length ds) × (48 ≤ get_or ds 0 0)
  pub plain : AllByRecursion IsPlain ds
  pub are : n ≤ limit → (t : List ℕ) → count_and_path limit 0 (ds ++ t) ≡ count_and_path limit n t

one_digit : (limit n : ℕ) → n < 10 → AreDigits limit n ((48 + n) ∷ [])
one_digit limit n small = record {
  first = (omega arith, omega arith);
  plain = (plain_above (48 + n) (omega arith), tt);
  are = λ fits t.
      let value : 0 * 10 + (48 + n - 48) ≡ n = omega arith in
      counts limit 0 (48 + n) t (omega arith) (omega arith) (omega (arith, value)) ∙ ap (λ m. count_and_path limit m t) value;
}

digit_more : (limit n : ℕ) (ds : List ℕ) → 10 ≤ n → AreDigits limit (n / 10) ds → AreDigits limit n (ds ++ ((48 + n % 10) ∷ []))
digit_more limit n ds large before =
    let b : ℕ = 48 + n % 10 in
    record {
      first = (omega (arith, length-append ds (b ∷ []), before.first.0), first_kept ds b before.first);
      plain = plain_append ds (b ∷ []) before.plain (plain_above b (omega arith), tt);
      are = λ fits t.
          let value : n / 10 * 10 + (48 + n % 10 - 48) ≡ n = omega arith in
          let low : 48 ≤ b = omega arith in
          let high : b ≤ 57 = omega arith in
          let fits_ : n / 10 * 10 + (b - 48) ≤ limit = omega (arith, value) in
          ap (count_and_path limit 0) (append_assoc ds (b ∷ []) t) ∙ (before.are (omega arith) (b ∷ t) ∙ (counts limit (n / 10) b t low high fits_ ∙ ap (λ m. count_and_path limit m t) value));
    }
  where
    first_kept : (ds : List ℕ) (b : ℕ) → (0 < length ds) × (48 ≤ get_or ds 0 0) → 48 ≤ get_or (ds ++ b ∷ []) 0 0
    first_kept [] b first = absurd (omega (arith, first.0))
    first_kept (d ∷ ds) b first = first.1

are_digits : (limit n : ℕ) → n < 2 ^ 64 → AreDigits limit n (decimal n)
are_digits limit n small = decimal_by_steps (AreDigits limit) (one_digit limit) (digit_more limit) n small

begun : (limit d : ℕ) (text : List ℕ) → 48 ≤ d → put_words limit (d ∷ text) ≡ count_and_path limit 0 (d ∷ text)
begun limit d text low = rw (other d 32 (λ e. let bad : ⊥ = omega arith in bad)) refl

words_read : (limit n : ℕ) (ds path : List ℕ) → n ≤ limit → AreDigits limit n ds → put_words limit (ds ++ 32 ∷ path) ≡ Some (n, path)
words_read limit n [] path fits digits = absurd (omega (arith, digits.first.0))
words_read limit n (d ∷ ds) path fits digits = begun limit d (ds ++ 32 ∷ path) digits.first.1 ∙ digits.are fits (32 ∷ path)

-- ---- what a line asks for

no_more : (n m : ℕ) → n ≤ m → nat_lt m n ≡ false
no_more n m less = false_from_ne_true (nat_lt m n) (λ is. let bad : m < n = ltb-less m n is in absurd (omega (arith, bad)))
  where
    ltb-less : (m n : ℕ) → nat_lt m n ≡ true → m < n
    ltb-less m n e = grind (arith, e)

put_asked : (limit n : ℕ) (path : List ℕ) → n ≤ limit → n < 2 ^ 64 → is_path path ≡ true → length (codes "=== put " ++ (decimal n ++ (32 ∷ path))) ≤ max_query_bytes
    → command_of limit (codes "=== put " ++ (decimal n ++ (32 ∷ path))) ≡ command.Put n path
unfolding command_of command_by
put_asked limit n path fits small lawful short =
    rw (no_more (length (codes "=== put " ++ (decimal n ++ (32 ∷ path)))) max_query_bytes short)
    (ap put_at (words_read limit n (decimal n) path fits (are_digits limit n small)) ∙ rw lawful refl)

remove_asked : (limit : ℕ) (path : List ℕ) → is_path path ≡ true → length (codes "=== remove " ++ path) ≤ max_query_bytes → command_of limit (codes "=== remove " ++ path) ≡ command.Remove path
unfolding command_of command_by
remove_asked limit path lawful short = rw (no_more (length (codes "=== remove " ++ path)) max_query_bytes short) (rw lawful refl)

-- ---- an edit

plain_put : (n : ℕ) (path : List ℕ) → n < 2 ^ 64 → is_path path ≡ true → AllByRecursion IsPlain (codes "=== put " ++ (decimal n ++ (32 ∷ path)))
plain_put n path small lawful =
    let words : AllByRecursion IsPlain (decimal n ++ (32 ∷ path)) = plain_append (decimal n) (32 ∷ path) (are_digits 0 n small).plain ((refl, refl), plain_path path lawful) in
    ((refl, refl), ((refl, refl), ((refl, refl), ((refl, refl), ((refl, refl), ((refl, refl), ((refl, refl), ((refl, refl), words))))))))

plain_remove : (path : List ℕ) → is_path path ≡ true → AllByRecursion IsPlain (codes "=== remove " ++ path)
plain_remove path lawful =
    ((refl, refl), ((refl, refl), ((refl, refl), ((refl, refl), ((refl, refl), ((refl, refl), ((refl, refl), ((refl, refl), ((refl, refl), ((refl, refl), ((refl, refl), plain_path path lawful)))))))))))

behind_path : (path content rest : List ℕ) → (path ++ (10 ∷ content ++ 10 ∷ [])) ++ rest ≡ path ++ 10 ∷ (content ++ 10 ∷ rest)
behind_path [] content rest = ap (λ t. 10 ∷ t) (append_assoc content (10 ∷ []) rest)
behind_path (b ∷ bs) content rest = ap (λ t. b ∷ t) (behind_path bs content rest)

behind_digits : (ds path content rest : List ℕ) → (ds ++ (32 ∷ path ++ (10 ∷ content ++ 10 ∷ []))) ++ rest ≡ (ds ++ (32 ∷ path)) ++ 10 ∷ (content ++ 10 ∷ rest)
behind_digits [] path content rest = ap (λ t. 32 ∷ t) (behind_path path content rest)
behind_digits (d ∷ ds) path content rest = ap (λ t. d ∷ t) (behind_digits ds path content rest)

put_item : (limit : ℕ) (file : File) (rest : List ℕ) → limit < 2 ^ 64 → IsTaken limit (Put file) → IsItem limit (put_text file ++ rest) rest (command_line (Put file)) (request.Edit (Put file))
put_item limit file rest most taken =
    let small : length file.content < 2 ^ 64 = omega (arith, taken.0.1) in
    let line : List ℕ = command_line (Put file) in
    let after : List ℕ = file.content ++ 10 ∷ rest in
    let plain : AllByRecursion IsPlain line = plain_put (length file.content) file.path small taken.0.0 in
    let is : put_text file ++ rest ≡ line ++ 10 ∷ after = ap (λ t. codes "=== put " ++ t) (behind_digits (decimal (length file.content)) file.path file.content rest) in
    let asked : command_of limit line ≡ command.Put (length file.content) file.path = put_asked limit (length file.content) file.path taken.0.1 small taken.0.0 taken.1 in
    let IsAsked : Command → Type 0 = λ a. IsRequest a after rest (request.Edit (Put file)) in
    record {
      whole = line ++ 10 ∷ [];
      after = after;
      first = ap lines is ∙ lines_first line after (no_newline line plain);
      is = line_read line plain taken.1;
      asks = subst IsAsked (sym asked) (whole file.content refl refl refl);
    }

remove_item : (limit : ℕ) (path rest : List ℕ) → IsTaken limit (Remove path) → IsItem limit (remove_line path ++ rest) rest (command_line (Remove path)) (request.Edit (Remove path))
remove_item limit path rest taken =
    let line : List ℕ = command_line (Remove path) in
    let plain : AllByRecursion IsPlain line = plain_remove path taken.0 in
    let is : remove_line path ++ rest ≡ line ++ 10 ∷ rest = ap (λ t. codes "=== remove " ++ t) (append_assoc path (10 ∷ []) rest) in
    let IsAsked : Command → Type 0 = λ a. IsRequest a rest rest (request.Edit (Remove path)) in
    record {
      whole = line ++ 10 ∷ [];
      after = rest;
      first = ap lines is ∙ lines_first line rest (no_newline line plain);
      is = line_read line plain taken.1;
      asks = subst IsAsked (sym (remove_asked limit path taken.0 taken.1)) (refl, refl);
    }

edit_item : (limit : ℕ) (e : Edit) (rest : List ℕ) → limit < 2 ^ 64 → IsTaken limit e → IsItem limit (edit_text e ++ rest) rest (command_line e) (request.Edit e)
edit_item limit (Put file) rest most taken = put_item limit file rest most taken
edit_item limit (Remove path) rest most taken = remove_item limit path rest taken

-- ---- all edits

collected : (limit : ℕ) (text : List ℕ) (before : List ItemView) (edits : List Edit) (rest : List ℕ) → limit < 2 ^ 64 → AllByRecursion (IsTaken limit) edits
    → AreItems limit text before (edits_text edits ++ rest) → AreItems limit text (before ++ map item_of edits) rest
collected limit text before [] rest most taken items = let P : List ItemView → Type 0 = λ all. AreItems limit text all rest in subst P (sym (append-nil before)) items
collected limit text before (e ∷ es) rest most taken items =
    let IsText : List ℕ → Type 0 = λ t. AreItems limit text before t in
    let here = subst IsText (append_assoc (edit_text e) (edits_text es) rest) items in
    let next : AreItems limit text (before ++ item_of e ∷ []) (edits_text es ++ rest) = more (item_of e) here (edit_item limit e (edits_text es ++ rest) most taken.0) refl in
    let P : List ItemView → Type 0 = λ all. AreItems limit text all rest in
    subst P (append_assoc before (item_of e ∷ []) (map item_of es)) (collected limit text (before ++ item_of e ∷ []) es rest most taken.1 next)

pub read_back : (limit : ℕ) (edits : List Edit) (rest : List ℕ) → limit < 2 ^ 64 → AllByRecursion (IsTaken limit) edits → AreItems limit (edits_text edits ++ rest) (map item_of edits) rest
read_back limit edits rest most taken = collected limit (edits_text edits ++ rest) [] edits rest most taken none
