-- The first line of a text, and what is left.
use Rattle.std.proofs.Common.{◌≡◌, ◌≤◌, ◌<◌, ◌+◌, ◌++◌, ◌==◌, ℕ, zero, suc, true, false, List, [], ◌∷◌, Option, None, Some, length, take, slice_index, refl, sym, ap, subst, ◌∙◌, arith, append_assoc, append-nil, length-append, eq-eqb, add-one}
use Rattle.std.proofs.lemmas.Bool.{eqb-true, false_from_ne_true}
use Rattle.std.specs.Prelude.{IfNone}
use Rattle.std.specs.Io.KnownBytes.{Consumes, IsAtEnd}
use Rattle.bq_run.specs.Bundle.{lines}
use Rattle.bq_run.specs.Written.{HasNoNewline}
use Rattle.bq_run_device.proofs.Transfers.{Consumes-more, Consumes-none}
use Rattle.bq_run.proofs.Writing.{lines_first}
use Rattle.bq_run_commands.specs.Queries.{line_of, max_line_bytes, without_last}
use Rattle.bq_run_commands.specs.Reading.{TakesLine, TakesText}

take_nil : (n : ℕ) → take {A = ℕ} n [] ≡ []
take_nil zero = refl
take_nil (suc n) = refl

-- ---- the end of a line

pub without_last_end : (b : ℕ) (xs : List ℕ) → without_last b (xs ++ b ∷ []) ≡ xs
without_last_end b [] = rw (eq-eqb b b refl) refl
without_last_end b (x ∷ []) = rw (eq-eqb b b refl) refl
without_last_end b (x ∷ y ∷ ys) = ap (λ t. x ∷ t) (without_last_end b (y ∷ ys))

without_last_plain : (xs : List ℕ) → HasNoNewline xs → without_last 10 xs ≡ xs
without_last_plain [] plain = refl
without_last_plain (x ∷ []) plain = rw plain.0 refl
without_last_plain (x ∷ y ∷ ys) plain = ap (λ t. x ∷ t) (without_last_plain (y ∷ ys) plain.1)

-- the last byte is `b`, and is dropped
pub last_dropped : (b : ℕ) (xs : List ℕ) (n : ℕ) → length xs ≡ n + 1 → slice_index xs n ≡ b → without_last b xs ≡ take n xs
last_dropped b [] n long is = absurd (omega arith)
last_dropped b (x ∷ []) zero long is = rw (eq-eqb x b is) refl
last_dropped b (x ∷ []) (suc n) long is = absurd (omega arith)
last_dropped b (x ∷ y ∷ ys) zero long is = absurd (omega arith)
last_dropped b (x ∷ y ∷ ys) (suc n) long is = ap (λ t. x ∷ t) (last_dropped b (y ∷ ys) n (omega arith) is)

-- the last byte is another, and stays
pub last_kept : (b : ℕ) (xs : List ℕ) (n : ℕ) → length xs ≡ n + 1 → ¬ (slice_index xs n ≡ b) → without_last b xs ≡ xs
last_kept b [] n long is = absurd (omega arith)
last_kept b (x ∷ []) zero long is = let other : (x == b) ≡ false = false_from_ne_true (x == b) (λ same. is (eqb-true x b same)) in rw other refl
last_kept b (x ∷ []) (suc n) long is = absurd (omega arith)
last_kept b (x ∷ y ∷ ys) zero long is = absurd (omega arith)
last_kept b (x ∷ y ∷ ys) (suc n) long is = ap (λ t. x ∷ t) (last_kept b (y ∷ ys) n (omega arith) is)

pub none_kept : (b : ℕ) (xs : List ℕ) → length xs ≡ 0 → without_last b xs ≡ xs
none_kept b [] none = refl
none_kept b (x ∷ xs) none = absurd (omega arith)

-- ---- a line

plain_more : (xs : List ℕ) (b : ℕ) → HasNoNewline xs → (b == 10) ≡ false → HasNoNewline (xs ++ b ∷ [])
plain_more [] b plain other = (other, tt)
plain_more (x ∷ xs) b plain other = (plain.0, plain_more xs b plain.1 other)

lines_alone : (x : ℕ) (xs : List ℕ) → HasNoNewline (x ∷ xs) → lines (x ∷ xs) ≡ (x ∷ xs) ∷ []
lines_alone x [] plain = rw plain.0 refl
lines_alone x (y ∷ ys) plain = rw (plain.0, lines_alone y ys plain.1) refl

-- what was read of a line so far, of which `kept` counts; the numbers are how many bytes were to come before and are now
pub record IsRead (m n : ℕ) (before now : Option (List ℕ)) (kept : List ℕ) : Type 0 where
  pub bytes : List ℕ
  pub plain : HasNoNewline bytes
  pub is : kept ≡ take max_line_bytes bytes
  pub consumed : Consumes before now bytes
  pub count : n + length bytes ≤ m

pub nothing_read : (n : ℕ) (now : Option (List ℕ)) → IsRead n n now now []
nothing_read n now = record { bytes = []; plain = tt; is = refl; consumed = Consumes-none now; count = omega arith }

take_short : (cap : ℕ) (bytes : List ℕ) (b : ℕ) → length (take cap bytes) < cap → take cap bytes ++ b ∷ [] ≡ take cap (bytes ++ b ∷ [])
take_short zero bytes b short = absurd (omega arith)
take_short (suc cap) [] b short = ap (λ t. b ∷ t) (sym (take_nil cap))
take_short (suc cap) (x ∷ xs) b short = ap (λ t. x ∷ t) (take_short cap xs b (omega arith))

take_full : (cap : ℕ) (bytes : List ℕ) (b : ℕ) → cap ≤ length (take cap bytes) → take cap bytes ≡ take cap (bytes ++ b ∷ [])
take_full zero bytes b long = refl
take_full (suc cap) [] b long = absurd (omega arith)
take_full (suc cap) (x ∷ xs) b long = ap (λ t. x ∷ t) (take_full cap xs b (omega arith))

pub read_kept : (m n k : ℕ) (before now then : Option (List ℕ)) (kept : List ℕ) (b : ℕ) → IsRead m n before now kept → ¬ (b ≡ 10) → k < n → Consumes now then (b ∷ [])
    → length kept < max_line_bytes → IsRead m k before then (kept ++ b ∷ [])
read_kept m n k before now then kept b r other fewer more short = record {
  bytes = r.bytes ++ b ∷ [];
  plain = plain_more r.bytes b r.plain (false_from_ne_true (b == 10) (λ same. other (eqb-true b 10 same)));
  is = ap (λ t. t ++ b ∷ []) r.is ∙ take_short max_line_bytes r.bytes b (subst (λ t. length t < max_line_bytes) r.is short);
  consumed = Consumes-more before now then r.bytes (b ∷ []) r.consumed more;
  count = omega (arith, r.count, length-append r.bytes (b ∷ []));
}

pub read_past : (m n k : ℕ) (before now then : Option (List ℕ)) (kept : List ℕ) (b : ℕ) → IsRead m n before now kept → ¬ (b ≡ 10) → k < n → Consumes now then (b ∷ [])
    → max_line_bytes ≤ length kept → IsRead m k before then kept
read_past m n k before now then kept b r other fewer more long = record {
  bytes = r.bytes ++ b ∷ [];
  plain = plain_more r.bytes b r.plain (false_from_ne_true (b == 10) (λ same. other (eqb-true b 10 same)));
  is = r.is ∙ take_full max_line_bytes r.bytes b (subst (λ t. max_line_bytes ≤ length t) r.is long);
  consumed = Consumes-more before now then r.bytes (b ∷ []) r.consumed more;
  count = omega (arith, r.count, length-append r.bytes (b ∷ []));
}

takes_line : (before after : Option (List ℕ)) (bytes kept : List ℕ) → Consumes before after (bytes ++ 10 ∷ []) → HasNoNewline bytes → kept ≡ take max_line_bytes bytes → TakesLine before after kept
unfolding line_of
takes_line None after bytes kept gone plain is = tt
takes_line (Some before) None bytes kept gone plain is = absurd gone
takes_line (Some before) (Some after) bytes kept gone plain is =
    (bytes ++ 10 ∷ [], ap lines (gone ∙ append_assoc bytes (10 ∷ []) after) ∙ lines_first bytes after plain, is ∙ ap (take max_line_bytes) (sym (without_last_end 10 bytes)))

-- the newline is read
pub line_read : (m n : ℕ) (before now then : Option (List ℕ)) (kept : List ℕ) → IsRead m n before now kept → Consumes now then (10 ∷ []) → TakesLine before then kept
line_read m n before now then kept r newline = takes_line before then r.bytes kept (Consumes-more before now then r.bytes (10 ∷ []) r.consumed newline) r.plain r.is

some_read : (cap : ℕ) (bytes kept : List ℕ) → kept ≡ take cap bytes → 0 < length kept → 0 < length bytes
some_read cap [] kept is some = absurd (omega (arith, ap length (is ∙ take_nil cap)))
some_read cap (x ∷ xs) kept is some = omega arith

takes_rest : (before after : Option (List ℕ)) (bytes kept : List ℕ) → Consumes before after bytes → IsAtEnd after → HasNoNewline bytes → kept ≡ take max_line_bytes bytes → 0 < length kept → TakesLine before after kept
unfolding line_of
takes_rest None after bytes kept gone end plain is some = tt
takes_rest (Some before) None bytes kept gone end plain is some = absurd gone
takes_rest (Some before) (Some after) [] kept gone end plain is some = absurd (omega (arith, some_read max_line_bytes [] kept is some))
takes_rest (Some before) (Some after) (x ∷ xs) kept gone end plain is some =
    let whole : before ≡ x ∷ xs = gone ∙ (ap (λ t. (x ∷ xs) ++ t) end ∙ append-nil (x ∷ xs)) in
    (x ∷ xs, ap lines whole ∙ (lines_alone x xs plain ∙ ap (λ t. (x ∷ xs) ∷ lines t) (sym end)), is ∙ ap (take max_line_bytes) (sym (without_last_plain (x ∷ xs) plain)))

-- the text ends in a line without newline
pub rest_read : (m n : ℕ) (before now then : Option (List ℕ)) (kept : List ℕ) → IsRead m n before now kept → Consumes now then [] → IsAtEnd then → 0 < length kept → TakesLine before then kept
rest_read m n before now then kept r none end some =
    takes_rest before then r.bytes kept (subst (Consumes before then) (append-nil r.bytes) (Consumes-more before now then r.bytes [] r.consumed none)) end r.plain r.is some

pub fewer_left : (m n : ℕ) (before now : Option (List ℕ)) (kept : List ℕ) → IsRead m n before now kept → 0 < length kept → n < m
fewer_left m n before now kept r some = omega (arith, r.count, some_read max_line_bytes r.bytes kept r.is some)

none_read : (cap : ℕ) (bytes kept : List ℕ) → kept ≡ take (cap + 1) bytes → length kept ≡ 0 → bytes ≡ []
none_read cap [] kept is none = refl
none_read cap (x ∷ xs) kept is none = absurd (omega (arith, ap length (is ∙ ap (λ n. take n (x ∷ xs)) (add-one cap))))

at_end : (before after : Option (List ℕ)) → Consumes before after [] → IsAtEnd after → IsAtEnd before
at_end None after gone end = tt
at_end (Some before) None gone end = absurd gone
at_end (Some before) (Some after) gone end = gone ∙ end

-- the text ends where a line would begin
pub end_read : (m n : ℕ) (before now then : Option (List ℕ)) (kept : List ℕ) → IsRead m n before now kept → Consumes now then [] → IsAtEnd then → length kept ≡ 0 → IsAtEnd before
end_read m n before now then kept r none end empty =
    at_end before then (subst (λ t. Consumes before then (t ++ [])) (none_read 1048577 r.bytes kept r.is empty) (Consumes-more before now then r.bytes [] r.consumed none)) end

pub some_bytes : (n : ℕ) (xs : List ℕ) → false ≡ (n == 0) → n ≡ length xs → 0 < length xs
some_bytes n [] h long = let none : (n == 0) ≡ true = eq-eqb n 0 long in cc
some_bytes n (x ∷ xs) h long = omega arith

-- what holds at the end, where nothing was read
pub at_none : (read : Option ℕ) (P : Type 0) → ((b : ℕ) → ¬ (read ≡ Some b)) → IfNone read P → P
at_none None P other p = p
at_none (Some b) P other p = absurd (other b refl)

-- the line without the CR at its end
pub text_taken : (before after : Option (List ℕ)) (line text : List ℕ) → TakesLine before after line → text ≡ without_last 13 line → TakesText before after text
text_taken None after line text takes is = tt
text_taken (Some before) None line text takes is = absurd takes
text_taken (Some before) (Some after) line text takes is = (takes.0, takes.1, is ∙ ap (without_last 13) takes.2)
