-- The words of commands: the number and the path of a file that is put, and others.
use Rattle.std.proofs.Common.{◌≡◌, ◌<◌, ◌≤◌, ◌+◌, ◌-◌, ◌*◌, ◌==◌, ℕ, zero, suc, true, false, List, [], ◌∷◌, Option, None, Some, length, drop, get_or, refl, ap, arith, eq-eqb, take, take_all, length-drop}
use Rattle.std.proofs.lemmas.List.{drop_more}
use Rattle.std.proofs.lemmas.Bool.{false_from_ne_true, eqb-true}
use Rattle.std.specs.Prelude.{codes, nat_eq}
use Rattle.std.specs.List.{starts_with}
use Rattle.bq_run_commands.specs.declared.commands.Command.TheVariants.{Facts}
use Rattle.bq_run_commands.specs.Commands.{command_by, count_and_path, goes_on, put_words, remove_of}

other_byte : (b : ℕ) → ¬ (b ≡ 32) → (b == 32) ≡ false
other_byte b other = false_from_ne_true (b == 32) (λ same. other (eqb-true b 32 same))

-- the number ends here
pub count_ends : (limit n : ℕ) (text : List ℕ) (i : ℕ) → i < length text → get_or text i 0 ≡ 32 → count_and_path limit n (drop i text) ≡ Some (n, drop (i + 1) text)
count_ends limit n text i less is = rw (drop_more text i 0 less) (rw (eq-eqb (get_or text i 0) 32 is) refl)

-- a digit more
pub count_more : (limit n : ℕ) (text : List ℕ) (i : ℕ) → i < length text → ¬ (get_or text i 0 ≡ 32) → goes_on limit n (get_or text i 0) ≡ true
    → count_and_path limit n (drop i text) ≡ count_and_path limit (n * 10 + (get_or text i 0 - 48)) (drop (i + 1) text)
count_more limit n text i less other good = rw (drop_more text i 0 less) (rw (other_byte (get_or text i 0) other) (rw good refl))

-- another byte
pub count_stops : (limit n : ℕ) (text : List ℕ) (i : ℕ) → i < length text → ¬ (get_or text i 0 ≡ 32) → goes_on limit n (get_or text i 0) ≡ false → count_and_path limit n (drop i text) ≡ None
count_stops limit n text i less other bad = rw (drop_more text i 0 less) (rw (other_byte (get_or text i 0) other) (rw bad refl))

pub count_no_end : (limit n : ℕ) (text : List ℕ) (i : ℕ) → length text ≤ i → count_and_path limit n (drop i text) ≡ None
count_no_end limit n [] zero less = refl
count_no_end limit n [] (suc i) less = refl
count_no_end limit n (b ∷ bs) zero less = absurd (omega arith)
count_no_end limit n (b ∷ bs) (suc i) less = count_no_end limit n bs i (omega arith)

-- a text that doesn't begin with a space
pub words_counted : (limit : ℕ) (text : List ℕ) → ¬ (get_or text 0 0 ≡ 32) → put_words limit text ≡ count_and_path limit 0 text
words_counted limit [] other = refl
words_counted limit (b ∷ bs) other = rw (other_byte b other) refl

-- ---- the words of commands

-- what comes after the first bytes is all that is left
all_after : (n : ℕ) (text : List ℕ) → take (length text - n) (drop n text) ≡ drop n text
all_after n text = take_all (length text - n) (drop n text) (omega (arith, length-drop n text))

pub removed_by : (limit : ℕ) (line : List ℕ) → starts_with nat_eq line (codes "=== put ") ≡ false → starts_with nat_eq line (codes "=== remove ") ≡ true
    → remove_of (take (length line - 11) (drop 11 line)) ≡ command_by limit line
unfolding command_by
removed_by limit line put remove = rw (put, remove) (ap remove_of (all_after 11 line))

pub facts_by : (limit : ℕ) (line : List ℕ) → starts_with nat_eq line (codes "=== put ") ≡ false → starts_with nat_eq line (codes "=== remove ") ≡ false
    → starts_with nat_eq line (codes "=== facts ") ≡ true → Facts (Some (take (length line - 10) (drop 10 line))) ≡ command_by limit line
unfolding command_by
facts_by limit line put remove facts = rw (put, remove, facts) (ap (λ (query : List ℕ). Facts (Some query)) (all_after 10 line))
