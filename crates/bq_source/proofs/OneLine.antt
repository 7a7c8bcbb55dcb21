-- A literal whose bytes all stand for themselves up to its closing quote is in one line.
use Rattle.std.proofs.Common.{◌≡◌, ℕ, suc, ◌+◌, inl, inr, List, [], ◌∷◌, true, false, Some, None, take, drop, refl, ap, ◌∙◌, arith}
use Rattle.std.specs.Prelude.{◌==◌}
use Rattle.std.specs.List.{prefix_len}
use Rattle.std.proofs.lemmas.Bool.{eqb-true}
use Rattle.bq_source.specs.declared.string_literal.Quoting.{Quoting}
use Rattle.bq_source.specs.declared.string_literal.BodyPart.TheVariants.{Closing}
use Rattle.bq_source.specs.Lexis.{newlines}
use Rattle.bq_source.specs.StringLiteral.{opening, begins, begins_pair, is_plain, body_part}
use Rattle.bq_source.specs.PlainString.{IsPlainString}
use Rattle.bq_base.proofs.Choices.{by_bool}
use Rattle.bq_source.proofs.Items.{scanned, past_plain, at_closing}

-- two double quotes, one on each side
abbrev lone : Quoting
lone = record { raw = false; quote = 34; triple = false }

opens : (after : List ℕ) → begins_pair 34 after ≡ false → opening (34 ∷ after) ≡ Some lone
unfolding opening
opens after h = rw h refl

closes_here : (rest : List ℕ) → begins 34 rest ≡ true → body_part lone rest ≡ Closing
unfolding body_part
closes_here [] h = cc
closes_here (b ∷ bs) h = let e = eqb-true b 34 h in rw e refl

no_newline : (b : ℕ) → is_plain 34 b ≡ true → (b == 10) ≡ false
no_newline b h = elim (by_bool (b == 10)) [
  | inl t ↦ let e = eqb-true b 10 t in let never : is_plain 34 10 ≡ true = rw e at h in cc
  | inr t ↦ t
]

-- up to the quote that ends the run, and with it
one_line : (after : List ℕ) (end : ℕ) → end ≡ prefix_len (is_plain 34) after → begins 34 (drop end after) ≡ true → newlines (take (suc end) after) ≡ 0
one_line [] end e h = cc
one_line (b ∷ bs) end e h = elim (by_bool (is_plain 34 b)) [
  | inl t ↦
      let n = prefix_len (is_plain 34) bs in
      let grown : end ≡ 1 + n = rw t at e in
      let long : end ≡ suc n = omega arith in
      let later = one_line bs n refl (rw long at h) in
      let other = no_newline b t in
      rw (long, other) later
  | inr t ↦
      let none : end ≡ 0 = rw t at e in
      let quote : (b == 34) ≡ true = rw none at h in
      let same = eqb-true b 34 quote in
      rw (none, same) refl
]

read_so : (after : List ℕ) (end : ℕ) → end ≡ prefix_len (is_plain 34) after → begins 34 (drop end after) ≡ true → begins_pair 34 after ≡ false
    → IsPlainString (34 ∷ after) (end + 2)
read_so after end e h single =
    let run : suc end ≡ 1 + prefix_len (is_plain 34) after = omega arith in
    let long : suc end + 1 ≡ end + 2 = omega arith in
    record {
      literal =
          scanned (34 ∷ after) lone (opens after single)
          ∙ (past_plain lone 1 (suc end) None (34 ∷ after) run
          ∙ (at_closing lone (suc end) None (drop end after) (closes_here (drop end after) h)
          ∙ (λ i. Some (record { len = long i; bad_escape = None }))));
      lines = let n : end + 2 ≡ suc (suc end) = omega arith in rw n (one_line after end e h);
    }

pub plain_string : (text after rest : List ℕ) (end : ℕ) → text ≡ 34 ∷ after → begins_pair 34 after ≡ false → end ≡ prefix_len (is_plain 34) after
    → drop end after ≡ 34 ∷ rest → IsPlainString text (end + 2)
plain_string text after rest end same single e next = rw same (read_so after end e (ap (begins 34) next) single)
