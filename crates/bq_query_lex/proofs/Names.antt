-- What a text names as a label, and what it has before its first colon.
use Rattle.std.proofs.Common.{◌≡◌, ◌∙◌, ℕ, ◌++◌, ◌==◌, false, List, [], ◌∷◌, Some, sym, ap}
use Rattle.std.specs.List.{list_any}
use Rattle.bq_label.specs.Label.{LabelParts, IsLabel, package_at}
use Rattle.bq_label.specs.Reading.{split_once}
use Rattle.bq_label.proofs.Cuts.{cut_joined}
use Rattle.bq_label.proofs.Readings.{reading_from_label}
use Rattle.bq_label.proofs.Repositories.{some_parts}
use Rattle.bq_query_lex.specs.PatternReading.{label_named}

pub some_is : {A : Type 0} {x y : A} → Some x ≡ Some y → x ≡ y
some_is e = cc

-- two cuts of one text at its first such byte
pub same_cut : (c : ℕ) (xs ys us vs : List ℕ) → list_any (λ b. b == c) xs ≡ false → list_any (λ b. b == c) us ≡ false → xs ++ c ∷ ys ≡ us ++ c ∷ vs → (xs ≡ us) × (ys ≡ vs)
same_cut c xs ys us vs n m e =
    let both : (xs, ys) ≡ (us, vs) = some_parts (sym (cut_joined c xs ys n) ∙ (ap (split_once c) e ∙ cut_joined c us vs m)) in
    (ap (λ (q : List ℕ × List ℕ). q.0) both, ap (λ (q : List ℕ × List ℕ). q.1) both)

pub label_valid : (word : List ℕ) (l : LabelParts) → label_named word ≡ Some l → IsLabel l
label_valid word l h = (reading_from_label (package_at [] []) word l h).valid
