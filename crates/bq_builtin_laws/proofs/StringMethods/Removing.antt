-- Affixes that are removed.
use Rattle.std.proofs.Common.{◌≡◌, ◌∙◌, refl, ap, ℕ, ◌-◌, true, List, [], ◌∷◌, ◌++◌, length, take, drop, Ok, arith, length-append}
use Rattle.std.specs.Prelude.{bytes_eq}
use Rattle.std.proofs.lemmas.Slice.Eq.{bytes_eq-Decides}
use Rattle.std.proofs.Math.Seq.{take-append_seam, drop-append_seam}
use Rattle.bq_value.specs.Datum.{string}
use Rattle.bq_builtin_string_methods.specs.Strips.{strip}
use Rattle.bq_builtin_string_methods.specs.declared.strips.StripMethod.TheVariants.{Removeprefix, Removesuffix}

same_text : (t : List ℕ) → bytes_eq t t ≡ true
same_text t = (bytes_eq-Decides t t).1 refl

pub without_prefix : (prefix text : List ℕ) → strip Removeprefix (prefix ++ text) (string prefix ∷ []) ≡ Ok text
unfolding strip
without_prefix prefix text =
    let begins : bytes_eq prefix (take (length prefix) (prefix ++ text)) ≡ true = ap (bytes_eq prefix) (take-append_seam prefix text) ∙ same_text prefix in
    rw begins (ap Ok (drop-append_seam prefix text))

pub without_suffix : (text suffix : List ℕ) → strip Removesuffix (text ++ suffix) (string suffix ∷ []) ≡ Ok text
unfolding strip
without_suffix text suffix =
    let len : length (text ++ suffix) - length suffix ≡ length text = omega (arith, length-append text suffix) in
    let ends : bytes_eq suffix (drop (length (text ++ suffix) - length suffix) (text ++ suffix)) ≡ true =
    ap (λ n. bytes_eq suffix (drop n (text ++ suffix))) len ∙ (ap (bytes_eq suffix) (drop-append_seam text suffix) ∙ same_text suffix) in
    rw ends (ap Ok (ap (λ n. take n (text ++ suffix)) len ∙ take-append_seam text suffix))
