-- Each byte of a body stands for itself where it has no CR, and no backslash unless the literal is raw.
use Rattle.std.proofs.Common.{◌≡◌, ℕ, List, [], ◌∷◌, Bool, true, false, refl, ap, ◌∙◌}
use Rattle.std.specs.Prelude.{◌==◌, not, ◌&&◌, ◌||◌}
use Rattle.std.specs.List.{list_any, list_all}
use Rattle.bq_source.specs.StringLiteral.{stays}

one : (a b c d raw : Bool) → (not (a || c) && (raw || not (b || d))) ≡ ((not a && (raw || not b)) && (not c && (raw || not d)))
one true b c d raw = refl
one false b true d true = refl
one false true true d false = refl
one false false true d false = refl
one false b false d true = refl
one false true false d false = refl
one false false false d false = refl

pub verbatim : (raw : Bool) (body : List ℕ) → (not (list_any (λ b. b == 13) body) && (raw || not (list_any (λ b. b == 92) body))) ≡ list_all (stays raw) body
verbatim true [] = refl
verbatim false [] = refl
verbatim raw (b ∷ bs) = one (b == 13) (b == 92) (list_any (λ b. b == 13) bs) (list_any (λ b. b == 92) bs) raw ∙ ap (λ later. stays raw b && later) (verbatim raw bs)
