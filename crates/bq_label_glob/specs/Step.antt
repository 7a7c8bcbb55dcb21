-- What the first elements of what is left of a pattern and of a text say.
use Rattle.std.specs.Prelude.{◌≡◌, ℕ, Bool, true, false, List, [], ◌∷◌}
use Rattle.bq_label_glob.specs.declared.step.Step.{Step}
use Rattle.bq_label_glob.specs.declared.step.Step.TheVariants.{Many, One, End, Fail}
use Rattle.bq_label_glob.specs.Matching.{takes}

-- P and T are what is left of the pattern and of the text from a place on
abbrev pub StepIs : {A X : Type 0} → (A → Bool) → (A → X → Bool) → (ℕ → List A) → (ℕ → List X) → ℕ → ℕ → Step → Type 0
StepIs {A = A} many fits P T p t (Many q) = (a : A) × (P p ≡ a ∷ P q) × (many a ≡ true)
StepIs {A = A} {X = X} many fits P T p t (One q u) = (a : A) × (x : X) × (P p ≡ a ∷ P q) × (T t ≡ x ∷ T u) × (many a ≡ false) × (fits a x ≡ true)
StepIs many fits P T p t End = (P p ≡ []) × (T t ≡ [])
StepIs many fits P T p t Fail = takes many fits (P p) (T t) ≡ false
