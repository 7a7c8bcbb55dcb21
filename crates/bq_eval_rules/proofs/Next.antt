-- What a walk says of the elements that are left.
use Rattle.std.proofs.Common.{◌≡◌, ◌∙◌, ap, List, [], ◌∷◌, Option, Some, None}
use Rattle.bq_builtin_machine.specs.Iteration.{IsNext}

pub none_left : {A : Type 0} (o : Option A) (old new : List A) → o ≡ None → IsNext o old new → old ≡ []
none_left None old new e h = h.0
none_left (Some x) old new e h = absurd (cc)

same_next : {A : Type 0} (x y : A) → Some y ≡ Some x → y ≡ x
same_next x y e = cc

pub one_left : {A : Type 0} (o : Option A) (x : A) (old new : List A) → o ≡ Some x → IsNext o old new → old ≡ x ∷ new
one_left None x old new e h = absurd (cc)
one_left (Some y) x old new e h = h ∙ ap (λ z. z ∷ new) (same_next x y e)
