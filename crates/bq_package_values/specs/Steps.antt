-- The steps that the definitions of values and of calls are made of.
use Rattle.std.specs.Prelude.{List, [], ◌∷◌, ◌++◌, Result, Ok, Err}

-- an answer, and then another, which knows what the first one was
abbrev pub and_then : {A B E : Type 0} → Result A E → (A → Result B E) → Result B E
and_then (Ok a) next = next a
and_then (Err why) next = Err why

-- What each element gives, from the first on, after what is there; or the first refusal.
unfoldable pub in_turn : {A B E : Type 0} → (A → Result B E) → List B → List A → Result (List B) E
in_turn f done [] = Ok done
in_turn f done (x ∷ xs) = and_then (f x) (λ y. in_turn f (done ++ y ∷ []) xs)
