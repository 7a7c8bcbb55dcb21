-- What a call gives that may be refused: the definition's result, out of memory aside. Each crate uses it, with its own view
-- and its own error type.
use Rattle.std.specs.Prelude.{◌≡◌, Result, Ok, Err}

-- Where the call succeeds, the definition gives the view of what it returned; where it is refused for a reason that the
-- definition knows, `bad reason`, the definition is refused for that reason. Of any other error, out of memory, nothing is said.
abbrev pub Gives : {A B W E : Type 0} → (A → B) → (W → E) → Result A E → Result B W → Type 0
Gives view bad (Ok x) definition = definition ≡ Ok (view x)
Gives {W = W} view bad (Err e) definition = (why : W) → e ≡ bad why → definition ≡ Err why

-- The same of a definition that is a relation: what the call returned is in it, out of memory aside.
abbrev pub GivesOneOf : {A B W E : Type 0} → (A → B) → (W → E) → Result A E → (Result B W → Type 0) → Type 0
GivesOneOf view bad (Ok x) definition = definition (Ok (view x))
GivesOneOf {W = W} view bad (Err e) definition = (why : W) → e ≡ bad why → definition (Err why)
