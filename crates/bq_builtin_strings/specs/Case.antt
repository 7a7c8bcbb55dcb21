-- What a text is made of (Starlark, "string·isalnum", "string·isalpha", "string·isdigit", "string·isspace", "string·islower",
-- "string·isupper"), and its bytes (after "string·elems").
use Rattle.std.specs.Prelude.{ℕ, Bool, not, ◌&&◌, nat_lt, List, [], ◌∷◌, length, map}
use Rattle.std.specs.List.{list_all, list_any}
use Rattle.bq_builtin_strings.specs.Class.{has}
use Rattle.bq_builtin_strings.specs.declared.class.ByteClass.{ByteClass}
use Rattle.bq_builtin_strings.specs.declared.class.ByteClass.TheVariants.{Lowercase, Uppercase}

-- not empty, and each byte is of the class
abbrev pub all_are : ByteClass → List ℕ → Bool
all_are class text = nat_lt 0 (length text) && list_all (has class) text

-- some letter, and none of the other case
abbrev pub is_lower : List ℕ → Bool
is_lower text = list_any (has Lowercase) text && not (list_any (has Uppercase) text)

-- `isupper`: there is a letter in upper case, and none in lower case
abbrev pub is_upper : List ℕ → Bool
is_upper text = list_any (has Uppercase) text && not (list_any (has Lowercase) text)

-- texts of one byte each
abbrev pub elems : List ℕ → List (List ℕ)
elems text = map (λ b. b ∷ []) text
