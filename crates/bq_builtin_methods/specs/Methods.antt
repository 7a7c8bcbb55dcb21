-- The methods of strings, lists and dicts, of which each has a row: its name, which arguments it takes, and what a call of it gives (Starlark,
-- "string·count" to "string·upper", "list·append" to "list·remove", "dict·clear" to "dict·values").
use Rattle.std.specs.Prelude.{ℕ, Bool, List, [], ◌∷◌, map, codes, slice_get, Result, Ok}
use Rattle.std.specs.Char.{to_ascii_lowercase, to_ascii_uppercase}
use Rattle.bq_base.specs.declared.fault.EvalFault.{EvalFault}
use Rattle.bq_value.specs.Datum.{Datum, boolean, string}
use Rattle.bq_builtin_strings.specs.Case.{all_are, is_lower, is_upper, elems}
use Rattle.bq_builtin_strings.specs.declared.class.ByteClass.TheVariants.{Alphanumeric, Alphabetic, Digit, Space}
use Rattle.bq_builtin_machine.specs.State.{State}
use Rattle.bq_builtin_machine.specs.Action.{Action}
use Rattle.bq_builtin_machine.specs.Answer.{and_then, as_string}
use Rattle.bq_builtin_methods.specs.Calling.{Calling, gives, lists, changes_list, changes_dict, does}
use Rattle.bq_builtin_string_methods.specs.Searches.{search}
use Rattle.bq_builtin_string_methods.specs.Affixes.{ends}
use Rattle.bq_builtin_string_methods.specs.Strips.{strip}
use Rattle.bq_builtin_string_methods.specs.Cuts.{partition, split, splitlines}
use Rattle.bq_builtin_string_methods.specs.Longer.{replace, joined}
use Rattle.bq_builtin_string_methods.specs.Format.{format_text}
use Rattle.bq_builtin_string_methods.specs.declared.searches.SearchMethod.TheVariants.{Count, Find, Rfind, Index, Rindex}
use Rattle.bq_builtin_string_methods.specs.declared.affixes.EndMethod.TheVariants.{Startswith, Endswith}
use Rattle.bq_builtin_string_methods.specs.declared.strips.StripMethod.TheVariants.{Strip, Lstrip, Rstrip, Removeprefix, Removesuffix}
use Rattle.bq_builtin_string_methods.specs.declared.cuts.Side.TheVariants.{Left, Right}
use Rattle.bq_builtin_methods.specs.List as list
use Rattle.bq_builtin_methods.specs.Dict as dict
use Rattle.bq_builtin_methods.specs.declared.row.Parameters.TheVariants.{Positional, Any}
use Rattle.bq_builtin_methods.specs.Method.{Method}

-- ---- what calls give

-- a value, of a string and the positional arguments
abbrev of_text : (List ℕ → List Datum → Result Datum EvalFault) → List ℕ → Calling
of_text f text = gives (λ s args. f text args.positional)

-- another string
abbrev text_of : (List ℕ → List Datum → Result (List ℕ) EvalFault) → List ℕ → Calling
text_of f text = gives (λ s args. as_string (f text args.positional))

-- whether a string is so
abbrev test : (List ℕ → Bool) → List ℕ → Calling
test f text = gives (λ s args. Ok (boolean (f text)))

-- a new list of strings
abbrev parts : (List ℕ → List Datum → Result (List (List ℕ)) EvalFault) → List ℕ → Calling
parts f text = lists (λ s args. and_then (f text args.positional) (λ strings. Ok (map string strings)))

-- what another action does with a list or dict and the positional arguments
abbrev on_cell : (ℕ → ℕ → List Datum → Action State Datum) → ℕ × ℕ → Calling
on_cell action c = does (λ args. action c.0 c.1 args.positional)

-- ---- the tables

-- the methods of strings
unfoldable pub string_methods : List (List ℕ × Method (List ℕ))
string_methods =
    (codes "count", (Positional 1 3, of_text (search Count))) ∷
    (codes "elems", (Positional 0 0, parts (λ text args. Ok (elems text)))) ∷
    (codes "endswith", (Positional 1 3, of_text (ends Endswith))) ∷
    (codes "find", (Positional 1 3, of_text (search Find))) ∷
    (codes "format", (Any, λ text. does (format_text text))) ∷
    (codes "index", (Positional 1 3, of_text (search Index))) ∷
    (codes "isalnum", (Positional 0 0, test (all_are Alphanumeric))) ∷
    (codes "isalpha", (Positional 0 0, test (all_are Alphabetic))) ∷
    (codes "isdigit", (Positional 0 0, test (all_are Digit))) ∷
    (codes "islower", (Positional 0 0, test is_lower)) ∷
    (codes "isspace", (Positional 0 0, test (all_are Space))) ∷
    (codes "isupper", (Positional 0 0, test is_upper)) ∷
    (codes "join", (Positional 1 1, λ text. does (λ args. joined text (slice_get args.positional 0)))) ∷
    (codes "lower", (Positional 0 0, text_of (λ text args. Ok (map to_ascii_lowercase text)))) ∷
    (codes "lstrip", (Positional 0 1, text_of (strip Lstrip))) ∷
    (codes "partition", (Positional 1 1, of_text (partition Left))) ∷
    (codes "removeprefix", (Positional 1 1, text_of (strip Removeprefix))) ∷
    (codes "removesuffix", (Positional 1 1, text_of (strip Removesuffix))) ∷
    (codes "replace", (Positional 2 3, text_of replace)) ∷
    (codes "rfind", (Positional 1 3, of_text (search Rfind))) ∷
    (codes "rindex", (Positional 1 3, of_text (search Rindex))) ∷
    (codes "rpartition", (Positional 1 1, of_text (partition Right))) ∷
    (codes "rsplit", (Positional 0 2, parts (split Right))) ∷
    (codes "rstrip", (Positional 0 1, text_of (strip Rstrip))) ∷
    (codes "split", (Positional 0 2, parts (split Left))) ∷
    (codes "splitlines", (Positional 0 1, parts splitlines)) ∷
    (codes "startswith", (Positional 1 3, of_text (ends Startswith))) ∷
    (codes "strip", (Positional 0 1, text_of (strip Strip))) ∷
    (codes "upper", (Positional 0 0, text_of (λ text args. Ok (map to_ascii_uppercase text)))) ∷
    []

-- the methods of lists
unfoldable pub list_methods : List (List ℕ × Method (ℕ × ℕ))
list_methods =
    (codes "append", (Positional 1 1, changes_list list.append)) ∷
    (codes "clear", (Positional 0 0, changes_list list.clear)) ∷
    (codes "extend", (Positional 1 1, changes_list list.extend)) ∷
    (codes "index", (Positional 1 3, on_cell list.index)) ∷
    (codes "insert", (Positional 2 2, changes_list list.insert_at)) ∷
    (codes "pop", (Positional 0 1, changes_list list.pop)) ∷
    (codes "remove", (Positional 1 1, on_cell list.remove_value)) ∷
    []

-- the methods of dicts; `update` takes arguments by name, too
unfoldable pub dict_methods : List (List ℕ × Method (ℕ × ℕ))
dict_methods =
    (codes "clear", (Positional 0 0, changes_dict dict.clear)) ∷
    (codes "get", (Positional 1 2, on_cell dict.get)) ∷
    (codes "items", (Positional 0 0, on_cell dict.dict_items)) ∷
    (codes "keys", (Positional 0 0, on_cell dict.dict_keys)) ∷
    (codes "pop", (Positional 1 2, on_cell dict.pop)) ∷
    (codes "popitem", (Positional 0 0, changes_dict dict.popitem)) ∷
    (codes "setdefault", (Positional 1 2, on_cell dict.setdefault)) ∷
    (codes "update", (Any, λ c. does (dict.update c.0 c.1))) ∷
    (codes "values", (Positional 0 0, on_cell dict.dict_values)) ∷
    []
