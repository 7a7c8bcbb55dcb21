-- What words stand for. What numbers and strings stand for is `int_value` and `string_value` of bq_source.
use Rattle.std.specs.Prelude.{ℕ, List, [], ◌∷◌, Bool, false, ◌&&◌}
use Rattle.std.specs.List.{list_all}
use Rattle.bq_source.specs.declared.token.TokenKind.TheVariants as k
use Rattle.bq_source.specs.Token.{same_kind}
use Rattle.bq_source.specs.Lexis.{is_letter, is_word, word_kind}
use Rattle.bq_parse_grammar.specs.declared.tree.Identifier.{Identifier}
use Rattle.bq_parse_grammar.specs.declared.tree.Referent.TheVariants as referent
use Rattle.bq_parse_grammar.specs.Lexeme.{Lexeme}

-- a name that is read on a line: what it refers to isn't known yet
abbrev pub named : List ℕ → ℕ → Identifier
named name line = record { name = name; referent = referent.Unresolved line }

-- on which line a name stands, until it is resolved
abbrev pub name_line : Identifier → ℕ
name_line n = elim n.referent [ referent.Unresolved line ↦ line | _ ↦ 0 ]

-- a word names by its spelling
abbrev pub identifier : Lexeme → Identifier
identifier t = named t.spelling t.line

-- the bytes of a string are a word that may name something: no keyword, and none that is reserved
unfoldable pub is_identifier : List ℕ → Bool
is_identifier [] = false
is_identifier (b ∷ bs) = is_letter b && (list_all is_word bs && same_kind (word_kind (b ∷ bs)) k.Identifier)
