-- What comes after a first operand.
use Rattle.std.specs.Prelude.{ℕ, zero, suc, List, [], Ok}
use Rattle.bq_parse_grammar.specs.declared.tree.Expr.{Expr}
use Rattle.bq_parse_grammar.specs.declared.tree.Operation.{Operation}
use Rattle.bq_parse_grammar.specs.Grammar.{binary_of}
use Rattle.bq_parse_grammar.specs.Operators.{operator_at}
use Rattle.bq_parse_grammar.specs.Reading.{has, operation, binary, comp_after, not_test, and_test}
use Rattle.bq_parse_grammar.specs.Turns.{Parse, ◌>>=◌, repeat}

-- the operators of one level, each with the operand after it
abbrev pub operations : ℕ → Parse Expr → Parse (List Operation)
operations l one ts = repeat (has (operator_at l)) (operation l one) [] ts

-- what operators of up to this level do to an operand that is read: level by level, from the tightest
unfoldable pub further : Parse Expr → ℕ → Expr → Parse Expr
further base zero x ts = Ok (x, ts)
further base (suc l) x ts =
    further base l x ts >>= λ y mid. repeat (has (operator_at (suc l))) (operation (suc l) (binary base l)) [] mid >>= λ os rest. Ok (binary_of y os, rest)

-- what the operators of one level do to an operand
abbrev pub chained_by : ℕ → Parse Expr → Expr → Parse Expr
chained_by l one x ts = repeat (has (operator_at l)) (operation l one) [] ts >>= λ os rest. Ok (binary_of x os, rest)

-- the rest of an Or after its first primary, level by level
abbrev pub or_after_primary : Parse Expr → Expr → Parse Expr
or_after_primary base x ts =
    ((further base 6 x ts >>= λ y rest. comp_after base y rest) >>= λ y rest. chained_by 9 (not_test base) y rest) >>= λ y rest. chained_by 10 (and_test base) y rest
