use Rattle.std.proofs.Common.{◌≡◌, [], None, length}
use Rattle.bq_builtin_format.specs.Percent.{blank}
use Rattle.bq_builtin_format.specs.Piece.{field_of, pieces}
use Rattle.bq_builtin_format.specs.Argument.{no_fields}
use Rattle.bq_builtin_format.specs.Method.{made}
use Rattle.bq_builtin_format.proofs.method.fill.Given as goal

-- what is left gives what all gives, and begins with a field if it is not empty
abbrev pub invariant-loop-name : goal.invariant-loop-name
invariant-loop-name l =
    record {
      same : made l.store l.values l.named blank l.steps l.values no_fields (pieces l.text) ≡ made l.store l.values l.named l.draft l.left l.next l.numbering (pieces l.rest);
      field : field_of l.rest ≡ None → l.rest ≡ [];
    }

abbrev pub decreases-loop-name : goal.decreases-loop-name
decreases-loop-name l = length l.rest
