use Rattle.std.proofs.Common.{◌≡◌, ◌+◌, ◌≤◌, length}
use Rattle.bq_parse.specs.Pieces.{piece_len, rest_len}
use Rattle.bq_parse.proofs.pieces.piece_len.Given as goal

abbrev pub invariant-tokens : goal.invariant-tokens
invariant-tokens l = record {
  same : piece_len l.tokens + length l.rest ≡ length l.tokens + rest_len l.line l.indents l.rest;
  few : l.indents + length l.rest ≤ length l.tokens;
}

abbrev pub decreases-tokens : goal.decreases-tokens
decreases-tokens l = length l.rest
