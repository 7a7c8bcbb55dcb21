use Rattle.std.proofs.Common.{◌≡◌, ◌<◌, ◌≤◌, ◌-◌, length, drop, IfSome}
use Rattle.bq_source.specs.StringLiteral.{scan_string, literal_from, items}
use Rattle.bq_source.proofs.string_literal.scan_string.Given as goal

abbrev pub invariant-items : goal.invariant-items
invariant-items l = record {
  same : scan_string l.text ≡ literal_from l.quoting l.at l.bad_escape (items l.quoting 0 (drop l.at l.text));
  within : l.at ≤ length l.text;
  escape_within : IfSome l.bad_escape (λ at. at < l.at);
}

abbrev pub decreases-items : goal.decreases-items
decreases-items l = length l.text - l.at
