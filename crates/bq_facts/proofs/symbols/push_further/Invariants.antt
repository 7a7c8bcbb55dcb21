use Rattle.std.proofs.Common.{◌≡◌, ◌++◌, drop, map}
use Rattle.bq_facts.specs.Members.{further_members}
use Rattle.bq_facts.specs.ModuleLine.{symbol_member}
use Rattle.bq_facts.proofs.symbols.push_further.Given as goal

abbrev pub invariant-loop-symbol : goal.invariant-loop-symbol
invariant-loop-symbol l = l.text ++ further_members (map symbol_member (drop l.symbol-index l.symbols)) ≡ l.initial.text ++ further_members (map symbol_member l.symbols)
