use Rattle.std.proofs.Common.{◌≡◌, ◌++◌, drop, map}
use Rattle.bq_facts.specs.Attributes.{attribute_member}
use Rattle.bq_facts.specs.Members.{further_members}
use Rattle.bq_facts.proofs.attributes.push_further.Given as goal

abbrev pub invariant-loop-given : goal.invariant-loop-given
invariant-loop-given l = l.text ++ further_members (map attribute_member (drop l.given-index l.attributes)) ≡ l.initial.text ++ further_members (map attribute_member l.attributes)
