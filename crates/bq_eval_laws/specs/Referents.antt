-- What the resolver writes into a name.
use Rattle.bq_parse_grammar.specs.declared.tree.Referent.{Referent}
use Rattle.bq_parse_grammar.specs.declared.tree.Referent.TheVariants as referent

-- a name that is used refers to something
abbrev pub RefersToAny : Referent → Type 0
RefersToAny (referent.Unresolved line) = ⊥
RefersToAny _ = Unit {0}

-- one that is bound refers to a slot of the frame, or to a global of the file
abbrev pub RefersToPlace : Referent → Type 0
RefersToPlace (referent.Local slot) = Unit {0}
RefersToPlace (referent.Global k) = Unit {0}
RefersToPlace _ = ⊥
