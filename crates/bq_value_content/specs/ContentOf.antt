-- What the fields of a cell's content stand for.
use Rattle.bq_value_content.specs.Contents.{Contents, items, pairs, rule}
use Rattle.bq_value_content.specs.declared.content.Body.{Body}
use Rattle.bq_value_content.specs.declared.content.Body.TheVariants.{List, Dict, Rule}
use Rattle.bq_value_content.specs.declared.content.Held.{Held}
use Rattle.bq_value_content.specs.declared.content.Held.TheVariants.{Own, Shared}

-- what a cell's body holds: a list's items, a dict's pairs or a rule's class
abbrev pub contents_of : Body → Contents
contents_of (List v) = items v.items
contents_of (Dict d) = pairs d
contents_of (Rule c) = rule c

-- whether it is shared is of no account
abbrev pub held_of : Held → Contents
held_of (Own b) = contents_of b
held_of (Shared a alloc) = contents_of a.value
