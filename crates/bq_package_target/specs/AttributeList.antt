-- The attributes of a target, as its list holds them.
use Rattle.std.specs.Prelude.{List, [], Option, None, Some}
use Rattle.std.specs.declared.alloc.Global.{Global}
use Rattle.std.specs.declared.sync.Arc.{Arc}
use Rattle.bq_package_target.specs.declared.value.GivenAttribute.{GivenAttribute}

-- the attributes behind a share; none where there is no share
abbrev pub attributes_in : Option (Arc (List GivenAttribute) Global) → List GivenAttribute
attributes_in None = []
attributes_in (Some a) = a.value
