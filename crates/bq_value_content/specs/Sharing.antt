-- What a cell holds, lent to be changed.
use Rattle.std.specs.Prelude.{Result}
use Rattle.std.specs.Borrow.{Lends, LendsIfOk, MutBor, Fml}
use Rattle.std.specs.declared.alloc.AllocError.{AllocError}
use Rattle.bq_value_content.specs.Contents.{Contents}
use Rattle.bq_value_content.specs.ContentOf.{contents_of}
use Rattle.bq_value_content.specs.declared.content.Body.{Body}
use Rattle.bq_value_content.specs.declared.content.Held.{Held}
use Rattle.bq_value_content.specs.declared.content.Held.TheVariants.{Own}
use Rattle.bq_value_content.specs.contracts.content.Body.{the_row as body_row}
use Rattle.bq_value_content.specs.contracts.content.Held.{the_row as held_row}
use Rattle.bq_value_content.specs.contracts.content.Content.{the_row as content_row}

-- what the borrower leaves is held then, and not shared
abbrev pub LendsPut : MutBor Held → MutBor Body → Fml
LendsPut h r = Lends held_row body_row h r Own

-- the same, if it is lent; else what is held stays
abbrev pub LendsOwn : MutBor Held → Result (MutBor Body) AllocError → Fml
LendsOwn h r = LendsIfOk held_row body_row h r Own h.now

-- the cell holds what the borrower leaves, if it is lent; else what it held
abbrev pub LendsBody : MutBor Contents → Result (MutBor Body) AllocError → Fml
LendsBody c r = LendsIfOk content_row body_row c r contents_of c.now
