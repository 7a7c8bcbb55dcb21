use Rattle.std.proofs.Common.{◌≡◌, ◌∷◌, ℕ, List, [], ap, length, refl, subst}
use Rattle.std.specs.Io.KnownBytes.{Consumes}
use Rattle.bq_run_commands.specs.declared.edits.Edit.TheVariants as edit
use Rattle.bq_run_commands.specs.declared.items.Request.TheVariants.{Bad, Edit}
use Rattle.bq_run_commands.specs.Reading.{ahead}
use Rattle.bq_run_commands.proofs.Contents.{bad_after, put_whole}
use Rattle.bq_run_commands.proofs.items.read_put.Goals as goal

pub returns-then-end-ne10-clause-asks : goal.returns-then-end-ne10-clause-asks
returns-then-end-ne10-clause-asks g c =
    let before = ahead c.args.left.now (g.R.ByteSource.remaining c.args.reader.now) in
    let now = ahead c.read_content.new.left (g.R.ByteSource.remaining c.read_content.new.reader) in
    let next = ahead c.read_byte.new.left (g.R.ByteSource.remaining c.read_byte.new.reader) in
    let bytes = c.in-Some.bytes.items in
    let whole : Consumes before now bytes × (length bytes ≡ c.args.count) = rw c.in-Some.is at c.in_ok-bytes.ensures.whole in
    bad_after before now next bytes c.in-Some-2.end c.args.count c.args.path Bad whole.0 whole.1 (rw c.in-Some-2.is at c.in_ok-end.ensures.byte) c.if-end-ne10.true refl

pub returns-clause-asks : goal.returns-clause-asks
returns-clause-asks g c =
    let before = ahead c.args.left.now (g.R.ByteSource.remaining c.args.reader.now) in
    let now = ahead c.read_content.new.left (g.R.ByteSource.remaining c.read_content.new.reader) in
    let next = ahead c.read_byte.new.left (g.R.ByteSource.remaining c.read_byte.new.reader) in
    let bytes = c.in-Some.bytes.items in
    let path = c.args.path in
    let whole : Consumes before now bytes × (length bytes ≡ c.args.count) = rw c.in-Some.is at c.in_ok-bytes.ensures.whole in
    let last : Consumes now next (c.in-Some-2.end ∷ []) = rw c.in-Some-2.is at c.in_ok-end.ensures.byte in
    put_whole before now next bytes c.args.count path (Edit (edit.Put (record { path = path; content = c.in_ok-content.content }))) whole.0 whole.1
    (subst (λ b. Consumes now next (b ∷ [])) c.if-end-ne10.false last) (ap (λ (content : List ℕ). Edit (edit.Put (record { path = path; content = content }))) c.in_ok-content.ensures)
