use Rattle.std.proofs.Common.{◌∙◌, ◌∷◌, [], arith, rules, subst, sym}
use Rattle.std.specs.Io.KnownBytes.{Consumes, IsAtEnd}
use Rattle.bq_run_commands.specs.Reading.{ahead}
use Rattle.bq_run_commands.proofs.FirstLines.{IsRead, at_none, end_read, fewer_left, line_read, read_kept, read_past, rest_read, some_bytes}
use Rattle.bq_run_commands.proofs.lines.read_line.Goals as goal

pub returns-then-byte-eq10-clause-line : goal.returns-then-byte-eq10-clause-line
returns-then-byte-eq10-clause-line g c =
    let before = ahead c.args.left.now (g.R.ByteSource.remaining c.args.reader.now) in
    let now = ahead c.loop-line.left (g.R.ByteSource.remaining c.loop-line.reader) in
    let next = ahead c.read_byte.new.left (g.R.ByteSource.remaining c.read_byte.new.reader) in
    line_read c.args.left.now c.loop-line.left before now next c.loop-line.line.items c.loop-line.invariant.read
    (subst (λ b. Consumes now next (b ∷ [])) c.if-byte-eq10.true (rw c.in-Some.is at c.in_ok-byte.ensures.byte))

pub loop-line-preserved-in-Continue-branch-3 : goal.loop-line-preserved-in-Continue-branch-3
loop-line-preserved-in-Continue-branch-3 g c =
    let before = ahead c.args.left.now (g.R.ByteSource.remaining c.args.reader.now) in
    let now = ahead c.loop-line.left (g.R.ByteSource.remaining c.loop-line.reader) in
    let next = ahead c.read_byte.new.left (g.R.ByteSource.remaining c.read_byte.new.reader) in
    record {
      read = subst (IsRead c.args.left.now c.read_byte.new.left before next) (sym c.in_ok-push.ensures.items)
          (read_kept c.args.left.now c.loop-line.left c.read_byte.new.left before now next c.loop-line.line.items c.in-Some.byte c.loop-line.invariant.read c.if-byte-eq10.false
          (rw c.in-Some.is at c.in_ok-byte.ensures.fewer) (rw c.in-Some.is at c.in_ok-byte.ensures.byte) (omega (arith, c.len.ensures)));
      quiet = c.in_ok-byte.ensures.quiet ∙ c.loop-line.invariant.quiet;
    }

pub loop-line-preserved : goal.loop-line-preserved
loop-line-preserved g c =
    let before = ahead c.args.left.now (g.R.ByteSource.remaining c.args.reader.now) in
    let now = ahead c.loop-line.left (g.R.ByteSource.remaining c.loop-line.reader) in
    let next = ahead c.read_byte.new.left (g.R.ByteSource.remaining c.read_byte.new.reader) in
    record {
      read = read_past c.args.left.now c.loop-line.left c.read_byte.new.left before now next c.loop-line.line.items c.in-Some.byte c.loop-line.invariant.read c.if-byte-eq10.false
          (rw c.in-Some.is at c.in_ok-byte.ensures.fewer) (rw c.in-Some.is at c.in_ok-byte.ensures.byte) (omega (arith, c.len.ensures));
      quiet = c.in_ok-byte.ensures.quiet ∙ c.loop-line.invariant.quiet;
    }

pub returns-then-is_empty-clause-end : goal.returns-then-is_empty-clause-end
returns-then-is_empty-clause-end g c =
    let before = ahead c.args.left.now (g.R.ByteSource.remaining c.args.reader.now) in
    let now = ahead c.loop-line.left (g.R.ByteSource.remaining c.loop-line.reader) in
    let next = ahead c.read_byte.new.left (g.R.ByteSource.remaining c.read_byte.new.reader) in
    let over : Consumes now next [] × IsAtEnd next = at_none c.in_ok-byte.field-0 _ c.in_default.not-Some c.in_ok-byte.ensures.end in
    end_read c.args.left.now c.loop-line.left before now next c.loop-line.line.items c.loop-line.invariant.read over.0 over.1 (search rules)

pub returns-clause-line : goal.returns-clause-line
returns-clause-line g c =
    let before = ahead c.args.left.now (g.R.ByteSource.remaining c.args.reader.now) in
    let now = ahead c.loop-line.left (g.R.ByteSource.remaining c.loop-line.reader) in
    let next = ahead c.read_byte.new.left (g.R.ByteSource.remaining c.read_byte.new.reader) in
    let over : Consumes now next [] × IsAtEnd next = at_none c.in_ok-byte.field-0 _ c.in_default.not-Some c.in_ok-byte.ensures.end in
    rest_read c.args.left.now c.loop-line.left before now next c.loop-line.line.items c.loop-line.invariant.read over.0 over.1 (some_bytes c.loop-line.line.len c.loop-line.line.items c.if-is_empty.ensures (search rules))

pub returns-clause-fewer : goal.returns-clause-fewer
returns-clause-fewer g c =
    let before = ahead c.args.left.now (g.R.ByteSource.remaining c.args.reader.now) in
    let now = ahead c.loop-line.left (g.R.ByteSource.remaining c.loop-line.reader) in
    omega (arith, fewer_left c.args.left.now c.loop-line.left before now c.loop-line.line.items c.loop-line.invariant.read (some_bytes c.loop-line.line.len c.loop-line.line.items c.if-is_empty.ensures (search rules)), c.read_byte.ensures.no_more)
