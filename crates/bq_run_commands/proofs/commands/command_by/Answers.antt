use Rattle.std.proofs.Common.{◌≡◌, ◌∙◌, ◌-◌, List, ℕ, Some, ap, drop, length, sym, take}
use Rattle.std.proofs.lemmas.Result.{IfOk-weaker}
use Rattle.bq_run_commands.specs.declared.commands.Command.TheVariants.{Facts}
use Rattle.bq_run_commands.specs.Commands.{command_by, remove_of}
use Rattle.bq_run_commands.proofs.Counting.{facts_by, removed_by}
use Rattle.bq_run_commands.proofs.commands.command_by.Goals as goal

pub returns-then-starts_with-2 : goal.returns-then-starts_with-2
returns-then-starts_with-2 c =
    let line = c.args.line.now in
    let path : List ℕ = take (length line - 11) (drop 11 line) in
    IfOk-weaker c.remove_of.result (λ found. found ≡ remove_of path) (λ found. found ≡ command_by c.args.limit line)
    (λ found h. h ∙ removed_by c.args.limit line (sym c.if-starts_with.ensures.value) (sym c.if-starts_with-2.ensures.value)) c.remove_of.ensures

pub returns-then-starts_with-3 : goal.returns-then-starts_with-3
returns-then-starts_with-3 c =
    ap (λ (query : List ℕ). Facts (Some query)) c.in_ok-query.ensures ∙ facts_by c.args.limit c.args.line.now (sym c.if-starts_with.ensures.value) (sym c.if-starts_with-2.ensures.value)
    (sym c.if-starts_with-3.ensures.value)
