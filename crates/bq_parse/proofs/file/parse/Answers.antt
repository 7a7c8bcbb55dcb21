use Rattle.std.proofs.Common.{Ok, Err, refl}
use Rattle.std.proofs.lemmas.List.Elements.{All-from_recursion}
use Rattle.bq_source.specs.Spelling.{Lies}
use Rattle.bq_source_lexer.proofs.Lying.{all_lie}
use Rattle.bq_parse_grammar.specs.Lexeme.{lexemes}
use Rattle.bq_parse_grammar.specs.Pieces.{pieces}
use Rattle.bq_parse_laws.proofs.Verdicts.{file_reads, file_only}
use Rattle.bq_parse_laws.proofs.FileDepths.{file_within}
use Rattle.bq_parse.proofs.Files.{is_read, is_given, is_shallow}
use Rattle.bq_parse.proofs.file.parse.Goals as goal

pub statements-requires : goal.statements-requires
statements-requires c = All-from_recursion (Lies c.args.text.now) c.args.tokens.now (all_lie c.args.text.now c.args.tokens.now c.requires)

pub invariant_of-result : goal.invariant_of-result
invariant_of-result c =
    let ts = lexemes c.args.text.now c.args.tokens.now in
    is_shallow c.args.kind ts (Ok c.in-Ok.statements) c.in-Ok.ensures (file_reads c.args.kind ts)
    (λ xs p. file_within c.args.kind (pieces ts) xs (Ok xs) refl p)

pub returns-in-Ok-clause-reads : goal.returns-in-Ok-clause-reads
returns-in-Ok-clause-reads c =
    let ts = lexemes c.args.text.now c.args.tokens.now in
    is_read c.args.kind ts (Ok c.in-Ok.statements) c.in-Ok.ensures (file_reads c.args.kind ts)

pub returns-in-Ok-clause-only : goal.returns-in-Ok-clause-only
returns-in-Ok-clause-only c r p =
    let ts = lexemes c.args.text.now c.args.tokens.now in
    is_given c.args.kind ts (Ok c.in-Ok.statements) r c.in-Ok.ensures (file_only c.args.kind ts r p)

pub returns-in-Err-clause-reads : goal.returns-in-Err-clause-reads
returns-in-Err-clause-reads c =
    let ts = lexemes c.args.text.now c.args.tokens.now in
    is_read c.args.kind ts (Err c.in-Err.why) c.in-Err.ensures (file_reads c.args.kind ts)

pub returns-in-Err-clause-only : goal.returns-in-Err-clause-only
returns-in-Err-clause-only c r p =
    let ts = lexemes c.args.text.now c.args.tokens.now in
    is_given c.args.kind ts (Err c.in-Err.why) r c.in-Err.ensures (file_only c.args.kind ts r p)
