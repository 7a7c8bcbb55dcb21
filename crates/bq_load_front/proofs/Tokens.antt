-- What the lexer answers, by the function that reads.
use Rattle.std.proofs.Common.{◌≡◌, ℕ, List, Result, Ok, Err, Vec, ap}
use Rattle.std.specs.Prelude.{IfOk}
use Rattle.std.specs.Global.{Global}
use Rattle.bq_source.specs.declared.token.Token.{Token}
use Rattle.bq_base.specs.declared.fault.FaultKind.{FaultKind}
use Rattle.bq_base.specs.declared.fault.TokenFault.{TokenFault}
use Rattle.bq_base.specs.declared.fault.Fault.{Fault}
use Rattle.bq_base.specs.declared.fault.SourceErr.{SourceErr}
use Rattle.bq_source_lexer.specs.Reading.{Lexes}
use Rattle.bq_source_lexer.specs.Lexing.{the_tokens}
use Rattle.bq_source_lexer.specs.Tokens.{tokens_of}
use Rattle.bq_source_lexer.proofs.Reached.{every_text}
use Rattle.bq_base.specs.Fault.{or_fault_as, kind_of_token, kind_of_statement, kind_of_name}
use Rattle.bq_base.specs.Gives.{Gives, GivesOneOf}
use Rattle.bq_base.specs.declared.fault.SourceErr.TheVariants.{Bad}
use Rattle.bq_parse_grammar.specs.Lexeme.{lexemes}
use Rattle.bq_parse_grammar.specs.Parses.{statements_of}
use Rattle.bq_resolve_scope.specs.declared.file.ResolvedFile.{ResolvedFile}
use Rattle.bq_resolve_scope.specs.Files.{resolved}
use Rattle.bq_resolve_scope.specs.Universe.{UniverseParts}
use Rattle.bq_load_front.specs.Resolved.{items, resolved_file, ◌>>=◌}

tokens_found : (r : Result (Vec Token Global) (SourceErr TokenFault)) (q : Result (List Token) (Fault TokenFault)) → Gives the_tokens Bad r q → Gives items Bad r q
tokens_found (Ok v) q h = h
tokens_found (Err e) q h = h

pub lexed : (text : List ℕ) (r : Result (Vec Token Global) (SourceErr TokenFault)) → ((q : Result (List Token) (Fault TokenFault)) → Lexes text q → Gives the_tokens Bad r q) → Gives items Bad r (tokens_of text)
lexed text r only = tokens_found r (tokens_of text) (only (tokens_of text) (every_text text))

pub lexes : (text : List ℕ) (r : Result (Vec Token Global) (SourceErr TokenFault)) → GivesOneOf the_tokens Bad r (Lexes text) → IfOk r (λ v. Lexes text (Ok v.items))
lexes text (Ok v) h = h
lexes text (Err e) h = tt

module _ (universe : UniverseParts) (text : List ℕ) where
  abbrev after_tokens : Result (List Token) (Fault FaultKind) → Result ResolvedFile (Fault FaultKind)
  after_tokens r = r >>= λ ts. or_fault_as kind_of_statement (statements_of universe.kind (lexemes text ts)) >>= λ trees. or_fault_as kind_of_name (resolved universe trees)

  pub no_tokens : (why : Fault FaultKind) → or_fault_as kind_of_token (tokens_of text) ≡ Err why → resolved_file universe text ≡ Err why
  unfolding resolved_file
  no_tokens why e = ap after_tokens e
