-- The lines of the standard schema declare its rules.
use Rattle.std.proofs.Common.{◌≡◌, Result, Ok, Err, refl}
use Rattle.std.specs.Result.{IfOk, IfErr}
use Rattle.bq_base.specs.Gives.{Gives}
use Rattle.bq_source.specs.Lexis.{word_kind}
use Rattle.bq_source.specs.Token.{same_kind}
use Rattle.bq_base.specs.declared.fault.FaultKind.{FaultKind}
use Rattle.bq_base.specs.declared.fault.Fault.{Fault}
use Rattle.bq_base.specs.declared.fault.SourceErr.{SourceErr}
use Rattle.bq_base.specs.declared.fault.SourceErr.TheVariants.{Bad, Memory}
use Rattle.bq_parse_grammar.specs.Literals.{is_identifier}
use Rattle.bq_predeclared.specs.AttributeType.{type_named}
use Rattle.bq_predeclared.specs.Predeclared.{place_from, first_named, predeclared_named}
use Rattle.bq_value_datum.specs.Class.{extended}
use Rattle.bq_package_schema.specs.Line.{is_skipped, is_predeclared, names_rule, names_attribute, rule_line, attribute_line, words_line, line_of}
use Rattle.bq_package_schema.specs.Schema.{Rules, no_rules, with_rule, last_of, with_attribute_of_last, after}
use Rattle.bq_package_schema.specs.Reading.{declared_by}
use Rattle.bq_package_schema.specs.Standard.{standard_lines, standard_rules}

pub declared : declared_by no_rules 0 standard_lines ≡ Ok standard_rules
unfolding word_kind same_kind is_identifier type_named place_from first_named predeclared_named is_skipped is_predeclared names_rule names_attribute rule_line attribute_line words_line line_of extended with_rule last_of with_attribute_of_last after declared_by
declared = refl

same_rules : (rules : Rules) (r : Result Rules (Fault FaultKind)) → r ≡ Ok standard_rules → r ≡ Ok rules → rules ≡ standard_rules
same_rules rules r g h = cc

refuted : (fault : Fault FaultKind) (r : Result Rules (Fault FaultKind)) → r ≡ Ok standard_rules → r ≡ Err fault → ⊥
refuted fault r g h = cc

abbrev Read : Result Rules (SourceErr FaultKind) → Type 0
Read r = Gives (λ s. s) Bad r (declared_by no_rules 0 standard_lines)

pub is_standard : (r : Result Rules (SourceErr FaultKind)) → Read r → IfOk r (λ s. s ≡ standard_rules)
is_standard (Ok rules) h = same_rules rules (declared_by no_rules 0 standard_lines) declared h
is_standard (Err e) h = tt

never_bad : (e : SourceErr FaultKind) → ((fault : Fault FaultKind) → e ≡ Bad fault → declared_by no_rules 0 standard_lines ≡ Err fault) → e ≡ Memory
never_bad (Bad fault) h = absurd (refuted fault (declared_by no_rules 0 standard_lines) declared (h fault refl))
never_bad Memory h = refl

-- they have no bad line
pub is_memory : (r : Result Rules (SourceErr FaultKind)) → Read r → IfErr r (λ e. e ≡ Memory)
is_memory (Ok rules) h = tt
is_memory (Err e) h = never_bad e h
