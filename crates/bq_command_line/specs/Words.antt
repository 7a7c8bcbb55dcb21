-- What words ask for of how large a workspace may be.
use Rattle.std.specs.Prelude.{◌≡◌, ◌⊎◌, Some, None, codes}
use Rattle.clap.specs.Words.{found_of, one_text}
use Rattle.clap.specs.declared.parser.matches.ArgMatches.{ArgMatches}
use Rattle.bq_base.specs.Limits.{large_with, standard_with}
use Rattle.bq_base.specs.declared.limits.Limits.{Limits}

-- the standard limits, but for those that other options say
abbrev pub standard_for : Limits → Limits
standard_for l = standard_with l.steps

-- the large limits, but for those that other options say
abbrev pub large_for : Limits → Limits
large_for l = large_with l.steps

-- these limits are the standard or the large ones, but for those that other options say
abbrev pub AreStandardOrLarge : Limits → Type 0
AreStandardOrLarge l = (l ≡ standard_for l) ⊎ (l ≡ large_for l)

-- these limits are those for words that clap has read: the large ones with the flag `--large`, else the standard ones
pub record AreLimitsFor (matches : ArgMatches) (l : Limits) : Type 0 where
  pub either : AreStandardOrLarge l
  pub given : one_text (found_of matches) (codes "large") ≡ Some (codes "true") → l ≡ large_for l
  pub not_given : one_text (found_of matches) (codes "large") ≡ Some (codes "false") → l ≡ standard_for l
  pub not_there : one_text (found_of matches) (codes "large") ≡ None → l ≡ standard_for l
