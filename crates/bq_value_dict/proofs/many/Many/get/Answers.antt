use Rattle.std.proofs.Common.{◌∙◌, ap, sym}
use Rattle.std.specs.Option.{option_flatten}
use Rattle.bq_value_dict.specs.Pairs.{found}
use Rattle.bq_value_dict.proofs.Live.{found_live}
use Rattle.bq_value_dict.proofs.many.Many.get.Goals as goal

pub returns-in-None : goal.returns-in-None
returns-in-None c =
    let key = c.args.key.now in
    ap option_flatten c.in-None.ensures.value ∙ (sym (found_live key c.self.inside.entries.entries c.len-len.ensures.unique) ∙ ap (found key) c.self.view_is)

pub returns-in-Some : goal.returns-in-Some
returns-in-Some c =
    let key = c.args.key.now in
    c.as_ref.ensures.value ∙ (ap option_flatten c.in-Some.ensures.value ∙ (sym (found_live key c.self.inside.entries.entries c.len-len.ensures.unique) ∙ ap (found key) c.self.view_is))
