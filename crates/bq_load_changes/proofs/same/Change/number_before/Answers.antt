use Rattle.std.proofs.Common.{◌∙◌, length, refl, sym}
use Rattle.std.proofs.lemmas.Option.{slice_get_read}
use Rattle.bq_load_changes.proofs.same.Change.number_before.Goals as goal

pub returns : goal.returns
returns c = record {
  number = refl;
  other = c.in-Some.other.now;
  label = slice_get_read c.args.labels.now (length c.args.labels.now) c.args.m c.in-Some.other.now refl c.in-Some.ensures.lookup.3.0 c.in-Some.ensures.lookup.1;
  same = sym c.is_same_label.ensures ∙ c.if-not-is_same_label.false;
  untouched = sym c.is_untouched.ensures ∙ c.if-not-is_untouched.false;
  text = sym c.in_ok-has_same_text.ensures ∙ c.if-not-branch.false;
}
