-- What comes first where several things are wrong.
use Rattle.std.proofs.Common.{◌≡◌, ◌≢◌, ◌∙◌, ◌⊎◌, ℕ, List, [], ◌∷◌, Some, None, Result, Ok, Err, inl, inr, sym, ap, subst}
use Rattle.std.specs.List.{AllByRecursion}
use Rattle.bq_load_discover.specs.Schema.{schema_in}
use Rattle.bq_label.specs.declared.workspace.File.{File}
use Rattle.bq_query_lex.specs.declared.query_error.QueryErr.{QueryErr}
use Rattle.bq_query_lex.specs.declared.query_error.QueryErr.TheVariants.{BadRegex}
use Rattle.bq_query_check.specs.Checked.{Holds, FirstFails, IsChecked, IsWrong}
use Rattle.bq_query_check.specs.Formula.{Formula}
use Rattle.bq_query_parse.proofs.Texts.{one_tree}
use Rattle.bq_query_parse.specs.declared.tree.Query.{Query}
use Rattle.bq_query_check.specs.Verdict.{Need, no_fault, regex, needs}
use Rattle.bq_run_write.specs.Report.{ReportView}
use Rattle.bq_run_write.specs.declared.ending.NoAnswer.TheVariants as refusal
use Rattle.bq_run_write.specs.declared.ending.Status.{Status}
use Rattle.bq_run_write.specs.Deeds.{Run, run_report}
use Rattle.bq_run.specs.Run.{IsRunOver}
use Rattle.bq_package_schema.specs.Schema.{Rules}
use Rattle.bq_run.specs.WorkspaceRun.{IsReportOn, refused}
use Rattle.bq_run_write.specs.declared.error.RunErr.{RunErr}
use Rattle.bq_run_write.specs.declared.error.RunErr.TheVariants as run
use Rattle.bq_run.specs.declared.options.Options.{Options}
use Rattle.bq_run_laws.specs.Order.{EndsWithWrongQuery}

-- ---- a query is wrong or not

none_some : {A : Type 0} (x : A) → None ≡ Some x → ⊥
none_some x e = cc

-- what fails for another reason than a pattern doesn't hold
excluded : (ns : List Need) (why : QueryErr) → why ≢ BadRegex → FirstFails ns why → AllByRecursion Holds ns → ⊥
excluded [] why other f h = f
excluded (no_fault fault ∷ ns) why other (inl f) h = none_some why (sym h.0 ∙ f)
excluded (regex text ∷ ns) why other (inl f) h = other f.0
excluded (n ∷ ns) why other (inr r) h = excluded ns why other r.1 h.1

not_both : (text : List ℕ) (why : QueryErr) (query : Formula) → why ≢ BadRegex → IsWrong text why → IsChecked text query → ⊥
not_both text why query other (IsWrong.no_tree e none) c = none c.tree c.parsed
not_both text why query other (IsWrong.fault x parsed f) c =
    excluded (needs x) why other f (subst (λ (y : Query). AllByRecursion Holds (needs y)) (one_tree text c.tree x c.parsed parsed) c.sound)

-- ---- how a run ends

abbrev ended : RunErr → Result Status RunErr
ended why = Err why

abbrev at_line : ℕ → Result Rules ℕ
at_line line = Err line

abbrev declared : Rules → Result Rules ℕ
declared rules = Ok rules

no_query : (line : ℕ) (why : QueryErr) → ended (run.Query why) ≡ ended (run.Schema line) → ⊥
no_query line why e = cc

one_line : (k line : ℕ) → at_line k ≡ at_line line → k ≡ line
one_line k line e = cc

no_rules : (line : ℕ) (rules : Rules) → at_line line ≡ declared rules → ⊥
no_rules line rules e = cc

module _ (o : Options) (files : List File) (what : Run) (over : IsRunOver o files what) where
  end_as : (r : ReportView) → over.0 ≡ r → what.end ≡ (run_report r).end
  end_as r e = ap (λ (x : Run). x.end) (over.2 ∙ ap run_report e)

  ends_wrong : (why : QueryErr) → IsWrong o.query.items why → over.0 ≡ refused (refusal.Query why) → EndsWithWrongQuery o what
  ends_wrong why wrong e = record { error = why; wrong = wrong; ends = end_as (refused (refusal.Query why)) e }

  wrong_first : (why : QueryErr) → IsWrong o.query.items why → why ≢ BadRegex → IsReportOn o files over.0 → EndsWithWrongQuery o what
  wrong_first why wrong other (IsReportOn.wrong_query first is e) = ends_wrong first is e
  wrong_first why wrong other (IsReportOn.wrong_schema query line c s e) = absurd (not_both o.query.items why query other wrong c)
  wrong_first why wrong other (IsReportOn.too_many query rules fronts c s a m e) = absurd (not_both o.query.items why query other wrong c)
  wrong_first why wrong other (IsReportOn.loaded query rules fronts labels edges c s a l g r) = absurd (not_both o.query.items why query other wrong c)

  right : (line : ℕ) → what.end ≡ Err (run.Schema line) → IsReportOn o files over.0 → (query : Formula) × IsChecked o.query.items query
  right line e (IsReportOn.wrong_query why is f) = absurd (no_query line why (sym (end_as (refused (refusal.Query why)) f) ∙ e))
  right line e (IsReportOn.wrong_schema query l c s f) = (query, c)
  right line e (IsReportOn.too_many query rules fronts c s a m f) = (query, c)
  right line e (IsReportOn.loaded query rules fronts labels edges c s a l g r) = (query, c)

  schema_first : (line : ℕ) → schema_in files ≡ Err line → IsReportOn o files over.0 → (what.end ≡ Err (run.Schema line)) ⊎ EndsWithWrongQuery o what
  schema_first line bad (IsReportOn.wrong_query why is e) = inr (ends_wrong why is e)
  schema_first line bad (IsReportOn.wrong_schema query k c s e) = inl (end_as (refused (refusal.Schema k)) e ∙ ap (λ l. ended (run.Schema l)) (one_line k line (sym s ∙ bad)))
  schema_first line bad (IsReportOn.too_many query rules fronts c s a m e) = absurd (no_rules line rules (sym bad ∙ s))
  schema_first line bad (IsReportOn.loaded query rules fronts labels edges c s a l g r) = absurd (no_rules line rules (sym bad ∙ s))

pub wrong_query_first : (o : Options) (files : List File) (what : Run) (why : QueryErr) → IsWrong o.query.items why → why ≢ BadRegex → IsRunOver o files what → EndsWithWrongQuery o what
wrong_query_first o files what why wrong other over = wrong_first o files what over why wrong other over.1

pub right_query : (o : Options) (files : List File) (what : Run) (line : ℕ) → IsRunOver o files what → what.end ≡ Err (run.Schema line) → (query : Formula) × IsChecked o.query.items query
right_query o files what line over e = right o files what over line e over.1

pub wrong_schema_first : (o : Options) (files : List File) (what : Run) (line : ℕ) → schema_in files ≡ Err line → IsRunOver o files what → (what.end ≡ Err (run.Schema line)) ⊎ EndsWithWrongQuery o what
wrong_schema_first o files what line bad over = schema_first o files what over line bad over.1
