use Rattle.std.proofs.Common.{◌++◌, ◌∙◌, ℕ, List, [], ◌∷◌, ap, subst, codes}
use Rattle.std.proofs.lemmas.Result.{on_ok_weaker}
use Rattle.std.specs.Io.KnownBytes.{Appends}
use Rattle.bq_base_texts.specs.LineText.{detail_text}
use Rattle.bq_run_device.specs.Device.{Begins}
use Rattle.bq_run_write.specs.Error.{run_title}
use Rattle.bq_run_write.specs.Status.{error_detail}
use Rattle.bq_run_device.proofs.Transfers.{Appends-more, Begins-front, Begins-more}
use Rattle.bq_run_write.proofs.status.write_line.Goals as goal

pub returns-in_err-write_all-clause-begins : goal.returns-in_err-write_all-clause-begins
returns-in_err-write_all-clause-begins g c =
    let a = g.W.ByteSink.contents c.args.writer.now in
    let b = g.W.ByteSink.contents c.write_all.new.writer in
    let title = run_title c.args.error.now in
    let detail = detail_text (error_detail c.args.error.now) in
    Begins-front a b (codes "bq: " ++ title ++ detail) (10 ∷ [])
    (Begins-front a b (codes "bq: " ++ title) detail (Begins-front a b (codes "bq: ") title c.write_all.ensures.begins))

pub returns-in_err-write_all-2-clause-begins : goal.returns-in_err-write_all-2-clause-begins
returns-in_err-write_all-2-clause-begins g c =
    let a = g.W.ByteSink.contents c.args.writer.now in
    let b = g.W.ByteSink.contents c.write_all.new.writer in
    let d = g.W.ByteSink.contents c.write_all-2.new.writer in
    let title = run_title c.args.error.now in
    let detail = detail_text (error_detail c.args.error.now) in
    let second = subst (λ (t : List ℕ). Begins b d t) (c.as_bytes.ensures.value ∙ c.title.ensures) c.write_all-2.ensures.begins in
    Begins-front a d (codes "bq: " ++ title ++ detail) (10 ∷ [])
    (Begins-front a d (codes "bq: " ++ title) detail (Begins-more a b d (codes "bq: ") title c.in_ok-write_all.ensures.whole second))

pub returns-in_err-write_detail-clause-begins : goal.returns-in_err-write_detail-clause-begins
returns-in_err-write_detail-clause-begins g c =
    let a = g.W.ByteSink.contents c.args.writer.now in
    let b = g.W.ByteSink.contents c.write_all.new.writer in
    let d = g.W.ByteSink.contents c.write_all-2.new.writer in
    let e = g.W.ByteSink.contents c.write_detail.new.writer in
    let title = run_title c.args.error.now in
    let detail = detail_text (error_detail c.args.error.now) in
    let second = subst (λ (t : List ℕ). Appends b d t) (c.as_bytes.ensures.value ∙ c.title.ensures) c.in_ok-write_all-2.ensures.whole in
    let third = subst (λ (t : List ℕ). Begins d e t) (ap detail_text c.detail_of-detail.ensures) c.write_detail.ensures.begins in
    Begins-front a e (codes "bq: " ++ title ++ detail) (10 ∷ [])
    (Begins-more a d e (codes "bq: " ++ title) detail (Appends-more a b d (codes "bq: ") title c.in_ok-write_all.ensures.whole second) third)

pub returns-clause-whole : goal.returns-clause-whole
returns-clause-whole g c =
    let a = g.W.ByteSink.contents c.args.writer.now in
    let b = g.W.ByteSink.contents c.write_all.new.writer in
    let d = g.W.ByteSink.contents c.write_all-2.new.writer in
    let e = g.W.ByteSink.contents c.write_detail.new.writer in
    let f = g.W.ByteSink.contents c.write_all-3.new.writer in
    let title = run_title c.args.error.now in
    let detail = detail_text (error_detail c.args.error.now) in
    let second = subst (λ (t : List ℕ). Appends b d t) (c.as_bytes.ensures.value ∙ c.title.ensures) c.in_ok-write_all-2.ensures.whole in
    let third = subst (λ (t : List ℕ). Appends d e t) (ap detail_text c.detail_of-detail.ensures) c.in_ok-write_detail.ensures.whole in
    on_ok_weaker c.write_all-3.result
    (λ (last : Appends e f (10 ∷ [])). Appends-more a e f (codes "bq: " ++ title ++ detail) (10 ∷ [])
    (Appends-more a d e (codes "bq: " ++ title) detail (Appends-more a b d (codes "bq: ") title c.in_ok-write_all.ensures.whole second) third) last)
    c.write_all-3.ensures.whole

pub returns-clause-begins : goal.returns-clause-begins
returns-clause-begins g c =
    let a = g.W.ByteSink.contents c.args.writer.now in
    let b = g.W.ByteSink.contents c.write_all.new.writer in
    let d = g.W.ByteSink.contents c.write_all-2.new.writer in
    let e = g.W.ByteSink.contents c.write_detail.new.writer in
    let f = g.W.ByteSink.contents c.write_all-3.new.writer in
    let title = run_title c.args.error.now in
    let detail = detail_text (error_detail c.args.error.now) in
    let second = subst (λ (t : List ℕ). Appends b d t) (c.as_bytes.ensures.value ∙ c.title.ensures) c.in_ok-write_all-2.ensures.whole in
    let third = subst (λ (t : List ℕ). Appends d e t) (ap detail_text c.detail_of-detail.ensures) c.in_ok-write_detail.ensures.whole in
    Begins-more a e f (codes "bq: " ++ title ++ detail) (10 ∷ [])
    (Appends-more a d e (codes "bq: " ++ title) detail (Appends-more a b d (codes "bq: ") title c.in_ok-write_all.ensures.whole second) third)
    c.write_all-3.ensures.begins
