use Rattle.std.proofs.Common.{◌≤◌, length, refl, subst, ◌*◌, arith}
use Rattle.httparse.specs.Grammar.{HasNoRequest, MayBecomeRequest, NeverHasRequest}
use Rattle.std.proofs.lemmas.Result.{IfOk-weaker}
use Rattle.cv_http.specs.Forms.{never}
use Rattle.cv_http.specs.Heads.{HeadParts, fault_of, read_parts, request_form}
use Rattle.cv_http.specs.JudgementsInner.{JudgesWhole, Judges}
use Rattle.cv_http.proofs.Room.{request_fits}
use Rattle.cv_http.proofs.Windows.{all_seen, judged_whole}
use Rattle.cv_http.proofs.judge_request.RequestHeadHead.parse.Goals as goal

pub returns-in-Ok-Complete : goal.returns-in-Ok-Complete
returns-in-Ok-Complete c =
    let found = rw c.in-Ok-Complete.field-0-is at c.in-Ok-Complete.ensures in
    IfOk-weaker c.judge_parts.result _ (Judges request_form c.args.bytes.now)
    (λ judgement is. judged_whole request_form c.args.bytes.now found.complete.0 c.in-Ok-Complete.spans.len judgement c.requires.limit found.within.section.len_fits found.complete.1.reads found.complete.1.len
    (subst (λ (parts : HeadParts). JudgesWhole (fault_of parts) (read_parts parts) c.in-Ok-Complete.spans.len judgement) (c.parts_of-parts.ensures found.complete.0 found.complete.1) is))
    c.judge_parts.ensures

pub returns-in-Ok-Partial : goal.returns-in-Ok-Partial
returns-in-Ok-Partial c =
    let seen = all_seen c.args.bytes.now c.requires.limit in
    let found = rw c.in-Ok-Partial.field-0-is at c.in-Ok-Partial.ensures in
    record { not_yet = subst HasNoRequest seen found.partial; may = subst MayBecomeRequest seen found.unfinished }

pub returns-in-Err : goal.returns-in-Err
returns-in-Err c =
    let fits : length c.args.bytes.now ≤ 3 * length c.args.room.now = omega (arith, c.requires.limit, c.requires.room) in
    never (record {
      never = subst NeverHasRequest (all_seen c.args.bytes.now c.requires.limit)
          (c.in-Err.ensures.invalid (λ many. request_fits _ (length c.args.room.now) fits (c.in-Err.ensures.too_many (rw many refl))));
    })
