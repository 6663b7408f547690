use Rattle.std.proofs.Common.{Bool, sym, subst, ◌∙◌}
use Rattle.cv_base.proofs.TextOrder.{front_shorter, slash_first, slash_second, names_decide, tested}
use Rattle.cv_base.specs.TextOrderInner.{Follows}
use Rattle.cv_base.proofs.text_order.name_order.Goals as goal
use Rattle.cv_base.proofs.text_order.name_order.Goals.{else-a_goes_on-via-then-a_goes_on+else-starts_with, else-a_goes_on-via-else-a_goes_on, else-b_goes_on-via-then-b_goes_on+else-starts_with-2, else-b_goes_on-via-else-b_goes_on}

pub bounds-b-a : goal.bounds-b-a
bounds-b-a c =
    rw (c.as_bytes-a.ensures.value, c.as_bytes-b.ensures.value)
    (front_shorter c.args.a.now c.args.b.now (tested c.args.a.now c.args.b.now _ _ _ _ c.as_bytes-a.ensures.value c.as_bytes-b.ensures.value c.starts_with.ensures.value c.if-starts_with.true) c.requires.apart)

pub returns-then-starts_with : goal.returns-then-starts_with
returns-then-starts_with c = λ s t a_follows b_follows.
    c.cmp.ensures
    ∙ rw (c.as_bytes-a.ensures.value, c.as_bytes-b.ensures.value)
    (slash_first c.args.a.now c.args.b.now s t (tested c.args.a.now c.args.b.now _ _ _ _ c.as_bytes-a.ensures.value c.as_bytes-b.ensures.value c.starts_with.ensures.value c.if-starts_with.true) c.requires.apart c.requires.b_has_no_slash
    (subst (λ (b : Bool). Follows b s) c.if-a_goes_on.true a_follows))

pub bounds-a-b : goal.bounds-a-b
bounds-a-b c =
    rw (c.as_bytes-a.ensures.value, c.as_bytes-b.ensures.value)
    (front_shorter c.args.b.now c.args.a.now (tested c.args.b.now c.args.a.now _ _ _ _ c.as_bytes-b.ensures.value c.as_bytes-a.ensures.value c.starts_with-then-b_goes_on.ensures.value c.if-starts_with-2.true) (λ same. c.requires.apart (sym same)))

pub returns-then-starts_with-2 : goal.returns-then-starts_with-2
returns-then-starts_with-2 c = λ s t a_follows b_follows.
    c.cmp-then-starts_with-2.ensures
    ∙ rw (c.as_bytes-a.ensures.value, c.as_bytes-b.ensures.value)
    (slash_second c.args.a.now c.args.b.now s t (tested c.args.b.now c.args.a.now _ _ _ _ c.as_bytes-b.ensures.value c.as_bytes-a.ensures.value c.starts_with-then-b_goes_on.ensures.value c.if-starts_with-2.true) c.requires.apart c.requires.a_has_no_slash
    (subst (λ (b : Bool). Follows b t) c.if-b_goes_on.true b_follows))

pub returns : goal.returns
returns c = λ s t a_follows b_follows.
    c.cmp-2.ensures
    ∙ rw (c.as_bytes-a.ensures.value, c.as_bytes-b.ensures.value)
    (names_decide c.args.a.now c.args.b.now c.args.a_goes_on c.args.b_goes_on s t c.requires.apart
    (λ on. elim c.else-a_goes_on.branch [
      | else-a_goes_on-via-then-a_goes_on+else-starts_with w ↦ tested c.args.a.now c.args.b.now _ _ _ _ c.as_bytes-a.ensures.value c.as_bytes-b.ensures.value w.starts_with.ensures.value w.if-starts_with.false
      | else-a_goes_on-via-else-a_goes_on w ↦ absurd (let off = w.if-a_goes_on.false in cc)
    ])
    (λ on. elim c.else-b_goes_on.branch [
      | else-b_goes_on-via-then-b_goes_on+else-starts_with-2 w ↦ tested c.args.b.now c.args.a.now _ _ _ _ c.as_bytes-b.ensures.value c.as_bytes-a.ensures.value w.starts_with-then-b_goes_on.ensures.value w.if-starts_with-2.false
      | else-b_goes_on-via-else-b_goes_on w ↦ absurd (let off = w.if-b_goes_on.false in cc)
    ])
    a_follows b_follows)
