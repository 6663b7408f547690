use Rattle.std.proofs.Common.{◌+◌, drop, sym, ◌∙◌, arith}
use Rattle.cv_base.specs.Path.{text_of}
use Rattle.cv_base.proofs.TextOrder.{other_names, same_names, follows_at, same_name_at, other_name_at, lengths_decide, no_slash}
use Rattle.cv_base.proofs.text_order.cmp_texts.Goals as goal
use Rattle.cv_base.specs.BytesOrder.{bytes_cmp}

pub name_order-requires-clause-apart : goal.name_order-requires-clause-apart
name_order-requires-clause-apart c = other_names c.index-a-i.result c.index-b-i.result c.as_str.result.now c.as_str-then-ne.result.now c.as_str.ensures c.as_str-then-ne.ensures c.if-ne.ensures

pub name_order-requires-clause-a_has_no_slash : goal.name_order-requires-clause-a_has_no_slash
name_order-requires-clause-a_has_no_slash c = no_slash c.args.a.now c.names-a.result.now c.loop-i.i c.index-a-i.result c.as_str.result.now c.names-a.ensures.names c.names-a.ensures.limits (omega arith) c.index-a-i.is c.as_str.ensures

pub name_order-requires-clause-b_has_no_slash : goal.name_order-requires-clause-b_has_no_slash
name_order-requires-clause-b_has_no_slash c = no_slash c.args.b.now c.names-b.result.now c.loop-i.i c.index-b-i.result c.as_str-then-ne.result.now c.names-b.ensures.names c.names-b.ensures.limits (omega arith) c.index-b-i.is c.as_str-then-ne.ensures

pub returns-then-ne : goal.returns-then-ne
returns-then-ne c =
    let p = c.names-a.result.now in
    let q = c.names-b.result.now in
    let i = c.loop-i.i in
    c.name_order.ensures (text_of (drop (i + 1) p)) (text_of (drop (i + 1) q)) (follows_at p (i + 1)) (follows_at q (i + 1))
    ∙ other_name_at p q i c.index-a-i.result c.index-b-i.result c.as_str.result.now c.as_str-then-ne.result.now (omega arith) (omega arith) c.index-a-i.is c.index-b-i.is c.as_str.ensures c.as_str-then-ne.ensures
    ∙ c.loop-i.invariant ∙ (λ j. bytes_cmp (text_of (c.names-a.ensures.names j)) (text_of (c.names-b.ensures.names j)))

pub loop-i-preserved : goal.loop-i-preserved
loop-i-preserved c =
    sym (same_name_at c.names-a.result.now c.names-b.result.now c.loop-i.i c.index-a-i.result c.index-b-i.result (omega arith) (omega arith) c.index-a-i.is c.index-b-i.is (same_names c.index-a-i.result c.index-b-i.result c.if-ne.ensures)) ∙ c.loop-i.invariant

pub returns : goal.returns
returns c =
    c.cmp.ensures ∙ lengths_decide c.names-a.result.now c.names-b.result.now c.loop-i.i (omega arith) (omega arith) (omega arith)
    ∙ c.loop-i.invariant ∙ (λ j. bytes_cmp (text_of (c.names-a.ensures.names j)) (text_of (c.names-b.ensures.names j)))
