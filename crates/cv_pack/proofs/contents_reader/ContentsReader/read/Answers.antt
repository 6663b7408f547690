use Rattle.std.proofs.Common.{◌≡◌, [], eqb, true, false, length, ◌++◌, ◌∙◌, inr, sym, subst, arith, rules, take-append-drop}
use Rattle.std.proofs.lemmas.Bool.{eqb-true}
use Rattle.std.proofs.lemmas.List.{nil_from_length}
use Rattle.std.proofs.lemmas.Result.{err_from_is_err_and}
use Rattle.cv_pack.specs.HeaderState.{Faults}
use Rattle.cv_pack.proofs.Contents.{closed_is_open, closed_reads, fault_reads, waits_inside, waits_at_end, past_end, inside_goes, end_goes}
use Rattle.cv_pack.proofs.contents_reader.ContentsReader.read.Goals as goal

pub returns-then-rest-missing : goal.returns-then-rest-missing
returns-then-rest-missing c = λ is.
    let k-is : c.len-in-contents.result ≡ length c.contents.self.objects.items = search rules in
    let n-is : c.len-in-contents-2.result ≡ length c.contents.self.begun.items = search rules in
    let so_far = c.contents.invariant is in (
      inside_goes c.args.self.now c.contents.self c.extend.new.self c.args.entries.now c.len-in-contents.result _ _ _ c.args.piece.now c.contents.rest.now so_far c.saturating_sub-missing.ensures (omega arith) n-is
          k-is (omega arith) c.extend.ensures.objects c.in_ok-extend.ensures.begun (c.in_ok-extend.ensures.hash so_far.is_open.hash),
      waits_inside c.contents.self c.extend.new.self c.args.entries.now c.len-in-contents.result _ _ _ c.contents.rest.now c.saturating_sub-missing.ensures (omega arith) n-is
          k-is (omega arith) c.extend.ensures.objects c.in_ok-extend.ensures.begun,
    )

pub returns-in_err-close : goal.returns-in_err-close
returns-in_err-close c =
    let p = err_from_is_err_and c.from_residual-in_err-close.result c.from_residual-in_err-close.ensures.1 in
    let k-is : c.len-in-contents.result ≡ length c.contents.self.objects.items = search rules in
    let n-is : c.len-in-contents-2.result ≡ length c.contents.self.begun.items = search rules in
    let parts : c.split_at.result.0.now ++ c.split_at.result.1.now ≡ c.contents.rest.now = rw (c.split_at.ensures.front, c.split_at.ensures.back) (take-append-drop _ c.contents.rest.now) in
    rw (p.1, p.2) (λ is text.
    let so_far = c.contents.invariant is in
    subst (λ x. Faults c.in_err-close.field-0.0 x) (sym (so_far.reads text))
    (fault_reads c.contents.self c.extend-in-contents.new.self c.close.new.self c.args.entries.now c.len-in-contents.result _ _ _ c.contents.rest.now c.split_at.result.0.now c.split_at.result.1.now text c.in_err-close.field-0.0
    so_far.is_open c.saturating_sub-missing.ensures c.split_at.ensures.front_len n-is k-is (omega arith) parts c.extend-in-contents.ensures.objects c.in_ok-extend-2.ensures.begun
    (c.in_err-close.ensures.closes (c.in_ok-extend-2.ensures.hash so_far.is_open.hash))))

pub contents-preserved : goal.contents-preserved
contents-preserved c = λ is.
    let k-is : c.len-in-contents.result ≡ length c.contents.self.objects.items = search rules in
    let n-is : c.len-in-contents-2.result ≡ length c.contents.self.begun.items = search rules in
    let parts : c.split_at.result.0.now ++ c.split_at.result.1.now ≡ c.contents.rest.now = rw (c.split_at.ensures.front, c.split_at.ensures.back) (take-append-drop _ c.contents.rest.now) in
    let so_far = c.contents.invariant is in
    let closed = c.in_ok-close.ensures.closes (c.in_ok-extend-2.ensures.hash so_far.is_open.hash) in
    record {
      is_open = closed_is_open c.contents.self c.extend-in-contents.new.self c.close.new.self c.args.entries.now _ (omega arith) c.extend-in-contents.ensures.objects closed;
      reads = λ text. so_far.reads text
          ∙ closed_reads c.contents.self c.extend-in-contents.new.self c.close.new.self c.args.entries.now c.len-in-contents.result _ _ _ c.contents.rest.now c.split_at.result.0.now c.split_at.result.1.now text
          so_far.is_open c.saturating_sub-missing.ensures c.split_at.ensures.front_len n-is k-is (omega arith) parts c.extend-in-contents.ensures.objects c.in_ok-extend-2.ensures.begun closed;
    }

pub returns-then-is_empty : goal.returns-then-is_empty
returns-then-is_empty c = λ is.
    let none : eqb (length c.contents.rest.now) 0 ≡ true = search rules in
    let nothing : c.contents.rest.now ≡ [] = nil_from_length c.contents.rest.now (eqb-true _ _ none) in
    let so_far = c.contents.invariant is in
    let goes = end_goes c.args.self.now c.contents.self c.args.entries.now c.args.piece.now c.contents.rest.now so_far nothing in
    (record { is_open = record { hash = goes.is_open.hash; count = goes.is_open.count; first = goes.is_open.first }; reads = goes.reads }, waits_at_end c.contents.self _ so_far.is_open (omega arith))

pub returns-else-is_empty : goal.returns-else-is_empty
returns-else-is_empty c = λ is text.
    let some : eqb (length c.contents.rest.now) 0 ≡ false = search rules in
    let so_far = c.contents.invariant is in
    inr (sym (so_far.reads text ∙ past_end c.contents.self _ _ text so_far.is_open (omega arith) some))
