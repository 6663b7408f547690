use Rattle.std.proofs.Common.{◌≡◌, refl, sym, ◌∙◌, ap, Err, arith}
use Rattle.std.specs.declared.option.Option.TheVariants.{Some, None}
use Rattle.cv_session.specs.ExchangesInner.{refused, broken_off, cut_short, not_read, no_memory}
use Rattle.cv_session.specs.Requests.{code_of_fault}
use Rattle.cv_session.specs.declared.request.Unread.TheVariants.{Fault}
use Rattle.cv_session.proofs.serving.refuse_fault.Goals as goal

pub returns-in-Short-clause-ends : goal.returns-in-Short-clause-ends
returns-in-Short-clause-ends g c = cut_short (ap (λ f. Fault f) c.in-Short.is) refl

pub returns-in-ReadFault-clause-ends : goal.returns-in-ReadFault-clause-ends
returns-in-ReadFault-clause-ends g c = not_read (ap (λ f. Fault f) c.in-ReadFault.is) refl

pub returns-in_default-fault : goal.returns-in_default-fault
returns-in_default-fault g c = record { ends = no_memory c.args.fault refl c.in_default-fault.not-ReadFault refl; flushed = λ written was. was; held = λ is. refl; no_write_failed = λ not. refl; cause = record { later = omega arith; failed = λ is. cc } }

pub returns-in-Ok-clause-ends : goal.returns-in-Ok-clause-ends
returns-in-Ok-clause-ends g c = refused c.args.fault c.in-Some.code refl (sym c.fault_code.ensures ∙ c.in-Some.is) c.in-Ok.ensures.whole

pub returns-in-Err-WriteFault-clause-ends : goal.returns-in-Err-WriteFault-clause-ends
returns-in-Err-WriteFault-clause-ends g c = broken_off c.args.fault c.in-Some.code refl (sym c.fault_code.ensures ∙ c.in-Some.is) c.write_answer.ensures.part

pub returns-in-Err-NoMemory-clause-ends : goal.returns-in-Err-NoMemory-clause-ends
returns-in-Err-NoMemory-clause-ends g c =
    let has : Some c.in-Some.code ≡ code_of_fault c.args.fault = sym c.in-Some.is ∙ c.fault_code.ensures in
    no_memory c.args.fault refl (λ is. let none : Some c.in-Some.code ≡ None = has ∙ ap code_of_fault is in cc) (c.write_answer.ensures.nothing (c.in-Err-NoMemory.is ∙ ap (λ fault. Err fault) c.in-Err-NoMemory.field-0-is))
