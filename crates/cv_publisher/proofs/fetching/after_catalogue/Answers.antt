use Rattle.std.proofs.Common.{◌≡◌, ◌∙◌, ℕ, Bool, true, false, List, Option, Some, None, refl, sym, ap, subst}
use Rattle.std.specs.Prelude.{IsSome, is_some, not, Result, Ok, Err}
use Rattle.cv_base.specs.declared.id.ObjectId.{ObjectId}
use Rattle.cv_checkout.specs.Giving.{Gives}
use Rattle.cv_checkout.specs.Progress.{Progress}
use Rattle.cv_checkout.specs.declared.fault.CheckoutFault.{CheckoutFault}
use Rattle.cv_publisher.specs.Taking.{catalogue_last, catalogue_more, catalogue_refused}
use Rattle.cv_publisher.specs.declared.stage.Stage.TheVariants.{Cancelling}
use Rattle.cv_publisher.proofs.fetching.after_catalogue.Goals as goal

given_ok : (s new : Progress) (given : Option (List ℕ)) (r : Result (Unit {0}) CheckoutFault) → ((f : CheckoutFault) → r ≡ Err f → ⊥) → Gives s given new r → Gives s given new (Ok tt)
given_ok s new given (Ok done) fine gives = gives
given_ok s new given (Err f) fine gives = absurd (fine f refl)

none_left : (next : Option ObjectId) (b : Bool) → is_some next ≡ not b → b ≡ true → next ≡ None
none_left None b is none = refl
none_left (Some id) b is none = absurd (let wrong : true ≡ false = is ∙ ap not none in cc)

pub returns-in-Err-clause-after : goal.returns-in-Err-clause-after
returns-in-Err-clause-after c =
    catalogue_refused c.in-Some.given c.give.new.self c.in-Err.fault (sym c.served_in.ensures ∙ c.in-Some.is) c.in-Err.ensures.gives (ap (Cancelling c.args.token) c.of_checkout.ensures)

pub returns-then-is_none-clause-after : goal.returns-then-is_none-clause-after
returns-then-is_none-clause-after c =
    catalogue_last c.in-Some.given c.give.new.self (sym c.served_in.ensures ∙ c.in-Some.is)
    (given_ok c.args.checkout c.give.new.self c.in-Some.given c.give.result c.in_default-give.not-Err c.give.ensures.gives)
    (sym c.want.ensures.wanted ∙ none_left c.want.result c.is_none.result c.is_none.ensures c.if-is_none.true) c.after_checkout.ensures.after

pub returns-clause-after : goal.returns-clause-after
returns-clause-after c =
    catalogue_more c.in-Some.given c.give.new.self (sym c.served_in.ensures ∙ c.in-Some.is)
    (given_ok c.args.checkout c.give.new.self c.in-Some.given c.give.result c.in_default-give.not-Err c.give.ensures.gives)
    (subst IsSome c.want.ensures.wanted (c.is_none.ensures ∙ ap not c.if-is_none.false)) refl
