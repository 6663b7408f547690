use Rattle.std.proofs.Common.{◌≡◌, inr, rules, subst, [], ◌∷◌, refl}
use Rattle.std.specs.Prelude.{is_ok}
use Rattle.std.specs.declared.io.ErrorKind.TheVariants.{AlreadyExists}
use Rattle.cv_system.specs.Calls.{cause_of, Log, Failed, Created, Removed}
use Rattle.cv_system.specs.Steps.{Tries}
use Rattle.std.proofs.lemmas.Result.{IfErr-weaker}
use Rattle.cv_system.proofs.Laws.{fails_now, fails_then, one_call, one_fails}
use Rattle.cv_folder.proofs.putting.create_anew.Goals as goal

pub returns-in-Err-clause-calls : goal.returns-in-Err-clause-calls
returns-in-Err-clause-calls g c =
    let taken : (cause_of c.in-Err.error).kind ≡ AlreadyExists = search rules in
    inr (inr (
      cause_of c.in-Err.error,
      taken,
      subst (λ (log : Log). Tries (Removed c.args.path.now ∷ Created c.args.path.now ∷ []) (is_ok c.create_again.result) log (g.S.System.log c.create_again.new.system)) c.in-Err.ensures.call c.create_again.ensures.calls,
    ))

pub returns-in-Err-clause-fails : goal.returns-in-Err-clause-fails
returns-in-Err-clause-fails g c =
    IfErr-weaker c.create_again.result _ _ (λ error fails. fails_then (one_call (Created c.args.path.now (Failed _)) tt c.in-Err.ensures.call) fails) c.create_again.ensures.fails

pub returns-in_default-clause-fails : goal.returns-in_default-clause-fails
returns-in_default-clause-fails g c = fails_now (Created c.args.path.now (Failed _)) refl (λ look nothing. look) c.in-Err.ensures.call

pub returns-in_default-2-clause-fails : goal.returns-in_default-2-clause-fails
returns-in_default-2-clause-fails g c = one_fails (Created c.args.path.now) (λ out. refl) (λ out look. look) c.create_new.result _ _ c.create_new.ensures.call
