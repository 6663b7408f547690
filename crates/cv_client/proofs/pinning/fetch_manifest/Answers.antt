use Rattle.std.proofs.Common.{◌≡◌, ℕ, List, sym, ap, subst, ◌∙◌}
use Rattle.std.specs.Prelude.{Option, Some}
use Rattle.std.specs.declared.result.Result.TheVariants.{Ok}
use Rattle.cv_client.specs.Pin.{good, bad, absent, lost}
use Rattle.cv_client.specs.Fetch.{Fetches}
use Rattle.cv_manifest.specs.Manifest.{manifest_name}
use Rattle.cv_manifest.specs.Manifest.{Says}
use Rattle.cv_client.specs.Served.{IsFetched}
use Rattle.cv_client.proofs.Supplying.{unfetched, no_memory_for}
use Rattle.cv_client.proofs.pinning.fetch_manifest.Goals as goal

pub returns-in-Ok-clause-fetches : goal.returns-in-Ok-clause-fetches
returns-in-Ok-clause-fetches g c =
    let same : c.in-Ok-Some.field-0 ≡ Some c.as_slice.result.now = c.in-Ok-Some.field-0-is ∙ ap (λ (b : List ℕ). Some b) (sym c.as_slice.ensures) in
    let fetched = subst (λ (x : Option (List ℕ)). Fetches c.args.url.now manifest_name (g.N.Dial.came c.args.dial.now) (g.N.Dial.came c.fetch.new.dial) (Ok x)) same c.in-Ok-Some.ensures.fetches in
    good c.as_slice.result.now c.in-Ok.manifest fetched c.in-Ok.ensures.value

pub returns-in-Ok-None-clause-fetches : goal.returns-in-Ok-None-clause-fetches
returns-in-Ok-None-clause-fetches g c = absent (rw c.in-Ok-None.field-0-is at c.in-Ok-None.ensures.fetches)

pub returns-in-Ok-Some-clause-fetches : goal.returns-in-Ok-Some-clause-fetches
returns-in-Ok-Some-clause-fetches g c =
    let same : c.in-Ok-Some.field-0 ≡ Some c.as_slice.result.now = c.in-Ok-Some.field-0-is ∙ ap (λ (b : List ℕ). Some b) (sym c.as_slice.ensures) in
    let fetched = subst (λ (x : Option (List ℕ)). Fetches c.args.url.now manifest_name (g.N.Dial.came c.args.dial.now) (g.N.Dial.came c.fetch.new.dial) (Ok x)) same c.in-Ok-Some.ensures.fetches in
    rw c.of_manifest.ensures (bad c.as_slice.result.now c.in-Err-read.fault fetched c.in-Err-read.ensures.fault)

pub returns-clause-fetches : goal.returns-clause-fetches
returns-clause-fetches g c = rw c.of_exchange.ensures (lost c.in-Err.fault c.in-Err.ensures.fetches)

pub returns-in-Ok-clause-completes : goal.returns-in-Ok-clause-completes
returns-in-Ok-clause-completes g c = λ files s text m has says.
    let same : c.in-Ok-Some.field-0 ≡ Some c.as_slice.result.now = c.in-Ok-Some.field-0-is ∙ ap (λ (b : List ℕ). Some b) (sym c.as_slice.ensures) in
    let got : c.as_slice.result.now ≡ text = subst (λ (x : Option (List ℕ)). IsFetched text (Ok x)) same (c.in-Ok-Some.ensures.completes files text has s) in
    let says_here = subst (λ (b : List ℕ). Says (g.S.Signer.is_seal c.args.signer.now) b m) (sym got) says in
    c.a_text_says_one_manifest.ensures (g.S.Signer.is_seal c.args.signer.now) c.as_slice.result.now c.in-Ok.manifest m c.in-Ok.ensures.value says_here

pub returns-in-Ok-Some-clause-completes : goal.returns-in-Ok-Some-clause-completes
returns-in-Ok-Some-clause-completes g c = λ files s text m has says.
    let same : c.in-Ok-Some.field-0 ≡ Some c.as_slice.result.now = c.in-Ok-Some.field-0-is ∙ ap (λ (b : List ℕ). Some b) (sym c.as_slice.ensures) in
    let got : c.as_slice.result.now ≡ text = subst (λ (x : Option (List ℕ)). IsFetched text (Ok x)) same (c.in-Ok-Some.ensures.completes files text has s) in
    let says_here = subst (λ (b : List ℕ). Says (g.S.Signer.is_seal c.args.signer.now) b m) (sym got) says in
    rw c.of_manifest.ensures
    (no_memory_for m c.in-Err-read.fault
    (c.a_manifest_shows_no_fault.ensures (g.S.Signer.is_seal c.args.signer.now) c.as_slice.result.now m c.in-Err-read.fault says_here c.in-Err-read.ensures.fault))

pub returns-in-Ok-None-clause-completes : goal.returns-in-Ok-None-clause-completes
returns-in-Ok-None-clause-completes g c = λ files s text m has says.
    absurd (subst (λ (x : Option (List ℕ)). IsFetched text (Ok x)) c.in-Ok-None.field-0-is (c.in-Ok-None.ensures.completes files text has s))

pub returns-clause-completes : goal.returns-clause-completes
returns-clause-completes g c = λ files s text m has says.
    rw c.of_exchange.ensures
    (unfetched m text c.in-Err.fault (c.in-Err.ensures.completes files text has s))
