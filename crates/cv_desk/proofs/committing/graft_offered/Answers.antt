use Rattle.std.proofs.Common.{◌≡◌, true, ap, subst, Ok, Err}
use Rattle.cv_graft.specs.declared.grafted.Grafted.{Grafted}
use Rattle.cv_manifest.specs.declared.head.Head.{Head}
use Rattle.cv_objects.specs.Names.{standing_on}
use Rattle.cv_desk.specs.Committing.{meaningless}
use Rattle.cv_desk.specs.CommittingInner.{Offers}
use Rattle.cv_desk.specs.Refusals.{is_unmade}
use Rattle.cv_desk.proofs.CommitCalls.{on_ok, grafts_there, graft_fit, graft_unfit, grafts_fetched, judged_alone, if_err}
use Rattle.cv_desk.proofs.CommitExact.{unmade_told}
use Rattle.cv_desk.proofs.Knowing.{known_read, knows_unjudged, knows_judged}
use Rattle.cv_desk.proofs.committing.graft_offered.Goals as goal

pub returns-in-Ok-clause-known : goal.returns-in-Ok-clause-known
returns-in-Ok-clause-known g c = known_read g.V.Vault.disk g.V.Vault.count g.V.Vault.left c.judge.new.known c.judge.new.line.vault c.graft.new.shelf.vault c.graft.ensures.reads.0 c.judge.ensures.known

pub returns-in-Err-graft-clause-known : goal.returns-in-Err-graft-clause-known
returns-in-Err-graft-clause-known g c = known_read g.V.Vault.disk g.V.Vault.count g.V.Vault.left c.judge.new.known c.judge.new.line.vault c.graft.new.shelf.vault c.graft.ensures.reads.0 c.judge.ensures.known

pub returns-in-Err-clause-grafts : goal.returns-in-Err-clause-grafts
returns-in-Err-clause-grafts g c = λ d told.
    let o = subst (Offers (standing_on d) c.args.offered.now.hash) c.in-Err.is (c.judge.ensures.offers d told) in
    meaningless o.0 o.1 o.2

pub returns-in-Ok-clause-grafts : goal.returns-in-Ok-clause-grafts
returns-in-Ok-clause-grafts g c = λ d there. graft_fit (standing_on d) c.args.line.now.head.root c.args.offered.now c.args.path.now
    (subst (Offers (standing_on d) c.args.offered.now.hash) c.in_default.is (c.judge.ensures.offers d there)) c.in-Ok.grafted c.requires.kind
    (grafts_there g.V.Vault.disk g.V.Vault.count g.V.Vault.left c.args.line.now c.judge.new.line c.judge.ensures.reads c.head.result.root (ap (λ (h : Head). h.root) c.head.ensures.newest)
    c.args.offered.now c.args.path.now c.graft.result (Ok c.in-Ok.grafted) c.in-Ok.is (λ standing told. record {
      told = c.graft.ensures.told standing told;
      way = c.graft.ensures.way standing told;
      whole = c.graft.ensures.whole standing told;
      parentless = c.graft.ensures.parentless standing told;
      damaged = c.graft.ensures.damaged standing told;
    }) d there)

pub returns-in-Err-graft-clause-grafts : goal.returns-in-Err-graft-clause-grafts
returns-in-Err-graft-clause-grafts g c = λ d there. graft_unfit (standing_on d) c.args.line.now.head.root c.args.offered.now c.args.path.now
    (subst (Offers (standing_on d) c.args.offered.now.hash) c.in_default.is (c.judge.ensures.offers d there)) c.in-Err-graft.fault c.of_graft.result c.of_graft.ensures
    (grafts_there g.V.Vault.disk g.V.Vault.count g.V.Vault.left c.args.line.now c.judge.new.line c.judge.ensures.reads c.head.result.root (ap (λ (h : Head). h.root) c.head.ensures.newest)
    c.args.offered.now c.args.path.now c.graft.result (Err c.in-Err-graft.fault) c.in-Err-graft.is (λ standing told. record {
      told = c.graft.ensures.told standing told;
      way = c.graft.ensures.way standing told;
      whole = c.graft.ensures.whole standing told;
      parentless = c.graft.ensures.parentless standing told;
      damaged = c.graft.ensures.damaged standing told;
    }) d there)

pub returns-in-Err-clause-knows : goal.returns-in-Err-clause-knows
returns-in-Err-clause-knows g c = knows_unjudged g.V.Vault.disk c.args.line.now.vault c.args.known.now c.args.offered.now.hash c.judge.new.known {X = Grafted} c.judge.ensures.remembers c.judge.ensures.only c.in-Err.answer
    (λ d told. subst (Offers (standing_on d) c.args.offered.now.hash) c.in-Err.is (c.judge.ensures.offers d told))

pub returns-in-Ok-clause-knows : goal.returns-in-Ok-clause-knows
returns-in-Ok-clause-knows g c = knows_judged g.V.Vault.disk c.args.line.now.vault c.args.known.now c.args.offered.now.hash c.judge.new.known _ c.judge.ensures.remembers (λ d told. on_ok c.judge.result _ c.in_default.is (c.judge.ensures.learns d told)) c.judge.ensures.only

pub returns-in-Err-graft-clause-knows : goal.returns-in-Err-graft-clause-knows
returns-in-Err-graft-clause-knows g c = knows_judged g.V.Vault.disk c.args.line.now.vault c.args.known.now c.args.offered.now.hash c.judge.new.known {X = Grafted} (Err c.of_graft.result) c.judge.ensures.remembers
    (λ d told. on_ok c.judge.result _ c.in_default.is (c.judge.ensures.learns d told)) c.judge.ensures.only

pub returns-in-Err-clause-kind : goal.returns-in-Err-clause-kind
returns-in-Err-clause-kind g c = if_err (λ r. is_unmade r ≡ true) c.judge.result c.in-Err.answer c.in-Err.is c.judge.ensures.kind

pub returns-in-Err-graft-clause-kind : goal.returns-in-Err-graft-clause-kind
returns-in-Err-graft-clause-kind g c = unmade_told c.in-Err-graft.fault c.of_graft.result c.of_graft.ensures

pub returns-in-Err-clause-fetches : goal.returns-in-Err-clause-fetches
returns-in-Err-clause-fetches g c = judged_alone g.V.Vault.disk c.args.known.now c.args.line.now c.judge.new.line c.args.offered.now.hash c.args.path.now c.judge.ensures.fetches

pub returns-in-Ok-clause-fetches : goal.returns-in-Ok-clause-fetches
returns-in-Ok-clause-fetches g c = grafts_fetched g.V.Vault.disk g.V.Vault.count g.V.Vault.left c.args.known.now c.args.line.now c.judge.new.line c.judge.ensures.reads c.head.result.root (ap (λ (h : Head). h.root) c.head.ensures.newest)
    c.args.offered.now.hash c.args.path.now c.graft.new.shelf.taken c.judge.ensures.fetches (λ d told. subst (Offers (standing_on d) c.args.offered.now.hash) c.in_default.is (c.judge.ensures.offers d told)) c.graft.ensures.most c.graft.ensures.taken

pub returns-in-Err-graft-clause-fetches : goal.returns-in-Err-graft-clause-fetches
returns-in-Err-graft-clause-fetches g c = grafts_fetched g.V.Vault.disk g.V.Vault.count g.V.Vault.left c.args.known.now c.args.line.now c.judge.new.line c.judge.ensures.reads c.head.result.root (ap (λ (h : Head). h.root) c.head.ensures.newest)
    c.args.offered.now.hash c.args.path.now c.graft.new.shelf.taken c.judge.ensures.fetches (λ d told. subst (Offers (standing_on d) c.args.offered.now.hash) c.in_default.is (c.judge.ensures.offers d told)) c.graft.ensures.most c.graft.ensures.taken
