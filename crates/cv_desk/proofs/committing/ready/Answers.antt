use Rattle.std.proofs.Common.{◌≡◌, ◌++◌, ◌∷◌, [], true, refl, ap, subst, ◌∙◌, inr, rules}
use Rattle.std.specs.declared.result.Result.{Result}
use Rattle.cv_base.proofs.Laws.{handed_on}
use Rattle.cv_graft.specs.declared.grafted.Grafted.{Grafted}
use Rattle.cv_manifest.specs.declared.head.Head.{Head}
use Rattle.cv_objects.specs.Names.{standing_on}
use Rattle.cv_swap.specs.Kept.{object_of}
use Rattle.cv_swap.specs.Line.{LineView}
use Rattle.cv_swap.specs.Publishing.{Prepared}
use Rattle.cv_gate.specs.declared.reply.Reply.{Reply}
use Rattle.cv_gate.specs.declared.reply.Reply.TheVariants.{NoMemory}
use Rattle.cv_desk.specs.Known.{KnowsOn}
use Rattle.cv_desk.specs.Refusals.{is_unmade}
use Rattle.cv_desk.specs.Committing.{unmade, outside}
use Rattle.cv_desk.specs.CommittingInner.{GraftsOffered}
use Rattle.cv_desk.proofs.CommitCalls.{if_ok, if_err, on_err, readied, refused}
use Rattle.cv_desk.proofs.Knowing.{known_brought, knows_same, knows_behind}
use Rattle.cv_desk.proofs.committing.ready.Goals as goal

pub returns-in-Ok-make_ready-clause-known : goal.returns-in-Ok-make_ready-clause-known
returns-in-Ok-make_ready-clause-known g c = known_brought g.V.Vault.disk g.V.Vault.count g.V.Vault.left c.graft_offered.new.known c.graft_offered.new.line.vault c.make_ready.new.line.vault c.make_ready.ensures.silent
    (λ d. Prepared d (c.into_vec.result.items ++ object_of c.in_ok-next.next ∷ []) c.make_ready.new.line.manifest c.make_ready.result) (c.into_vec.result.items ++ object_of c.in_ok-next.next ∷ []) c.make_ready.ensures.walks c.graft_offered.ensures.known

pub returns-in-Err-make_ready-clause-known : goal.returns-in-Err-make_ready-clause-known
returns-in-Err-make_ready-clause-known g c = known_brought g.V.Vault.disk g.V.Vault.count g.V.Vault.left c.graft_offered.new.known c.graft_offered.new.line.vault c.make_ready.new.line.vault c.make_ready.ensures.silent
    (λ d. Prepared d (c.into_vec.result.items ++ object_of c.in_ok-next.next ∷ []) c.make_ready.new.line.manifest c.make_ready.result) (c.into_vec.result.items ++ object_of c.in_ok-next.next ∷ []) c.make_ready.ensures.walks c.graft_offered.ensures.known

pub returns-in-Err-clause-knows : goal.returns-in-Err-clause-knows
returns-in-Err-clause-knows g c = knows_same g.V.Vault.disk c.args.line.now.vault c.args.known.now c.args.offered c.graft_offered.new.known {X = Grafted} {Y = Head} c.in-Err.answer (subst (λ (r : Result Grafted Reply). KnowsOn g.V.Vault.disk c.args.line.now.vault c.args.known.now c.args.offered r c.graft_offered.new.known) c.in-Err.is c.graft_offered.ensures.knows)

pub returns-in_err-next-clause-knows : goal.returns-in_err-next-clause-knows
returns-in_err-next-clause-knows g c = knows_behind g.V.Vault.disk c.args.line.now.vault c.args.known.now c.args.offered c.graft_offered.new.known {Y = Head} c.in-Ok.grafted _ (subst (λ (r : Result Grafted Reply). KnowsOn g.V.Vault.disk c.args.line.now.vault c.args.known.now c.args.offered r c.graft_offered.new.known) c.in-Ok.is c.graft_offered.ensures.knows)

pub returns-in-Ok-make_ready-clause-knows : goal.returns-in-Ok-make_ready-clause-knows
returns-in-Ok-make_ready-clause-knows g c = knows_behind g.V.Vault.disk c.args.line.now.vault c.args.known.now c.args.offered c.graft_offered.new.known {Y = Head} c.in-Ok.grafted _ (subst (λ (r : Result Grafted Reply). KnowsOn g.V.Vault.disk c.args.line.now.vault c.args.known.now c.args.offered r c.graft_offered.new.known) c.in-Ok.is c.graft_offered.ensures.knows)

pub returns-in-Err-make_ready-clause-knows : goal.returns-in-Err-make_ready-clause-knows
returns-in-Err-make_ready-clause-knows g c = knows_behind g.V.Vault.disk c.args.line.now.vault c.args.known.now c.args.offered c.graft_offered.new.known {Y = Head} c.in-Ok.grafted _ (subst (λ (r : Result Grafted Reply). KnowsOn g.V.Vault.disk c.args.line.now.vault c.args.known.now c.args.offered r c.graft_offered.new.known) c.in-Ok.is c.graft_offered.ensures.knows)

pub returns-in-Err-clause-readies : goal.returns-in-Err-clause-readies
returns-in-Err-clause-readies g c = unmade c.in-Err.answer (if_err (λ r. is_unmade r ≡ true) c.graft_offered.result c.in-Err.answer c.in-Err.is c.graft_offered.ensures.kind) c.graft_offered.ensures.reads c.graft_offered.ensures.fetches
    (λ d told. subst (GraftsOffered (standing_on d) c.args.line.now.head.root c.args.offered c.args.lease.now.path) c.in-Err.is (c.graft_offered.ensures.grafts d told))

pub returns-in_err-next-clause-readies : goal.returns-in_err-next-clause-readies
returns-in_err-next-clause-readies g c =
    rw (handed_on _ NoMemory c.from_residual.ensures.1) (unmade NoMemory refl c.graft_offered.ensures.reads c.graft_offered.ensures.fetches (λ d told. outside (inr refl)))

pub returns-in-Ok-make_ready-clause-readies : goal.returns-in-Ok-make_ready-clause-readies
returns-in-Ok-make_ready-clause-readies g c = readied g.V.Vault.disk g.V.Vault.count g.V.Vault.left g.S.Signer.is_seal c.args.known.now c.args.lease.now c.args.key.now c.args.moment c.args.offered c.args.tag.now c.args.line.now c.graft_offered.new.line c.make_ready.new.line
    c.in-Ok.grafted c.head-head.result c.in_ok-next.next c.into_vec.result.items c.graft_offered.ensures.reads (c.head-head.ensures.newest ∙ ap (λ (l : LineView _ _). l.head) c.graft_offered.ensures.reads.1)
    c.in_ok-next.ensures (search rules) c.graft_offered.ensures.fetches
    (λ d told. subst (GraftsOffered (standing_on d) c.args.line.now.head.root c.args.offered c.args.lease.now.path) c.in-Ok.is (c.graft_offered.ensures.grafts d told))
    c.make_ready.result c.in-Ok-make_ready.head c.in-Ok-make_ready.is c.make_ready.ensures.head c.make_ready.ensures.ready c.make_ready.ensures.published c.make_ready.ensures.says c.make_ready.ensures.walks

pub returns-in-Err-make_ready-clause-readies : goal.returns-in-Err-make_ready-clause-readies
returns-in-Err-make_ready-clause-readies g c = refused g.V.Vault.disk g.V.Vault.count g.V.Vault.left g.S.Signer.is_seal c.args.known.now c.args.lease.now c.args.key.now c.args.moment c.args.offered c.args.tag.now c.args.line.now c.graft_offered.new.line c.make_ready.new.line
    c.in-Ok.grafted c.head-head.result c.in_ok-next.next c.into_vec.result.items c.graft_offered.ensures.reads (c.head-head.ensures.newest ∙ ap (λ (l : LineView _ _). l.head) c.graft_offered.ensures.reads.1)
    c.in_ok-next.ensures (search rules) c.graft_offered.ensures.fetches
    (λ d told. subst (GraftsOffered (standing_on d) c.args.line.now.head.root c.args.offered c.args.lease.now.path) c.in-Ok.is (c.graft_offered.ensures.grafts d told))
    c.make_ready.result c.in-Err-make_ready.fault c.in-Err-make_ready.is (on_err c.make_ready.result c.in-Err-make_ready.fault c.in-Err-make_ready.is c.make_ready.ensures.dropped)
    (if_ok _ c.graft_offered.result c.in-Ok.grafted c.in-Ok.is c.graft_offered.ensures.own) c.make_ready.ensures.walks c.of_store.result c.of_store.ensures
