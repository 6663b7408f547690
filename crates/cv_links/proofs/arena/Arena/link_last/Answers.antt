use Rattle.std.proofs.Common.{◌≡◌, [], None, Some, IfSome, Option, refl, sym, ◌∙◌}
use Rattle.std.proofs.lemmas.List.{append-nil}
use Rattle.cv_links.specs.declared.id.Id.{Id}
use Rattle.cv_links.specs.Arena.{IsLive}
use Rattle.cv_links.specs.Chains.{list_of}
use Rattle.cv_links.proofs.Segments.{last_within}
use Rattle.cv_links.proofs.Lists.{joined, is_chain, list_is, kept_elsewhere, live_in}
use Rattle.cv_links.proofs.arena.Arena.link_last.Goals as goal

pub put_between-requires-clause-before : goal.put_between-requires-clause-before
put_between-requires-clause-before g c = each _ refl
  where
    each : (o : Option Id) → o ≡ c.args.chain.now.last → IfSome o (λ other. IsLive c.args.self.now other)
    each None e = tt
    each (Some i) e = live_in c.args.self.now c.args.chain.now _ i c.requires.whole (last_within _ i (sym c.requires.whole.last ∙ sym e))

pub returns-clause-whole : goal.returns-clause-whole
returns-clause-whole g c = is_chain _ _ _ (joined c.args.self.now c.put_between.new.self c.args.chain.now _ c.args.id _ None (list_of c.args.self.now c.args.chain.now) [] c.requires.whole (sym (append-nil _)) c.put_between.ensures.runs (c.requires.free) c.requires.whole.last refl refl c.end_of-chain.ensures refl)

pub returns-clause-list : goal.returns-clause-list
returns-clause-list g c = list_is _ _ _ (joined c.args.self.now c.put_between.new.self c.args.chain.now _ c.args.id _ None (list_of c.args.self.now c.args.chain.now) [] c.requires.whole (sym (append-nil _)) c.put_between.ensures.runs (c.requires.free) c.requires.whole.last refl refl c.end_of-chain.ensures refl)

pub returns-clause-elsewhere : goal.returns-clause-elsewhere
returns-clause-elsewhere g c = λ other is away.
    kept_elsewhere c.args.self.now c.put_between.new.self c.args.chain.now.lane c.args.id _ None (list_of c.args.self.now c.args.chain.now) c.put_between.ensures.touches
    (λ i e. last_within _ i (sym c.requires.whole.last ∙ e)) (λ i e. absurd (cc)) other is away
