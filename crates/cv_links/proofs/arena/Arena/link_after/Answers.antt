use Rattle.std.proofs.Common.{None, refl, sym, ap, subst, ◌∙◌, Contains}
use Rattle.std.proofs.lemmas.Option.{same_Some}
use Rattle.cv_links.specs.Chains.{list_of, head_or, last_or}
use Rattle.cv_links.proofs.Lists.{joined_after, is_chain, list_is, kept_elsewhere, live_in, live_if, stands, split, after_in}
use Rattle.cv_links.proofs.arena.Arena.link_after.Goals as goal

pub around-after-requires : goal.around-after-requires
around-after-requires g c = (live_in c.args.self.now c.args.chain.now _ c.args.place c.requires.whole c.requires.stands)

pub put_between-requires-clause-before : goal.put_between-requires-clause-before
put_between-requires-clause-before g c = (live_in c.args.self.now c.args.chain.now _ c.args.place c.requires.whole c.requires.stands)

pub put_between-requires-clause-after : goal.put_between-requires-clause-after
put_between-requires-clause-after g c =
    let s = split (list_of c.args.self.now c.args.chain.now) c.args.place c.requires.stands in
    let after = ap (λ pair. pair.1) (c.around-after.ensures (last_or s.0 None) (head_or s.1 None) ((stands c.args.self.now c.args.chain.now s.0 s.1 c.args.place c.requires.whole s.2))) in
    live_if c.args.self.now c.args.chain.now c.requires.whole _ (λ i e. after_in _ s.0 s.1 c.args.place i s.2 (sym after ∙ e))

pub returns-clause-whole : goal.returns-clause-whole
returns-clause-whole g c =
    let s = split (list_of c.args.self.now c.args.chain.now) c.args.place c.requires.stands in
    let after = ap (λ pair. pair.1) (c.around-after.ensures (last_or s.0 None) (head_or s.1 None) ((stands c.args.self.now c.args.chain.now s.0 s.1 c.args.place c.requires.whole s.2))) in
    is_chain _ _ _ (joined_after c.args.self.now c.put_between.new.self c.args.chain.now _ c.args.place c.args.id _ s.0 s.1 c.requires.whole (s.2) c.put_between.ensures.runs (c.requires.free) after refl refl c.end_of-chain.ensures)

pub returns-clause-list : goal.returns-clause-list
returns-clause-list g c = λ front back e.
    let after = ap (λ pair. pair.1) (c.around-after.ensures (last_or front None) (head_or back None) ((stands c.args.self.now c.args.chain.now front back c.args.place c.requires.whole e))) in
    list_is _ _ _ (joined_after c.args.self.now c.put_between.new.self c.args.chain.now _ c.args.place c.args.id _ front back c.requires.whole (e) c.put_between.ensures.runs (c.requires.free) after refl refl c.end_of-chain.ensures)

pub returns-clause-elsewhere : goal.returns-clause-elsewhere
returns-clause-elsewhere g c = λ other is away.
    let s = split (list_of c.args.self.now c.args.chain.now) c.args.place c.requires.stands in
    let after = ap (λ pair. pair.1) (c.around-after.ensures (last_or s.0 None) (head_or s.1 None) ((stands c.args.self.now c.args.chain.now s.0 s.1 c.args.place c.requires.whole s.2))) in
    kept_elsewhere c.args.self.now c.put_between.new.self c.args.chain.now.lane c.args.id _ _ (list_of c.args.self.now c.args.chain.now) c.put_between.ensures.touches
    (λ i e. subst (λ x. Contains (list_of c.args.self.now c.args.chain.now) x) (same_Some _ _ e) c.requires.stands) (λ i e. after_in _ s.0 s.1 c.args.place i s.2 (sym after ∙ e)) other is away
