use Rattle.std.proofs.Common.{None, refl, sym, ap, ◌∙◌}
use Rattle.cv_links.specs.Chains.{list_of, head_or, last_or}
use Rattle.cv_links.proofs.Lists.{parted, is_chain, list_is, kept_elsewhere, live_in, live_if, stands, split, before_in, after_in, before_apart, after_apart}
use Rattle.cv_links.proofs.arena.Arena.unlink.Goals as goal

pub around-before-requires : goal.around-before-requires
around-before-requires g c = (live_in c.args.self.now c.args.chain.now _ c.args.id c.requires.whole c.requires.stands)

pub close_gap-requires-clause-live : goal.close_gap-requires-clause-live
close_gap-requires-clause-live g c = (live_in c.args.self.now c.args.chain.now _ c.args.id c.requires.whole c.requires.stands)

pub close_gap-requires-clause-before : goal.close_gap-requires-clause-before
close_gap-requires-clause-before g c =
    let s = split (list_of c.args.self.now c.args.chain.now) c.args.id c.requires.stands in
    let around = c.around-before.ensures (last_or s.0 None) (head_or s.1 None) ((stands c.args.self.now c.args.chain.now s.0 s.1 c.args.id c.requires.whole s.2)) in
    live_if c.args.self.now c.args.chain.now c.requires.whole _ (λ i e. before_in _ s.0 s.1 c.args.id i s.2 (sym (ap (λ pair. pair.0) around) ∙ e))

pub close_gap-requires-clause-after : goal.close_gap-requires-clause-after
close_gap-requires-clause-after g c =
    let s = split (list_of c.args.self.now c.args.chain.now) c.args.id c.requires.stands in
    let around = c.around-before.ensures (last_or s.0 None) (head_or s.1 None) ((stands c.args.self.now c.args.chain.now s.0 s.1 c.args.id c.requires.whole s.2)) in
    live_if c.args.self.now c.args.chain.now c.requires.whole _ (λ i e. after_in _ s.0 s.1 c.args.id i s.2 (sym (ap (λ pair. pair.1) around) ∙ e))

pub close_gap-requires-clause-apart : goal.close_gap-requires-clause-apart
close_gap-requires-clause-apart g c =
    let s = split (list_of c.args.self.now c.args.chain.now) c.args.id c.requires.stands in
    let around = c.around-before.ensures (last_or s.0 None) (head_or s.1 None) ((stands c.args.self.now c.args.chain.now s.0 s.1 c.args.id c.requires.whole s.2)) in (
      λ e. before_apart _ s.0 s.1 c.args.id s.2 c.requires.whole.apart (sym (ap (λ pair. pair.0) around) ∙ e),
      λ e. after_apart _ s.0 s.1 c.args.id s.2 c.requires.whole.apart (sym (ap (λ pair. pair.1) around) ∙ e),
    )

pub returns-clause-whole : goal.returns-clause-whole
returns-clause-whole g c =
    let s = split (list_of c.args.self.now c.args.chain.now) c.args.id c.requires.stands in
    let around = c.around-before.ensures (last_or s.0 None) (head_or s.1 None) ((stands c.args.self.now c.args.chain.now s.0 s.1 c.args.id c.requires.whole s.2)) in
    is_chain _ _ _ (parted c.args.self.now c.close_gap.new.self c.args.chain.now _ c.args.id _ _ s.0 s.1 c.requires.whole (s.2) c.close_gap.ensures.runs (ap (λ pair. pair.0) around) (ap (λ pair. pair.1) around) refl c.end_of-chain.ensures c.end_of-chain-2.ensures)

pub returns-clause-list : goal.returns-clause-list
returns-clause-list g c = λ front back e.
    let around = c.around-before.ensures (last_or front None) (head_or back None) ((stands c.args.self.now c.args.chain.now front back c.args.id c.requires.whole e)) in
    list_is _ _ _ (parted c.args.self.now c.close_gap.new.self c.args.chain.now _ c.args.id _ _ front back c.requires.whole (e) c.close_gap.ensures.runs (ap (λ pair. pair.0) around) (ap (λ pair. pair.1) around) refl c.end_of-chain.ensures c.end_of-chain-2.ensures)

pub returns-clause-elsewhere : goal.returns-clause-elsewhere
returns-clause-elsewhere g c = λ other is away.
    let s = split (list_of c.args.self.now c.args.chain.now) c.args.id c.requires.stands in
    let around = c.around-before.ensures (last_or s.0 None) (head_or s.1 None) ((stands c.args.self.now c.args.chain.now s.0 s.1 c.args.id c.requires.whole s.2)) in
    kept_elsewhere c.args.self.now c.close_gap.new.self c.args.chain.now.lane c.args.id _ _ (list_of c.args.self.now c.args.chain.now) c.close_gap.ensures.touches
    (λ i e. before_in _ s.0 s.1 c.args.id i s.2 (sym (ap (λ pair. pair.0) around) ∙ e)) (λ i e. after_in _ s.0 s.1 c.args.id i s.2 (sym (ap (λ pair. pair.1) around) ∙ e)) other is away
