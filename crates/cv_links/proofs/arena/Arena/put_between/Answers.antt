use Rattle.std.proofs.Common.{◌∷◌, Contains, None, Some, option_map, ap, sym, ◌∙◌}
use Rattle.cv_links.specs.LinksInner.{with_before, with_after}
use Rattle.cv_links.specs.Arena.{link_at}
use Rattle.cv_links.specs.Chains.{last_or, head_or}
use Rattle.cv_links.proofs.Segments.{runs_cut, runs_cat, runs_held, apart_left, apart_right, apart_between, sides, last_within, head_within}
use Rattle.cv_links.proofs.arena.Arena.put_between.Goals as goal

pub returns-clause-runs : goal.returns-clause-runs
returns-clause-runs g c = λ xs ys runs apart eb ea.
    let f = link_at c.args.self.now c.args.lane in
    let h = link_at c.set_before.new.self c.args.lane in
    let cut = runs_cut f xs ys None None runs in
    let nx : Contains xs c.args.id → ⊥ = λ m. runs_held f xs None (head_or ys None) c.args.id cut.0 m c.requires.free in
    let ny : Contains ys c.args.id → ⊥ = λ m. runs_held f ys (last_or xs None) None c.args.id cut.1 m c.requires.free in
    let both = sides f h xs ys c.args.id c.args.before c.args.after (Some c.args.id) (Some c.args.id) (head_or ys None) (last_or xs None)
    (apart_left xs ys apart) (apart_right xs ys apart) (apart_between xs ys apart) nx ny eb ea
    (λ i d nb na. c.set_before.ensures.others i na ∙ c.set_after.ensures.others i nb ∙ c.relink.ensures.others i d)
    (λ i sb d na. c.set_before.ensures.others i na ∙ c.set_after.ensures.here i sb ∙ ap (option_map (with_after (Some c.args.id))) (c.relink.ensures.others i d))
    (λ i sa d nb. c.set_before.ensures.here i sa ∙ ap (option_map (with_before (Some c.args.id))) (c.set_after.ensures.others i nb ∙ c.relink.ensures.others i d))
    cut.0 cut.1 in
    let middle = c.set_before.ensures.others c.args.id (λ s. ny (head_within ys c.args.id (sym ea ∙ s)))
    ∙ c.set_after.ensures.others c.args.id (λ s. nx (last_within xs c.args.id (sym eb ∙ s)))
    ∙ c.relink.ensures.here in
    runs_cat h xs (c.args.id ∷ ys) None None both.0 (rw (eb, ea) at middle, both.1)
