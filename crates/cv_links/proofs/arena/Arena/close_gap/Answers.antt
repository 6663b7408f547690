use Rattle.std.proofs.Common.{◌∷◌, None, Some, option_map, ap, ◌∙◌}
use Rattle.cv_links.specs.LinksInner.{with_before, with_after}
use Rattle.cv_links.specs.Arena.{link_at}
use Rattle.cv_links.proofs.Segments.{runs_cut, runs_cat, apart_left, apart_right, apart_between, sides, here, later}
use Rattle.cv_links.proofs.arena.Arena.close_gap.Goals as goal

pub returns-clause-runs : goal.returns-clause-runs
returns-clause-runs g c = λ xs ys runs apart eb ea.
    let f = link_at c.args.self.now c.args.lane in
    let h = link_at c.set_before.new.self c.args.lane in
    let id = c.args.id in
    let cut = runs_cut f xs (id ∷ ys) None None runs in
    let right = apart_right xs (id ∷ ys) apart in
    let between = apart_between xs (id ∷ ys) apart in
    let both = sides f h xs ys id c.args.before c.args.after c.args.after c.args.before (Some id) (Some id)
    (apart_left xs (id ∷ ys) apart) right.1 (λ i p q. between i p (later id ys i q))
    (λ m. between id m (here id ys)) right.0 eb ea
    (λ i d nb na. c.set_before.ensures.others i na ∙ c.set_after.ensures.others i nb ∙ c.relink.ensures.others i d)
    (λ i sb d na. c.set_before.ensures.others i na ∙ c.set_after.ensures.here i sb ∙ ap (option_map (with_after c.args.after)) (c.relink.ensures.others i d))
    (λ i sa d nb. c.set_before.ensures.here i sa ∙ ap (option_map (with_before c.args.before)) (c.set_after.ensures.others i nb ∙ c.relink.ensures.others i d))
    cut.0 cut.1.1 in
    runs_cat h xs ys None None (rw ea at both.0) (rw eb at both.1)
