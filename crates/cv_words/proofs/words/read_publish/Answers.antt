use Rattle.std.proofs.Common.{◌≡◌, ◌∷◌, [], List, ℕ, Bool, true, false, rules, codes, refl, sym, ap, ◌∙◌}
use Rattle.cv_base.specs.Marker.{marker, ends_in}
use Rattle.cv_base.specs.Path.{Path}
use Rattle.cv_client.specs.declared.url.Url.{Url}
use Rattle.cv_words.specs.Words.{IsPlace, Means, init, stdio, ls, stat, cat, shell, publish}
use Rattle.cv_words.specs.declared.words.Command.{Command}
use Rattle.cv_words.proofs.words.read_publish.Goals as goal

-- nothing is published at a marker
marked : (url path folder : List ℕ) (at : Path) (b : Bool) (command : Command) {verb : List ℕ} {values : List (List ℕ)} → values ≡ url ∷ path ∷ folder ∷ [] → ((u : Url) (p : Path) → IsPlace url path u p → at ≡ p)
    → b ≡ ends_in marker at → b ≡ true → Means verb values command → ⊥
marked url path folder at b command same only is marks (init name verb_is are good) = absurd cc
marked url path folder at b command same only is marks (stdio name verb_is are good) = absurd cc
marked url path folder at b command same only is marks (ls url' path' u p verb_is are place) = absurd cc
marked url path folder at b command same only is marks (stat url' path' u p verb_is are place) = absurd cc
marked url path folder at b command same only is marks (cat url' path' u p verb_is are place) = absurd cc
marked url path folder at b command same only is marks (shell url' u verb_is are good) = absurd cc
marked url path folder at b command same only is marks (publish url' path' folder' u p verb_is are place unmarked) =
    let one : url' ≡ url = cc in
    let two : path' ≡ path = cc in
    let here : at ≡ p = only u p (rw (sym one, sym two) place) in
    let wrong : true ≡ false = sym marks ∙ is ∙ ap (ends_in marker) here ∙ unmarked in
    absurd cc

pub returns-in_ok-folder-in-publish-clause-command : goal.returns-in_ok-folder-in-publish-clause-command
returns-in_ok-folder-in-publish-clause-command c =
    let word : c.args.verb.now ≡ codes "publish" = search rules in
    let unmarked : c.ends_in_marker.result ≡ false = search rules in
    let same : c.args.url.now ∷ c.args.path.now ∷ c.args.folder.now ∷ [] ≡ c.args.url.now ∷ c.args.path.now ∷ c.in_ok-folder-in-publish.folder ∷ [] = λ i. c.args.url.now ∷ c.args.path.now ∷ sym c.in_ok-folder-in-publish.ensures i ∷ [] in
    publish c.args.url.now c.args.path.now c.in_ok-folder-in-publish.folder _ _ word same c.in_ok-url-in-publish.ensures.place (sym c.ends_in_marker.ensures ∙ unmarked)

pub returns-then-ends_in_marker-clause-usage : goal.returns-then-ends_in_marker-clause-usage
returns-then-ends_in_marker-clause-usage c = λ is command means.
    marked c.args.url.now c.args.path.now c.args.folder.now _ _ command refl c.in_ok-url-in-publish.ensures.only c.ends_in_marker.ensures c.if-ends_in_marker.true means
