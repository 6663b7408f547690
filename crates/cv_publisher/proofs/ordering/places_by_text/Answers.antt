use Rattle.std.proofs.Common.{◌≡◌, ◌∙◌, ◌++◌, ◌+◌, ℕ, List, Some, sym, ap, subst}
use Rattle.std.specs.Prelude.{IsSome, String, option_map, slice_get}
use Rattle.std.specs.declared.alloc.Global.{Global}
use Rattle.std.specs.BTreeMap.{BTreeMap, get_by_text}
use Rattle.std.specs.String.{string_bytes}
use Rattle.std.proofs.lemmas.Map.Text.{btree_map_updates_text}
use Rattle.std.proofs.lemmas.Option.{slice_get-map}
use Rattle.cv_base.specs.ObjectId.{id_text}
use Rattle.cv_base.specs.declared.object.Object.{Object}
use Rattle.cv_publisher.specs.Packing.{id_texts}
use Rattle.cv_publisher.specs.PackingInner.{FindsFirst}
use Rattle.cv_publisher.proofs.Orders.{finds_new, finds_old}
use Rattle.cv_publisher.proofs.ordering.places_by_text.Goals as goal
use Rattle.cv_publisher.proofs.ordering.places_by_text.Goals.{then-not-contains_key+in_ok-insert, else-not-contains_key}

text_here : (all : List Object) (i : ℕ) (o : Object) (text : List ℕ) → slice_get all i ≡ Some o → text ≡ id_text o.id → slice_get (id_texts all) i ≡ Some text
text_here all i o text is same =
    slice_get-map (λ (x : Object). id_text x.id) all i ∙ ap (option_map (λ (x : Object). id_text x.id)) is ∙ ap (λ (t : List ℕ). Some t) (sym same)

pub loop-place-preserved : goal.loop-place-preserved
loop-place-preserved c =
    let all = c.args.contents.now ++ c.args.catalogues.now in
    let place = c.loop-place.place in
    let text = string_bytes c.in_ok-text.text in
    let here : slice_get (id_texts all) place ≡ Some text = text_here all place c.object_at.result.now text c.object_at.ensures c.in_ok-text.ensures in
    elim c.if-not-contains_key.branch [
      | then-not-contains_key+in_ok-insert w ↦
          subst (λ (m : BTreeMap (String Global) ℕ). FindsFirst (id_texts all) (place + 1) (get_by_text m)) (sym w.places-is)
          (finds_new (id_texts all) place text (get_by_text c.loop-place.places) (get_by_text w.insert.new.self) here c.loop-place.invariant
          (btree_map_updates_text text c.loop-place.places w.insert.new.self (Some place) w.in_ok-insert.ensures.updates))
      | else-not-contains_key w ↦
          subst (λ (m : BTreeMap (String Global) ℕ). FindsFirst (id_texts all) (place + 1) (get_by_text m)) (sym w.places-is)
          (finds_old (id_texts all) place text (get_by_text c.loop-place.places) here
          (subst (λ (t : List ℕ). IsSome (get_by_text c.loop-place.places t)) c.as_str.ensures.value (sym c.contains_key.ensures ∙ w.if-not-contains_key.false))
          c.loop-place.invariant)
    ]
