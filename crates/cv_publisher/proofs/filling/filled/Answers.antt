use Rattle.std.proofs.Common.{◌≡◌, ◌∙◌, ◌++◌, ◌∷◌, [], List, ℕ, ap, sym, subst}
use Rattle.std.specs.Prelude.{Contains, OnOk}
use Rattle.sha1.specs.Sha1.{sha1}
use Rattle.cv_base.specs.declared.object.Object.{Object}
use Rattle.cv_pack.specs.Pack.{IsPacked, ids}
use Rattle.cv_pack.specs.Reading.{object}
use Rattle.cv_publisher.proofs.Objects.{filled_more, new_at, own_at}
use Rattle.cv_publisher.proofs.filling.filled.Goals as goal

pub add-requires-clause-hash : goal.add-requires-clause-hash
add-requires-clause-hash c =
    let own : IsPacked c.object_at-object.result.now =
    own_at (c.args.contents.now ++ c.args.catalogues.now) c.args.places.now c.loop-place.place-index c.object_at-object.result.now c.loop-place-test.true c.object_at-object.ensures c.requires in
    own.hash ∙ sym (ap sha1 c.as_slice.ensures)

pub add-requires-clause-kind : goal.add-requires-clause-kind
add-requires-clause-kind c =
    let own : IsPacked c.object_at-object.result.now =
    own_at (c.args.contents.now ++ c.args.catalogues.now) c.args.places.now c.loop-place.place-index c.object_at-object.result.now c.loop-place-test.true c.object_at-object.ensures c.requires in
    own.kind

pub add-requires-clause-new : goal.add-requires-clause-new
add-requires-clause-new c = λ has.
    new_at (c.args.contents.now ++ c.args.catalogues.now) c.args.places.now c.loop-place.place-index c.object_at-object.result.now c.loop-place-test.true c.object_at-object.ensures c.requires
    (subst (λ (os : List Object). Contains (ids os) c.object_at-object.result.now.id) c.loop-place.invariant has)

pub loop-place-preserved : goal.loop-place-preserved
loop-place-preserved c =
    let o : Object = c.object_at-object.result.now in
    let added : OnOk c.add.result (c.add.new.self ≡ c.loop-place.writer ++ o ∷ []) =
    subst (λ (b : List ℕ). OnOk c.add.result (c.add.new.self ≡ c.loop-place.writer ++ object o.id b ∷ [])) c.as_slice.ensures c.add.ensures.ok in
    filled_more (c.args.contents.now ++ c.args.catalogues.now) c.args.places.now c.loop-place.place-index o c.loop-place.writer c.add.new.self c.add.result
    c.loop-place-test.true c.object_at-object.ensures c.loop-place.invariant (sym c.is_err.ensures.value ∙ c.if-is_err.false) added
