use Rattle.std.proofs.Common.{◌≡◌, ◌+◌, ◌++◌, ◌∷◌, [], ◌∙◌, List, ℕ, length, sym, ap, subst, arith}
use Rattle.std.specs.Prelude.{Contains}
use Rattle.std.proofs.lemmas.List.{length-map, map-append}
use Rattle.cv_base.specs.declared.object.Object.{Object}
use Rattle.cv_pack.specs.declared.pack_writer.Lent.{Lent}
use Rattle.cv_pack.specs.Pack.{IsPack, IsPacked, ids, contents_size}
use Rattle.cv_pack.specs.PackInner.{lent}
use Rattle.cv_pack.specs.Reading.{object}
use Rattle.cv_pack.proofs.Packs.{pack_more, size_more}
use Rattle.cv_pack.proofs.pack_writer.PackWriter.add.Goals as goal

pub invariant_of-self-2 : goal.invariant_of-self-2
invariant_of-self-2 c =
    let o : Object = object c.args.id.now c.args.bytes.now in
    let one : Lent → Object = λ l. object l.id l.bytes.now in
    let os : List Object = lent c.self.inside.objects.items in
    let is : IsPacked o = record { hash = c.requires.hash; kind = c.requires.kind; size = omega arith } in
    let new : Contains (ids os) o.id → ⊥ = λ h. c.requires.new (subst (λ (x : List Object). Contains (ids x) o.id) c.self.view_is h) in
    let items : lent c.push.new.self.items ≡ os ++ o ∷ [] = ap lent c.in_ok-push.ensures.items ∙ map-append one c.self.inside.objects.items _ in
    let count : length os ≡ length c.self.inside.objects.items = length-map c.self.inside.objects.items one in
    let total = c.self.invariant.1 in
    let more : IsPack (os ++ o ∷ []) = pack_more os o c.self.invariant.0 is new (omega (arith, count)) (omega arith) in
    (subst IsPack (sym items) more, ap (λ (n : ℕ). n + length c.args.bytes.now) total ∙ sym (size_more os o) ∙ ap contents_size (sym items))
