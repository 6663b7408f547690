use Rattle.std.proofs.Common.{◌≡◌, ◌∙◌, ℕ, ◌+◌, ◌<◌, length, get_or, take, ap, sym, subst, arith, List, refl}
use Rattle.std.specs.Prelude.{Contains}
use Rattle.std.proofs.lemmas.List.{get_or-map, length-map, take_all}
use Rattle.cv_base.specs.declared.id.ObjectId.{ObjectId}
use Rattle.cv_base.specs.declared.object.Object.{Object}
use Rattle.cv_pack.specs.declared.pack_writer.Lent.{Lent}
use Rattle.cv_pack.specs.Pack.{ids}
use Rattle.cv_pack.specs.PackInner.{lent}
use Rattle.cv_pack.specs.Reading.{object}
use Rattle.cv_pack.proofs.Packs.{has_at, has_not_more}
use Rattle.cv_pack.proofs.pack_writer.has_id.Goals as goal

-- the object that is lent so
abbrev lent_one : Lent → Object
lent_one o = object o.id o.bytes.now

-- the object at a place, whatever stands for one past the end
at_lent : (os : List Lent) (i : ℕ) (d : Lent) (e : Object) → i < length os → get_or (lent os) i e ≡ lent_one (get_or os i d)
at_lent os i d e within = get_or-map lent_one os i d e within

lent_within : (os : List Lent) (i : ℕ) → i < length os → i < length (lent os)
lent_within os i within = omega (arith, length-map os lent_one)

has_it : (os : List Lent) (i : ℕ) (d : Lent) (id : ObjectId) → i < length os → (get_or os i d).id ≡ id → Contains (ids (lent os)) id
has_it os i d id within is =
    has_at (lent os) i (lent_one d) id (lent_within os i within) (ap (λ (o : Object). o.id) (at_lent os i d (lent_one d) within) ∙ is)

has_it_not : (os : List Lent) (i : ℕ) (d : Lent) (id : ObjectId) → i < length os → (Contains (ids (take i (lent os))) id → ⊥) → ((get_or os i d).id ≡ id → ⊥)
    → Contains (ids (take (i + 1) (lent os))) id → ⊥
has_it_not os i d id within before other =
    has_not_more (lent os) i (lent_one d) id (lent_within os i within) before (λ is. other (sym (ap (λ (o : Object). o.id) (at_lent os i d (lent_one d) within)) ∙ is))

pub loop-object-preserved : goal.loop-object-preserved
loop-object-preserved c =
    has_it_not c.args.objects.now c.loop-object.object-index _ c.args.id.now c.loop-object-test.true c.loop-object.invariant (λ is. let t = c.is_id_of.ensures.1 is in absurd cc)

pub returns-then-is_id_of : goal.returns-then-is_id_of
returns-then-is_id_of c = (
  λ t. has_it c.args.objects.now c.loop-object.object-index _ c.args.id.now c.loop-object-test.true (c.is_id_of.ensures.0 c.if-is_id_of.true),
  λ h. refl,
)

pub returns : goal.returns
returns c =
    let os = lent c.args.objects.now in
    let all = take_all c.loop-object.object-index os (omega (arith, length-map c.args.objects.now lent_one)) in
    (λ t. absurd cc, λ h. absurd (c.loop-object.invariant (subst (λ (x : List Object). Contains (ids x) c.args.id.now) (sym all) h)))
