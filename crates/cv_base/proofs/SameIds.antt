-- Which ids are the same.
use Rattle.std.proofs.Common.{◌≡◌, true, refl}
use Rattle.std.specs.Prelude.{bytes_eq}
use Rattle.std.proofs.lemmas.Slice.Eq.{bytes_eq-Decides}
use Rattle.cv_base.specs.declared.id.ObjectId.{ObjectId}
use Rattle.cv_base.specs.ObjectId.{same_id, same_kind}
use Rattle.cv_base.proofs.Bools.{first_true, second_true}
use Rattle.cv_base.proofs.SameKinds.{same_kind-eq, same_kind-own}

pub same_id-own : (a : ObjectId) → same_id a a ≡ true
same_id-own a = rw ((bytes_eq-Decides a.hash a.hash).1 refl, same_kind-own a.kind) refl

pub same_id-eq : (a b : ObjectId) → same_id a b ≡ true → a ≡ b
same_id-eq a b e =
    let hash : a.hash ≡ b.hash = (bytes_eq-Decides a.hash b.hash).0 (first_true (bytes_eq a.hash b.hash) (same_kind a.kind b.kind) e) in
    let kind : a.kind ≡ b.kind = same_kind-eq a.kind b.kind (second_true (bytes_eq a.hash b.hash) (same_kind a.kind b.kind) e) in
    λ i. record { hash = hash i; kind = kind i }
