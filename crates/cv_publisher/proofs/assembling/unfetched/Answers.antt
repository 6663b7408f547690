use Rattle.std.proofs.Common.{◌≡◌, ◌∙◌, ℕ, Bool, true, false, cond, List, [], ◌∷◌, ◌++◌, Option, Some, None, length, append_assoc, refl, sym, ap}
use Rattle.std.specs.Prelude.{is_some, not, option_map}
use Rattle.std.specs.Vec.Iter.{into_iter_items}
use Rattle.cv_base.specs.declared.object.Object.{Object}
use Rattle.cv_ports.specs.MemoryShelf.{standing}
use Rattle.cv_ports.specs.Shelf.{Shelf}
use Rattle.cv_publisher.specs.Assembling.{unfetched}
use Rattle.cv_publisher.proofs.assembling.unfetched.Goals as goal

-- bytes are there where they have a length
measured : (x : Option (List ℕ)) (there : Option ℕ) → there ≡ option_map length x → is_some x ≡ is_some there
measured None there is = ap is_some (sym is)
measured (Some bytes) there is = ap is_some (sym is)

module _ (fetched : Shelf) (o : Object) (new rest all : List Object) (before : (new ++ unfetched fetched (o ∷ rest)) ≡ all) where
  taken : (more : List Object) → is_some (fetched o.id) ≡ false → more ≡ new ++ o ∷ [] → (more ++ unfetched fetched rest) ≡ all
  taken more lacks is =
      ap (λ (x : List Object). x ++ unfetched fetched rest) is ∙ append_assoc new (o ∷ []) (unfetched fetched rest)
      ∙ ap (λ (b : Bool). new ++ cond (not b) (o ∷ unfetched fetched rest) (unfetched fetched rest)) (sym lacks) ∙ before

  passed : is_some (fetched o.id) ≡ true → (new ++ unfetched fetched rest) ≡ all
  passed has = ap (λ (b : Bool). new ++ cond (not b) (o ∷ unfetched fetched rest) (unfetched fetched rest)) (sym has) ∙ before

pub loop-object-preserved : goal.loop-object-preserved
loop-object-preserved c =
    let o = c.in-Some.object in
    let rest = into_iter_items c.next.new.self in
    let shelf = standing c.args.fetched.now in
    let steps : into_iter_items c.loop-object.object-iterator ≡ o ∷ rest = c.in-Some.ensures.steps.0 in
    let before : (c.loop-object.new.items ++ unfetched shelf (o ∷ rest)) ≡ unfetched shelf c.args.made =
    ap (λ (x : List Object). c.loop-object.new.items ++ unfetched shelf x) (sym steps) ∙ c.loop-object.invariant.items in
    let there : is_some (shelf o.id) ≡ is_some c.in-Ok.there =
    ap (λ (s : Shelf). is_some (s o.id)) (sym c.loop-object.invariant.same)
    ∙ measured (standing c.loop-object.fetched o.id) c.in-Ok.there (c.in-Ok.ensures.told (standing c.loop-object.fetched) refl) in
    record {
      items = taken shelf o c.loop-object.new.items rest (unfetched shelf c.args.made) before c.push.new.self.items (there ∙ sym c.is_some.ensures ∙ c.if-is_some.false) c.in_ok-push.ensures.items;
      same = c.in-Ok.ensures.reads ∙ c.loop-object.invariant.same;
    }

pub loop-object-preserved-then-is_some : goal.loop-object-preserved-then-is_some
loop-object-preserved-then-is_some c =
    let o = c.in-Some.object in
    let rest = into_iter_items c.next.new.self in
    let shelf = standing c.args.fetched.now in
    let steps : into_iter_items c.loop-object.object-iterator ≡ o ∷ rest = c.in-Some.ensures.steps.0 in
    let before : (c.loop-object.new.items ++ unfetched shelf (o ∷ rest)) ≡ unfetched shelf c.args.made =
    ap (λ (x : List Object). c.loop-object.new.items ++ unfetched shelf x) (sym steps) ∙ c.loop-object.invariant.items in
    let there : is_some (shelf o.id) ≡ is_some c.in-Ok.there =
    ap (λ (s : Shelf). is_some (s o.id)) (sym c.loop-object.invariant.same)
    ∙ measured (standing c.loop-object.fetched o.id) c.in-Ok.there (c.in-Ok.ensures.told (standing c.loop-object.fetched) refl) in
    record {
      items = passed shelf o c.loop-object.new.items rest (unfetched shelf c.args.made) before (there ∙ sym c.is_some.ensures ∙ c.if-is_some.true);
      same = c.in-Ok.ensures.reads ∙ c.loop-object.invariant.same;
    }
