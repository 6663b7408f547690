use Rattle.std.proofs.Common.{◌≡◌, ◌++◌, true, false, List, Result, Ok, Err, sym, ap, subst, ◌∙◌, append-nil}
use Rattle.std.specs.Prelude.{Contains, IsErrAnd}
use Rattle.cv_base.specs.Path.{Path, covers}
use Rattle.cv_base.specs.Marker.{marker, ends_in}
use Rattle.cv_rows.specs.Catalogue.{Contents, IsCatalogue}
use Rattle.cv_rows.specs.Within.{IsWithin}
use Rattle.cv_rows.specs.Without.{IsWithout}
use Rattle.cv_rows.specs.declared.row.Row.{Row}
use Rattle.cv_rows.specs.declared.nested.Nested.{Nested}
use Rattle.cv_rows.specs.Made.{PassesLimit, in_order}
use Rattle.cv_graft.specs.Joins.{AreCrossed, Collides, IsJoined, IsFullAt, Parts}
use Rattle.cv_graft.specs.JoinsInner.{IsCollision, from_tree}
use Rattle.cv_graft.specs.MakesInner.{Joins}
use Rattle.cv_graft.specs.Places.{HasPlace}
use Rattle.cv_graft.specs.declared.graft_fault.GraftFault.{GraftFault}
use Rattle.cv_graft.specs.declared.graft_fault.GraftFault.TheVariants as fault
use Rattle.cv_graft.proofs.Crossing.{place_before}
use Rattle.cv_graft.proofs.Parts.{AreJoinable, parts_joined, keys_joined}
use Rattle.cv_graft.proofs.joining.CatalogueComing.join.Goals as goal
use Rattle.cv_cut.proofs.Lemmas.{passes}

came_from : (o : Contents) (p : Path) (rows there : List Row) (nested : List Nested) → IsWithin o p rows nested → there ≡ rows → (r : Row) → Contains there r → Contains o.rows r
came_from o p rows there nested w same r has = (passes w.goes o.rows r (subst (λ (l : List Row). Contains l r) (same ∙ w.rows_are) has)).0

abbrev parts_of : (c o rest : Contents) (p : Path) (rows : List Row) (nested : List Nested) → IsWithout c p rest → IsWithin o p rows nested → HasPlace rest p → Parts c o p
parts_of c o rest p rows nested out within place = record { place = place_before c rest p p out place; rest = rest; rows = rows; nested = nested; without = out; within = within }

collides : (c o : Contents) (p : Path) (x : Parts c o p) (there : List Row) (f : GraftFault) (answer : Result Contents GraftFault) → there ≡ x.rows → IsCollision x.rest o there f → IsErrAnd answer (λ e. e ≡ f) → Joins (from_tree o p) c answer
collides c o p x there f (Ok made) same is h = absurd h
collides c o p x there f (Err e) same is h = subst (λ (y : GraftFault). Joins (from_tree o p) c (Err y)) (sym h) (of f is)
  where
    of : (f : GraftFault) → IsCollision x.rest o there f → Joins (from_tree o p) c (Err f)
    of (fault.PathCollision a b) is = record { parts = x; collides = subst (λ (l : List Row). Collides x.rest o x.rest.rows l a b) same is }
    of (fault.CatalogueFull d) is = absurd is
    of fault.Failed is = absurd is
    of (fault.Damaged id found) is = absurd is
    of fault.NoMemory is = tt

joinable : (c o rest : Contents) (p : Path) (rows there : List Row) (nested : List Nested) → IsCatalogue rest → IsCatalogue o → covers o.at p ≡ true → (p ≡ o.at → ⊥)
    → ends_in marker p ≡ false → IsWithout c p rest → IsWithin o p rows nested → HasPlace rest p → there ≡ rows → AreCrossed rest.rows there → AreJoinable c o rest p rows nested
joinable c o rest p rows there nested is other below_ apart unmarked out within place same cross = record {
  is = is;
  other = other;
  below_ = below_;
  apart = apart;
  unmarked = unmarked;
  without = out;
  within = within;
  place = place;
  cross = λ a b has had. cross a b has (subst (λ (l : List Row). Contains l b) (sym same) had);
}

pub check_keys-requires : goal.check_keys-requires
check_keys-requires c = came_from c.args.self.now c.args.path.now c.in_ok-rows.rows.items c.deref.result.now c.in_ok-rows.nested.items c.in_ok-rows.ensures c.deref.ensures.value

pub returns-in_err-check_keys-clause-joins : goal.returns-in_err-check_keys-clause-joins
returns-in_err-check_keys-clause-joins c =
    collides c.args.catalogue c.args.self.now c.args.path.now
    (parts_of c.args.catalogue c.args.self.now c.in_ok-rest.rest c.args.path.now c.in_ok-rows.rows.items c.in_ok-rows.nested.items c.in_ok-rest.ensures.left c.in_ok-rows.ensures (c.in_ok-has_place.ensures c.if-not-branch.false))
    c.deref.result.now _ _ c.deref.ensures.value c.in_err-check_keys.ensures.err c.from_residual-in_err-check_keys.ensures.1

pub with-requires : goal.with-requires
with-requires c =
    parts_joined c.args.catalogue c.args.self.now c.in_ok-rest.rest c.args.path.now c.in_ok-rows.rows.items c.in_ok-rows.nested.items
    (joinable c.args.catalogue c.args.self.now c.in_ok-rest.rest c.args.path.now c.in_ok-rows.rows.items c.deref.result.now c.in_ok-rows.nested.items
    c.in_ok-rest.ensures.rules c.requires.ready.0 c.requires.ready.1 c.requires.ready.2 c.requires.unmarked c.in_ok-rest.ensures.left c.in_ok-rows.ensures (c.in_ok-has_place.ensures c.if-not-branch.false) c.deref.ensures.value c.in_ok-check_keys.ensures.ok)

made_so : (c o : Contents) (p : Path) (x : Parts c o p) (there : List Row) (made : Contents) → there ≡ x.rows → AreCrossed x.rest.rows there
    → (PassesLimit (x.rest.rows ++ x.rows) (x.rest.nested ++ x.nested) → ⊥) → made ≡ in_order x.rest.at (x.rest.rows ++ x.rows) (x.rest.nested ++ x.nested) → IsJoined c o p made
made_so c o p x there made same cross fits is = record {
  parts = x;
  crossed = subst (AreCrossed x.rest.rows) same cross;
  fits = fits;
  is = is ∙ ap (λ (at : Path). in_order at (x.rest.rows ++ x.rows) (x.rest.nested ++ x.nested)) x.without.at;
}

full_so : (c o : Contents) (p at : Path) (x : Parts c o p) (there : List Row) → there ≡ x.rows → AreCrossed x.rest.rows there → PassesLimit (x.rest.rows ++ x.rows) (x.rest.nested ++ x.nested) → at ≡ c.at → IsFullAt c o p at
full_so c o p at x there same cross full place = record { parts = x; crossed = subst (AreCrossed x.rest.rows) same cross; place = place; full = full }

pub returns-in-Ok-clause-joins : goal.returns-in-Ok-clause-joins
returns-in-Ok-clause-joins c =
    made_so c.args.catalogue c.args.self.now c.args.path.now
    (parts_of c.args.catalogue c.args.self.now c.in_ok-rest.rest c.args.path.now c.in_ok-rows.rows.items c.in_ok-rows.nested.items c.in_ok-rest.ensures.left c.in_ok-rows.ensures (c.in_ok-has_place.ensures c.if-not-branch.false))
    c.deref.result.now c.in-Ok.joined c.deref.ensures.value c.in_ok-check_keys.ensures.ok c.in-Ok.ensures.fits c.in-Ok.ensures.made

pub returns-in-Err-default-Full-clause-joins : goal.returns-in-Err-default-Full-clause-joins
returns-in-Err-default-Full-clause-joins c =
    full_so c.args.catalogue c.args.self.now c.args.path.now (c.in_ok-copy-in-Err-default-Full).field-0
    (parts_of c.args.catalogue c.args.self.now c.in_ok-rest.rest c.args.path.now c.in_ok-rows.rows.items c.in_ok-rows.nested.items c.in_ok-rest.ensures.left c.in_ok-rows.ensures (c.in_ok-has_place.ensures c.if-not-branch.false))
    c.deref.result.now c.deref.ensures.value c.in_ok-check_keys.ensures.ok (c.in-Err-default-Full.ensures.full c.in-Err-default-Full.field-0-1-is).1 ((c.in_ok-copy-in-Err-default-Full).ensures ∙ sym c.requires.place)

pub unreachable-requires : goal.unreachable-requires
unreachable-requires c =
    let apart = keys_joined c.args.catalogue c.args.self.now c.in_ok-rest.rest c.args.path.now c.in_ok-rows.rows.items c.in_ok-rows.nested.items
    (joinable c.args.catalogue c.args.self.now c.in_ok-rest.rest c.args.path.now c.in_ok-rows.rows.items c.deref.result.now c.in_ok-rows.nested.items
    c.in_ok-rest.ensures.rules c.requires.ready.0 c.requires.ready.1 c.requires.ready.2 c.requires.unmarked c.in_ok-rest.ensures.left c.in_ok-rows.ensures (c.in_ok-has_place.ensures c.if-not-branch.false) c.deref.ensures.value c.in_ok-check_keys.ensures.ok) in
    apart (c.in-Err-default-Collision.field-0-1-0).0 (c.in-Err-default-Collision.ensures.collision c.in-Err-default-Collision.field-0-1-0 c.in-Err-default-Collision.field-0-1-is)

pub returns-in-Ok-clause-added : goal.returns-in-Ok-clause-added
returns-in-Ok-clause-added c = sym (append-nil c.args._added.now.items)
