-- Which cuts a walk knows.
use Rattle.std.proofs.Common.{◌≡◌, List, [], ◌∷◌, ◌++◌, take, refl, sym, subst, ◌∙◌, arith, inl, inr}
use Rattle.std.specs.Prelude.{Contains, IfOk}
use Rattle.std.specs.declared.result.Result.{Result}
use Rattle.std.specs.declared.result.Result.TheVariants.{Ok, Err}
use Rattle.std.specs.declared.option.Option.TheVariants.{Some}
use Rattle.std.proofs.lemmas.List.Elements.{Contains-push, Contains-push_cases, Contains-append_left}
use Rattle.cv_base.specs.Path.{Path}
use Rattle.cv_rows.specs.Catalogue.{Contents}
use Rattle.cv_rows.specs.Places.{StandsAt}
use Rattle.cv_rows.specs.declared.row.Row.{Row}
use Rattle.cv_rows.specs.declared.row_kind.RowKind.TheVariants as kind
use Rattle.cv_resolver.specs.Naming.{AreKnown, NamesCut}
use Rattle.cv_resolver.specs.NamingInner.{AreAmong}
use Rattle.cv_resolver.specs.Spot.{levels_of}
use Rattle.cv_resolver.specs.Rows.{IsInCut}
use Rattle.cv_resolver.specs.StepInner.{stepped_levels}
use Rattle.cv_resolver.specs.declared.step.Step.{Step}
use Rattle.cv_resolver.specs.declared.spot.Level.{Level}
use Rattle.cv_resolver.specs.declared.spot.Spot.{Spot}

pub nothing_in : {X : Type 0} (x : X) → Contains {X = X} [] x → ⊥
nothing_in x has = let lt = has.1 in omega arith

-- those that were known
pub still_known : (c : Contents) (known levels : List Level) → AreAmong known levels → AreKnown c known levels
still_known c known levels among = λ l has. inl (among l has)

pub none_known : (c : Contents) (known : List Level) → AreKnown c known []
none_known c known = λ l has. absurd (nothing_in l has)

-- and a cut that was entered by its Transition row
pub cut_known : (c : Contents) (row : Row) (s : Spot) (path : Path) (into : Spot) → StandsAt c.at c.rows row path → row.kind ≡ kind.Transition → IsInCut c row s path into
    → AreKnown c (levels_of s) (levels_of into)
cut_known c row s path into st trans is = λ l has.
    let more : Level = record { path = path; hash = is.entry.hash; row = Some row } in
    elim (Contains-push_cases (levels_of s) more l (subst (λ (ls : List Level). Contains ls l) is.levels has)) [
      | inl old ↦ inl old
      | inr new ↦ inr (subst (NamesCut c) new (record { row = row; is = refl; kind = trans; stands = st; entry = is.entry; listed = is.listed; path = sym is.path_is; hash = refl }))
    ]

-- the first of all levels, the one above the last, and the last
pub first_among : (first : Level) (levels : List Level) → first ∷ [] ≡ take 1 levels → AreAmong levels (first ∷ [])
first_among first [] is = let e : first ∷ [] ≡ [] = is in cc
first_among first (x ∷ xs) is = λ l has. elim (Contains-push_cases [] first l has) [
  | inl none ↦ absurd (nothing_in l none)
  | inr same ↦
      let e : first ∷ [] ≡ x ∷ [] = is in
      let one : first ≡ x = cc in
      subst (Contains (x ∷ xs)) (sym one ∙ same) (Contains-append_left (x ∷ []) xs x (Contains-push [] x))
]

pub above_among : (front : List Level) (above level : Level) (outer : List Level) → outer ≡ front ++ above ∷ [] → AreAmong (outer ++ level ∷ []) (front ++ above ∷ [])
above_among front above level outer is = λ l has. Contains-append_left outer (level ∷ []) l (subst (λ (ls : List Level). Contains ls l) (sym is) has)

-- and what a link leads to
pub known_on : {E : Type 0} (c : Contents) (known levels : List Level) (r : Result Step E) → AreKnown c known levels → IfOk r (λ s. AreAmong levels (stepped_levels s)) → IfOk r (λ s. AreKnown c known (stepped_levels s))
known_on c known levels (Err e) are among = tt
known_on c known levels (Ok s) are among = λ l has. are l (among l has)
