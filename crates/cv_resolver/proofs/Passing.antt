-- What a name leads to from a spot.
use Rattle.std.proofs.Common.{◌≡◌, ℕ, Bool, true, false, List, [], ◌∷◌, ◌++◌, refl, sym, ap, subst, ◌∙◌}
use Rattle.std.specs.Prelude.{Contains}
use Rattle.std.specs.declared.option.Option.{Option}
use Rattle.std.specs.declared.option.Option.TheVariants.{None, Some}
use Rattle.std.specs.FinMap.{get}
use Rattle.std.proofs.lemmas.List.Elements.{Contains-append_right}
use Rattle.cv_base.specs.Path.{Path, parent}
use Rattle.cv_tree.specs.Tree.{Nodes}
use Rattle.cv_tree.specs.declared.node.Node.{Node}
use Rattle.cv_tree.specs.declared.node.Node.TheVariants as node
use Rattle.cv_resolver.specs.Walk.{Name, Trail, from, is_idle, is_up, walk}
use Rattle.cv_resolver.specs.Spot.{StandsIn, IsSpot, levels_of}
use Rattle.cv_resolver.specs.EnterInner.{IsOpen, IsEntered}
use Rattle.cv_resolver.specs.Pass.{Continues}
use Rattle.cv_resolver.specs.PassInner.{at_link, IsPassed}
use Rattle.cv_resolver.specs.declared.spot.Spot.{Spot}
use Rattle.cv_resolver.specs.declared.enter.Entered.TheVariants.{Nothing, Stands, Link}
use Rattle.cv_resolver.specs.declared.pass.Halt.TheVariants as halt
use Rattle.cv_resolver.specs.declared.pass.Passed.TheVariants as to
use Rattle.cv_resolver.proofs.Spots.{stands_at_link}
use Rattle.cv_resolver.proofs.Steps as go

pub same_trail : (whole rest : Trail) → whole ≡ rest → Continues whole rest
same_trail whole rest is = record { end = ap (λ (x : Trail). x.end) (sym is); visits = λ p has. subst (λ (x : Trail). Contains x.visits p) (sym is) has }

pub later : (p : Path) (whole rest : Trail) → whole ≡ from p rest → Continues whole rest
later p whole rest is = record {
  end = ap (λ (x : Trail). x.end) (sym is);
  visits = λ q has. subst (λ (x : Trail). Contains x.visits q) (sym is) (Contains-append_right (p ∷ []) rest.visits q has);
}

pub through : (a b c : Trail) → Continues a b → Continues b c → Continues a c
through a b c first then = record { end = then.end ∙ first.end; visits = λ p has. first.visits p (then.visits p has) }

module _ (t : Nodes) (s : Spot) (name : Name) where
  -- a name that is passed over
  pub idle : is_idle name ≡ true → IsSpot t s → IsPassed t s name (to.At s)
  idle h is = record { spot = is; goes = λ r stays links names. same_trail _ _ (go.idle r t stays links name names s.at h) }

  module _ (some : is_idle name ≡ false) where
    pub below_file : s.is_directory ≡ false → IsSpot t s → IsPassed t s name (to.Over halt.NotDirectory)
    below_file d is = record { ends_ = λ r stays links names. ap (λ (x : Trail). x.end) (go.below_file r t stays links name names s.at some (sym is.is_dir ∙ d)) }

    module _ (directory : s.is_directory ≡ true) where
      pub up : (next : Spot) → is_up name ≡ true → IsSpot t s → IsSpot t next → next.at ≡ parent s.at → IsPassed t s name (to.At next)
      up next u is there at-is = record {
        spot = there;
        goes = λ r stays links names. later s.at _ _ (go.up r t stays links name names s.at some (sym is.is_dir ∙ directory) u ∙ ap (λ (p : Path). from s.at (walk r t stays links names p)) (sym at-is));
      }

      module _ (down : is_up name ≡ false) where
        pub nothing : IsSpot t s → IsEntered t s name Nothing → IsPassed t s name (to.Over halt.NotFound)
        nothing is none = record { ends_ = λ r stays links names. ap (λ (x : Trail). x.end) (go.nothing r t stays links name names s.at some (sym is.is_dir ∙ directory) down none) }

        into : (r : List ℕ) (stays : Bool) (links : ℕ) (names : List Name) → IsSpot t s → (o : Option Node) → get t (s.at ++ name ∷ []) ≡ o → IsOpen o
            → walk r t stays links (name ∷ names) s.at ≡ from s.at (walk r t stays links names (s.at ++ name ∷ []))
        into r stays links names is None there opens = absurd opens
        into r stays links names is (Some (node.Dir attr)) there opens = go.directory r t stays links name names s.at attr some (sym is.is_dir ∙ directory) down there
        into r stays links names is (Some (node.File attr file)) there opens = go.file r t stays links name names s.at attr file some (sym is.is_dir ∙ directory) down there
        into r stays links names is (Some (node.Link attr target)) there opens = absurd opens

        pub stands : (next : Spot) → IsSpot t s → IsEntered t s name (Stands next) → IsPassed t s name (to.At next)
        stands next is e = record {
          spot = e.spot;
          goes = λ r stays links names. later s.at _ _ (into r stays links names is (get t (s.at ++ name ∷ [])) refl e.is_open ∙ ap (λ (p : Path). from s.at (walk r t stays links names p)) (sym e.at));
        }

        pub link : (same : Spot) (path : Path) (target : List ℕ) → IsSpot t s → IsEntered t s name (Link same path target) → IsPassed t s name (to.Link same path target)
        link same path target is e =
            let there : get t (s.at ++ name ∷ []) ≡ Some (node.Link e.2.0 target) = ap (get t) (sym e.1) ∙ e.2.1 in
            let here : StandsIn t (s.at ++ name ∷ []) false (levels_of s) = stands_at_link t s.at name s.is_directory (levels_of s) e.2.0 target is there in
            record {
              spot = subst (IsSpot t) (sym e.0) is;
              link = subst (λ (x : Spot). StandsIn t path false (levels_of x)) (sym e.0) (subst (λ (x : Path). StandsIn t x false (levels_of s)) (sym e.1) here);
              meets = λ r stays links names. go.meets r t stays links name names s.at e.2.0 target some (sym is.is_dir ∙ directory) down there ∙ (λ i. at_link r t stays links (ap (λ (x : Spot). x.at) (sym e.0) i) (sym e.1 i) target names);
            }
