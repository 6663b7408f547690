-- A walk follows a link.
use Rattle.std.proofs.Common.{◌≡◌, ◌≢◌, ℕ, suc, ◌-◌, ◌+◌, ◌≤◌, Bool, true, false, ◌&&◌, List, [], ◌∷◌, ◌++◌, length, cond, ◌==◌, nat_le, refl, sym, ap, subst, ◌∙◌, arith, length-append}
use Rattle.std.specs.declared.option.Option.{Option}
use Rattle.std.specs.declared.option.Option.TheVariants.{None, Some}
use Rattle.std.specs.declared.result.Result.{Result}
use Rattle.std.specs.declared.result.Result.TheVariants.{Ok, Err}
use Rattle.std.specs.Prelude.{IfOk}
use Rattle.std.specs.List.{list_all, onto_first}
use Rattle.std.specs.Str.{is_utf8}
use Rattle.std.proofs.lemmas.Bool.{and_parts}
use Rattle.std.proofs.lemmas.Bool.Decides.{nat_tests}
use Rattle.cv_base.specs.Path.{Path}
use Rattle.cv_base.specs.Target.{is_target, is_target_byte}
use Rattle.cv_base.specs.PathText.{parts_of}
use Rattle.cv_base.specs.declared.target.TheConstants.{TARGET_LIMIT}
use Rattle.cv_tree.specs.Tree.{Nodes}
use Rattle.cv_resolver.specs.Walk.{Name, Trail, arrives, from, is_last, lead_of, trail_along, walk}
use Rattle.cv_resolver.specs.Spot.{StandsIn, IsSpot, levels_of}
use Rattle.cv_resolver.specs.PassInner.{behind_link}
use Rattle.cv_resolver.specs.Step.{trail_from, steps_left}
use Rattle.cv_resolver.specs.StepInner.{link_trail, IsStep}
use Rattle.cv_resolver.specs.TargetInner.{HasNames}
use Rattle.cv_resolver.specs.declared.spot.Spot.{Spot}
use Rattle.cv_resolver.specs.declared.walk.Walk.{Walk}
use Rattle.cv_resolver.specs.declared.pass.Halt.TheVariants as halt
use Rattle.cv_resolver.specs.declared.step.Step.TheVariants as to
use Rattle.cv_resolver.specs.declared.target.Lead.{Lead}
use Rattle.cv_resolver.specs.declared.target.Lead.TheVariants.{Nowhere, Root, Here}
use Rattle.cv_resolver.proofs.Passing.{later}
use Rattle.cv_resolver.proofs.Steps as go

module _ (repository : List ℕ) (t : Nodes) (stays : Bool) (w : Walk) (path : Path) (target : List ℕ) where
  at_end : (names : List Name) (s : Bool) → (is_last names && s) ≡ true → names ≡ []
  at_end [] s h = refl
  at_end (n ∷ ns) s h = absurd cc

  pub stops : (next : Walk) → (is_last w.names.items && stays) ≡ true → StandsIn t path false (levels_of w.spot) → next.spot ≡ record w.spot { at = path; is_directory = false } → next.names.items ≡ w.names.items → next.links ≡ w.links
      → IsStep repository t stays (link_trail repository t stays w path target) (to.On next)
  stops next test there spot-is names-are links-are =
      let no_names : next.names.items ≡ [] = names-are ∙ at_end w.names.items stays test in
      let at-is : next.spot.at ≡ path = ap (λ (x : Spot). x.at) spot-is in
      let whole : link_trail repository t stays w path target ≡ from w.spot.at (arrives path) = rw test refl in
      let rest : trail_from repository t stays next ≡ arrives path = (λ i. walk repository t stays next.links (no_names i) (at-is i)) ∙ go.done repository t stays next.links path in
      (subst (IsSpot t) (sym spot-is) there, later w.spot.at _ _ (whole ∙ ap (from w.spot.at) (sym rest)))

  goes_on : (is_last w.names.items && stays) ≡ false → link_trail repository t stays w path target ≡ from w.spot.at (behind_link repository t stays w.links w.spot.at target w.names.items)
  goes_on test = rw test refl

  at_links : (k : ℕ) → w.links ≡ suc k → (o : Option (Path × List Name)) → lead_of repository w.spot.at (parts_of target) ≡ o
      → behind_link repository t stays w.links w.spot.at target w.names.items ≡ trail_along repository t stays (walk repository t stays k) w.spot.at w.names.items o
  at_links k links o leads =
      ap (λ (n : ℕ). behind_link repository t stays n w.spot.at target w.names.items) links ∙ ap (trail_along repository t stays (walk repository t stays k) w.spot.at w.names.items) leads

  pub too_many : (is_last w.names.items && stays) ≡ false → w.links ≡ 0 → IsStep repository t stays (link_trail repository t stays w path target) (to.Over halt.TooManyLinks)
  too_many test none = ap (λ (x : Trail). x.end) (goes_on test ∙ ap (λ (n : ℕ). from w.spot.at (behind_link repository t stays n w.spot.at target w.names.items)) none)

  one_less : (n : ℕ) → n ≢ 0 → n ≡ suc (n - 1)
  one_less n some = omega arith

  module _ (test : (is_last w.names.items && stays) ≡ false) (some : w.links ≢ 0) where
    pub nowhere : lead_of repository w.spot.at (parts_of target) ≡ None → IsStep repository t stays (link_trail repository t stays w path target) (to.Over halt.NotFound)
    nowhere leads = ap (λ (x : Trail). x.end) (goes_on test ∙ ap (from w.spot.at) (at_links (w.links - 1) (one_less w.links some) None leads))

    pub leads_on : (next : Walk) (names : List Name) → IsSpot t next.spot → lead_of repository w.spot.at (parts_of target) ≡ Some (next.spot.at, names) → next.names.items ≡ names ++ w.names.items → next.links ≡ w.links - 1
        → IsStep repository t stays (link_trail repository t stays w path target) (to.On next)
    leads_on next names spot leads names-are links-are =
        let rest : walk repository t stays (w.links - 1) (names ++ w.names.items) next.spot.at ≡ trail_from repository t stays next = λ i. walk repository t stays (sym links-are i) (sym names-are i) next.spot.at in
        (spot, later w.spot.at _ _ (goes_on test ∙ ap (from w.spot.at) (at_links (w.links - 1) (one_less w.links some) (Some (next.spot.at, names)) leads ∙ rest)))

-- ---- how many names a target has

-- at most one more than bytes
parts_size : (text : List ℕ) → length (parts_of text) ≤ length text + 1
parts_size [] = omega arith
parts_size (x ∷ xs) = by_slash (x == 47) (parts_of xs) (parts_size xs)
  where
    longer : (parts : List Name) → length parts ≤ length xs + 1 → length (onto_first x parts) ≤ length (x ∷ xs) + 1
    longer [] le = omega arith
    longer (part ∷ parts) le = omega arith

    by_slash : (b : Bool) (parts : List Name) → length parts ≤ length xs + 1 → length (cond b ([] ∷ parts) (onto_first x parts)) ≤ length (x ∷ xs) + 1
    by_slash true parts le = omega arith
    by_slash false parts le = longer parts le

within : (n : ℕ) → nat_le n TARGET_LIMIT ≡ true → n ≤ TARGET_LIMIT
within n h = grind (arith, nat_tests)

target_size : (text : List ℕ) → is_target text ≡ true → length text ≤ TARGET_LIMIT
target_size text is =
    let fits : nat_le (length text) TARGET_LIMIT ≡ true = (and_parts (is_utf8 text) (nat_le (length text) TARGET_LIMIT) ((and_parts (is_utf8 text && nat_le (length text) TARGET_LIMIT) (list_all is_target_byte text) is).0)).1 in
    within (length text) fits

pub few_names : {E : Type 0} (r : Result Lead E) (n : ℕ) (parts : List Name) (text target : List ℕ) → IfOk r (HasNames n) → n ≡ length parts → parts ≡ parts_of text → text ≡ target → is_target target ≡ true → IfOk r (HasNames (TARGET_LIMIT + 1))
few_names (Err e) n parts text target h count are same is = tt
few_names (Ok Nowhere) n parts text target h count are same is = tt
few_names (Ok (Root names)) n parts text target h count are same is = omega (arith, h, count, ap length are, parts_size text, ap length same, target_size target is)
few_names (Ok (Here names)) n parts text target h count are same is = omega (arith, h, count, ap length are, parts_size text, ap length same, target_size target is)

-- a followed link takes a step more than its names can be
pub fewer : (w next : Walk) (names : List Name) → length names ≤ TARGET_LIMIT + 1 → w.links ≢ 0 → next.names.items ≡ names ++ w.names.items → next.links ≡ w.links - 1 → steps_left next ≤ steps_left w
fewer w next names few some names-are links-are = omega (arith, ap length names-are, length-append names w.names.items)
