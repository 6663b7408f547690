-- A resolver in a tree.
use Rattle.std.proofs.Common.{◌≡◌, ℕ, List, Option, refl, sym, subst, ◌∙◌}
use Rattle.std.specs.Prelude.{option_to_list}
use Rattle.std.specs.declared.option.Option.TheVariants.{Some}
use Rattle.cv_tree.specs.Tree.{Nodes}
use Rattle.cv_resolver.specs.Kept.{Kept, AreOwn}
use Rattle.cv_resolver.specs.Stage.{IsStage}
use Rattle.cv_resolver.specs.Progress.{Begins}
use Rattle.cv_resolver.specs.Giving.{Takes}
use Rattle.cv_resolver.specs.Resolver.{Client, IsOn, IsAskedOn, Asks, Gives}
use Rattle.cv_resolver.specs.declared.question.Question.{Question}
use Rattle.cv_resolver.specs.declared.stage.Stage.{Stage}
use Rattle.cv_resolver.specs.declared.resolver.Asked.{Asked}
use Rattle.cv_resolver.proofs.Taking.{own_after}

abbrev pub at_stage : Client → Kept → Asked → Stage → Client
at_stage r k a s = record r { cache = k; asked = Some (record { question = a.question; stage = s }) }

-- a question that is asked, where a client is seen as this one
pub asks : (old inside : Client) (name : List ℕ) (q : Question) (k : Kept) (s : Stage) → inside ≡ old → name ≡ inside.name → Begins name inside.root q inside.cache k s
    → Asks old q (record inside { cache = k; asked = Some (record { question = q; stage = s }) })
asks old inside name q k s same name_is begins =
    subst (λ (r : Client). Asks r q (record inside { cache = k; asked = Some (record { question = q; stage = s }) })) same
    (record { stage = s; is = refl; begins = subst (λ (n : List ℕ). Begins n inside.root q inside.cache k s) name_is begins })

module _ (old : Client) (b : Asked) (given view : Option (List ℕ)) (k : Kept) (s : Stage) (was : old.asked ≡ Some b) (same : view ≡ given) (name : List ℕ) (name_is : name ≡ old.name) (takes : Takes name b.question old.cache b.stage view k s) where
  taken : Takes old.name b.question old.cache b.stage given k s
  taken = subst (λ (g : Option (List ℕ)). Takes old.name b.question old.cache b.stage g k s) same (subst (λ (n : List ℕ). Takes n b.question old.cache b.stage view k s) name_is takes)

  -- the question comes on by what is given
  pub gives : (a : Asked) → old.asked ≡ Some a → Gives old a given (at_stage old k b s)
  gives a is =
      let both : Some b ≡ Some a = sym was ∙ is in
      let one : b ≡ a = cc in
      subst (λ (x : Asked). Gives old x given (at_stage old k b s)) one (record { stage = s; is = refl; takes = taken })

  -- and stays on its way in the tree
  pub stays_on : (t : Nodes) → (on : IsOn t old) → (AreOwn t (option_to_list view) → IsStage name t b.question b.stage → IsStage name t b.question s) → AreOwn t (option_to_list given) → IsOn t (at_stage old k b s)
  stays_on t on goes new =
      let there : IsStage old.name t b.question b.stage = subst (IsAskedOn old.name t) was on.asked in
      let here : IsStage name t b.question b.stage = subst (λ (n : List ℕ). IsStage n t b.question b.stage) (sym name_is) there in
      record {
        tree = on.tree;
        fits = on.fits;
        root = on.root;
        own = own_after t old.name b.question old.cache k b.stage s given taken on.own new;
        asked = subst (λ (n : List ℕ). IsStage n t b.question s) name_is (goes (subst (λ (g : Option (List ℕ)). AreOwn t (option_to_list g)) (sym same) new) here);
      }

pub gives_seen : (seen inside new : Client) (given : Option (List ℕ)) → inside ≡ seen → ((a : Asked) → inside.asked ≡ Some a → Gives inside a given new) → (a : Asked) → seen.asked ≡ Some a → Gives seen a given new
gives_seen seen inside new given same h = subst (λ (r : Client). (a : Asked) → r.asked ≡ Some a → Gives r a given new) same h
