use Rattle.std.proofs.Common.{◌≡◌, ◌≢◌, ◌≤◌, Some, List, length, get_or, ℕ, refl, sym, subst, ◌∙◌, arith}
use Rattle.std.specs.Prelude.{slice_get}
use Rattle.std.proofs.lemmas.Option.{slice_get_read, slice_get_within, same_Some}
use Rattle.cv_base.specs.declared.object.Object.{Object}
use Rattle.cv_objects.proofs.batch.differs_at.Goals as goal

-- what was found at a place stands there
found_is : (batch : List Object) (place : ℕ) (found other : Object) → found ≡ get_or batch place found → slice_get batch place ≡ Some other → found ≡ other
found_is batch place found other is at = same_Some _ _ (sym (slice_get_read batch (length batch) place found refl (slice_get_within batch place other at) is) ∙ at)

past : (batch : List Object) (place : ℕ) (other : Object) → length batch ≤ place → slice_get batch place ≡ Some other → ⊥
past batch place other over at = let lt = slice_get_within batch place other at in omega (arith, lt, over)

pub returns-in-Some-clause-yes : goal.returns-in-Some-clause-yes
returns-in-Some-clause-yes c = λ other at h. subst (λ (o : Object). o.bytes ≢ c.args.object.now.bytes) (found_is c.args.batch.now c.args.place c.in-Some.other.now other c.in-Some.ensures.lookup.1 at) (c.differ.ensures.yes h)

pub returns-in-Some-clause-no : goal.returns-in-Some-clause-no
returns-in-Some-clause-no c = λ other at h. subst (λ (o : Object). o.bytes ≡ c.args.object.now.bytes) (found_is c.args.batch.now c.args.place c.in-Some.other.now other c.in-Some.ensures.lookup.1 at) (c.differ.ensures.no h)

pub returns-in-None-clause-no : goal.returns-in-None-clause-no
returns-in-None-clause-no c = λ other at h. absurd (past c.args.batch.now c.args.place other c.in-None.ensures.lookup.3 at)
