-- Answers are objects without floats that nest no deeper than three.
use Rattle.std.proofs.Common.{◌≡◌, ℕ, ◌≤◌, List, [], ◌∷◌, true, false, is_some, map, refl, arith}
use Rattle.serde_json.specs.Data.{string, depth, items_depth}
use Rattle.serde_json.specs.Find.{as_object}
use Rattle.serde_json.specs.Read.{max_depth}
use Rattle.serde_json.specs.View.{items_of}
use Rattle.serde_json.specs.Written.{has_float, items_have_float}
use Rattle.cv_answers.specs.Answer.{lease_item_data, answer_data}
use Rattle.cv_answers.specs.Refusal.{refusal_data}
use Rattle.cv_answers.specs.declared.lease_item.LeaseItem.{LeaseItem}
use Rattle.cv_answers.specs.declared.answer.Answer.{Answer}
use Rattle.cv_answers.specs.declared.answer.Answer.TheVariants.{Granted, Done, Committed, Leases, Repos, PathBusy, Refused}
use Rattle.cv_answers.specs.declared.refusal.Refusal.{Refusal}
use Rattle.cv_answers.specs.declared.refusal.Refusal.TheVariants.{Plain, MissingMember, WrongType, BadValue, Collision, StaleBase, MissingObject, BadCatalogue, PathCollision, CatalogueFull, TagTaken, Damaged}

pub is_object : (answer : Answer) → is_some (as_object (answer_data answer)) ≡ true
is_object (Granted token revision root) = refl
is_object Done = refl
is_object (Committed revision root) = refl
is_object (Leases items) = refl
is_object (Repos names) = refl
is_object (PathBusy token remaining) = refl
is_object (Refused refusal) = refl

items_no_float : (items : List LeaseItem) → items_have_float (items_of (map lease_item_data items)) ≡ false
items_no_float [] = refl
items_no_float (item ∷ items) = items_no_float items

names_no_float : (names : List (List ℕ)) → items_have_float (items_of (map string names)) ≡ false
names_no_float [] = refl
names_no_float (name ∷ names) = names_no_float names

refusal_no_float : (refusal : Refusal) → has_float (refusal_data refusal) ≡ false
refusal_no_float (Plain why) = refl
refusal_no_float (MissingMember name) = refl
refusal_no_float (WrongType name) = refl
refusal_no_float (BadValue name) = refl
refusal_no_float (Collision id) = refl
refusal_no_float (StaleBase revision) = refl
refusal_no_float (MissingObject id) = refl
refusal_no_float (BadCatalogue id) = refl
refusal_no_float (PathCollision path second) = refl
refusal_no_float (CatalogueFull path) = refl
refusal_no_float (TagTaken revision) = refl
refusal_no_float (Damaged id found) = refl

pub no_float : (answer : Answer) → has_float (answer_data answer) ≡ false
no_float (Granted token revision root) = refl
no_float Done = refl
no_float (Committed revision root) = refl
no_float (Leases items) = rw (items_no_float items) refl
no_float (Repos names) = rw (names_no_float names) refl
no_float (PathBusy token remaining) = refl
no_float (Refused refusal) = refusal_no_float refusal

items_shallow : (items : List LeaseItem) → items_depth (items_of (map lease_item_data items)) ≤ 1
items_shallow [] = omega arith
items_shallow (item ∷ items) = omega (arith, items_shallow items)

names_shallow : (names : List (List ℕ)) → items_depth (items_of (map string names)) ≤ 1
names_shallow [] = omega arith
names_shallow (name ∷ names) = omega (arith, names_shallow names)

refusal_shallow : (refusal : Refusal) → depth (refusal_data refusal) ≤ max_depth
refusal_shallow (Plain why) = omega arith
refusal_shallow (MissingMember name) = omega arith
refusal_shallow (WrongType name) = omega arith
refusal_shallow (BadValue name) = omega arith
refusal_shallow (Collision id) = omega arith
refusal_shallow (StaleBase revision) = omega arith
refusal_shallow (MissingObject id) = omega arith
refusal_shallow (BadCatalogue id) = omega arith
refusal_shallow (PathCollision path second) = omega arith
refusal_shallow (CatalogueFull path) = omega arith
refusal_shallow (TagTaken revision) = omega arith
refusal_shallow (Damaged id found) = omega arith

pub shallow : (answer : Answer) → depth (answer_data answer) ≤ max_depth
shallow (Granted token revision root) = omega arith
shallow Done = omega arith
shallow (Committed revision root) = omega arith
shallow (Leases items) = omega (arith, items_shallow items)
shallow (Repos names) = omega (arith, names_shallow names)
shallow (PathBusy token remaining) = omega arith
shallow (Refused refusal) = refusal_shallow refusal
