-- What is given for a wanted object.
use Rattle.std.proofs.Common.{◌≡◌, ◌≢◌, ℕ, Bool, true, false, not, bytes_eq, List, [], ◌∷◌, Option, refl, sym, ap, subst, ◌∙◌}
use Rattle.std.specs.Prelude.{IsSomeAnd, MatchOption, option_to_list}
use Rattle.std.specs.declared.option.Option.TheVariants.{None, Some}
use Rattle.std.specs.declared.result.Result.TheVariants.{Ok, Err}
use Rattle.std.proofs.lemmas.Bool.{not-false}
use Rattle.std.proofs.lemmas.Slice.Eq.{bytes_eq-Decides}
use Rattle.sha1.specs.Sha1.{sha1}
use Rattle.cv_base.specs.ObjectId.{object_id}
use Rattle.cv_base.specs.declared.id.ObjectId.{ObjectId}
use Rattle.cv_base.specs.declared.id.Kind.TheVariants as id_kind
use Rattle.cv_tree.specs.Tree.{Nodes}
use Rattle.cv_rows.specs.Catalogue.{Contents}
use Rattle.cv_cut.specs.Reached.{Decodes}
use Rattle.cv_resolver.specs.Spot.{place_of}
use Rattle.cv_resolver.specs.Kept.{Kept, AreOwn, kept_bytes, with_catalogue}
use Rattle.cv_resolver.specs.Progress.{Leads}
use Rattle.cv_resolver.specs.Giving.{TakesCatalogue, opened, bad, no_memory, Takes, nothing, other, content, catalogue}
use Rattle.cv_resolver.specs.Stage.{wanted_by}
use Rattle.cv_resolver.specs.declared.spot.Level.{Level}
use Rattle.cv_resolver.specs.declared.question.Question.{Question}
use Rattle.cv_resolver.specs.declared.walk.Walk.{Walk}
use Rattle.cv_resolver.specs.declared.found.Found.TheVariants.{Bytes}
use Rattle.cv_resolver.specs.declared.found.ClientFault.TheVariants.{BadObject}
use Rattle.cv_resolver.specs.declared.stage.Stage.{Stage}
use Rattle.cv_resolver.specs.declared.stage.Stage.TheVariants.{Walks, Reads, Ends}
use Rattle.cv_resolver.proofs.Keeping.{own_put}
use Rattle.cv_resolver.proofs.Progressing.{own_going}

-- what was opened decodes
pub decoded : (l : Level) (bytes : List ℕ) (found : Option Contents) (c : Contents) → found ≡ Some c → MatchOption found ((d : Contents) → Decodes (place_of l) bytes d → ⊥) (Decodes (place_of l) bytes) → Decodes (place_of l) bytes c
decoded l bytes found c is h = subst (λ (x : Option Contents). MatchOption x ((d : Contents) → Decodes (place_of l) bytes d → ⊥) (Decodes (place_of l) bytes)) is h

pub not_none : (P : Contents → Type 0) (o : Option Contents) → o ≡ None → IsSomeAnd o P → ⊥
not_none P o is h = subst (λ (x : Option Contents). IsSomeAnd x P) is h

-- a catalogue that was opened is kept
pub takes_opened : (repository : List ℕ) (q : Question) (k put after : Kept) (w : Walk) (bytes : List ℕ) (c : Contents) (s : Stage) → Decodes (place_of w.spot.level) bytes c → put ≡ with_catalogue k w.spot.level.hash c → Leads repository q put w after s → TakesCatalogue repository q k w bytes after s
takes_opened repository q k put after w bytes c s decodes is goes = opened c decodes (subst (λ (x : Kept). Leads repository q x w after s) is goes)

abbrev ended : ObjectId → List ℕ → Stage
ended id found = Ends (Err (BadObject id found))

-- what was wanted has the digest of the id
pub walk_hash : (w : Walk) (was : Stage) (id : ObjectId) → was ≡ Walks w → wanted_by was ≡ Some id → w.spot.level.hash ≡ id.hash
walk_hash w was id is wants = let e : Some (object_id w.spot.level.hash id_kind.Catalogue) ≡ Some id = ap wanted_by (sym is) ∙ wants in cc

pub file_hash : (hash : List ℕ) (was : Stage) (id : ObjectId) → was ≡ Reads hash → wanted_by was ≡ Some id → hash ≡ id.hash
file_hash hash was id is wants = let e : Some (object_id hash id_kind.Plain) ≡ Some id = ap wanted_by (sym is) ∙ wants in cc

-- ---- digests

differ : (a b : List ℕ) (r : Bool) → r ≡ not (bytes_eq a b) → r ≡ true → a ≢ b
differ a b r is differs same =
    let e : bytes_eq a b ≡ true = (bytes_eq-Decides a b).1 same in
    let wrong : true ≡ not true = sym differs ∙ is ∙ ap not e in
    cc

pub agree : (a b : List ℕ) (r : Bool) → r ≡ not (bytes_eq a b) → r ≡ false → a ≡ b
agree a b r is same = (bytes_eq-Decides a b).0 (not-false (bytes_eq a b) (sym is ∙ same))

pub takes_other : (repository : List ℕ) (q : Question) (k : Kept) (was : Stage) (given : Option (List ℕ)) (id : ObjectId) (bytes found : List ℕ) (r : Bool) → wanted_by was ≡ Some id → given ≡ Some bytes → found ≡ sha1 bytes → r ≡ not (bytes_eq found id.hash) → r ≡ true
    → Takes repository q k was given k (Ends (Err (BadObject id found)))
takes_other repository q k was given id bytes found r wants is digest test differs =
    other id bytes wants is (λ same. differ found id.hash r test differs (digest ∙ same)) refl (ap (λ (d : List ℕ). ended id d) digest)

pub takes_walk : (repository : List ℕ) (q : Question) (k after : Kept) (was s : Stage) (given : Option (List ℕ)) (id : ObjectId) (bytes view found : List ℕ) (w : Walk) → wanted_by was ≡ Some id → given ≡ Some bytes → found ≡ sha1 bytes → found ≡ id.hash → was ≡ Walks w → view ≡ bytes
    → TakesCatalogue repository q k w view after s → Takes repository q k was given after s
takes_walk repository q k after was s given id bytes view found w wants is digest same walks bytes_are takes =
    catalogue w bytes walks is (sym digest ∙ same ∙ sym (walk_hash w was id walks wants)) (subst (λ (b : List ℕ). TakesCatalogue repository q k w b after s) bytes_are takes)

pub takes_file : (repository : List ℕ) (q : Question) (k : Kept) (was : Stage) (given : Option (List ℕ)) (id : ObjectId) (bytes found hash : List ℕ) → wanted_by was ≡ Some id → given ≡ Some bytes → found ≡ sha1 bytes → found ≡ id.hash → was ≡ Reads hash
    → Takes repository q k was given k (Ends (Ok (Bytes bytes)))
takes_file repository q k was given id bytes found hash wants is digest same reads = content hash bytes reads is (sym digest ∙ same ∙ sym (file_hash hash was id reads wants)) refl refl

-- ---- in a tree, what is kept afterwards shares no digest

own_catalogue : (t : Nodes) (repository : List ℕ) (q : Question) (k after : Kept) (w : Walk) (bytes : List ℕ) (s : Stage) → TakesCatalogue repository q k w bytes after s → AreOwn t (kept_bytes k) → AreOwn t (bytes ∷ []) → AreOwn t (kept_bytes after)
own_catalogue t repository q k after w bytes s (opened c decodes goes) own new = own_going t goes (own_put t k w.spot.level.hash bytes c decodes.spelled own new)
own_catalogue t repository q k after w bytes s (bad none same is) own new = subst (λ (x : Kept). AreOwn t (kept_bytes x)) (sym same) own
own_catalogue t repository q k after w bytes s (no_memory same is) own new = subst (λ (x : Kept). AreOwn t (kept_bytes x)) (sym same) own

pub own_after : (t : Nodes) (repository : List ℕ) (q : Question) (k after : Kept) (was s : Stage) (given : Option (List ℕ)) → Takes repository q k was given after s → AreOwn t (kept_bytes k) → AreOwn t (option_to_list given) → AreOwn t (kept_bytes after)
own_after t repository q k after was s given (nothing id wants is same ends) own new = subst (λ (x : Kept). AreOwn t (kept_bytes x)) (sym same) own
own_after t repository q k after was s given (other id bytes wants is differs same ends) own new = subst (λ (x : Kept). AreOwn t (kept_bytes x)) (sym same) own
own_after t repository q k after was s given (content hash bytes reads is digest same ends) own new = subst (λ (x : Kept). AreOwn t (kept_bytes x)) (sym same) own
own_after t repository q k after was s given (catalogue w bytes walks is digest takes) own new =
    own_catalogue t repository q k after w bytes s takes own (subst (λ (x : Option (List ℕ)). AreOwn t (option_to_list x)) is new)
