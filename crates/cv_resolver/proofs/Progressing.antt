-- How the walk of a question goes on by the catalogues that are kept.
use Rattle.std.proofs.Common.{◌≡◌, ◌≤◌, ◌<◌, ◌+◌, ◌*◌, ℕ, List, Option, sym, ap, subst, arith, bytes_eq, length}
use Rattle.std.specs.declared.option.Option.TheVariants.{Some}
use Rattle.std.specs.declared.result.Result.{Result}
use Rattle.std.proofs.lemmas.Cmp.{nat_list_eq_equiv}
use Rattle.lru.proofs.CallerLemmas.{lookup-put_entries}
use Rattle.cv_base.specs.declared.id.ObjectId.{ObjectId}
use Rattle.cv_base.specs.declared.target.TheConstants.{TARGET_LIMIT}
use Rattle.cv_tree.specs.Tree.{Nodes}
use Rattle.cv_rows.specs.Catalogue.{Contents}
use Rattle.cv_cut.specs.Reached.{Decodes}
use Rattle.cv_resolver.specs.Asking.{path_of_question}
use Rattle.cv_resolver.specs.Spot.{place_of}
use Rattle.cv_resolver.specs.Kept.{Kept, Holds, with_catalogue, AreOwn, kept_bytes}
use Rattle.cv_resolver.specs.Stage.{IsBlameless, wanted_by}
use Rattle.cv_resolver.specs.Step.{steps_left}
use Rattle.cv_resolver.specs.Progress.{StepsTo, IsOver, Leads, waits, halts, goes_further, Begins, starts, no_memory, IsUncached, wants_left}
use Rattle.cv_resolver.specs.Giving.{TakesCatalogue, opened, bad, no_memory as without_memory, Takes, nothing, other, content, catalogue}
use Rattle.cv_resolver.specs.declared.spot.Level.{Level}
use Rattle.cv_resolver.specs.declared.walk.Walk.{Walk}
use Rattle.cv_resolver.specs.declared.question.Question.{Question}
use Rattle.cv_resolver.specs.declared.found.Found.{Found}
use Rattle.cv_resolver.specs.declared.found.ClientFault.{ClientFault}
use Rattle.cv_resolver.specs.declared.stage.Stage.{Stage}
use Rattle.cv_resolver.specs.declared.stage.Stage.TheVariants.{Walks, Reads, Ends}
use Rattle.cv_resolver.specs.declared.start.TheConstants.{LINKS}
use Rattle.cv_resolver.proofs.Keeping.{own_used}

-- a catalogue that is put in is there
pub holds_put : (k : Kept) (l : Level) (bytes : List ℕ) (c : Contents) → Decodes (place_of l) bytes c → Holds (with_catalogue k l.hash c) l
holds_put k l bytes c decodes = record {
  found = c;
  there = lookup-put_entries bytes_eq k l.hash c nat_list_eq_equiv;
  place = record { at = decodes.at; row = decodes.row };
}

-- ---- nobody is blamed

over_blameless : (c : Contents) (w : Walk) (s : Stage) → IsOver s → StepsTo c w s → IsBlameless s
over_blameless c w (Walks next) over steps = absurd over
over_blameless c w (Reads hash) over steps = tt
over_blameless c w (Ends answer) over steps = steps

pub blameless : {repository : List ℕ} {q : Question} {k : Kept} {w : Walk} {after : Kept} {s : Stage} → Leads repository q k w after s → IsBlameless s
blameless (waits none same is) = subst IsBlameless (sym is) tt
blameless {repository} {q} {k} {w} {after} {s} (halts by over same) = over_blameless by.holds.found w s over by.steps
blameless (goes_further next by rest) = blameless rest

-- ---- what is kept isn't wanted

over_uncached : (k : Kept) (s : Stage) → IsOver s → IsUncached k s
over_uncached k (Walks next) over = absurd over
over_uncached k (Reads hash) over = tt
over_uncached k (Ends answer) over = tt

pub uncached : {repository : List ℕ} {q : Question} {k : Kept} {w : Walk} {after : Kept} {s : Stage} → Leads repository q k w after s → IsUncached after s
uncached {repository} {q} {k} {w} {after} {s} (waits none same is) = subst (λ (x : Kept). IsUncached x s) (sym same) (subst (IsUncached k) (sym is) none)
uncached {repository} {q} {k} {w} {after} {s} (halts by over same) = over_uncached after s over
uncached (goes_further next by rest) = uncached rest

-- ---- how much is wanted

over_wants : (n : ℕ) (s : Stage) → IsOver s → wants_left s < n + 2
over_wants n (Walks next) over = absurd over
over_wants n (Reads hash) over = omega arith
over_wants n (Ends answer) over = omega arith

pub wants_at_most : {repository : List ℕ} {q : Question} {k : Kept} {w : Walk} {after : Kept} {s : Stage} → Leads repository q k w after s → wants_left s ≤ steps_left w + 2
wants_at_most {repository} {q} {k} {w} {after} {s} (waits none same is) = omega (arith, ap wants_left is)
wants_at_most {repository} {q} {k} {w} {after} {s} (halts by over same) = omega (arith, over_wants (steps_left w) s over)
wants_at_most {repository} {q} {k} {w} {after} {s} (goes_further next by rest) = omega (arith, wants_at_most rest, by.steps.0)

-- by a catalogue that is kept, a step is made
pub wants_fewer : {repository : List ℕ} {q : Question} {k : Kept} {w : Walk} {after : Kept} {s : Stage} → Holds k w.spot.level → Leads repository q k w after s → wants_left s < steps_left w + 2
wants_fewer holds (waits none same is) = absurd (none holds)
wants_fewer {repository} {q} {k} {w} {after} {s} holds (halts by over same) = over_wants (steps_left w) s over
wants_fewer {repository} {q} {k} {w} {after} {s} holds (goes_further next by rest) = omega (arith, wants_at_most rest, by.steps.0)

-- ---- in a tree, no digest is shared that wasn't before

pub own_going : (t : Nodes) {repository : List ℕ} {q : Question} {k : Kept} {w : Walk} {after : Kept} {s : Stage} → Leads repository q k w after s → AreOwn t (kept_bytes k) → AreOwn t (kept_bytes after)
own_going t (waits none same is) own = subst (λ (x : Kept). AreOwn t (kept_bytes x)) (sym same) own
own_going t {repository} {q} {k} {w} (halts by over same) own = subst (λ (x : Kept). AreOwn t (kept_bytes x)) (sym same) (own_used t k w.spot.level.hash own)
own_going t {repository} {q} {k} {w} (goes_further next by rest) own = own_going t rest (own_used t k w.spot.level.hash own)

pub own_begun : (t : Nodes) (repository root : List ℕ) (q : Question) (k after : Kept) (s : Stage) → Begins repository root q k after s → AreOwn t (kept_bytes k) → AreOwn t (kept_bytes after)
own_begun t repository root q k after s (starts w is goes) own = own_going t goes own
own_begun t repository root q k after s (no_memory same is) own = subst (λ (x : Kept). AreOwn t (kept_bytes x)) (sym same) own

-- ---- a question that is asked

pub begun_blameless : (repository root : List ℕ) (q : Question) (k after : Kept) (s : Stage) → Begins repository root q k after s → IsBlameless s
begun_blameless repository root q k after s (starts w is goes) = blameless goes
begun_blameless repository root q k after s (no_memory same is) = subst IsBlameless (sym is) (λ peer. peer)

pub begun_uncached : (repository root : List ℕ) (q : Question) (k after : Kept) (s : Stage) → Begins repository root q k after s → IsUncached after s
begun_uncached repository root q k after s (starts w is goes) = uncached goes
begun_uncached repository root q k after s (no_memory same is) = subst (IsUncached after) (sym is) tt

pub begun_wants : (repository root : List ℕ) (q : Question) (k after : Kept) (s : Stage) → Begins repository root q k after s → wants_left s ≤ (TARGET_LIMIT + 2) * LINKS + length (path_of_question q) + 2
begun_wants repository root q k after s (starts w is goes) = omega (arith, wants_at_most goes, is.links, ap length is.names)
begun_wants repository root q k after s (no_memory same is) = omega (arith, ap wants_left is)

-- ---- what is given for it

taken_uncached : (repository : List ℕ) (q : Question) (k : Kept) (w : Walk) (bytes : List ℕ) (after : Kept) (s : Stage) → TakesCatalogue repository q k w bytes after s → IsUncached after s
taken_uncached repository q k w bytes after s (opened c decodes goes) = uncached goes
taken_uncached repository q k w bytes after s (bad none same is) = subst (IsUncached after) (sym is) tt
taken_uncached repository q k w bytes after s (without_memory same is) = subst (IsUncached after) (sym is) tt

pub given_uncached : (repository : List ℕ) (q : Question) (k after : Kept) (was s : Stage) (given : Option (List ℕ)) → Takes repository q k was given after s → IsUncached after s
given_uncached repository q k after was s given (nothing id wanted none same is) = subst (IsUncached after) (sym is) tt
given_uncached repository q k after was s given (other id bytes wanted is differs same ends) = subst (IsUncached after) (sym ends) tt
given_uncached repository q k after was s given (content hash bytes reads is digest same ends) = subst (IsUncached after) (sym ends) tt
given_uncached repository q k after was s given (catalogue w bytes walks is digest takes) = taken_uncached repository q k w bytes after s takes

-- something is wanted as long as the question isn't answered
wanted_some : (s : Stage) (id : ObjectId) → wanted_by s ≡ Some id → 0 < wants_left s
wanted_some (Walks w) id is = omega arith
wanted_some (Reads hash) id is = omega arith
wanted_some (Ends answer) id is = cc

ended_wants : (s : Stage) (answer : Result Found ClientFault) → s ≡ Ends answer → wants_left s ≡ 0
ended_wants s answer is = ap wants_left is

taken_wants : (repository : List ℕ) (q : Question) (k : Kept) (w : Walk) (bytes : List ℕ) (after : Kept) (s : Stage) → TakesCatalogue repository q k w bytes after s → wants_left s < steps_left w + 2
taken_wants repository q k w bytes after s (opened c decodes goes) = wants_fewer (holds_put k w.spot.level bytes c decodes) goes
taken_wants repository q k w bytes after s (bad none same is) = omega (arith, ended_wants s _ is)
taken_wants repository q k w bytes after s (without_memory same is) = omega (arith, ended_wants s _ is)

pub given_wants : (repository : List ℕ) (q : Question) (k after : Kept) (was s : Stage) (given : Option (List ℕ)) → Takes repository q k was given after s → wants_left s < wants_left was
given_wants repository q k after was s given (nothing id wanted none same is) = omega (arith, ended_wants s _ is, wanted_some was id wanted)
given_wants repository q k after was s given (other id bytes wanted is differs same ends) = omega (arith, ended_wants s _ ends, wanted_some was id wanted)
given_wants repository q k after was s given (content hash bytes reads is digest same ends) = omega (arith, ended_wants s _ ends, ap wants_left reads)
given_wants repository q k after was s given (catalogue w bytes walks is digest takes) = omega (arith, taken_wants repository q k w bytes after s takes, ap wants_left walks)
