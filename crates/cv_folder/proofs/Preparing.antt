-- Folders that are made on the way of a path.
use Rattle.std.proofs.Common.{◌≡◌, ◌∙◌, ◌<◌, ◌≤◌, ◌++◌, ◌∷◌, [], suc, List, ℕ, length, take, drop, get_or, None, Some, Ok, Err, refl, sym, ap, subst, inl, inr, arith, take-append-drop, drop-cons, length-take}
use Rattle.std.specs.Prelude.{◌⊎◌, ◌==◌, Bool, IsTrue, if◌then◌else◌, OnErr, OnOk, Result, slice_index}
use Rattle.std.specs.declared.io.Error.{Error}
use Rattle.cv_system.specs.Looks.{Looks, folders_at, folders_behind, folders_past}
use Rattle.cv_system.specs.Calls.{Cause, cause_of, Done, Log, Looked, Made, Outcome, and_call, outcome}
use Rattle.cv_system.specs.declared.seen.Seen.{Seen}
use Rattle.cv_system.specs.declared.seen.Kind.TheVariants.{Folder}
use Rattle.cv_system.specs.Names.{folder_of}
use Rattle.cv_system.specs.Steps.{IsLook, Makes, Still, Then}
use Rattle.cv_folder.specs.FolderVaultInner.{MakesNot}
use Rattle.cv_folder.specs.Writes.{FailsToLead, IsAbove, IsOnWay, Leads, LeadsOn, MakesMissing, Prepares, StopsOn}
use Rattle.cv_system.proofs.Laws.{no_step, rest_is, steps_then, steps_wider, two_calls}

-- what is before a slash of a path is on its way
pub on_way : (path folder : List ℕ) (end : ℕ) → end < length path → folder ≡ take end path → get_or path end 0 ≡ 47 → IsOnWay end path folder
on_way path folder end within is slash = (
  drop (suc end) path,
  sym (take-append-drop end path)
      ∙ ap (λ (rest : List ℕ). take end path ++ rest) (drop-cons path end 0 within)
      ∙ ap (λ (b : ℕ). take end path ++ b ∷ drop (suc end) path) slash
      ∙ ap (λ (front : List ℕ). front ++ 47 ∷ drop (suc end) path) (sym is),
  omega (arith, ap length is, length-take end path),
)

-- where nothing is a folder is made, or nothing more is called
pub makes_missing : (Noted : Type 0) (folder : List ℕ) (before between after : Log) → Looks folder (Ok None) before between
    → (after ≡ between) ⊎ (Noted × (made : Outcome) × (after ≡ and_call (Made folder made) between)) → Makes IsLook before after ⊎ (Noted × MakesMissing folder before after)
makes_missing Noted folder before between after (cause, nothing, is) (inl same) = inl (Then Still (Looked folder (Err cause), tt, same ∙ is))
makes_missing Noted folder before between after (cause, nothing, is) (inr (noted, made, next)) = inr (noted, (cause, made, nothing, two_calls _ _ _ _ _ is next))

-- such a folder is looked at, and made if it is missing
pub prepares_one : (path folder : List ℕ) (end : ℕ) (noted : List ℕ → Bool) (before after : Log) → end < length path → folder ≡ take end path → get_or path end 0 ≡ 47
    → Makes IsLook before after ⊎ (IsTrue (noted (folder_of folder)) × MakesMissing folder before after) → Prepares end path noted before after
unfolding Prepares
prepares_one path folder end noted before after within is slash (inl looks) = Then Still (inl looks)
prepares_one path folder end noted before after within is slash (inr (above, makes)) = Then Still (inr (folder, on_way path folder end within is slash, above, makes))

-- nothing is made
pub prepares_none : (path : List ℕ) (from : ℕ) (noted : List ℕ → Bool) (before after : Log) → after ≡ before → Prepares from path noted before after
unfolding Prepares
prepares_none path from noted before after same = no_step same

module _ (path : List ℕ) (from end : ℕ) (noted more : List ℕ → Bool) (behind : from ≤ end) (kept : (folder : List ℕ) → IsTrue (noted folder) → IsTrue (more folder)) where
  widen_way : (one other : Log)
      → Makes IsLook one other ⊎ ((folder : List ℕ) × IsOnWay end path folder × IsTrue (noted (folder_of folder)) × MakesMissing folder one other)
      → Makes IsLook one other ⊎ ((folder : List ℕ) × IsOnWay from path folder × IsTrue (more (folder_of folder)) × MakesMissing folder one other)
  widen_way one other (inl looks) = inl looks
  widen_way one other (inr (folder, (rest, is, size), above, makes)) = inr (folder, (rest, is, omega arith), kept (folder_of folder) above, makes)

  -- what is further on, and where more is noted by then
  pub prepares_wider : (before after : Log) → Prepares end path noted before after → Prepares from path more before after
  unfolding Prepares
  prepares_wider before after prepares = steps_wider widen_way prepares

-- a folder above what is further on is above the path
pub above_wider : (path : List ℕ) (from end : ℕ) → from ≤ end → (folder : List ℕ) → IsAbove end path folder → IsAbove from path folder
above_wider path from end behind folder (inl at) = inl at
above_wider path from end behind folder (inr (other, (rest, is, size), at)) = inr (other, (rest, is, omega arith), at)

-- a folder above what stands at a place is above what stands at the same
pub above_at : (from size : ℕ) (path at folder : List ℕ) → from ≡ size → path ≡ at → IsAbove from path folder → IsAbove size at folder
above_at from size path at folder same is above = subst (λ (p : List ℕ). IsAbove size p folder) is (subst (λ (n : ℕ). IsAbove n path folder) same above)

-- folders further on, where more is noted by then
pub prepares_on : (path : List ℕ) (from end : ℕ) (noted more : List ℕ → Bool) (before between after : Log) → from ≤ end → ((folder : List ℕ) → IsTrue (noted folder) → IsTrue (more folder))
    → Prepares from path noted before between → Prepares end path more between after → Prepares from path more before after
unfolding Prepares
prepares_on path from end noted more before between after behind kept first further =
    steps_then (prepares_wider path from from noted more (omega arith) kept before between first) (prepares_wider path from end more more behind (λ folder is. is) between after further)

-- ---- where a way leads

-- what was seen is a folder
pub leads_seen : (folder : List ℕ) (seen : Seen) (before after : Log) → Looks folder (Ok (Some seen)) before after → seen.kind ≡ Folder → LeadsOn folder before after
leads_seen folder seen before after is cause = inl (seen, cause, is)

-- nothing was, and a folder was made
pub leads_made : (folder : List ℕ) (before between after : Log) → Looks folder (Ok None) before between → after ≡ and_call (Made folder Done) between → LeadsOn folder before after
leads_made folder before between after (cause, nothing, is) made = inr (cause, nothing, two_calls _ _ _ _ _ is made)

-- so it is where it was made
pub leads_if_made : {A E : Type 0} (folder : List ℕ) (before between after : Log) (made : Result A E) → Looks folder (Ok None) before between
    → OnOk made (after ≡ and_call (Made folder Done) between) → OnOk made (LeadsOn folder before after)
leads_if_made folder before between after (Ok x) looks made = leads_made folder before between after looks made
leads_if_made folder before between after (Err error) looks made = tt

-- at one place of a path
pub leads_at : {A E : Type 0} (path folder : List ℕ) (end : ℕ) (before after : Log) (made : Result A E) → slice_index path end ≡ 47 → folder ≡ take end path
    → OnOk made (LeadsOn folder before after) → OnOk made (Leads (folders_at path end) before after)
leads_at path folder end before after (Ok x) slash is on =
    subst (λ (b : ℕ). Leads (if b == 47 then take end path ∷ [] else []) before after) (sym slash)
    (subst (λ (f : List ℕ). Leads (f ∷ []) before after) is (after, on, refl))
leads_at path folder end before after (Err error) slash is on = tt

-- some folders, and then others
pub leads_then : (folders others : List (List ℕ)) (before between after : Log) → Leads folders before between → Leads others between after → Leads (folders ++ others) before after
leads_then [] others before between after same more = subst (λ (log : Log). Leads others log after) same more
leads_then (folder ∷ folders) others before between after (next, on, rest) more = (next, on, leads_then folders others next between after rest more)

-- ---- where a way stops

-- a folder couldn't be made
pub not_made : {A : Type 0} (folder : List ℕ) (result : Result A Error) (before after : Log) → after ≡ and_call (Made folder (outcome result)) before → OnErr result (MakesNot folder before after)
not_made folder (Ok x) before after is = tt
not_made folder (Err error) before after is = inr (cause_of error, is)

-- the look at it failed
pub stops_at_error : (folder : List ℕ) (cause : Cause) (before after : Log) → after ≡ and_call (Looked folder (Err cause)) before → StopsOn folder before after
stops_at_error folder cause before after is = inl (Err cause, tt, is)

-- nothing was there, and it wasn't made
pub stops_unmade : {A E : Type 0} (folder : List ℕ) (before between after : Log) (made : Result A E) → Looks folder (Ok None) before between
    → OnErr made (MakesNot folder between after) → OnErr made (StopsOn folder before after)
stops_unmade folder before between after (Ok x) looks not = tt
stops_unmade folder before between after (Err error) (cause, nothing, is) (inl same) = inl (Err cause, tt, same ∙ is)
stops_unmade folder before between after (Err error) (cause, nothing, is) (inr (other, not)) = inr (cause, other, nothing, two_calls _ _ _ _ _ is not)

-- at one place of a path
pub stops_at : {A E : Type 0} (path folder : List ℕ) (end : ℕ) (before after : Log) (made : Result A E) → slice_index path end ≡ 47 → folder ≡ take end path
    → OnErr made (StopsOn folder before after) → OnErr made (FailsToLead (folders_at path end) before after)
stops_at path folder end before after (Ok x) slash is stops = tt
stops_at path folder end before after (Err error) slash is stops =
    subst (λ (b : ℕ). FailsToLead (if b == 47 then take end path ∷ [] else []) before after) (sym slash)
    (subst (λ (f : List ℕ). FailsToLead (f ∷ []) before after) is (inl stops))

-- whatever is behind it
fails_before : (folders others : List (List ℕ)) (before after : Log) → FailsToLead folders before after → FailsToLead (folders ++ others) before after
fails_before [] others before after never = absurd never
fails_before (folder ∷ folders) others before after (inl stops) = inl stops
fails_before (folder ∷ folders) others before after (inr (between, on, rest)) = inr (between, on, fails_before folders others between after rest)

-- some folders, and then one where the way stops
leads_and_fails : (folders others : List (List ℕ)) (before between after : Log) → Leads folders before between → FailsToLead others between after → FailsToLead (folders ++ others) before after
leads_and_fails [] others before between after same more = subst (λ (log : Log). FailsToLead others log after) same more
leads_and_fails (folder ∷ folders) others before between after (next, on, rest) more = inr (next, on, leads_and_fails folders others next between after rest more)

-- the way of a path stops at one of its places
pub stops_here : (path : List ℕ) (from i : ℕ) (front : List (List ℕ)) → i < length path → front ++ folders_behind (take i path) (drop i path) ≡ folders_past from path
    → (before between after : Log) → Leads front before between → FailsToLead (folders_at path i) between after → FailsToLead (folders_past from path) before after
stops_here path from i front within so_far before between after leads stops =
    subst (λ (folders : List (List ℕ)). FailsToLead folders before after) (rest_is path from i front within so_far)
    (leads_and_fails front _ before between after leads (fails_before (folders_at path i) _ between after stops))
