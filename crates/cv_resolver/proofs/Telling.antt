-- What the rows of a catalogue say to a walk, whatever the catalogue is.
use Rattle.std.proofs.Common.{◌≡◌, ◌≢◌, ℕ, zero, suc, ◌-◌, Bool, true, false, ◌&&◌, cond, List, [], ◌∷◌, ◌++◌, take, refl, sym, ap, subst, ◌∙◌, arith}
use Rattle.std.specs.Prelude.{IfOk}
use Rattle.std.specs.declared.option.Option.{Option}
use Rattle.std.specs.declared.option.Option.TheVariants.{None, Some}
use Rattle.std.specs.declared.result.Result.{Result}
use Rattle.std.specs.declared.result.Result.TheVariants.{Ok, Err}
use Rattle.std.proofs.lemmas.List.Elements.{All-contains}
use Rattle.cv_base.specs.Path.{Path, IsPath, parent}
use Rattle.cv_base.specs.PathText.{parts_of}
use Rattle.cv_tree.specs.Tree.{is_directory}
use Rattle.cv_rows.specs.Catalogue.{Contents, IsCatalogue, FitsAt}
use Rattle.cv_rows.specs.Places.{StandsAt}
use Rattle.cv_rows.specs.Parents.{IsBelow}
use Rattle.cv_rows.specs.Row.{HasContent}
use Rattle.cv_rows.specs.declared.row.Row.{Row}
use Rattle.cv_rows.specs.declared.row_kind.RowKind.{RowKind}
use Rattle.cv_rows.specs.declared.row_kind.RowKind.TheVariants as kind
use Rattle.cv_rows.proofs.Lemmas.{one_place, stands_contained}
use Rattle.cv_cut.specs.Told.{hash_of, node_as, node_of}
use Rattle.cv_resolver.specs.Walk.{Name, is_last, lead_of, is_absolute}
use Rattle.cv_resolver.specs.Asking.{is_stat}
use Rattle.cv_resolver.specs.Entry.{stat_of}
use Rattle.cv_resolver.specs.EntryInner.{entry_kind}
use Rattle.cv_resolver.specs.Listing.{AreNames}
use Rattle.cv_resolver.specs.Look.{names_at, stat_at, content_at}
use Rattle.cv_resolver.specs.Rows.{ArrivesAt, stage_of, IsAt, Enters, outer_or, levels_above, levels_behind, GoesOn, Follows, IsEntryName, Passes, idle, below_file, up, nothing, enters, follows, StepsBy, arrives, passes}
use Rattle.cv_resolver.specs.EnterInner.{IsToldBy}
use Rattle.cv_resolver.specs.PassInner.{PassesTo, idle as passed_over, below_file as passed_file, up as passed_up, down}
use Rattle.cv_resolver.specs.StepInner.{MeetsLink, stage_after}
use Rattle.cv_resolver.specs.ProgressInner.{refusal_of}
use Rattle.cv_resolver.specs.Spot.{levels_of}
use Rattle.cv_resolver.specs.declared.spot.Level.{Level}
use Rattle.cv_resolver.specs.declared.spot.Spot.{Spot}
use Rattle.cv_resolver.specs.declared.walk.Walk.{Walk}
use Rattle.cv_resolver.specs.declared.step.Step.{Step}
use Rattle.cv_resolver.specs.declared.enter.Entered.TheVariants.{Nothing, Stands, Link}
use Rattle.cv_resolver.specs.declared.pass.Halt.{Halt}
use Rattle.cv_resolver.specs.declared.pass.Halt.TheVariants.{NotFound, NotDirectory}
use Rattle.cv_resolver.specs.declared.pass.Passed.TheVariants as to
use Rattle.cv_resolver.specs.declared.question.Question.{Question}
use Rattle.cv_resolver.specs.declared.question.Question.TheVariants as question
use Rattle.cv_resolver.specs.declared.stat_line.StatLine.{StatLine}
use Rattle.cv_resolver.specs.declared.found.Found.TheVariants as found
use Rattle.cv_resolver.specs.declared.found.ClientFault.TheVariants as fault
use Rattle.cv_resolver.specs.declared.stage.Stage.{Stage}
use Rattle.cv_resolver.specs.declared.stage.Stage.TheVariants.{Walks, Reads, Ends}

-- ---- where a walk arrives

pub arrived_nothing : (c : Contents) (q : Question) (p : Path) → ((r : Row) → StandsAt c.at c.rows r p → ⊥) → ArrivesAt c q p (Ends (Err fault.NotFound))
arrived_nothing c (question.List asked) p none = record { node = None; says = none; finding = Err fault.NotFound; finds = ([], λ directory. absurd (let e : false ≡ true = directory in cc), refl); stage = refl }
arrived_nothing c (question.Stat asked) p none = record { node = None; says = none; finding = Err fault.NotFound; finds = refl; stage = refl }
arrived_nothing c (question.Read asked) p none = record { node = None; says = none; finding = Err fault.NotFound; finds = refl; stage = refl }

module _ (c : Contents) (r : Row) (p asked : Path) (st : StandsAt c.at c.rows r p) where
  listed_as : (names : List (List ℕ)) → (is_directory (Some (node_of r)) ≡ true → AreNames c p names) → ArrivesAt c (question.List asked) p (stage_of (names_at names (Some (node_of r))))
  listed_as names are = record { node = Some (node_of r); says = (r, st, refl); finding = names_at names (Some (node_of r)); finds = (names, are, refl); stage = refl }

  pub arrived_names : (names : List (List ℕ)) → kind.Directory ≡ entry_kind r.kind → AreNames c p names → ArrivesAt c (question.List asked) p (Ends (Ok (found.Names names)))
  arrived_names names directory are = subst (ArrivesAt c (question.List asked) p) (by r.kind directory) (listed_as names (λ d. are))
    where
      by : (k : RowKind) → kind.Directory ≡ entry_kind k → stage_of (names_at names (Some (node_as k r))) ≡ Ends (Ok (found.Names names))
      by kind.Directory h = refl
      by kind.Transition h = refl
      by kind.NestedRoot h = refl
      by kind.File h = absurd (let e : kind.Directory ≡ kind.File = h in cc)
      by kind.Link h = absurd (let e : kind.Directory ≡ kind.Link = h in cc)

  pub arrived_no_directory : kind.Directory ≢ entry_kind r.kind → ArrivesAt c (question.List asked) p (Ends (Err fault.NotDirectory))
  arrived_no_directory unlike =
      let none = by r.kind unlike in
      subst (ArrivesAt c (question.List asked) p) none.1 (listed_as [] (λ d. absurd (let e : false ≡ true = sym none.0 ∙ d in cc)))
    where
      by : (k : RowKind) → kind.Directory ≢ entry_kind k → (is_directory (Some (node_as k r)) ≡ false) × (stage_of (names_at [] (Some (node_as k r))) ≡ Ends (Err fault.NotDirectory))
      by kind.Directory h = absurd (h refl)
      by kind.Transition h = absurd (h refl)
      by kind.NestedRoot h = absurd (h refl)
      by kind.File h = (refl, refl)
      by kind.Link h = (refl, refl)

  pub arrived_stat : (line : StatLine) → line ≡ stat_of (node_of r) → ArrivesAt c (question.Stat asked) p (Ends (Ok (found.Stat line)))
  arrived_stat line is = record { node = Some (node_of r); says = (r, st, refl); finding = stat_at (Some (node_of r)); finds = refl; stage = ap (λ (l : StatLine). Ends (Ok (found.Stat l))) is }

  read_as : ArrivesAt c (question.Read asked) p (stage_of (content_at (Some (node_of r))))
  read_as = record { node = Some (node_of r); says = (r, st, refl); finding = content_at (Some (node_of r)); finds = refl; stage = refl }

  pub arrived_content : (hash : List ℕ) → HasContent r.kind r.size r.hash r.target → r.hash ≡ Some hash → ArrivesAt c (question.Read asked) p (Reads hash)
  arrived_content hash has is = subst (ArrivesAt c (question.Read asked) p) (by r.kind has) read_as
    where
      by : (k : RowKind) → HasContent k r.size r.hash r.target → stage_of (content_at (Some (node_as k r))) ≡ Reads hash
      by kind.File h = ap (λ (o : Option (List ℕ)). Reads (hash_of o)) is
      by kind.Directory h = absurd (let e : Some hash ≡ None = sym is ∙ h.1 in cc)
      by kind.Transition h = absurd (let e : Some hash ≡ None = sym is ∙ h.1 in cc)
      by kind.NestedRoot h = absurd (let e : Some hash ≡ None = sym is ∙ h.1 in cc)
      by kind.Link h = absurd (let e : Some hash ≡ None = sym is ∙ h.1 in cc)

  pub arrived_no_file : HasContent r.kind r.size r.hash r.target → r.hash ≡ None → ArrivesAt c (question.Read asked) p (Ends (Err fault.NotFile))
  arrived_no_file has is = subst (ArrivesAt c (question.Read asked) p) (by r.kind (subst (λ (o : Option (List ℕ)). HasContent r.kind r.size o r.target) is has)) read_as
    where
      by : (k : RowKind) → HasContent k r.size None r.target → stage_of (content_at (Some (node_as k r))) ≡ Ends (Err fault.NotFile)
      by kind.File h = absurd h.1
      by kind.Directory h = refl
      by kind.Transition h = refl
      by kind.NestedRoot h = refl
      by kind.Link h = refl

pub arrived_as : {E : Type 0} (c : Contents) (q asked : Question) (p : Path) (r : Result Stage E) → q ≡ asked → IfOk r (ArrivesAt c asked p) → IfOk r (ArrivesAt c q p)
arrived_as c q asked p (Err e) is h = tt
arrived_as c q asked p (Ok s) is h = subst (λ (x : Question). ArrivesAt c x p s) (sym is) h

-- ---- what stands at a name

-- a row stands at a path that keeps its limits
stands_path : (c : Contents) (r : Row) (q : Path) → IsCatalogue c → StandsAt c.at c.rows r q → IsPath q
stands_path c r q is st =
    let placed = All-contains (λ (x : Row). (w : Path) × StandsAt c.at c.rows x w × FitsAt c.at x w) c.rows r is.region.placed (stands_contained st) in
    subst IsPath (one_place is.ordered placed.1 st) placed.2.path

pub moved_at : (s next : Spot) (p : Path) (d : Bool) → next ≡ record s { at = p; is_directory = d } → IsAt p d (levels_of s) next
moved_at s next p d is = record { place = ap (λ (x : Spot). x.at) is; is_dir = ap (λ (x : Spot). x.is_directory) is; cuts = ap levels_of is }

module _ (c : Contents) (s : Spot) (name : Name) (found : Option Path) (below : IsBelow s.at name found) where
  pub told_no_path : found ≡ None → IsCatalogue c → IsToldBy c s name Nothing
  told_no_path none is = λ r st. (subst (IsBelow s.at name) none below) (stands_path c r (s.at ++ name ∷ []) is st)

  module _ (path : Path) (is : found ≡ Some path) where
    places : path ≡ s.at ++ name ∷ []
    places = (subst (IsBelow s.at name) is below).0

    pub told_no_row : ((r : Row) → StandsAt c.at c.rows r path → ⊥) → IsToldBy c s name Nothing
    told_no_row none = λ r st. none r (subst (λ (x : Path). StandsAt c.at c.rows r x) (sym places) st)

    module _ (r : Row) (st : StandsAt c.at c.rows r path) where
      there : StandsAt c.at c.rows r (s.at ++ name ∷ [])
      there = subst (λ (x : Path). StandsAt c.at c.rows r x) places st

      pub told_row : (k : RowKind) (next : Spot) → r.kind ≡ k → k ≢ kind.Link → Enters c s k r path next → IsToldBy c s name (Stands next)
      told_row k next kind_is unlike way =
          (r, there, λ link. unlike (sym kind_is ∙ link), subst (λ (x : RowKind). Enters c s x r (s.at ++ name ∷ []) next) (sym kind_is) (subst (λ (x : Path). Enters c s k r x next) places way))

      pub told_link : (target : List ℕ) → r.kind ≡ kind.Link → target ≡ r.target → IsToldBy c s name (Link s path target)
      told_link target kind_is same = (r, there, kind_is, refl, places, same)

-- ---- the cuts above

pub cuts_here : (outer : List Level) (level : Level) (own : Bool) → own ≡ false → outer ++ level ∷ [] ≡ cond own (outer_or outer level) (outer ++ level ∷ [])
cuts_here outer level own is = ap (λ (b : Bool). cond b (outer_or outer level) (outer ++ level ∷ [])) (sym is)

some_outer : (front : List Level) (above level : Level) → outer_or (front ++ above ∷ []) level ≡ front ++ above ∷ []
some_outer [] above level = refl
some_outer (x ∷ xs) above level = refl

pub cuts_above : (front : List Level) (above level : Level) (outer : List Level) (own : Bool) → outer ≡ front ++ above ∷ [] → own ≡ true → front ++ above ∷ [] ≡ cond own (outer_or outer level) (outer ++ level ∷ [])
cuts_above front above level outer own is here =
    sym (some_outer front above level) ∙ ap (λ (x : List Level). outer_or x level) (sym is) ∙ ap (λ (b : Bool). cond b (outer_or outer level) (outer ++ level ∷ [])) (sym here)

-- ---- a step by a name

abbrev halted : Halt → Stage
halted halt = Ends (Err (refusal_of halt))

at_same : (a b : Spot) → to.At a ≡ to.At b → a ≡ b
at_same a b is = cc

over_same : (a b : Halt) → to.Over a ≡ to.Over b → a ≡ b
over_same a b is = cc

module _ (repository : List ℕ) (stays : Bool) (c : Contents) (w : Walk) (name : Name) (names : List Name) where
  goes : (There : Spot → Type 0) (next : Spot) (after : Walk) → There next → after.spot ≡ next → after.names.items ≡ names → after.links ≡ w.links → GoesOn There names w.links (Walks after)
  goes There next after here spot left few = record { next = after; is = refl; spot = subst There (sym spot) here; left = left; few = few }

  pub on_told : (next : Spot) (after : Walk) → PassesTo c w.spot name (to.At next) → after.spot ≡ next → after.names.items ≡ names → after.links ≡ w.links → Passes repository stays c w name names (Walks after)
  on_told next after (passed_over idle_is is) spot left few = idle idle_is (goes (λ x. x ≡ w.spot) next after (at_same next w.spot is) spot left few)
  on_told next after (passed_file some file is) spot left few = absurd (let e : to.At next ≡ to.Over NotDirectory = is in cc)
  on_told next after (passed_up some directory up_is there at is) spot left few =
      up some directory up_is (goes (IsAt (parent w.spot.at) true (levels_above w.spot)) next after (subst (IsAt (parent w.spot.at) true (levels_above w.spot)) (sym (at_same next there is)) at) spot left few)
  on_told next after (down entry Nothing told is) spot left few = absurd (let e : to.At next ≡ to.Over NotFound = is in cc)
  on_told next after (down entry (Stands there) told is) spot left few =
      let way : Spot → Type 0 = λ x. Enters c w.spot told.0.kind told.0 (w.spot.at ++ name ∷ []) x in
      enters entry told.0 told.1 (λ link. absurd (told.2 link)) (goes way next after (subst way (sym (at_same next there is)) told.3) spot left few)
  on_told next after (down entry (Link same path target) told is) spot left few = absurd (let e : to.At next ≡ to.Link same path target = is in cc)

  pub over_told : (halt : Halt) → PassesTo c w.spot name (to.Over halt) → Passes repository stays c w name names (halted halt)
  over_told halt (passed_over idle_is is) = absurd (let e : to.Over halt ≡ to.At w.spot = is in cc)
  over_told halt (passed_file some file is) = below_file some file (ap halted (over_same halt NotDirectory is))
  over_told halt (passed_up some directory up_is there at is) = absurd (let e : to.Over halt ≡ to.At there = is in cc)
  over_told halt (down entry Nothing told is) = nothing entry told (ap halted (over_same halt NotFound is))
  over_told halt (down entry (Stands there) told is) = absurd (let e : to.Over halt ≡ to.At there = is in cc)
  over_told halt (down entry (Link same path target) told is) = absurd (let e : to.Over halt ≡ to.Link same path target = is in cc)

  by_link : (s : Stage) (b : Bool) → (is_last names && stays) ≡ b → IsEntryName w.spot name → (r : Row) → StandsAt c.at c.rows r (w.spot.at ++ name ∷ []) → r.kind ≡ kind.Link
      → MeetsLink repository b w.spot names w.links (w.spot.at ++ name ∷ []) (parts_of r.target) s → Passes repository stays c w name names s
  by_link s true test entry r st is meets = enters entry r st (λ l. test) (subst (λ (k : RowKind). GoesOn (Enters c w.spot k r (w.spot.at ++ name ∷ [])) names w.links s) (sym is) meets)
  by_link s false test entry r st is meets = follows entry r st is test meets

  pub link_told : (same : Spot) (path : Path) (target : List ℕ) (s : Stage) → PassesTo c w.spot name (to.Link same path target)
      → (same.is_directory ≡ true → MeetsLink repository (is_last names && stays) same names w.links path (parts_of target) s) → Passes repository stays c w name names s
  link_told same path target s (passed_over idle_is is) meets = absurd (let e : to.Link same path target ≡ to.At w.spot = is in cc)
  link_told same path target s (passed_file some file is) meets = absurd (let e : to.Link same path target ≡ to.Over NotDirectory = is in cc)
  link_told same path target s (passed_up some directory up_is there at is) meets = absurd (let e : to.Link same path target ≡ to.At there = is in cc)
  link_told same path target s (down entry Nothing told is) meets = absurd (let e : to.Link same path target ≡ to.Over NotFound = is in cc)
  link_told same path target s (down entry (Stands there) told is) meets = absurd (let e : to.Link same path target ≡ to.At there = is in cc)
  link_told same path target s (down entry (Link a b d) told is) meets =
      let e : to.Link same path target ≡ to.Link a b d = is in
      let spots : same ≡ a = cc in
      let paths : path ≡ b = cc in
      let targets : target ≡ d = cc in
      let here : same ≡ w.spot = spots ∙ told.3 in
      let at_path : path ≡ w.spot.at ++ name ∷ [] = paths ∙ told.4 in
      let parts : target ≡ told.0.target = targets ∙ told.5 in
      let met = meets (ap (λ (x : Spot). x.is_directory) here ∙ entry.directory) in
      let by_spot = subst (λ (x : Spot). MeetsLink repository (is_last names && stays) x names w.links path (parts_of target) s) here met in
      let by_path = subst (λ (x : Path). MeetsLink repository (is_last names && stays) w.spot names w.links x (parts_of target) s) at_path by_spot in
      by_link s (is_last names && stays) refl entry told.0 told.1 told.2 (subst (λ (x : List ℕ). MeetsLink repository (is_last names && stays) w.spot names w.links (w.spot.at ++ name ∷ []) (parts_of x) s) parts by_path)

-- the names of a walk, taken apart twice
pub renamed : (repository : List ℕ) (stays : Bool) (c : Contents) (w : Walk) (name first : Name) (names rest : List Name) (s : Stage) → w.names.items ≡ name ∷ names → w.names.items ≡ first ∷ rest
    → Passes repository stays c w name names s → Passes repository stays c w first rest s
renamed repository stays c w name first names rest s is same passed =
    let e : name ∷ names ≡ first ∷ rest = sym is ∙ same in
    let one : name ≡ first = cc in
    let left : names ≡ rest = cc in
    subst (λ (x : Name). Passes repository stays c w x rest s) one (subst (λ (x : List Name). Passes repository stays c w name x s) left passed)

pub link_step : {E : Type 0} (repository : List ℕ) (stays : Bool) (c : Contents) (w : Walk) (name first : Name) (names rest : List Name) (r : Result Step E) (same : Spot) (path : Path) (target : List ℕ)
    → w.names.items ≡ name ∷ names → w.names.items ≡ first ∷ rest → PassesTo c w.spot name (to.Link same path target)
    → (same.is_directory ≡ true → IfOk r (λ s. MeetsLink repository (is_last names && stays) same names w.links path (parts_of target) (stage_after s))) → IfOk r (λ s. Passes repository stays c w first rest (stage_after s))
link_step repository stays c w name first names rest (Err e) same path target is again passed meets = tt
link_step repository stays c w name first names rest (Ok s) same path target is again passed meets =
    renamed repository stays c w name first names rest (stage_after s) is again (link_told repository stays c w name names same path target (stage_after s) passed meets)

-- ---- a link

module _ (repository : List ℕ) (spot : Spot) (names : List Name) (links : ℕ) (path : Path) (parts : List Name) where
  pub met_stays : (b : Bool) (next : Walk) → b ≡ true → next.spot ≡ record spot { at = path; is_directory = false } → next.names.items ≡ names → next.links ≡ links → MeetsLink repository b spot names links path parts (Walks next)
  met_stays b next test is left few =
      subst (λ (x : Bool). MeetsLink repository x spot names links path parts (Walks next)) (sym test) (record { next = next; is = refl; spot = moved_at spot next.spot path false is; left = left; few = few })

  met_follows : (b : Bool) (s : Stage) (lead : Option (Path × List Name)) → b ≡ false → lead_of repository spot.at parts ≡ lead → Follows spot names links parts lead s → MeetsLink repository b spot names links path parts s
  met_follows b s lead test is there =
      subst (λ (x : Bool). MeetsLink repository x spot names links path parts s) (sym test) (subst (λ (x : Option (Path × List Name)). Follows spot names links parts x s) (sym is) there)

  too_many : (n : ℕ) (lead : Option (Path × List Name)) → n ≡ 0 → Follows spot names n parts lead (Ends (Err fault.TooManyLinks))
  too_many zero lead is = refl
  too_many (suc k) lead is = absurd (omega (arith, is))

  nowhere : (n : ℕ) → n ≢ 0 → Follows spot names n parts None (Ends (Err fault.NotFound))
  nowhere zero some = absurd (some refl)
  nowhere (suc k) some = refl

  leads : (n : ℕ) (start : Path) (more : List Name) (next : Walk) → n ≢ 0 → IsAt start true (levels_behind parts (levels_of spot)) next.spot → next.names.items ≡ more ++ names → next.links ≡ n - 1
      → Follows spot names n parts (Some (start, more)) (Walks next)
  leads zero start more next some there left few = absurd (some refl)
  leads (suc k) start more next some there left few = record { next = next; is = refl; spot = there; left = left; few = omega (arith, few) }

  pub met_too_many : (b : Bool) → b ≡ false → links ≡ 0 → MeetsLink repository b spot names links path parts (Ends (Err fault.TooManyLinks))
  met_too_many b test none = met_follows b _ (lead_of repository spot.at parts) test refl (too_many links _ none)

  pub met_nowhere : (b : Bool) → b ≡ false → links ≢ 0 → lead_of repository spot.at parts ≡ None → MeetsLink repository b spot names links path parts (Ends (Err fault.NotFound))
  met_nowhere b test some is = met_follows b _ None test is (nowhere links some)

  -- the link leads on from the root, or from its directory
  pub met_leads : (b : Bool) (absolute : Bool) (start : Path) (more : List Name) (next : Walk) → b ≡ false → links ≢ 0 → lead_of repository spot.at parts ≡ Some (start, more) → is_absolute parts ≡ absolute
      → IsAt start true (cond absolute (take 1 (levels_of spot)) (levels_of spot)) next.spot → next.names.items ≡ more ++ names → next.links ≡ links - 1 → MeetsLink repository b spot names links path parts (Walks next)
  met_leads b absolute start more next test some is from there left few =
      met_follows b _ (Some (start, more)) test is
      (leads links start more next some (subst (λ (x : Bool). IsAt start true (cond x (take 1 (levels_of spot)) (levels_of spot)) next.spot) (sym from) there) left few)

-- ---- a step

pub arrived_told : {E : Type 0} (repository : List ℕ) (q : Question) (c : Contents) (w : Walk) (r : Result Stage E) → w.names.items ≡ [] → IfOk r (ArrivesAt c q w.spot.at) → IfOk r (StepsBy repository q c w)
arrived_told repository q c w (Err e) none h = tt
arrived_told repository q c w (Ok s) none h = arrives none h

pub passed_told : (repository : List ℕ) (b : Bool) (q : Question) (c : Contents) (w : Walk) (s : Step) (stage : Stage) → b ≡ is_stat q → stage_after s ≡ stage → is_last w.names.items ≡ false
    → ((name : Name) (names : List Name) → w.names.items ≡ name ∷ names → Passes repository b c w name names (stage_after s)) → StepsBy repository q c w stage
passed_told repository b q c w s stage same is some told = by w.names.items refl some
  where
    by : (all : List Name) → w.names.items ≡ all → is_last all ≡ false → StepsBy repository q c w stage
    by [] all_is h = absurd (let e : true ≡ false = h in cc)
    by (name ∷ names) all_is h =
        passes name names all_is (subst (λ (x : Stage). Passes repository (is_stat q) c w name names x) is (subst (λ (x : Bool). Passes repository x c w name names (stage_after s)) same (told name names all_is)))
