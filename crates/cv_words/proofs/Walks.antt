-- What clap makes of the words behind a command whose values have all their place.
use Rattle.std.proofs.Common.{◌≡◌, ℕ, Bool, true, false, not, ◌&&◌, List, [], ◌∷◌, Option, Some, None, refl, sym, ap, ap₂, subst, ◌∙◌, bytes_eq, is_some, inl, inr}
use Rattle.std.specs.Prelude.{fold, find, option_map, slice_get}
use Rattle.std.specs.List.{list_all}
use Rattle.std.specs.Option.{option_map_or}
use Rattle.std.specs.Str.{chars}
use Rattle.std.proofs.lemmas.Bool.{cases_Bool, not-true}
use Rattle.clap.specs.Walk.{Held, Rule, Text, Walk, idle, arg_by_index, arg_by_long, arg_by_short, is_multiple, next_position, positional_held, rows_after, finished, walked, nothing_held, to_positional, is_pending, takes_several, settled}
use Rattle.clap.specs.Simple.{Shape}
use Rattle.clap.specs.Kinds.{Kinds, or_else}
use Rattle.clap.specs.Faults.{walk_fault, turn_fault, level_fault, flags_fault, bundle_fault, settle_fault, defaults_fault, check_fault}
use Rattle.clap.proofs.WalkLemmas.{both}
use Rattle.cv_words.specs.Words.{dashes, is_option, values_of}
use Rattle.clap.specs.declared.error.kind.ErrorKind.TheVariants.{UnknownArgument}
use Rattle.cv_words.proofs.Forms.{IsPlain, IsFlag, AreTexts, plain, flag, long, short}

-- an argument that takes one value in its place
abbrev pub is_placed : Rule → Bool
is_placed a = is_some a.index && (not (is_multiple a) && not a.trailing_var_arg)

-- no option has a name
no_long : (c : List Rule) (name : Text) → list_all is_placed c ≡ true → arg_by_long c name ≡ None
no_long [] name placed = refl
no_long (a ∷ c) name placed =
    let here = both (is_placed a) (list_all is_placed c) placed in
    let index : is_some a.index ≡ true = (both (is_some a.index) _ here.0).0 in
    rw index (no_long c name here.1)

no_short : (c : List Rule) (x : ℕ) → list_all is_placed c ≡ true → arg_by_short c x ≡ None
no_short [] x placed = refl
no_short (a ∷ c) x placed =
    let here = both (is_placed a) (list_all is_placed c) placed in
    let index : is_some a.index ≡ true = (both (is_some a.index) _ here.0).0 in
    rw index (no_short c x here.1)

found_placed : (p : Rule → Bool) (c : List Rule) → list_all is_placed c ≡ true → option_map_or is_placed (find p c) true ≡ true
found_placed p [] placed = refl
found_placed p (a ∷ c) placed =
    let here = both (is_placed a) (list_all is_placed c) placed in
    elim (cases_Bool (p a)) [ inl is ↦ rw is here.0 | inr other ↦ rw other (found_placed p c here.1) ]

-- where the walk stands: whether behind `--`
abbrev at : Held → ℕ → Bool → Walk
at h position trailing = record { held = h; waiting = idle; position = position; is_trailing = trailing; stopped = None }

abbrev held_after : List Rule → Option Rule → Text → Held → Held
held_after c None word h = h
held_after c (Some a) word h = positional_held c a word h

abbrev position_after : Option Rule → ℕ → ℕ
position_after None position = position
position_after (Some a) position = next_position a position

skip_kept : (c : List Rule) (o : Option Rule) (word : Text) (h : Held) → (held_after c o word h).skip ≡ h.skip
skip_kept c None word h = refl
skip_kept c (Some a) word h = elim (cases_Bool (is_pending a h.pending && takes_several a)) [ inl is ↦ rw is refl | inr other ↦ rw other refl ]

goes : (c : List Rule) (o : Option Rule) (word : Text) (h : Held) (position : ℕ) (trailing : Bool) → option_map_or is_placed o true ≡ true
    → to_positional c o word (at h position trailing) h ≡ at (held_after c o word h) (position_after o position) trailing
goes c None word h position trailing placed = refl
goes c (Some a) word h position true placed =
    let here = both (not (is_multiple a)) _ (both (is_some a.index) _ placed).1 in
    let one : is_multiple a ≡ false = not-true _ here.0 in
    rw one refl
goes c (Some a) word h position false placed =
    let here = both (not (is_multiple a)) _ (both (is_some a.index) _ placed).1 in
    let one : is_multiple a ≡ false = not-true _ here.0 in
    let no_more : a.trailing_var_arg ≡ false = not-true _ here.1 in
    rw (one, no_more) refl

-- ---- one word

pub no_option : (c : List Rule) (again : Bool) (b : ℕ) (more : Text) (first : ℕ) (h : Held) → list_all is_placed c ≡ true → slice_get (chars (b ∷ more)) 0 ≡ Some first → h.skip ≡ 0
    → bundle_fault c again (b ∷ more) h ≡ UnknownArgument ∷ []
unfolding flags_fault
no_option c again b more first h placed is zero = rw (is, zero, no_short c first placed) refl

pub or_else_nil : (a b : Kinds) → or_else a b ≡ [] → (a ≡ []) × (b ≡ [])
or_else_nil [] b e = (refl, e)
or_else_nil (k ∷ ks) b e = let bad : k ∷ ks ≡ [] = e in absurd cc

module _ (s : Shape) (placed : list_all is_placed s.rules ≡ true) (h : Held) (position : ℕ) where
  abbrev held_next : Text → Held
  held_next word = held_after s.rules (arg_by_index s.rules position) word h

  abbrev position_next : ℕ
  position_next = position_after (arg_by_index s.rules position) position

  trailing_walked : (word : Text) → walked s.rules [] (at h position true) word ≡ at (held_next word) position_next true
  unfolding walked
  trailing_walked word = goes s.rules (arg_by_index s.rules position) word h position true (found_placed _ s.rules placed)

  plain_walked : (word : Text) → IsPlain word → walked s.rules [] (at h position false) word ≡ at (held_next word) position_next false
  unfolding walked
  plain_walked word p =
      rw (p.no_dashes, p.no_long, p.no_short) (goes s.rules (arg_by_index s.rules position) word h position false (found_placed _ s.rules placed))

  dashes_walked : (word : Text) → bytes_eq word dashes ≡ true → walked s.rules [] (at h position false) word ≡ at h position true
  unfolding walked
  dashes_walked word d = rw d refl

  plain_turn : (word : Text) → IsPlain word → turn_fault s [] (at h position false) word ≡ turn_fault s [] (at h position true) word
  plain_turn word p = rw (p.no_dashes, p.no_long, p.no_short) refl

  dashes_turn : (word : Text) → bytes_eq word dashes ≡ true → turn_fault s [] (at h position false) word ≡ []
  dashes_turn word d = rw d refl

  flag_turn : (word : Text) → bytes_eq word dashes ≡ false → IsFlag word → h.skip ≡ 0 → turn_fault s [] (at h position false) word ≡ [] → ⊥
  flag_turn word d (long p is) zero = rw (d, is, no_long s.rules p.0 placed) (λ e. cc e)
  flag_turn word d (short b more first l is starts) zero =
      rw (d, l, is, no_option s.rules s.args_override_self b more first h placed starts zero) (λ e. cc e)

-- ---- the values among words

at_dashes : (word : Text) (more : List Text) → bytes_eq word dashes ≡ true → values_of (word ∷ more) ≡ Some more
at_dashes word more d = rw d refl

at_option : (word : Text) (more : List Text) → bytes_eq word dashes ≡ false → is_option word ≡ true → values_of (word ∷ more) ≡ None
at_option word more d o = rw (d, o) refl

at_plain : (word : Text) (more : List Text) → bytes_eq word dashes ≡ false → is_option word ≡ false → values_of (word ∷ more) ≡ option_map (λ values. word ∷ values) (values_of more)
at_plain word more d o = rw (d, o) refl

some_behind : (word : Text) (o : Option (List Text)) (values : List Text) → option_map (λ v. word ∷ v) o ≡ Some values → (rest : List Text) × (o ≡ Some rest) × (word ∷ rest ≡ values)
some_behind word None values e = let bad : None ≡ Some values = e in absurd cc
some_behind word (Some rest) values e =
    let same : Some (word ∷ rest) ≡ Some values = e in
    let parts : word ∷ rest ≡ values = cc in
    (rest, refl, parts)

none_behind : (word : Text) (o : Option (List Text)) → option_map (λ v. word ∷ v) o ≡ None → o ≡ None
none_behind word None e = refl
none_behind word (Some rest) e = let bad : Some (word ∷ rest) ≡ None = e in absurd cc

-- ---- all words

module _ (s : Shape) (placed : list_all is_placed s.rules ≡ true) where
  -- words are read as their values behind `--`
  record IsReadAs (h : Held) (position : ℕ) (rest values : List Text) : Type 0 where
    faults : walk_fault s [] (at h position false) rest ≡ walk_fault s [] (at h position true) values
    held : (fold (walked s.rules []) (at h position false) rest).held ≡ (fold (walked s.rules []) (at h position true) values).held

  nothing_read : (h : Held) (position : ℕ) → IsReadAs h position [] []
  unfolding walk_fault
  nothing_read h position = record { faults = refl; held = refl }

  dashes_read : (word : Text) (more : List Text) (h : Held) (position : ℕ) → bytes_eq word dashes ≡ true → IsReadAs h position (word ∷ more) more
  unfolding walk_fault
  dashes_read word more h position d = record {
    faults = ap₂ or_else (dashes_turn s placed h position word d) (ap (λ (w : Walk). walk_fault s [] w more) (dashes_walked s placed h position word d));
    held = ap (λ (w : Walk). (fold (walked s.rules []) w more).held) (dashes_walked s placed h position word d);
  }

  value_read : (word : Text) (more values : List Text) (h : Held) (position : ℕ) → IsPlain word → IsReadAs (held_next s placed h position word) (position_next s placed h position) more values
      → IsReadAs h position (word ∷ more) (word ∷ values)
  unfolding walk_fault
  value_read word more values h position p then = record {
    faults = ap₂ or_else (plain_turn s placed h position word p)
        (ap (λ (w : Walk). walk_fault s [] w more) (plain_walked s placed h position word p) ∙ then.faults
        ∙ sym (ap (λ (w : Walk). walk_fault s [] w values) (trailing_walked s placed h position word)));
    held = ap (λ (w : Walk). (fold (walked s.rules []) w more).held) (plain_walked s placed h position word p) ∙ then.held
        ∙ sym (ap (λ (w : Walk). (fold (walked s.rules []) w values).held) (trailing_walked s placed h position word));
  }

  reads : (rest values : List Text) (h : Held) (position : ℕ) → values_of rest ≡ Some values → IsReadAs h position rest values
  reads [] values h position is =
      let some : Some [] ≡ Some values = is in
      let same : [] ≡ values = cc in
      subst (λ (v : List Text). IsReadAs h position [] v) same (nothing_read h position)
  reads (word ∷ more) values h position is =
      elim (cases_Bool (bytes_eq word dashes)) [
        | inl d ↦
            let some : Some more ≡ Some values = sym (at_dashes word more d) ∙ is in
            let same : more ≡ values = cc in
            subst (λ (v : List Text). IsReadAs h position (word ∷ more) v) same (dashes_read word more h position d)
        | inr d ↦ elim (cases_Bool (is_option word)) [
          | inl o ↦ let bad : None ≡ Some values = sym (at_option word more d o) ∙ is in absurd cc
          | inr o ↦
              let behind = some_behind word (values_of more) values (sym (at_plain word more d o) ∙ is) in
              subst (λ (v : List Text). IsReadAs h position (word ∷ more) v) behind.2 (value_read word more behind.0 h position (plain word d o)
              (reads more behind.0 (held_next s placed h position word) (position_next s placed h position) behind.1))
        ]
      ]

  refuses : (rest : List Text) (h : Held) (position : ℕ) → AreTexts rest → h.skip ≡ 0 → values_of rest ≡ None → walk_fault s [] (at h position false) rest ≡ [] → ⊥
  unfolding walk_fault
  refuses [] h position texts zero is none = let bad : Some [] ≡ None = is in absurd cc
  refuses (word ∷ more) h position texts zero is none =
      elim (cases_Bool (bytes_eq word dashes)) [
        | inl d ↦ let bad : Some more ≡ None = sym (at_dashes word more d) ∙ is in absurd cc
        | inr d ↦ elim (cases_Bool (is_option word)) [
          | inl o ↦ flag_turn s placed h position word d (flag word d o texts.0) zero (or_else_nil _ _ none).0
          | inr o ↦ refuses more (held_next s placed h position word) (position_next s placed h position) texts.1 (skip_kept s.rules (arg_by_index s.rules position) word h ∙ zero)
              (none_behind word (values_of more) (sym (at_plain word more d o) ∙ is))
              (sym (ap (λ (w : Walk). walk_fault s [] w more) (plain_walked s placed h position word (plain word d o))) ∙ (or_else_nil _ _ none).1)
        ]
      ]

  abbrev ends : Kinds → Held → Kinds
  ends faults end = or_else faults (or_else [] (or_else (settle_fault s.rules s.args_override_self end)
      (or_else (defaults_fault (settled s.rules end).rows s.rules) (check_fault s (finished s.rules end) false))))

  -- what clap answers to words is what it answers to their values behind `--`
  pub fault_as : (rest values : List Text) → values_of rest ≡ Some values → level_fault s [] nothing_held rest false [] ≡ level_fault s [] nothing_held (dashes ∷ values) false []
  unfolding walk_fault walked
  fault_as rest values is = let r = reads rest values nothing_held 1 is in ap₂ ends r.faults r.held

  pub rows_as : (rest values : List Text) → values_of rest ≡ Some values → rows_after s.rules [] rest ≡ rows_after s.rules [] (dashes ∷ values)
  unfolding walked
  rows_as rest values is = ap (finished s.rules) (reads rest values nothing_held 1 is).held

  pub refused : (rest : List Text) → AreTexts rest → values_of rest ≡ None → level_fault s [] nothing_held rest false [] ≡ [] → ⊥
  refused rest texts is e = refuses rest nothing_held 1 texts refl is (or_else_nil _ _ e).0
