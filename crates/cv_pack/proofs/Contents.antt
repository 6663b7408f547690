-- Contents, one after another.
use Rattle.std.proofs.Common.{◌≡◌, ℕ, ◌+◌, ◌-◌, ◌<◌, ◌≤◌, true, false, ltb, eqb, List, [], ◌∷◌, ◌++◌, length, get_or, take, drop, Result, Ok, Err, refl, sym, ap, subst, ◌∙◌, inl, inr, ◌⊎◌, arith, length-drop, append_assoc, length-append, drop-cons, add-one}
use Rattle.std.specs.Prelude.{bytes_eq}
use Rattle.std.specs.Global.{Vec}
use Rattle.std.proofs.lemmas.Bool.{lt-ltb, le-ltb}
use Rattle.std.proofs.lemmas.List.{take_at, drop_at, append-nil, nil_from_length}
use Rattle.sha1.specs.Sha1.{sha1, Holds}
use Rattle.cv_base.specs.declared.object.Object.{Object}
use Rattle.cv_pack.specs.declared.contents_reader.ContentsReader.{ContentsReader}
use Rattle.cv_pack.specs.declared.entry.Entry.{Entry}
use Rattle.cv_pack.specs.declared.pack_fault.PackFault.{PackFault}
use Rattle.cv_pack.specs.declared.pack_fault.PackFault.TheVariants.{BadHeader, TooLarge, TooMany, HashDiffers, Short, Trailing, Duplicate, NoMemory}
use Rattle.cv_pack.specs.HeaderState.{Faults}
use Rattle.cv_base.specs.Sequence.{◌>>=◌}
use Rattle.cv_pack.specs.Reading.{object, contents_at}
use Rattle.cv_pack.specs.ContentsState.{with_front, contents_on, so_far, BeginsFirst, IsOpen}
use Rattle.cv_pack.specs.ContentsStateInner.{IsClosed, Closes, Goes}

-- the entry at an index, and those after it
pub entries_from : (es : List Entry) (k : ℕ) (d : Entry) → k < length es → drop k es ≡ get_or es k d ∷ drop (k + 1) es
entries_from es k d within = rw add-one (drop-cons es k d within)

-- a whole content, and bytes after it
sized : (size : ℕ) (bytes rest : List ℕ) → length bytes ≡ size → (ltb (length (bytes ++ rest)) size ≡ false) × (take size (bytes ++ rest) ≡ bytes) × (drop size (bytes ++ rest) ≡ rest)
sized size bytes rest is = (
  le-ltb _ _ (omega (arith, length-append bytes rest)),
  take_at bytes rest size is,
  drop_at bytes rest size is,
)

regroup : (front : List Object) (o : Object) (read : Result (List Object) PackFault) → with_front front (read >>= λ os. Ok (o ∷ os)) ≡ with_front (front ++ o ∷ []) read
regroup front o (Ok os) = ap (λ (xs : List Object). Ok xs) (sym (append_assoc front (o ∷ []) os))
regroup front o (Err fault) = refl

-- a content with its own hash
pub content_same : (k : ℕ) (e : Entry) (es : List Entry) (bytes rest : List ℕ) (front : List Object) → length bytes ≡ e.size → bytes_eq (sha1 bytes) e.id.hash ≡ true
    → with_front front (contents_at k (e ∷ es) (bytes ++ rest)) ≡ with_front (front ++ object e.id bytes ∷ []) (contents_at (k + 1) es rest)
unfolding contents_at
content_same k e es bytes rest front is same =
    let s = sized e.size bytes rest is in
    rw (s.0, s.1, s.2, same) (regroup front (object e.id bytes) (contents_at (k + 1) es rest))

-- a content with another hash
pub content_differs : (k : ℕ) (e : Entry) (es : List Entry) (bytes rest : List ℕ) (front : List Object) → length bytes ≡ e.size → bytes_eq (sha1 bytes) e.id.hash ≡ false
    → with_front front (contents_at k (e ∷ es) (bytes ++ rest)) ≡ Err (HashDiffers k)
unfolding contents_at
content_differs k e es bytes rest front is differs =
    let s = sized e.size bytes rest is in
    rw (s.0, s.1, differs) refl

-- a content that isn't there whole
pub content_short : (k : ℕ) (e : Entry) (es : List Entry) (bytes : List ℕ) (front : List Object) → length bytes < e.size → with_front front (contents_at k (e ∷ es) bytes) ≡ Err Short
unfolding contents_at
content_short k e es bytes front short = let test : ltb (length bytes) e.size ≡ true = lt-ltb _ _ short in rw test refl

-- all contents were read
pub contents_end : (k : ℕ) (es : List Entry) (front : List Object) → es ≡ [] → with_front front (contents_at k es []) ≡ Ok front
unfolding contents_at
contents_end k es front none = rw none (ap (λ (xs : List Object). Ok xs) (append-nil front))

pub contents_past : (k : ℕ) (es : List Entry) (b : ℕ) (rest : List ℕ) (front : List Object) → es ≡ [] → with_front front (contents_at k es (b ∷ rest)) ≡ Err Trailing
unfolding contents_at
contents_past k es b rest front none = rw none refl

none_begun : (es : List Entry) → BeginsFirst es []
none_begun [] = refl
none_begun (e ∷ es) = omega arith

-- what was begun of the entry that is next
begun_fits : (es : List Entry) (e : Entry) (rest : List Entry) (bytes : List ℕ) → es ≡ e ∷ rest → BeginsFirst es bytes → length bytes ≤ e.size
begun_fits es e rest bytes is h = subst (λ (x : List Entry). BeginsFirst x bytes) is h

-- no entry is left
no_entries : (es : List Entry) (k : ℕ) → length es ≤ k → drop k es ≡ []
no_entries es k past = nil_from_length (drop k es) (omega (arith, length-drop k es))

nothing_begun : (r : ContentsReader) (es : List Entry) → IsOpen r es → length es ≤ length r.objects.items → r.begun.items ≡ []
nothing_begun r es is past = subst (λ (x : List Entry). BeginsFirst x r.begun.items) (no_entries es (length r.objects.items) past) is.first

pub within_content : (r : ContentsReader) (es : List Entry) (k : ℕ) (d : Entry) → IsOpen r es → k ≡ length r.objects.items → k < length es → length r.begun.items ≤ (get_or es k d).size
within_content r es k d is k-is within =
    begun_fits (drop k es) (get_or es k d) (drop (k + 1) es) r.begun.items (entries_from es k d within) (subst (λ (n : ℕ). BeginsFirst (drop n es) r.begun.items) (sym k-is) is.first)

-- reading a piece up to these bytes of it leads from the old state to the new one
pub record GoesTo (old new : ContentsReader) (es : List Entry) (piece rest : List ℕ) : Type 0 where
  pub is_open : IsOpen new es
  pub reads : (text : List ℕ) → contents_on old es (piece ++ text) ≡ contents_on new es (rest ++ text)

-- a content was read to its end, and closed
pub closed_is_open : (old mid new : ContentsReader) (es : List Entry) (e : Entry) → length old.objects.items < length es → mid.objects ≡ old.objects → IsClosed mid new e → IsOpen new es
closed_is_open old mid new es e within objects closed =
    let grown : new.objects.items ≡ old.objects.items ++ object e.id mid.begun.items ∷ [] = closed.objects ∙ ap (λ (v : Vec Object). v.items ++ object e.id mid.begun.items ∷ []) objects in
    let size : length new.objects.items ≡ length old.objects.items + 1 = ap length grown ∙ length-append old.objects.items (object e.id mid.begun.items ∷ []) in
    record {
      hash = rw closed.begun closed.hash;
      count = omega (arith, size);
      first = rw closed.begun (none_begun (drop (length new.objects.items) es));
    }

pub closed_reads : (old mid new : ContentsReader) (es : List Entry) (k n missing : ℕ) (d : Entry) (rest front after text : List ℕ) → IsOpen old es → missing ≡ (get_or es k d).size - n → length front ≡ missing → n ≡ length old.begun.items → k ≡ length old.objects.items → k < length es
    → front ++ after ≡ rest → mid.objects ≡ old.objects → mid.begun.items ≡ old.begun.items ++ front
    → IsClosed mid new (get_or es k d) → contents_on old es (rest ++ text) ≡ contents_on new es (after ++ text)
closed_reads old mid new es k n missing d rest front after text is missing-is front-is n-is k-is within parts objects begun closed =
    let size : length old.begun.items + length front ≡ (get_or es k d).size = omega (arith, within_content old es k d is k-is within) in
    let e : Entry = get_or es k d in
    let whole : List ℕ = old.begun.items ++ front in
    let grown : new.objects.items ≡ old.objects.items ++ object e.id whole ∷ [] =
    closed.objects ∙ ap (λ (v : Vec Object). v.items ++ object e.id mid.begun.items ∷ []) objects ∙ ap (λ (x : List ℕ). old.objects.items ++ object e.id x ∷ []) begun in
    let count : length new.objects.items ≡ k + 1 = ap length grown ∙ length-append old.objects.items (object e.id whole ∷ []) ∙ ap (λ (n : ℕ). n + 1) (sym k-is) in
    let same : bytes_eq (sha1 whole) e.id.hash ≡ true = rw begun at closed.same in
    let text-is : old.begun.items ++ (rest ++ text) ≡ whole ++ (after ++ text) =
    ap (λ (x : List ℕ). old.begun.items ++ (x ++ text)) (sym parts) ∙ ap (λ (x : List ℕ). old.begun.items ++ x) (append_assoc front after text) ∙ sym (append_assoc old.begun.items front (after ++ text)) in
    let one : contents_on old es (rest ++ text) ≡ with_front (old.objects.items ++ object e.id whole ∷ []) (contents_at (k + 1) (drop (k + 1) es) (after ++ text)) =
    ap (λ (n : ℕ). with_front old.objects.items (contents_at n (drop n es) (old.begun.items ++ (rest ++ text)))) (sym k-is)
    ∙ ap (λ (x : List ℕ). with_front old.objects.items (contents_at k (drop k es) x)) text-is
    ∙ ap (λ (x : List Entry). with_front old.objects.items (contents_at k x (whole ++ (after ++ text)))) (entries_from es k d within)
    ∙ content_same k e (drop (k + 1) es) whole (after ++ text) old.objects.items (length-append old.begun.items front ∙ size) same in
    one ∙ sym (ap (λ (x : List Object). with_front x (contents_at (length new.objects.items) (drop (length new.objects.items) es) (new.begun.items ++ (after ++ text)))) grown
    ∙ ap (λ (n : ℕ). with_front (old.objects.items ++ object e.id whole ∷ []) (contents_at n (drop n es) (new.begun.items ++ (after ++ text)))) count
    ∙ ap (λ (x : List ℕ). with_front (old.objects.items ++ object e.id whole ∷ []) (contents_at (k + 1) (drop (k + 1) es) (x ++ (after ++ text)))) closed.begun)

closes_fault : (old new : ContentsReader) (e : Entry) (fault : PackFault) → Closes old new e (Err fault)
    → (fault ≡ NoMemory) ⊎ ((bytes_eq (sha1 old.begun.items) e.id.hash ≡ false) × (fault ≡ HashDiffers (length old.objects.items)))
closes_fault old new e (BadHeader n) h = inr h
closes_fault old new e TooLarge h = inr h
closes_fault old new e TooMany h = inr h
closes_fault old new e (HashDiffers n) h = inr h
closes_fault old new e Short h = inr h
closes_fault old new e Trailing h = inr h
closes_fault old new e (Duplicate n) h = inr h
closes_fault old new e NoMemory h = inl refl

-- a content was read to its end, and has another hash
pub fault_reads : (old mid new : ContentsReader) (es : List Entry) (k n missing : ℕ) (d : Entry) (rest front after text : List ℕ) (fault : PackFault) → IsOpen old es → missing ≡ (get_or es k d).size - n → length front ≡ missing → n ≡ length old.begun.items → k ≡ length old.objects.items → k < length es
    → front ++ after ≡ rest → mid.objects ≡ old.objects → mid.begun.items ≡ old.begun.items ++ front
    → Closes mid new (get_or es k d) (Err fault) → Faults fault (contents_on old es (rest ++ text))
fault_reads old mid new es k n missing d rest front after text fault is missing-is front-is n-is k-is within parts objects begun closes =
    let size : length old.begun.items + length front ≡ (get_or es k d).size = omega (arith, within_content old es k d is k-is within) in
    elim (closes_fault mid new (get_or es k d) fault closes) [
      | inl no_memory ↦ subst (λ (f : PackFault). Faults f (contents_on old es (rest ++ text))) (sym no_memory) (inl refl)
      | inr differs ↦
          let e : Entry = get_or es k d in
          let whole : List ℕ = old.begun.items ++ front in
          let fault-is : fault ≡ HashDiffers k = differs.1 ∙ ap (λ (v : Vec Object). HashDiffers (length v.items)) objects ∙ ap (λ (n : ℕ). HashDiffers n) (sym k-is) in
          let other : bytes_eq (sha1 whole) e.id.hash ≡ false = rw begun at differs.0 in
          let text-is : old.begun.items ++ (rest ++ text) ≡ whole ++ (after ++ text) =
          ap (λ (x : List ℕ). old.begun.items ++ (x ++ text)) (sym parts) ∙ ap (λ (x : List ℕ). old.begun.items ++ x) (append_assoc front after text) ∙ sym (append_assoc old.begun.items front (after ++ text)) in
          let one : contents_on old es (rest ++ text) ≡ Err (HashDiffers k) =
          ap (λ (n : ℕ). with_front old.objects.items (contents_at n (drop n es) (old.begun.items ++ (rest ++ text)))) (sym k-is)
          ∙ ap (λ (x : List ℕ). with_front old.objects.items (contents_at k (drop k es) x)) text-is
          ∙ ap (λ (x : List Entry). with_front old.objects.items (contents_at k x (whole ++ (after ++ text)))) (entries_from es k d within)
          ∙ content_differs k e (drop (k + 1) es) whole (after ++ text) old.objects.items (length-append old.begun.items front ∙ size) other in
          subst (λ (f : PackFault). Faults f (contents_on old es (rest ++ text))) (sym fault-is) (inr (sym one))
    ]

-- the content that was begun isn't there whole
pub waits_inside : (old new : ContentsReader) (es : List Entry) (k n missing : ℕ) (d : Entry) (bytes : List ℕ) → missing ≡ (get_or es k d).size - n → length bytes < missing → n ≡ length old.begun.items
    → k ≡ length old.objects.items → k < length es → new.objects ≡ old.objects → new.begun.items ≡ old.begun.items ++ bytes → contents_on new es [] ≡ so_far new es
waits_inside old new es k n missing d bytes missing-is short n-is k-is within objects begun =
    let size : length (new.begun.items ++ []) ≡ length old.begun.items + length bytes = ap length (append-nil new.begun.items) ∙ ap length begun ∙ length-append old.begun.items bytes in
    let one : contents_on new es [] ≡ Err Short =
    ap (λ (v : Vec Object). with_front v.items (contents_at (length v.items) (drop (length v.items) es) (new.begun.items ++ []))) objects
    ∙ ap (λ (n : ℕ). with_front old.objects.items (contents_at n (drop n es) (new.begun.items ++ []))) (sym k-is)
    ∙ ap (λ (x : List Entry). with_front old.objects.items (contents_at k x (new.begun.items ++ []))) (entries_from es k d within)
    ∙ content_short k (get_or es k d) (drop (k + 1) es) (new.begun.items ++ []) old.objects.items (omega (arith, size)) in
    let test : ltb (length new.objects.items) (length es) ≡ true = lt-ltb _ _ (subst (λ (v : Vec Object). length v.items < length es) (sym objects) (subst (λ (n : ℕ). n < length es) k-is within)) in
    one ∙ rw test refl

-- all contents were read
pub waits_at_end : (r : ContentsReader) (es : List Entry) → IsOpen r es → length es ≤ length r.objects.items → contents_on r es [] ≡ so_far r es
waits_at_end r es is past =
    let k : ℕ = length r.objects.items in
    let test : ltb (length r.objects.items) (length es) ≡ false = le-ltb _ _ past in
    ap (λ (x : List ℕ). with_front r.objects.items (contents_at k (drop k es) (x ++ []))) (nothing_begun r es is past) ∙ contents_end k (drop k es) r.objects.items (no_entries es k past) ∙ rw test refl

pub past_end : (r : ContentsReader) (es : List Entry) (rest text : List ℕ) → IsOpen r es → length es ≤ length r.objects.items → eqb (length rest) 0 ≡ false → contents_on r es (rest ++ text) ≡ Err Trailing
past_end r es [] text is past some = absurd cc
past_end r es (b ∷ rest) text is past some =
    let k : ℕ = length r.objects.items in
    ap (λ (x : List ℕ). with_front r.objects.items (contents_at k (drop k es) (x ++ (b ∷ (rest ++ text))))) (nothing_begun r es is past)
    ∙ contents_past k (drop k es) b (rest ++ text) r.objects.items (no_entries es k past)

-- the rest of a piece was taken into the content that was begun
pub inside_goes : (start old new : ContentsReader) (es : List Entry) (k n missing : ℕ) (d : Entry) (piece rest : List ℕ) → GoesTo start old es piece rest → missing ≡ (get_or es k d).size - n → length rest < missing → n ≡ length old.begun.items
    → k ≡ length old.objects.items → k < length es → new.objects ≡ old.objects → new.begun.items ≡ old.begun.items ++ rest → Holds new.hasher new.begun.items → Goes start new es piece
inside_goes start old new es k n missing d piece rest so_far missing-is short n-is k-is within objects begun hash =
    let size : length new.begun.items ≡ length old.begun.items + length rest = ap length begun ∙ length-append old.begun.items rest in
    let fits : BeginsFirst (drop k es) new.begun.items = subst (λ (x : List Entry). BeginsFirst x new.begun.items) (sym (entries_from es k d within)) (omega arith) in
    let count : k ≡ length new.objects.items = k-is ∙ ap (λ (v : Vec Object). length v.items) (sym objects) in
    record {
      is_open = record {
        hash = hash;
        count = omega (arith, count);
        first = subst (λ (n : ℕ). BeginsFirst (drop n es) new.begun.items) count fits;
      };
      reads = λ text. so_far.reads text
          ∙ ap (λ (x : List ℕ). with_front old.objects.items (contents_at (length old.objects.items) (drop (length old.objects.items) es) x)) (sym (append_assoc old.begun.items rest text) ∙ ap (λ (x : List ℕ). x ++ text) (sym begun))
          ∙ ap (λ (v : Vec Object). with_front v.items (contents_at (length v.items) (drop (length v.items) es) (new.begun.items ++ text))) (sym objects);
    }

-- the whole piece was taken
pub end_goes : (start old : ContentsReader) (es : List Entry) (piece rest : List ℕ) → GoesTo start old es piece rest → rest ≡ [] → Goes start old es piece
end_goes start old es piece rest so_far none = record {
  is_open = so_far.is_open;
  reads = λ text. so_far.reads text ∙ ap (λ (x : List ℕ). contents_on old es (x ++ text)) none;
}
