-- What is judged of the bytes held holds of all that is left.
use Rattle.std.proofs.Common.{◌≡◌, ◌<◌, ◌≤◌, ◌-◌, ◌++◌, ℕ, List, [], length, take, drop, refl, ap, sym, subst, ◌∙◌, append_assoc, append-nil, arith, inl, inr, length-append}
use Rattle.std.specs.Prelude.{Option, ◌⊎◌, Some, None, Result, Ok, Err, IfSome}
use Rattle.std.proofs.lemmas.List.{take-append-le, take-append-drop, take_all}
use Rattle.std.proofs.lemmas.Bool.{cases_lt}
use Rattle.std.proofs.Math.Seq.{take-append-add}
use Rattle.std.proofs.Common.{◌+◌}
use Rattle.cv_ports.specs.Streams.{Look, front, onto}
use Rattle.cv_ports.proofs.Laws.{front_twice, onto_twice, onto_none}
use Rattle.cv_http.specs.Forms.{Form, HasNone, window, HasHeadAs, BeginsAs, NeverAs, UnfinishedAs, RefusedAs, AwaitedAs, never, large, judged}
use Rattle.cv_http.specs.Wires.{WireView, Reads, Draws, LookedAt, Looks, Beside, HeadReadAs, BodyRead, Gets}
use Rattle.cv_http.specs.WiresInner.{HeadLost, HeadFound}
use Rattle.cv_http.specs.Faults.{IsHeadFault}
use Rattle.cv_http.specs.FaultsInner.{IsRefusal, IsPieceFault}
use Rattle.cv_http.proofs.Refusals.{refusal}
use Rattle.cv_http.specs.declared.fault.HttpFault.{HttpFault}
use Rattle.cv_http.specs.declared.fault.HttpFault.TheVariants.{BadHead, HeadTooLarge, BodyTooLarge, NoLength, Coding, Short, ReadFault, NoMemory}
use Rattle.cv_http.specs.declared.judge.TheConstants.{HEAD_LIMIT}

-- ---- where a source tells

-- a piece more is held, and left no more
pub reads_on : (held piece held' : List ℕ) (old new : Option (List ℕ)) → held' ≡ held ++ piece → old ≡ front piece new → front held' new ≡ front held old
reads_on held piece held' old new is gives = ap (λ h. front h new) is ∙ sym (front_twice new held piece) ∙ ap (front held) (sym gives)

-- a part more of a body
pub parts_on : (body body' held : List ℕ) (left all : Option (List ℕ)) (n : ℕ) → body' ≡ body ++ take n held → front body (front held left) ≡ all
    → front body' (front (drop n held) left) ≡ all
parts_on body body' held left all n is was =
    ap (λ x. front x (front (drop n held) left)) is ∙ sym (front_twice (front (drop n held) left) body (take n held))
    ∙ ap (front body) (front_twice left (take n held) (drop n held) ∙ ap (λ x. front x left) (take-append-drop n held)) ∙ was

-- ---- what was got

-- nothing before what is left, and nothing behind what was given
front_none : (left : Option (List ℕ)) → left ≡ front [] left
front_none None = refl
front_none (Some l) = refl

module _ {R : Type 0} (left given : R → Option (List ℕ)) where
  -- nothing was got
  pub gets_same : (w w' : WireView R) → left w'.source ≡ left w.source → given w'.source ≡ given w.source → w'.held ≡ w.held → Gets left given w w'
  gets_same w w' same still held = record {
    got = [];
    told = sym same ∙ front_none (left w'.source);
    gave = still ∙ onto_none (given w.source);
    more = held ∙ sym (append-nil w.held);
  }

  -- so it is with a source and what is held that are the same
  pub gets_moved : (w m w' : WireView R) → Gets left given w m → w'.source ≡ m.source → w'.held ≡ m.held → Gets left given w w'
  gets_moved w m w' gets source held = record {
    got = gets.got;
    told = gets.told ∙ ap (λ s. front gets.got (left s)) (sym source);
    gave = ap given source ∙ gets.gave;
    more = held ∙ gets.more;
  }

  -- what was got, and then more
  pub gets_on : (w m w' : WireView R) → Gets left given w m → Gets left given m w' → Gets left given w w'
  gets_on w m w' first then_ = record {
    got = first.got ++ then_.got;
    told = first.told ∙ ap (front first.got) then_.told ∙ front_twice (left w'.source) first.got then_.got;
    gave = then_.gave ∙ ap (λ o. onto o then_.got) first.gave ∙ onto_twice (given w.source) first.got then_.got;
    more = then_.more ∙ ap (λ x. x ++ then_.got) first.more ∙ append_assoc w.held first.got then_.got;
  }

  -- what was got is so, with what was held before
  pub draws_of : (w m w' : WireView R) (Are : List ℕ → Type 0) → Gets left given w m → w'.source ≡ m.source → Are m.held → Draws left given w w' Are
  draws_of w m w' Are gets source are = record {
    got = gets.got;
    told = gets.told ∙ ap (λ s. front gets.got (left s)) (sym source);
    gave = ap given source ∙ gets.gave;
    are = subst Are gets.more are;
  }

  -- what was read, and then more of it was got
  pub draws_then : (w0 w w' : WireView R) (P Q S : List ℕ → Type 0) → Draws left given w0 w P → Draws left given w w' Q
      → ((b more : List ℕ) → P b → Q (w.held ++ more) → S (b ++ more)) → Draws left given w0 w' S
  draws_then w0 w w' P Q S r q joins = record {
    got = r.got ++ q.got;
    told = r.told ∙ ap (front r.got) q.told ∙ front_twice (left w'.source) r.got q.got;
    gave = q.gave ∙ ap (λ o. onto o q.got) r.gave ∙ onto_twice (given w0.source) r.got q.got;
    are = subst S (append_assoc w0.held r.got q.got) (joins (w0.held ++ r.got) q.got r.are q.are);
  }

  -- what was read, in other words
  pub draws_as : (w w' : WireView R) (P Q : List ℕ → Type 0) → Draws left given w w' P → ((b : List ℕ) → P b → Q b) → Draws left given w w' Q
  draws_as w w' P Q r as_ = record { got = r.got; told = r.told; gave = r.gave; are = as_ (w.held ++ r.got) r.are }

  -- nothing was read
  pub draws_none : (w : WireView R) (P : List ℕ → Type 0) → P w.held → Draws left given w w P
  draws_none w P are = draws_of w w w P (gets_same w w refl refl refl) refl are

  -- the same without what the source tells that it gave
  pub draws_reads : (w w' : WireView R) (P : List ℕ → Type 0) → Draws left given w w' P → Reads left w w' P
  draws_reads w w' P r = record { got = r.got; told = r.told; are = r.are }

  -- a part more of a body
  pub body_on : (w0 w m w' : WireView R) (body body' : List ℕ) → Draws left given w0 w (λ b. b ≡ body ++ w.held) → Gets left given w m
      → w'.source ≡ m.source → body' ++ w'.held ≡ body ++ m.held → Draws left given w0 w' (λ b. b ≡ body' ++ w'.held)
  body_on w0 w m w' body body' r g source parts =
      draws_then w0 w w' (λ b. b ≡ body ++ w.held) (λ b. b ≡ m.held) (λ b. b ≡ body' ++ w'.held) r (draws_of w m w' (λ b. b ≡ m.held) g source refl) (λ b more was now.
      ap (λ x. x ++ more) was ∙ append_assoc body w.held more ∙ ap (λ x. body ++ x) now ∙ sym parts)

  -- more was got, and a part of it is lost
  pub draws_lost : (w0 w m w' : WireView R) (P : List ℕ → Type 0) → Draws left given w0 w P → Gets left given w m → w'.source ≡ m.source
      → Draws left given w0 w' (λ b. Unit {0})
  draws_lost w0 w m w' P r g source = draws_then w0 w w' P (λ b. b ≡ m.held) (λ b. Unit {0}) r (draws_of w m w' (λ b. b ≡ m.held) g source refl) (λ b more was now. tt)

-- a part more of a body
pub parted : (body body' held held' : List ℕ) (n : ℕ) → body' ≡ body ++ take n held → held' ≡ drop n held → body' ++ held' ≡ body ++ held
parted body body' held held' n is then_ = rw (is, then_) (append_assoc body (take n held) (drop n held) ∙ ap (λ x. body ++ x) (take-append-drop n held))

-- a body that wasn't read for a fault of the source or want of memory, of which fewer bytes were there
pub body_unread : {A : Type 0} (P : List ℕ → A → Type 0) (b held : List ℕ) (size : ℕ) (fault : HttpFault) → IsPieceFault fault → length b < size → BodyRead size P b held (Err fault)
body_unread P b held size BadHead is short = absurd is
body_unread P b held size HeadTooLarge is short = absurd is
body_unread P b held size BodyTooLarge is short = absurd is
body_unread P b held size NoLength is short = absurd is
body_unread P b held size Coding is short = absurd is
body_unread P b held size Short is short = absurd is
body_unread P b held size ReadFault is short = short
body_unread P b held size NoMemory is short = tt

-- the same of a head that is awaited
pub head_unread : {P H : Type 0} (form : Form P H) (held : List ℕ) (fault : HttpFault) → IsPieceFault fault → AwaitedAs form held → HeadReadAs form held held (Err fault)
head_unread form held BadHead is waits = absurd is
head_unread form held HeadTooLarge is waits = absurd is
head_unread form held BodyTooLarge is waits = absurd is
head_unread form held NoLength is waits = absurd is
head_unread form held Coding is waits = absurd is
head_unread form held Short is waits = absurd is
head_unread form held ReadFault is waits = (waits, refl)
head_unread form held NoMemory is waits = refl

-- ---- what was judged

module _ {P H : Type 0} {form : Form P H} where
  has_head_on : {held later : List ℕ} {parsed : P} (l : List ℕ) → HasHeadAs form held parsed later → HasHeadAs form (held ++ l) parsed (later ++ l)
  has_head_on {held} {later} {parsed} l has = record {
    reads = (has.reads.0, ap (λ b. b ++ l) has.reads.1 ∙ append_assoc (form.print parsed) later l);
    limit = has.limit;
  }

  pub begins_on : {held later : List ℕ} {head : H} (l : List ℕ) → BeginsAs form held head later → BeginsAs form (held ++ l) head (later ++ l)
  begins_on l begins = record { parsed = begins.parsed; has = has_head_on l begins.has; faultless = begins.faultless; says = begins.says }

-- the first bytes of more are more of the first bytes
pub seen_more : (n : ℕ) (held l : List ℕ) → take n (held ++ l) ≡ take n held ++ take (n - length held) l
seen_more n held l = elim (cases_lt (length held) n) [
  | inl below ↦
      let size : n ≡ length held + (n - length held) = omega (arith, below) in
      ap (λ k. take k (held ++ l)) size ∙ take-append-add held l (n - length held) ∙ ap (λ x. x ++ take (n - length held) l) (sym (take_all n held (omega (arith, below))))
  | inr above ↦
      let none : n - length held ≡ 0 = omega (arith, above) in
      take-append-le n held l above ∙ sym (rw none (append-nil (take n held)))
]

module _ {P H : Type 0} {form : Form P H} where
  never_on : {held : List ℕ} (l : List ℕ) → NeverAs form held → NeverAs form (held ++ l)
  never_on {held} l h = record {
    never = λ more. subst (HasNone form) (sym (append_assoc (take HEAD_LIMIT held) (take (HEAD_LIMIT - length held) l) more) ∙ ap (λ x. x ++ more) (sym (seen_more HEAD_LIMIT held l))) (h.never (take (HEAD_LIMIT - length held) l ++ more));
  }

  unfinished_on : {held : List ℕ} (l : List ℕ) → HEAD_LIMIT ≤ length held → UnfinishedAs form held → UnfinishedAs form (held ++ l)
  unfinished_on {held} l long h =
      let same : window (held ++ l) ≡ window held = take-append-le HEAD_LIMIT held l long in
      record { not_yet = subst (HasNone form) (sym same) h.not_yet; may = subst form.MayBecome (sym same) h.may }

  pub refused_on : {held : List ℕ} {fault : HttpFault} (l : List ℕ) → RefusedAs form held fault → RefusedAs form (held ++ l) fault
  refused_on l (never h) = never (never_on l h)
  refused_on {held} l (large long h) = large (rw length-append (omega (arith, long))) (unfinished_on l long h)
  refused_on l (judged parsed later fault has is) = judged parsed (later ++ l) fault (has_head_on l has) is

-- a fault is another than this
abbrev pub IsOther : Type 0 → HttpFault → HttpFault → Type 0
IsOther H other fault = (r : Result (Option H) HttpFault) → r ≡ Err fault → r ≡ Err other → ⊥

module _ {P H : Type 0} (form : Form P H) where
  -- the bytes read are refused, or weren't judged: neither did the source fail nor the input end
  pub read_lost : ((head : P) → IfSome (form.fault head) IsRefusal) → (b held : List ℕ) (fault : HttpFault) → HeadLost form b held fault
      → HeadReadAs form b held (Err fault) × IsHeadFault fault × IsOther H ReadFault fault × IsOther H Short fault
  read_lost only b held BadHead lost = (lost, tt, λ r is same. cc, λ r is same. cc)
  read_lost only b held HeadTooLarge lost = (lost, tt, λ r is same. cc, λ r is same. cc)
  read_lost only b held BodyTooLarge lost = absurd (refusal form only b BodyTooLarge lost.0)
  read_lost only b held NoLength lost = (lost, tt, λ r is same. cc, λ r is same. cc)
  read_lost only b held Coding lost = (lost, tt, λ r is same. cc, λ r is same. cc)
  read_lost only b held Short lost = absurd (refusal form only b Short lost.0)
  read_lost only b held ReadFault lost = absurd (refusal form only b ReadFault lost.0)
  read_lost only b held NoMemory lost = (lost, tt, λ r is same. cc, λ r is same. cc)

  -- where no head was found, a part of one is held
  pub found_none : (IsPart : List ℕ → Type 0) (b held : List ℕ) (found : Option H) → HeadFound form IsPart b held (Ok found) → ((head : H) → found ≡ Some head → ⊥) → IsPart b × (held ≡ b)
  found_none IsPart b held None part lacks = part
  found_none IsPart b held (Some head) part lacks = absurd (lacks head refl)

-- ---- when a source is read

module _ {R : Type 0} (left : R → Option (List ℕ)) (looks : R → Look → Type 0) where
  -- no read began
  pub looks_none : (w w' : WireView R) (P : List ℕ → Option (List ℕ) → Type 0) → w'.source ≡ w.source → Looks left looks w w' P
  looks_none w w' P same = λ look is. inl (subst (λ s. looks s look) same is)

  -- none began then
  pub looks_still : (w m w' : WireView R) (P : List ℕ → Option (List ℕ) → Type 0) → Looks left looks w m P → w'.source ≡ m.source → Looks left looks w w' P
  looks_still w m w' P first same = λ look is. first look (subst (λ s. looks s look) same is)

  -- one began with what is held
  pub looks_one : (w w' : WireView R) (passed : Option (List ℕ))
      → ((look : Look) → looks w'.source look → looks w.source look ⊎ (look ≡ record { left = left w.source; passed = passed }))
      → Looks left looks w w' (Beside passed (λ b. b ≡ w.held))
  looks_one w w' passed one = λ look is.
      elim (one look is) [
        | inl before ↦ inl before
        | inr now ↦
            inr
            (subst (LookedAt (left w.source) w.held (Beside passed (λ b. b ≡ w.held))) (sym now)
            (record { got = []; told = front_none (left w.source); are = (append-nil w.held, refl) }))
      ]

  -- the same in other words
  pub looks_as : (w w' : WireView R) (P Q : List ℕ → Option (List ℕ) → Type 0) → Looks left looks w w' P → ((b : List ℕ) (passed : Option (List ℕ)) → P b passed → Q b passed) → Looks left looks w w' Q
  looks_as w w' P Q first as_ = λ look is.
      elim (first look is) [
        | inl before ↦ inl before
        | inr at ↦ inr (record { got = at.got; told = at.told; are = as_ (w.held ++ at.got) look.passed at.are })
      ]

  -- some began, and then others behind what was read
  pub looks_then : (w0 w w' : WireView R) (P : List ℕ → Type 0) (Q S : List ℕ → Option (List ℕ) → Type 0) → Looks left looks w0 w S → Reads left w0 w P → Looks left looks w w' Q
      → ((b more : List ℕ) (passed : Option (List ℕ)) → P b → Q (w.held ++ more) passed → S (b ++ more) passed) → Looks left looks w0 w' S
  looks_then w0 w w' P Q S first reads then_ joins = λ look is.
      elim (then_ look is) [
        | inl before ↦ first look before
        | inr at ↦
            inr
            (record {
              got = reads.got ++ at.got;
              told = reads.told ∙ ap (front reads.got) at.told ∙ front_twice look.left reads.got at.got;
              are = subst (λ (b : List ℕ). S b look.passed) (append_assoc w0.held reads.got at.got) (joins (w0.held ++ reads.got) at.got look.passed reads.are at.are);
            })
      ]

  -- one more began where a part of a head is held
  pub head_looks : {P H : Type 0} (form : Form P H) (w0 w w' : WireView R) (passed : Option (List ℕ)) → Looks left looks w0 w (Beside passed (AwaitedAs form)) → Reads left w0 w (λ b. b ≡ w.held) → AwaitedAs form w.held
      → Looks left looks w w' (Beside passed (λ b. b ≡ w.held)) → Looks left looks w0 w' (Beside passed (AwaitedAs form))
  head_looks form w0 w w' passed first reads waits then_ =
      looks_then w0 w w' (λ b. b ≡ w.held) (Beside passed (λ b. b ≡ w.held)) (Beside passed (AwaitedAs form)) first reads then_ (λ b more passed' is looked.
      (subst (AwaitedAs form) (sym (ap (λ x. x ++ more) is ∙ looked.0)) waits, looked.1))

  -- one more began behind a part of a body, where nothing is held
  pub body_looks : (w0 w w' : WireView R) (passed : Option (List ℕ)) (body : List ℕ) (size : ℕ) → Looks left looks w0 w (Beside passed (λ b. length b < size)) → Reads left w0 w (λ b. b ≡ body ++ w.held)
      → length body < size → Looks left looks w w' (Beside passed (λ b. b ≡ [])) → Looks left looks w0 w' (Beside passed (λ b. length b < size))
  body_looks w0 w w' passed body size first reads below then_ =
      looks_then w0 w w' (λ b. b ≡ body ++ w.held) (Beside passed (λ b. b ≡ [])) (Beside passed (λ b. length b < size)) first reads then_ (λ b more passed' is looked.
      let all : length (b ++ more) ≡ length body = ap length (ap (λ x. x ++ more) is ∙ append_assoc body w.held more ∙ ap (λ x. body ++ x) looked.0 ∙ append-nil body) in
      (omega (arith, all, below), looked.1))
