-- Bytes are read in one way.
use Rattle.std.proofs.Common.{◌≡◌, ◌≤◌, ◌-◌, ◌++◌, ℕ, List, [], length, take, refl, ap, sym, subst, ◌∙◌, append-nil, length-append, ◌∷◌, arith, inl, inr}
use Rattle.std.specs.Prelude.{◌⊎◌, Some, None}
use Rattle.std.proofs.lemmas.List.{take_all}
use Rattle.httparse.specs.Grammar.{RequestHead as ParsedHead, IsRequestHead, IsField, is_token_byte, is_uri_byte, lf, EndsInTarget, print_request}
use Rattle.httparse.proofs.GrammarLemmas.{request_unique, print_request-append}
use Rattle.httparse.proofs.OpenLemmas.{letter_is_token}
use Rattle.std.proofs.lemmas.List.Elements.{All-cons, All-nil}
use Rattle.std.proofs.lemmas.Str.{IsUtf8-from_ascii}
use Rattle.std.proofs.lemmas.Str.Ascii.{IsAscii-cons, IsAscii-nil}
use Rattle.std.specs.Prelude.{IsTrue}
use Rattle.cv_http.proofs.Streams.{seen_more}
use Rattle.cv_http.specs.Forms.{Form, ReadsAs, HasNone, HasHeadAs, BeginsAs, NeverAs, RefusedAs, CutAs, window, never, large, judged}
use Rattle.cv_http.specs.Heads.{request_form, fault_of_head, Begins, Never, Refused, IsCut}
use Rattle.cv_http.specs.HeadsInner.{Unfinished}
use Rattle.cv_http.specs.declared.head.RequestHead.{RequestHead}
use Rattle.cv_http.specs.declared.fault.HttpFault.{HttpFault}
use Rattle.cv_http.specs.declared.fault.HttpFault.TheVariants.{BadHead}
use Rattle.cv_http.specs.declared.judge.TheConstants.{HEAD_LIMIT}

-- bytes are one head of the form at most
abbrev pub IsUnique : {P H : Type 0} → Form P H → Type 0
IsUnique {P} form = (b : List ℕ) (h k : P) (r q : List ℕ) → ReadsAs form b h r → ReadsAs form b k q → (h ≡ k) × (r ≡ q)

module _ {P H : Type 0} (form : Form P H) where
  -- the window has the head
  in_window : {b later : List ℕ} {parsed : P} → HasHeadAs form b parsed later → HasNone form (window b) → ⊥
  in_window {b} {later} {parsed} has none =
      let text = form.print parsed in
      let seen : window b ≡ form.print parsed ++ take (HEAD_LIMIT - length (form.print parsed)) later =
      ap window has.reads.1 ∙ seen_more HEAD_LIMIT (form.print parsed) later
      ∙ ap (λ x. x ++ take (HEAD_LIMIT - length (form.print parsed)) later) (take_all HEAD_LIMIT (form.print parsed) has.limit) in
      none parsed (take (HEAD_LIMIT - length (form.print parsed)) later) (has.reads.0, seen)

  not_never : {b later : List ℕ} {parsed : P} → HasHeadAs form b parsed later → NeverAs form b → ⊥
  not_never {b} has h = in_window has (subst (HasNone form) (append-nil (window b)) (h.never []))

  -- bytes that begin with a head aren't cut inside one
  pub begun_uncut : {b later : List ℕ} {head : H} → BeginsAs form b head later → CutAs form b → ⊥
  begun_uncut begins cut = in_window begins.has cut.unfinished.not_yet

  module _ (unique : IsUnique form) where
    same_head : {b later later' : List ℕ} {parsed parsed' : P} → HasHeadAs form b parsed later → HasHeadAs form b parsed' later'
        → (parsed ≡ parsed') × (later ≡ later')
    same_head {b} {later} {later'} {parsed} {parsed'} has has' = unique b parsed parsed' later later' has.reads has'.reads

    pub begins_once : (b later later' : List ℕ) (head head' : H) → BeginsAs form b head later → BeginsAs form b head' later' → (head ≡ head') × (later ≡ later')
    begins_once b later later' head head' begins begins' =
        let same = same_head begins.has begins'.has in
        (begins.says ∙ ap form.says same.0 ∙ sym begins'.says, same.1)

    -- nor refused
    pub begun_unrefused : {b later : List ℕ} {head : H} {fault : HttpFault} → BeginsAs form b head later → RefusedAs form b fault → ⊥
    begun_unrefused begins (never h) = not_never begins.has h
    begun_unrefused begins (large long h) = in_window begins.has h.not_yet
    begun_unrefused begins (judged parsed later fault has is) =
        let same = same_head begins.has has in
        let e : None ≡ Some fault = sym begins.faultless ∙ ap form.fault same.0 ∙ is in cc

pub one_head : (b later later' : List ℕ) (head head' : RequestHead) → Begins b head later → Begins b head' later' → (head ≡ head') × (later ≡ later')
one_head = begins_once request_form request_unique

-- no bytes complete what may become a head, but for one that ends inside its target
in_target : {b : List ℕ} → Never b → Unfinished b → EndsInTarget (window b)
in_target h open_ = elim open_.may [ inl more ↦ absurd (h.never more.0 more.1 [] more.2) | inr ends ↦ ends ]

pub not_refused : (b later : List ℕ) (head : RequestHead) (fault : HttpFault) → Begins b head later → Refused b fault → ⊥
not_refused b later head fault = begun_unrefused request_form request_unique

pub not_cut : (b later : List ℕ) (head : RequestHead) → Begins b head later → IsCut b → ⊥
not_cut b later head = begun_uncut request_form

pub one_refusal : (b : List ℕ) (fault fault' : HttpFault) → Refused b fault → Refused b fault' → (fault ≡ fault') ⊎ ((HEAD_LIMIT ≤ length b) × Never b × EndsInTarget (window b))
one_refusal b _ _ (never h) (never h') = inl refl
one_refusal b _ _ (never h) (large long open_) = inr (long, h, in_target h open_)
one_refusal b _ _ (never h) (judged parsed later fault has is) = absurd (not_never request_form has h)
one_refusal b _ _ (large long open_) (never h) = inr (long, h, in_target h open_)
one_refusal b _ _ (large long open_) (large long' open') = inl refl
one_refusal b _ _ (large long open_) (judged parsed later fault has is) = absurd (in_window request_form has open_.not_yet)
one_refusal b _ _ (judged parsed later fault has is) (never h) = absurd (not_never request_form has h)
one_refusal b _ _ (judged parsed later fault has is) (large long open_) = absurd (in_window request_form has open_.not_yet)
one_refusal b _ _ (judged parsed later fault has is) (judged parsed' later' fault' has' is') =
    let same = same_head request_form request_unique has has' in
    let e : Some fault ≡ Some fault' = sym is ∙ ap fault_of_head same.0 ∙ is' in inl (cc)

pub refused_in_target : (b : List ℕ) (fault : HttpFault) → Refused b fault → IsCut b → (fault ≡ BadHead) × Never b × EndsInTarget (window b)
refused_in_target b _ (never h) cut = (refl, h, in_target h cut.unfinished)
refused_in_target b _ (large long open_) cut = absurd (let short = cut.short in omega (arith, long, short))
refused_in_target b _ (judged parsed later fault has is) cut = absurd (in_window request_form has cut.unfinished.not_yet)

-- the least of heads, "A B HTTP/1.0" and an empty line
least : ParsedHead
least = record { blank = []; method = 65 ∷ []; target = 66 ∷ []; minor = 0; line_end = lf; fields = []; last = lf }

least_is_head : IsRequestHead least
unfolding least
least_is_head = record {
  method = (omega arith, All-cons (λ b. IsTrue (is_token_byte b)) 65 [] letter_is_token (All-nil _));
  target = (omega arith, All-cons (λ b. IsTrue (is_uri_byte b)) 66 [] refl (All-nil _));
  target_text = IsUtf8-from_ascii (66 ∷ []) (IsAscii-cons 66 [] (omega arith) IsAscii-nil);
  minor = omega arith;
  fields = All-nil IsField;
}

no_head : {parsed : ParsedHead} {later : List ℕ} → HasHeadAs request_form [] parsed later → ⊥
no_head {parsed} {later} has =
    let all = ap length (has.reads.1 ∙ print_request-append parsed later) in
    let name = has.reads.0.method.0 in
    grind (arith, length-append, all, name)

pub empty_begun : (later : List ℕ) (head : RequestHead) → Begins [] head later → ⊥
empty_begun later head begins = no_head begins.has

pub empty_refused : (fault : HttpFault) → Refused [] fault → ⊥
empty_refused _ (never h) = h.never (print_request least) least [] (least_is_head, sym (append-nil (print_request least)))
empty_refused _ (large long h) = omega (arith, long)
empty_refused _ (judged parsed later fault has is) = no_head has
