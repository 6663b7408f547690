-- A reply is read in one way.
use Rattle.std.proofs.Common.{◌≡◌, ◌≢◌, ◌<◌, ℕ, List, [], length, length-append, take, drop, refl, ap, sym, subst, ◌∙◌, arith}
use Rattle.std.specs.Prelude.{⊤, Option, Some, None}
use Rattle.std.proofs.lemmas.List.{take_at, drop_at}
use Rattle.httparse.proofs.GrammarLemmas.{response_unique, print_response-append}
use Rattle.cv_http.proofs.OneReading.{begins_once, begun_uncut, begun_unrefused}
use Rattle.cv_http.specs.Forms.{BeginsAs, RefusedAs, CutAs}
use Rattle.cv_http.specs.ReplyHeads.{reply_form}
use Rattle.cv_http.specs.ReplyTexts.{Passes, no_more, one_more, HasFinal, IsBody, IsTooLarge, IsShort, IsReply, IsRefusedReply, bad_head, many, too_large, IsCutReply, before_head, inside_head, inside_body, interim_code}
use Rattle.cv_http.specs.declared.reply_head.ReplyHead.{ReplyHead}
use Rattle.cv_http.specs.declared.http_reply.HttpReply.{HttpReply}
use Rattle.cv_http.specs.declared.fault.HttpFault.{HttpFault}

one_head : (b later later' : List ℕ) (head head' : ReplyHead) → BeginsAs reply_form b head later → BeginsAs reply_form b head' later' → (head ≡ head') × (later ≡ later')
one_head = begins_once reply_form response_unique

-- a head isn't interim and of another code
two_codes : {head head' : ReplyHead} → head ≡ head' → head.code ≡ interim_code → head'.code ≢ interim_code → ⊥
two_codes same is other = other (sym (ap (λ (h : ReplyHead). h.code) same) ∙ is)

one_final : {n : ℕ} {b at later : List ℕ} {head : ReplyHead} → Passes n b at → BeginsAs reply_form at head later → head.code ≢ interim_code
    → (m : ℕ) (at' later' : List ℕ) (head' : ReplyHead) → Passes m b at' → BeginsAs reply_form at' head' later' → head'.code ≢ interim_code
    → (head ≡ head') × (later ≡ later')
one_final (no_more b) begins final _ _ later' head' (no_more _) begins' final' = one_head b _ _ _ _ begins begins'
one_final (no_more b) begins final _ at' later' head' (one_more m _ next _ first is interim more) begins' final' = absurd (two_codes (sym (one_head b _ _ _ _ begins is).0) interim final)
one_final (one_more n b next at first is interim more) begins final _ _ later' head' (no_more _) begins' final' = absurd (two_codes (one_head b _ _ _ _ is begins').0 interim final')
one_final (one_more n b next at first is interim more) begins final _ at' later' head' (one_more m _ next' _ first' is' interim' more') begins' final' =
    let same = (one_head b next next' first first' is is').1 in
    one_final more begins final m at' later' head' (subst (λ (l : List ℕ). Passes m l at') (sym same) more') begins' final'

same_reply : (a b : HttpReply) → a.code ≡ b.code → a.body ≡ b.body → a ≡ b
same_reply a b code body =
    let made : ℕ → List ℕ → HttpReply = λ n l. record { code = n; body = l } in
    ap (λ (n : ℕ). made n a.body) code ∙ ap (made b.code) body

-- what the body is, and what is left behind it
one_body : (size : Option ℕ) (b body body' later later' : List ℕ) → IsBody ⊤ size b body later → IsBody ⊤ size b body' later' → (body ≡ body') × (later ≡ later')
one_body None b body body' later later' is is' = (sym is.0 ∙ is'.0, is.1 ∙ sym is'.1)
one_body (Some size) b body body' later later' is is' =
    let first = take_at body later size is.1 in
    let second = take_at body' later' size is'.1 in
    let rest = drop_at body later size is.1 in
    let rest' = drop_at body' later' size is'.1 in
    (sym first ∙ ap (take size) (sym is.0 ∙ is'.0) ∙ second, sym rest ∙ ap (drop size) (sym is.0 ∙ is'.0) ∙ rest')

pub one_reply : (b later later' : List ℕ) (reply reply' : HttpReply) → IsReply ⊤ b reply later → IsReply ⊤ b reply' later' → (reply ≡ reply') × (later ≡ later')
one_reply b later later' reply reply' is is' =
    let final = one_final is.final.reaches.passes is.final.begins is.final.final is'.final.reaches.count is'.final.at is'.behind is'.head is'.final.reaches.passes is'.final.begins is'.final.final in
    let code : reply.code ≡ reply'.code = is.code ∙ ap (λ (h : ReplyHead). h.code) final.0 ∙ sym is'.code in
    let same : IsBody ⊤ is.head.length is.behind reply'.body later' =
    subst (λ (h : ReplyHead). IsBody ⊤ h.length is.behind reply'.body later') (sym final.0)
    (subst (λ (l : List ℕ). IsBody ⊤ is'.head.length l reply'.body later') (sym final.1) is'.body) in
    let body = one_body is.head.length is.behind reply.body reply'.body later later' is.body same in
    (same_reply reply reply' code body.0, body.1)

-- ---- a reply is neither refused nor cut

-- where bytes that begin with a head aren't so, no bytes are behind the interim heads of a reply
none_behind : {n : ℕ} {b at later : List ℕ} {head : ReplyHead} (IsSo : List ℕ → Type 0) → ((x rest : List ℕ) (h : ReplyHead) → BeginsAs reply_form x h rest → IsSo x → ⊥)
    → Passes n b at → BeginsAs reply_form at head later → head.code ≢ interim_code → (m : ℕ) (at' : List ℕ) → Passes m b at' → IsSo at' → ⊥
none_behind IsSo none (no_more b) begins final _ _ (no_more _) so = none b _ _ begins so
none_behind IsSo none (no_more b) begins final _ at' (one_more m _ next _ first is interim more) so = two_codes (sym (one_head b _ _ _ _ begins is).0) interim final
none_behind IsSo none (one_more n b next at first is interim more) begins final _ _ (no_more _) so = none b _ _ is so
none_behind IsSo none (one_more n b next at first is interim more) begins final _ at' (one_more m _ next' _ first' is' interim' more') so =
    let same = (one_head b next next' first first' is is').1 in
    none_behind IsSo none more begins final m at' (subst (λ (l : List ℕ). Passes m l at') (sym same) more') so

-- behind its interim heads stand no more of them
no_further : {n : ℕ} {b at later : List ℕ} {head : ReplyHead} → Passes n b at → BeginsAs reply_form at head later → head.code ≢ interim_code
    → (m : ℕ) (at' : List ℕ) → Passes m b at' → n < m → ⊥
no_further (no_more b) begins final _ _ (no_more _) below = omega (arith, below)
no_further (no_more b) begins final _ at' (one_more m _ next _ first is interim more) below = two_codes (sym (one_head b _ _ _ _ begins is).0) interim final
no_further (one_more n b next at first is interim more) begins final _ _ (no_more _) below = omega (arith, below)
no_further (one_more n b next at first is interim more) begins final _ at' (one_more m _ next' _ first' is' interim' more') below =
    let same = (one_head b next next' first first' is is').1 in
    no_further more begins final m at' (subst (λ (l : List ℕ). Passes m l at') (sym same) more') (omega (arith, below))

-- no head is empty
none_empty : (x rest : List ℕ) (h : ReplyHead) → BeginsAs reply_form x h rest → x ≡ [] → ⊥
none_empty x rest h begins empty =
    let all = ap length (sym empty ∙ begins.has.reads.1 ∙ print_response-append begins.parsed rest) in
    let digits = begins.has.reads.0.digits.0 in
    grind (arith, length-append, all, digits)

-- what stands behind the interim heads and the last head
same_final : {b behind behind' : List ℕ} {head head' : ReplyHead} → HasFinal b head behind → HasFinal b head' behind' → (head ≡ head') × (behind ≡ behind')
same_final f f' = one_final f.reaches.passes f.begins f.final f'.reaches.count f'.at _ _ f'.reaches.passes f'.begins f'.final

body_fits : (size : Option ℕ) (b body later : List ℕ) → IsBody ⊤ size b body later → IsTooLarge size b → ⊥
body_fits None b body later is large = let same = ap length is.0 in let fits = is.2 in omega (arith, same, fits, large)
body_fits (Some size) b body later is large = let fits = is.2 in omega (arith, fits, large)

body_whole : (size : Option ℕ) (b body later : List ℕ) → IsBody ⊤ size b body later → IsShort size b → ⊥
body_whole None b body later is short = short
body_whole (Some size) b body later is short = let all = ap length is.0 in let size_is = is.1 in let less = short.1 in grind (arith, length-append, all, size_is, less)

pub not_refused : (b later : List ℕ) (reply : HttpReply) (fault : HttpFault) → IsReply ⊤ b reply later → IsRefusedReply b fault → ⊥
not_refused b later reply fault is (bad_head at _ reaches refused) =
    none_behind (λ x. RefusedAs reply_form x fault) (λ x rest h begins so. begun_unrefused reply_form response_unique begins so)
    is.final.reaches.passes is.final.begins is.final.final reaches.count at reaches.passes refused
not_refused b later reply _ is (many at passes) =
    let limit = is.final.reaches.limit in
    no_further is.final.reaches.passes is.final.begins is.final.final _ at passes (omega (arith, limit))
not_refused b later reply _ is (too_large head behind final large) =
    let same = same_final final is.final in
    body_fits is.head.length is.behind reply.body later is.body
    (subst (λ (h : ReplyHead). IsTooLarge h.length is.behind) same.0 (subst (λ (l : List ℕ). IsTooLarge head.length l) same.1 large))

pub not_cut : (b later : List ℕ) (reply : HttpReply) → IsReply ⊤ b reply later → IsCutReply b → ⊥
not_cut b later reply is (before_head reaches) =
    none_behind (λ x. x ≡ []) none_empty is.final.reaches.passes is.final.begins is.final.final reaches.count [] reaches.passes refl
not_cut b later reply is (inside_head at reaches cut) =
    none_behind (CutAs reply_form) (λ x rest h begins so. begun_uncut reply_form begins so)
    is.final.reaches.passes is.final.begins is.final.final reaches.count at reaches.passes cut
not_cut b later reply is (inside_body head behind final short) =
    let same = same_final final is.final in
    body_whole is.head.length is.behind reply.body later is.body
    (subst (λ (h : ReplyHead). IsShort h.length is.behind) same.0 (subst (λ (l : List ℕ). IsShort head.length l) same.1 short))
