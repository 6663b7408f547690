-- What bytes ask is one thing.
use Rattle.std.proofs.Common.{◌≡◌, ◌+◌, ◌++◌, ◌∷◌, ℕ, List, [], length, refl, ap, sym, subst, ◌∙◌, arith, length-append, true, false, inl, inr}
use Rattle.std.specs.Prelude.{Bool, ◌⊎◌}
use Rattle.std.specs.declared.option.Option.TheVariants.{Some}
use Rattle.cv_base.proofs.Laws.{same_parts}
use Rattle.cv_http.specs.declared.head.RequestHead.{RequestHead}
use Rattle.cv_http.specs.declared.fault.HttpFault.{HttpFault}
use Rattle.cv_http.specs.declared.code.Code.{Code}
use Rattle.cv_http.proofs.Lemmas.{one_head, not_refused, not_cut, empty_begun, empty_refused, one_refusal, refused_in_target}
use Rattle.cv_keys.specs.declared.key.Key.{Key}
use Rattle.cv_gate.specs.Heads.{IsFront}
use Rattle.cv_session.specs.Asking.{Turned, refusing, IsNext, Opens, EndsWith, clean, closed, refused, cut, IsAsked}
use Rattle.cv_session.specs.OneAsked.{IsOpen, IsOpenBehind, IsOne}
use Rattle.cv_session.specs.Exchanges.{ends}
use Rattle.cv_session.specs.Requests.{Request, body_size, body_limit, waits, IsRequest, IsBad, head_refused, body_refused, EndsInside, inside_head, inside_body, WantsAny, payload, other, code_of_fault}
use Rattle.cv_session.specs.declared.session_end.SessionEnd.{SessionEnd}
use Rattle.cv_session.specs.declared.session_end.SessionEnd.TheVariants.{Bad}
use Rattle.cv_session.specs.declared.turn.Turn.{Turn}
use Rattle.cv_session.proofs.OneAsking.{one_turn}

-- ---- one request

same_request : (r r' : Request) → r.head ≡ r'.head → r.body ≡ r'.body → r ≡ r'
same_request r r' head body = rw (head, body) refl

pub one_request : (b later later' : List ℕ) (r r' : Request) → IsRequest b r later → IsRequest b r' later' → (r ≡ r') × (later ≡ later')
one_request b later later' r r' is is' =
    let same = one_head b _ _ r.head r'.head is.begins is'.begins in
    let size : length r'.body ≡ length r.body = is'.size ∙ sym (ap body_size same.0) ∙ sym is.size in
    let parts = same_parts (length r.body) r.body r'.body later later' refl size same.1 in
    (same_request r r' same.0 parts.0, parts.1)

not_bad : (b later : List ℕ) (r : Request) (fault : HttpFault) → IsRequest b r later → IsBad b fault → ⊥
not_bad b later r _ is (head_refused fault refused_) = not_refused b _ r.head fault is.begins refused_
not_bad b later r _ is (body_refused head' later' begins large) =
    let same = one_head b _ _ r.head head' is.begins begins in
    let size : body_size r.head ≡ body_size head' = ap body_size same.0 in
    let limits : body_limit r.head ≡ body_limit head' = ap body_limit same.0 in
    let limit = is.limit in omega (arith, size, limits, limit, large)

not_inside : (b later : List ℕ) (r : Request) (line : Bool) → IsRequest b r later → EndsInside b line → ⊥
not_inside b later r _ is (inside_head cut_) = not_cut b _ r.head is.begins cut_
not_inside b later r _ is (inside_body head' later' begins limit short) =
    let same = one_head b _ _ r.head head' is.begins begins in
    let size : body_size r.head ≡ body_size head' = ap body_size same.0 in
    let all : length later' ≡ length r.body + length later = ap length (sym same.1) ∙ length-append r.body later in
    let whole = is.size in omega (arith, size, all, whole, short)

pub not_empty : (later : List ℕ) (r : Request) → IsRequest [] r later → ⊥
not_empty later r is = empty_begun _ r.head is.begins

empty_bad : (fault : HttpFault) → IsBad [] fault → ⊥
empty_bad _ (head_refused fault refused_) = empty_refused fault refused_
empty_bad _ (body_refused head later begins large) = empty_begun later head begins

empty_inside : (line : Bool) → EndsInside [] line → ⊥
empty_inside _ (inside_head cut_) = cut_.some refl
empty_inside _ (inside_body head later begins limit short) = empty_begun later head begins

module _ (repository : List ℕ) (keys : List Key) where
  pub one_want : (head : RequestHead) (body : List ℕ) (turn turn' : Turn) → WantsAny repository keys head body turn → WantsAny repository keys head body turn' → turn ≡ turn'
  one_want head body _ _ (payload is) (payload is') = refl
  one_want head body _ turn' (payload is) (other _ not wants) = let both : true ≡ false = sym is ∙ not in cc
  one_want head body turn _ (other _ not wants) (payload is) = let both : true ≡ false = sym is ∙ not in cc
  one_want head body turn turn' (other _ not wants) (other _ not' wants') = one_turn repository keys head body turn turn' wants wants'

  pub next_one : (n : ℕ) (b : List ℕ) (t t' : Turned) (later later' : List ℕ) → IsNext repository keys n b t later → IsNext repository keys n b t' later' → (t ≡ t') × (later ≡ later')
  next_one n b t t' later later' next next' =
      let same = one_request b later later' next.request next'.request next.is next'.is in
      let what : t.what ≡ t'.what =
      one_want next.request.head next.request.body t.what t'.what next.wants
      (subst (λ (r : Request). WantsAny repository keys r.head r.body t'.what) (sym same.0) next'.wants) in
      let waited : t.waited ≡ t'.waited = next.waited ∙ ap (λ (r : Request). waits r.head) same.0 ∙ sym next'.waited in
      let last : t.last ≡ t'.last = next.last ∙ ap (λ (r : Request). ends r.head.last n) same.0 ∙ sym next'.last in
      (same_turned t t' what waited last, same.1)
    where
      same_turned : (t t' : Turned) → t.what ≡ t'.what → t.waited ≡ t'.waited → t.last ≡ t'.last → t ≡ t'
      same_turned t t' what waited last = rw (what, waited, last) refl

  -- ---- one end

  one_code : (fault fault' : HttpFault) (code code' : Code) → fault ≡ fault' → code_of_fault fault ≡ Some code → code_of_fault fault' ≡ Some code' → code ≡ code'
  one_code fault fault' code code' same is is' = let e : Some code ≡ Some code' = sym is ∙ ap code_of_fault same ∙ is' in cc

  one_bad : (b : List ℕ) (fault fault' : HttpFault) → IsBad b fault → IsBad b fault' → (fault ≡ fault') ⊎ IsOpen b
  one_bad b _ _ (head_refused fault refused_) (head_refused fault' refused') =
      elim (one_refusal b fault fault' refused_ refused') [ inl same ↦ inl same | inr open_ ↦ inr (record { never = open_.1; ends_ = open_.2 }) ]
  one_bad b _ _ (head_refused fault refused_) (body_refused head later begins large) = absurd (not_refused b later head fault begins refused_)
  one_bad b _ _ (body_refused head later begins large) (head_refused fault refused_) = absurd (not_refused b later head fault begins refused_)
  one_bad b _ _ (body_refused head later begins large) (body_refused head' later' begins' large') = inl refl

  bad_inside : (b : List ℕ) (fault : HttpFault) (line : Bool) → IsBad b fault → EndsInside b line → IsOpen b
  bad_inside b _ _ (head_refused fault refused_) (inside_head cut_) = let open_ = refused_in_target b fault refused_ cut_ in record { never = open_.1; ends_ = open_.2 }
  bad_inside b _ _ (head_refused fault refused_) (inside_body head later begins limit short) = absurd (not_refused b later head fault begins refused_)
  bad_inside b _ _ (body_refused head later begins large) (inside_head cut_) = absurd (not_cut b later head begins cut_)
  bad_inside b _ _ (body_refused head later begins large) (inside_body head' later' begins' limit short) =
      let same = one_head b later later' head head' begins begins' in
      let size : body_size head ≡ body_size head' = ap body_size same.0 in
      let limits : body_limit head ≡ body_limit head' = ap body_limit same.0 in
      absurd (omega (arith, size, limits, limit, large))

  one_inside : (b : List ℕ) (line line' : Bool) → EndsInside b line → EndsInside b line' → line ≡ line'
  one_inside b _ _ (inside_head cut_) (inside_head cut') = refl
  one_inside b _ _ (inside_head cut_) (inside_body head later begins limit short) = absurd (not_cut b later head begins cut_)
  one_inside b _ _ (inside_body head later begins limit short) (inside_head cut_) = absurd (not_cut b later head begins cut_)
  one_inside b _ _ (inside_body head later begins limit short) (inside_body head' later' begins' limit' short') = ap waits (one_head b later later' head head' begins begins').0

  one_end : (n : ℕ) (b : List ℕ) (ts ts' : List Turned) (line line' : Bool) (end end' : SessionEnd) → EndsWith repository keys n b ts line end → EndsWith repository keys n b ts' line' end'
      → IsOne ts line end ts' line' end' ⊎ IsOpen b
  one_end n b _ _ _ _ _ _ (clean none) (clean none') = inl (refl, refl, refl)
  one_end n b _ _ _ _ _ _ (clean none) (closed t later next last) = absurd (not_empty later next.request (subst (λ (x : List ℕ). IsRequest x next.request later) none next.is))
  one_end n b _ _ _ _ _ _ (clean none) (refused fault code bad has) = absurd (empty_bad fault (subst (λ (x : List ℕ). IsBad x fault) none bad))
  one_end n b _ _ _ _ _ _ (clean none) (cut line inside) = absurd (empty_inside line (subst (λ (x : List ℕ). EndsInside x line) none inside))
  one_end n b _ _ _ _ _ _ (closed t later next last) (clean none) = absurd (not_empty later next.request (subst (λ (x : List ℕ). IsRequest x next.request later) none next.is))
  one_end n b _ _ _ _ _ _ (closed t later next last) (closed t' later' next' last') =
      inl (ap (λ (x : Turned). x ∷ []) (next_one (n + 1) b t t' later later' next next').0, refl, refl)
  one_end n b _ _ _ _ _ _ (closed t later next last) (refused fault code bad has) = absurd (not_bad b later next.request fault next.is bad)
  one_end n b _ _ _ _ _ _ (closed t later next last) (cut line inside) = absurd (not_inside b later next.request line next.is inside)
  one_end n b _ _ _ _ _ _ (refused fault code bad has) (clean none) = absurd (empty_bad fault (subst (λ (x : List ℕ). IsBad x fault) none bad))
  one_end n b _ _ _ _ _ _ (refused fault code bad has) (closed t later next last) = absurd (not_bad b later next.request fault next.is bad)
  one_end n b _ _ _ _ _ _ (refused fault code bad has) (refused fault' code' bad' has') = elim (one_bad b fault fault' bad bad') [
    | inl same ↦ inl (ap (λ (x : Code). refusing x ∷ []) (one_code fault fault' code code' same has has'), refl, ap (λ (x : HttpFault). Bad x) same)
    | inr open_ ↦ inr open_
  ]
  one_end n b _ _ _ _ _ _ (refused fault code bad has) (cut line inside) = inr (bad_inside b fault line bad inside)
  one_end n b _ _ _ _ _ _ (cut line inside) (clean none) = absurd (empty_inside line (subst (λ (x : List ℕ). EndsInside x line) none inside))
  one_end n b _ _ _ _ _ _ (cut line inside) (closed t later next last) = absurd (not_inside b later next.request line next.is inside)
  one_end n b _ _ _ _ _ _ (cut line inside) (refused fault code bad has) = inr (bad_inside b fault line bad inside)
  one_end n b _ _ _ _ _ _ (cut line inside) (cut line' inside') = inl (refl, one_inside b line line' inside inside', refl)

  -- a request that doesn't end the session is no end
  no_end : (n : ℕ) (b : List ℕ) (t : Turned) (later : List ℕ) (ts : List Turned) (line : Bool) (end : SessionEnd) → IsNext repository keys (n + 1) b t later → t.last ≡ false → EndsWith repository keys n b ts line end → ⊥
  no_end n b t later _ _ _ next goes (clean none) = not_empty later next.request (subst (λ (x : List ℕ). IsRequest x next.request later) none next.is)
  no_end n b t later _ _ _ next goes (closed t' later' next' last') =
      let same = (next_one (n + 1) b t t' later later' next next').0 in
      let both : false ≡ true = sym goes ∙ ap (λ (x : Turned). x.last) same ∙ last' in cc
  no_end n b t later _ _ _ next goes (refused fault code bad has) = not_bad b later next.request fault next.is bad
  no_end n b t later _ _ _ next goes (cut line inside) = not_inside b later next.request line next.is inside

  one_way : (n : ℕ) (b : List ℕ) (ts ts' : List Turned) (rest rest' : List ℕ) (final final' : List Turned) (line line' : Bool) (end end' : SessionEnd) → Opens repository keys n b ts rest
      → EndsWith repository keys (n + length ts) rest final line end → Opens repository keys n b ts' rest' → EndsWith repository keys (n + length ts') rest' final' line' end'
      → IsOne (ts ++ final) line end (ts' ++ final') line' end' ⊎ IsOpenBehind repository keys n b
  one_way n b [] [] rest rest' final final' line line' end end' o e o' e' =
      let zero_ : n + 0 ≡ n = omega arith in
      let here : EndsWith repository keys n b final line end = subst (λ k. EndsWith repository keys k b final line end) zero_ (subst (λ (x : List ℕ). EndsWith repository keys (n + 0) x final line end) o e) in
      let here' : EndsWith repository keys n b final' line' end' = subst (λ k. EndsWith repository keys k b final' line' end') zero_ (subst (λ (x : List ℕ). EndsWith repository keys (n + 0) x final' line' end') o' e') in
      elim (one_end n b final final' line line' end end' here here') [ inl one ↦ inl one | inr open_ ↦ inr (record { turns_ = []; rest = b; opens = refl; open_ = open_ }) ]
  one_way n b [] (t' ∷ ts') rest rest' final final' line line' end end' o e o' e' =
      let zero_ : n + 0 ≡ n = omega arith in
      let here : EndsWith repository keys n b final line end = subst (λ k. EndsWith repository keys k b final line end) zero_ (subst (λ (x : List ℕ). EndsWith repository keys (n + 0) x final line end) o e) in
      absurd (no_end n b t' o'.0 final line end o'.1 o'.2 here)
  one_way n b (t ∷ ts) [] rest rest' final final' line line' end end' o e o' e' =
      let zero_ : n + 0 ≡ n = omega arith in
      let here' : EndsWith repository keys n b final' line' end' = subst (λ k. EndsWith repository keys k b final' line' end') zero_ (subst (λ (x : List ℕ). EndsWith repository keys (n + 0) x final' line' end') o' e') in
      absurd (no_end n b t o.0 final' line' end' o.1 o.2 here')
  one_way n b (t ∷ ts) (t' ∷ ts') rest rest' final final' line line' end end' o e o' e' =
      let same = next_one (n + 1) b t t' o.0 o'.0 o.1 o'.1 in
      let count : n + length (t ∷ ts) ≡ n + 1 + length ts = omega arith in
      let count' : n + length (t' ∷ ts') ≡ n + 1 + length ts' = omega arith in
      elim
      (one_way (n + 1) o.0 ts ts' rest rest' final final' line line' end end' o.3 (subst (λ k. EndsWith repository keys k rest final line end) count e)
      (subst (λ (x : List ℕ). Opens repository keys (n + 1) x ts' rest') (sym same.1) o'.3) (subst (λ k. EndsWith repository keys k rest' final' line' end') count' e')) [
        | inl one ↦ inl (rw (same.0, one.0) refl, one.1, one.2)
        | inr open_ ↦ inr (record { turns_ = t ∷ open_.turns_; rest = open_.rest; opens = (o.0, o.1, o.2, open_.opens); open_ = open_.open_ })
      ]

  -- ---- the turns that bytes ask first

  front_one : (t t' : Turned) (ts ts' : List Turned) → t ≡ t' → IsFront ts ts' → IsFront (t ∷ ts) (t' ∷ ts')
  front_one t t' ts ts' same front = record { more = front.more; split = ap (λ l. t' ∷ l) front.split ∙ ap (λ (x : Turned). x ∷ (ts ++ front.more)) (sym same) }

  -- of two lists of them one begins the other, and two of one length leave the same bytes
  pub one_opening : (n : ℕ) (b : List ℕ) (ts ts' : List Turned) (rest rest' : List ℕ) → Opens repository keys n b ts rest → Opens repository keys n b ts' rest' → IsFront ts ts' ⊎ IsFront ts' ts
  one_opening n b [] ts' rest rest' o o' = inl (record { more = ts'; split = refl })
  one_opening n b (t ∷ ts) [] rest rest' o o' = inr (record { more = t ∷ ts; split = refl })
  one_opening n b (t ∷ ts) (t' ∷ ts') rest rest' o o' =
      let same = next_one (n + 1) b t t' o.0 o'.0 o.1 o'.1 in
      elim (one_opening (n + 1) o.0 ts ts' rest rest' o.3 (subst (λ (x : List ℕ). Opens repository keys (n + 1) x ts' rest') (sym same.1) o'.3)) [
        | inl front ↦ inl (front_one t t' ts ts' same.0 front)
        | inr front ↦ inr (front_one t' t ts' ts (sym same.0) front)
      ]

  pub one_rest : (n : ℕ) (b : List ℕ) (ts ts' : List Turned) (rest rest' : List ℕ) → Opens repository keys n b ts rest → Opens repository keys n b ts' rest' → length ts ≡ length ts' → rest ≡ rest'
  one_rest n b [] [] rest rest' o o' size = o ∙ sym o'
  one_rest n b [] (t' ∷ ts') rest rest' o o' size = absurd (omega (arith, size))
  one_rest n b (t ∷ ts) [] rest rest' o o' size = absurd (omega (arith, size))
  one_rest n b (t ∷ ts) (t' ∷ ts') rest rest' o o' size =
      let same = next_one (n + 1) b t t' o.0 o'.0 o.1 o'.1 in
      one_rest (n + 1) o.0 ts ts' rest rest' o.3 (subst (λ (x : List ℕ). Opens repository keys (n + 1) x ts' rest') (sym same.1) o'.3) (omega (arith, size))

  -- they begin those by which the bytes end the session
  fronts : (n : ℕ) (b : List ℕ) (ts first : List Turned) (later rest : List ℕ) (final : List Turned) (line : Bool) (end : SessionEnd) → Opens repository keys n b ts later → Opens repository keys n b first rest
      → EndsWith repository keys (n + length first) rest final line end → IsFront ts (first ++ final)
  fronts n b [] first later rest final line end o o' e = record { more = first ++ final; split = refl }
  fronts n b (t ∷ ts) [] later rest final line end o o' e =
      let zero_ : n + 0 ≡ n = omega arith in
      let here : EndsWith repository keys n b final line end = subst (λ k. EndsWith repository keys k b final line end) zero_ (subst (λ (x : List ℕ). EndsWith repository keys (n + 0) x final line end) o' e) in
      absurd (no_end n b t o.0 final line end o.1 o.2 here)
  fronts n b (t ∷ ts) (t' ∷ first) later rest final line end o o' e =
      let same = next_one (n + 1) b t t' o.0 o'.0 o.1 o'.1 in
      let count : n + length (t' ∷ first) ≡ n + 1 + length first = omega arith in
      let front = fronts (n + 1) o.0 ts first later rest final line end o.3 (subst (λ (x : List ℕ). Opens repository keys (n + 1) x first rest) (sym same.1) o'.3)
      (subst (λ k. EndsWith repository keys k rest final line end) count e) in
      front_one t t' ts (first ++ final) same.0 front

  pub front_of_asked : (b : List ℕ) (ts all : List Turned) (later : List ℕ) (line : Bool) (end : SessionEnd) → Opens repository keys 0 b ts later → IsAsked repository keys b all line end → IsFront ts all
  front_of_asked b ts all later line end o a =
      let zero_ : 0 + length a.first ≡ length a.first = omega arith in
      subst (IsFront ts) (sym a.split)
      (fronts 0 b ts a.first later a.rest a.final line end o a.opens (subst (λ k. EndsWith repository keys k a.rest a.final line end) (sym zero_) a.ends_))

  -- ---- all that bytes ask

  pub one_asking : (b : List ℕ) (ts ts' : List Turned) (line line' : Bool) (end end' : SessionEnd) → IsAsked repository keys b ts line end → IsAsked repository keys b ts' line' end'
      → IsOne ts line end ts' line' end' ⊎ IsOpenBehind repository keys 0 b
  one_asking b ts ts' line line' end end' a a' =
      let zero_ : 0 + length a.first ≡ length a.first = omega arith in
      let zero' : 0 + length a'.first ≡ length a'.first = omega arith in
      elim
      (one_way 0 b a.first a'.first a.rest a'.rest a.final a'.final line line' end end' a.opens (subst (λ k. EndsWith repository keys k a.rest a.final line end) (sym zero_) a.ends_)
      a'.opens (subst (λ k. EndsWith repository keys k a'.rest a'.final line' end') (sym zero') a'.ends_)) [
        | inl one ↦ inl (a.split ∙ one.0 ∙ sym a'.split, one.1, one.2)
        | inr open_ ↦ inr open_
      ]
