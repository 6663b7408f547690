-- Where names stand: two never stand at one path.
use Rattle.std.proofs.Common.{◌≡◌, ◌≢◌, ◌==◌, ◌∙◌, ◌&&◌, ◌++◌, ◌∷◌, ℕ, Bool, true, false, cond, not, List, [], None, drop, get_or, length, ap, codes, refl, subst, sym}
use Rattle.std.specs.Prelude.{IsTrue}
use Rattle.std.specs.List.{list_all, starts_with}
use Rattle.std.specs.Str.Pattern.{FindsTextPrefix, StripsPrefix}
use Rattle.std.proofs.lemmas.List.{append_cancel_left}
use Rattle.std.proofs.lemmas.List.Elements.{All-weaker}
use Rattle.std.proofs.lemmas.List.Splits.{slice_split_none}
use Rattle.std.proofs.lemmas.List.Sums.{AllPass-from_list_all}
use Rattle.std.proofs.lemmas.Slice.Eq.{starts_is}
use Rattle.std.proofs.lemmas.Bool.Decides.{Decides-eqb}
use Rattle.std.proofs.lemmas.Str.Pattern.{starts_text}
use Rattle.std.proofs.lemmas.Bool.{not-true}
use Rattle.cv_base.specs.Path.{Path, is_dots, last_name_of}
use Rattle.cv_base.specs.PathText.{parts_of}
use Rattle.cv_base.proofs.Laws.{first_true, second_true}
use Rattle.cv_system.specs.Names.{is_name, is_own, is_part, is_way, last_part, path_of, stands_at}
use Rattle.cv_system.proofs.LastParts.{last_behind, some_part}

-- what a way stands at
on_disk : List ℕ → List ℕ
on_disk part = codes ".cvkit-txn-" ++ part

-- what stands behind a front
stripped : (front text rest : List ℕ) → StripsPrefix (FindsTextPrefix front) text rest → text ≡ front ++ rest
stripped front text rest (n, finds, is, size) = finds.1 ∙ ap (λ (l : List ℕ). front ++ l) (sym is)

-- a text behind `txn/`, where it is one part, and where it isn't
pub a_way : (name rest : List ℕ) → StripsPrefix (FindsTextPrefix (codes "txn/")) name rest → list_all (λ b. not (b == 47)) rest ≡ true → stands_at name ≡ codes ".cvkit-txn-" ++ rest
unfolding stands_at
a_way name rest strips free = ap stands_at (stripped (codes "txn/") name rest strips) ∙ ap (λ b. cond b (codes ".cvkit-txn-" ++ rest) (codes "txn/" ++ rest)) free

pub more_parts : (name rest : List ℕ) → StripsPrefix (FindsTextPrefix (codes "txn/")) name rest → list_all (λ b. not (b == 47)) rest ≡ false → stands_at name ≡ name
unfolding stands_at
more_parts name rest strips slash =
    let whole = stripped (codes "txn/") name rest strips in
    ap stands_at whole ∙ ap (λ b. cond b (codes ".cvkit-txn-" ++ rest) (codes "txn/" ++ rest)) slash ∙ sym whole

-- what an own file of the vault's folder has the part of
pub at_own : (place rest : List ℕ) → StripsPrefix (FindsTextPrefix (codes ".cvkit-txn-")) place rest → list_all (λ b. not (b == 47)) rest ≡ true → stands_at (codes "txn/" ++ rest) ≡ place
unfolding stands_at
at_own place rest strips free = ap (λ b. cond b (codes ".cvkit-txn-" ++ rest) (codes "txn/" ++ rest)) free ∙ sym (stripped (codes ".cvkit-txn-") place rest strips)

-- what doesn't begin so stands at itself
pub another_front : (name : List ℕ) → FindsTextPrefix (codes "txn/") name None → stands_at name ≡ name
unfolding stands_at
another_front name none = ap (λ b. cond (b && list_all (λ b. not (b == 47)) (drop 4 name)) (codes ".cvkit-txn-" ++ drop 4 name) name) (sym (starts_text false (codes "txn/") name none))

-- a text without a slash is one part
sole_part : (bytes : List ℕ) → list_all (λ b. not (b == 47)) bytes ≡ true → parts_of bytes ≡ bytes ∷ []
sole_part bytes free =
    slice_split_none (λ b. b == 47) bytes
    (All-weaker (λ b. not (b == 47) ≡ true) (λ b. (b == 47) ≡ false) (λ b plain. not-true (b == 47) plain) bytes (AllPass-from_list_all (λ b. not (b == 47)) bytes free))

not_own : (a b c : Bool) → (a && b && not c) ≡ true → c ≡ false
not_own false b c h = absurd (cc)
not_own true false c h = absurd (cc)
not_own true true false h = refl
not_own true true true h = absurd (cc)

differ : true ≡ false → ⊥
differ h = absurd (cc)

-- a way stands at no name: that is the adapter's own
no_name : (part : List ℕ) → list_all (λ b. not (b == 47)) part ≡ true → IsTrue (is_name (on_disk part)) → ⊥
unfolding on_disk
no_name part free named =
    let parts : list_all is_part (parts_of (on_disk part)) ≡ true = second_true (list_all (λ b. not (b == 0)) (on_disk part)) (list_all is_part (parts_of (on_disk part))) named in
    let sole : list_all is_part (on_disk part ∷ []) ≡ true = subst (λ (all : List (List ℕ)). list_all is_part all ≡ true) (sole_part (on_disk part) free) parts in
    let is : is_part (on_disk part) ≡ true = first_true (is_part (on_disk part)) true sole in
    differ (not_own (not (length (on_disk part) == 0)) (not (is_dots (on_disk part))) (is_own (on_disk part)) is)

-- a way is its part behind `txn/`, which has no slash
way_is : (name : List ℕ) → is_way name ≡ true → name ≡ codes "txn/" ++ drop 4 name
way_is name h = (starts_is Decides-eqb name (codes "txn/") _ refl).0 (first_true (starts_with (λ a b. a == b) name (codes "txn/")) (list_all (λ b. not (b == 47)) (drop 4 name)) h)

way_free : (name : List ℕ) → is_way name ≡ true → list_all (λ b. not (b == 47)) (drop 4 name) ≡ true
way_free name h = second_true (starts_with (λ a b. a == b) name (codes "txn/")) (list_all (λ b. not (b == 47)) (drop 4 name)) h

apart : (one other : List ℕ) → IsTrue (is_name one) → IsTrue (is_name other) → (way way' : Bool) → is_way one ≡ way → is_way other ≡ way'
    → cond way (on_disk (drop 4 one)) one ≡ cond way' (on_disk (drop 4 other)) other → one ≡ other
unfolding on_disk
apart one other named named' true true is is' same = way_is one is ∙ ap (λ (l : List ℕ). codes "txn/" ++ drop 11 l) same ∙ sym (way_is other is')
apart one other named named' true false is is' same = absurd (no_name (drop 4 one) (way_free one is) (subst (λ (l : List ℕ). IsTrue (is_name l)) (sym same) named'))
apart one other named named' false true is is' same = absurd (no_name (drop 4 other) (way_free other is') (subst (λ (l : List ℕ). IsTrue (is_name l)) same named))
apart one other named named' false false is is' same = same

-- the last of a name's parts is one of a name
last_passes : (first : List ℕ) (more : Path) → list_all is_part (first ∷ more) ≡ true → is_part (last_name_of (first ∷ more)) ≡ true
last_passes first [] h = first_true (is_part first) true h
last_passes first (second ∷ more) h = last_passes second more (second_true (is_part first) (list_all is_part (second ∷ more)) h)

last_of_name : (name : List ℕ) → IsTrue (is_name name) → is_part (last_part name) ≡ true
last_of_name name named =
    let parts = some_part name in
    let all : list_all is_part (parts_of name) ≡ true = second_true (list_all (λ b. not (b == 0)) name) (list_all is_part (parts_of name)) named in
    subst (λ (p : Path). is_part (last_name_of p) ≡ true) (sym parts.2) (last_passes parts.0 parts.1 (subst (λ (p : Path). list_all is_part p ≡ true) parts.2 all))

no_next : (name : List ℕ) → IsTrue (is_name name) → (way : Bool) → is_way name ≡ way → last_part (cond way (on_disk (drop 4 name)) name) ≡ codes ".cvkit-next" → ⊥
unfolding on_disk
no_next name named true is same =
    let sole : on_disk (drop 4 name) ≡ codes ".cvkit-next" = ap last_name_of (sym (sole_part (on_disk (drop 4 name)) (way_free name is))) ∙ same in
    differ (ap (λ (l : List ℕ). get_or l 7 0 == 116) sole)
no_next name named false is same = differ (sym (last_of_name name named) ∙ ap is_part same)

-- no name stands at the next file of a folder
pub never_next : (root name : List ℕ) → IsTrue (is_name name) → last_part (path_of root name) ≢ codes ".cvkit-next"
unfolding on_disk stands_at
never_next root name named = λ same. no_next name named (is_way name) refl (sym (last_behind root (stands_at name)) ∙ same)

-- names that stand at one path are one
pub one_name : (root one other : List ℕ) → IsTrue (is_name one) → IsTrue (is_name other) → path_of root one ≡ path_of root other → one ≡ other
unfolding on_disk stands_at
one_name root one other named named' same =
    apart one other named named' (is_way one) (is_way other) refl refl (ap (drop 1) (append_cancel_left root (47 ∷ stands_at one) (47 ∷ stands_at other) same))
