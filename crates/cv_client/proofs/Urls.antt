-- A text is one URL at most.
use Rattle.std.proofs.Common.{◌≡◌, ◌≢◌, ℕ, zero, suc, ◌≤◌, true, false, List, ◌∷◌, ◌++◌, get_or, decimal, codes, Option, Some, None, refl, sym, ap, subst, ◌∙◌, arith, lit≤, append_assoc}
use Rattle.std.specs.Prelude.{IsTrue}
use Rattle.std.specs.Str.Iter.{LacksByte}
use Rattle.std.proofs.lemmas.Bool.{and_parts, false≢true}
use Rattle.std.proofs.lemmas.Fmt.{decimal_injective}
use Rattle.std.proofs.lemmas.List.{append_cancel_left}
use Rattle.std.proofs.lemmas.List.Elements.{All-get_or}
use Rattle.std.proofs.lemmas.List.Sums.{AllPass-from_list_all}
use Rattle.cv_base.specs.Name.{is_name, name_of}
use Rattle.cv_client.specs.Url.{is_host_byte, is_host, IsAuthority, IsUrl, authority_text, port_of, url_text}
use Rattle.cv_client.specs.declared.url.Url.{Url}
use Rattle.cv_client.proofs.Cuts.{not_cut, cut_once, lacks_append, decimal_lacks}

-- a byte that no host has
pub host_lacks : (c : ℕ) (host : List ℕ) → is_host_byte c ≡ false → IsTrue (is_host host) → LacksByte c host
host_lacks c host other is i below same =
    let all = AllPass-from_list_all is_host_byte host (and_parts _ _ is).1 in
    let here : is_host_byte (get_or host i 0) ≡ true = All-get_or (λ b. is_host_byte b ≡ true) host i 0 below all in
    false≢true (sym other ∙ ap is_host_byte (sym same) ∙ here)

colon_lacks : LacksByte 47 (codes ":")
colon_lacks zero below same = absurd (omega arith)
colon_lacks (suc i) below same = absurd (omega arith)

lacks_slash : (text host : List ℕ) (port : ℕ) (stated : Option ℕ) → text ≡ authority_text host stated → port ≡ port_of stated → port ≤ 65535
    → IsTrue (is_host host) → LacksByte 47 text
lacks_slash text host port None is stands high grammar = rw is (host_lacks 47 host refl grammar)
lacks_slash text host port (Some p) is stands high grammar =
    rw is (lacks_append 47 (host ++ codes ":") (decimal p) (lacks_append 47 host (codes ":") (host_lacks 47 host refl grammar) colon_lacks)
    (decimal_lacks 47 p (omega arith) (omega arith)))

-- an authority has no slash
pub authority_lacks : (text host : List ℕ) (port : ℕ) → IsAuthority text host port → LacksByte 47 text
authority_lacks text host port a = lacks_slash text host port a.stated a.is a.stands a.high a.grammar

-- a host is no authority with a port
pub host_without_port : (host host' : List ℕ) (port : ℕ) → IsTrue (is_host host) → host ≢ authority_text host' (Some port)
host_without_port host host' port grammar is =
    not_cut 58 host host' (decimal port) (host_lacks 58 host refl grammar) (is ∙ append_assoc host' (codes ":") (decimal port))

one_cut : (text host host' : List ℕ) (stated stated' : Option ℕ) → text ≡ authority_text host stated → text ≡ authority_text host' stated'
    → port_of stated ≤ 65535 → port_of stated' ≤ 65535 → IsTrue (is_host host) → IsTrue (is_host host') → (host ≡ host') × (port_of stated ≡ port_of stated')
one_cut text host host' None None is is' high high' grammar grammar' = (sym is ∙ is', refl)
one_cut text host host' None (Some p) is is' high high' grammar grammar' = absurd (host_without_port host host' p grammar (sym is ∙ is'))
one_cut text host host' (Some p) None is is' high high' grammar grammar' = absurd (host_without_port host' host p grammar' (sym is' ∙ is))
one_cut text host host' (Some p) (Some p') is is' high high' grammar grammar' =
    let whole : host ++ 58 ∷ decimal p ≡ host' ++ 58 ∷ decimal p' = sym (append_assoc host (codes ":") (decimal p)) ∙ sym is ∙ is' ∙ append_assoc host' (codes ":") (decimal p') in
    let same = cut_once 58 host host' (decimal p) (decimal p') (host_lacks 58 host refl grammar) (host_lacks 58 host' refl grammar') whole in
    (same.0, decimal_injective p p' (omega arith) (omega arith) same.1)

-- an authority is one host and port
pub one_authority : (text host host' : List ℕ) (port port' : ℕ) → IsAuthority text host port → IsAuthority text host' port' → (host ≡ host') × (port ≡ port')
one_authority text host host' port port' a a' =
    let same = one_cut text host host' a.stated a'.stated a.is a'.is (omega (arith, a.stands, a.high)) (omega (arith, a'.stands, a'.high)) a.grammar a'.grammar in
    (same.0, a.stands ∙ same.1 ∙ sym a'.stands)

all_host : (text host : List ℕ) (stated : Option ℕ) → LacksByte 58 text → text ≡ authority_text host stated → (text ≡ host) × (port_of stated ≡ 80)
all_host text host None lacks is = (is, refl)
all_host text host (Some p) lacks is = absurd (not_cut 58 text host (decimal p) lacks (is ∙ append_assoc host (codes ":") (decimal p)))

pub no_host : (front host : List ℕ) → front ≡ host → IsTrue (is_host host) → is_host front ≡ false → ⊥
no_host front host same grammar none = let is : is_host front ≡ true = ap is_host same ∙ grammar in cc

-- an authority without a colon is a host
pub without_port : (text host : List ℕ) (port : ℕ) → LacksByte 58 text → IsAuthority text host port → (text ≡ host) × (port ≡ 80)
without_port text host port lacks a =
    let same = all_host text host a.stated lacks a.is in
    (same.0, a.stands ∙ same.1)

with_stated : (text front back host : List ℕ) (stated : Option ℕ) → text ≡ front ++ 58 ∷ back → LacksByte 58 front → IsTrue (is_host host)
    → text ≡ authority_text host stated → (front ≡ host) × (back ≡ decimal (port_of stated))
with_stated text front back host None cut lacks grammar is = absurd (not_cut 58 host front back (host_lacks 58 host refl grammar) (sym is ∙ cut))
with_stated text front back host (Some p) cut lacks grammar is =
    cut_once 58 front host back (decimal p) lacks (host_lacks 58 host refl grammar) (sym cut ∙ is ∙ append_assoc host (codes ":") (decimal p))

-- an authority with a colon is a host and a port
pub with_port : (text front back host : List ℕ) (port : ℕ) → text ≡ front ++ 58 ∷ back → LacksByte 58 front → IsAuthority text host port
    → (front ≡ host) × (back ≡ decimal port)
with_port text front back host port cut lacks a =
    let same = with_stated text front back host a.stated cut lacks a.grammar a.is in
    (same.0, same.1 ∙ ap decimal (sym a.stands))

-- what is cut at its colon is the authority of its parts
pub port_stated : (text front back : List ℕ) (port : ℕ) → text ≡ front ++ 58 ∷ back → back ≡ decimal port → 1 ≤ port → port ≤ 65535 → IsTrue (is_host front)
    → IsAuthority text front port
port_stated text front back port cut is low high grammar = record {
  stated = Some port;
  is = cut ∙ ap (λ (b : List ℕ). front ++ 58 ∷ b) is ∙ sym (append_assoc front (codes ":") (decimal port));
  stands = refl;
  low = low;
  high = high;
  grammar = grammar;
}

-- a host is an authority
pub port_left : (host : List ℕ) → IsTrue (is_host host) → IsAuthority host host 80
port_left host grammar = record { stated = None; is = refl; stands = refl; low = lit≤ tt; high = lit≤ tt; grammar = grammar }

-- the text of a URL, cut behind its first parts
pub url_text-cut : (authority repository : List ℕ) → url_text authority repository ≡ codes "http://" ++ (authority ++ 47 ∷ (codes "cvmfs/" ++ repository))
url_text-cut authority repository = simp append_assoc

-- what stands behind the scheme
pub behind_scheme : (text rest authority repository : List ℕ) → text ≡ codes "http://" ++ rest → text ≡ url_text authority repository
    → rest ≡ authority ++ 47 ∷ (codes "cvmfs/" ++ repository)
behind_scheme text rest authority repository is url =
    append_cancel_left (codes "http://") _ _ (sym is ∙ url ∙ url_text-cut authority repository)

-- what stands around the slashes is the text of a URL
pub url_text-around : (text rest authority path repository : List ℕ) → text ≡ codes "http://" ++ rest → rest ≡ authority ++ 47 ∷ path → path ≡ codes "cvmfs/" ++ repository
    → text ≡ url_text authority repository
url_text-around text rest authority path repository is cut last =
    is ∙ ap (λ (x : List ℕ). codes "http://" ++ x) (cut ∙ ap (λ (x : List ℕ). authority ++ 47 ∷ x) last) ∙ sym (url_text-cut authority repository)

-- the text of a URL has one authority and one repository
pub one_text : (a a' r r' : List ℕ) → LacksByte 47 a → LacksByte 47 a' → url_text a r ≡ url_text a' r' → (a ≡ a') × (r ≡ r')
one_text a a' r r' left right is =
    let whole = sym (url_text-cut a r) ∙ is ∙ url_text-cut a' r' in
    let rest : a ++ 47 ∷ (codes "cvmfs/" ++ r) ≡ a' ++ 47 ∷ (codes "cvmfs/" ++ r') = append_cancel_left (codes "http://") _ _ whole in
    let same = cut_once 47 a a' (codes "cvmfs/" ++ r) (codes "cvmfs/" ++ r') left right rest in
    (same.0, append_cancel_left (codes "cvmfs/") r r' same.1)

-- a URL has the parts of its text
pub same_parts : (text authority repository : List ℕ) (u : Url) → LacksByte 47 authority → text ≡ url_text authority repository → IsUrl text u
    → (u.authority ≡ authority) × (u.repository ≡ repository)
same_parts text authority repository u lacks cut is =
    one_text u.authority authority u.repository repository (authority_lacks u.authority u.host u.port is.authority) lacks (sym is.is ∙ cut)

-- a text that names no repository
pub unnamed : (text : List ℕ) → IsTrue (is_name text) → name_of text ≡ None → ⊥
unnamed text named none = let some : name_of text ≡ Some text = rw named refl in cc

same_made : (make : List ℕ → ℕ → List ℕ → List ℕ → Url) (h h' a a' r r' : List ℕ) (p p' : ℕ) → h ≡ h' → p ≡ p' → a ≡ a' → r ≡ r'
    → make h p a r ≡ make h' p' a' r'
same_made make h h' a a' r r' p p' host port authority repository = cc

same_url : (u u' : Url) → u.host ≡ u'.host → u.port ≡ u'.port → u.authority ≡ u'.authority → u.repository ≡ u'.repository → u ≡ u'
same_url u u' = same_made (λ h p a r. record { host = h; port = p; authority = a; repository = r }) _ _ _ _ _ _ _ _

pub one_url : (text : List ℕ) (u u' : Url) → IsUrl text u → IsUrl text u' → u ≡ u'
one_url text u u' is is' =
    let same = same_parts text u'.authority u'.repository u (authority_lacks u'.authority u'.host u'.port is'.authority) is'.is is in
    let at = subst (λ (x : List ℕ). IsAuthority x u.host u.port) same.0 is.authority in
    let parts = one_authority u'.authority u.host u'.host u.port u'.port at is'.authority in
    same_url u u' parts.0 parts.1 same.0 same.1
