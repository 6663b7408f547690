-- The revision that a commit makes follows the newest one.
use Rattle.std.proofs.Common.{◌≡◌, ◌≢◌, ◌≤◌, ◌<◌, ◌^◌, ◌&&◌, ◌==◌, zero, suc, nat_le, slice_index, ℕ, Bool, true, false, cond, List, [], ◌∷◌, length, refl, sym, ap, subst, ◌∙◌, inl, inr, arith, rules}
use Rattle.std.specs.declared.option.Option.TheVariants.{Some}
use Rattle.std.specs.List.{list_all, find, Contains}
use Rattle.std.specs.Prelude.{reverse}
use Rattle.std.specs.Str.{is_utf8, bytes_eq}
use Rattle.std.proofs.lemmas.Bool.{ne_eqb}
use Rattle.std.proofs.lemmas.Str.{is_utf8-from_IsUtf8, IsUtf8-from_ascii}
use Rattle.cv_base.specs.Path.{Path}
use Rattle.cv_base.specs.Digest.{IsDigest}
use Rattle.cv_base.specs.Target.{is_target, is_target_byte}
use Rattle.cv_base.specs.declared.token.Token.{Token}
use Rattle.cv_base.proofs.Laws.{first_true, second_true, digest_sha1, bytes_eq-own}
use Rattle.cv_base.specs.Moment.{IsMoment}
use Rattle.cv_ports.specs.Shelf.{Shelf}
use Rattle.cv_tree.specs.Tree.{Nodes, at, put}
use Rattle.cv_tree.specs.Changes.{has_place}
use Rattle.cv_cut.specs.Catalogues.{root_of, Fits}
use Rattle.cv_cut.specs.Means.{Means}
use Rattle.cv_cut.proofs.Lemmas.{goes_to, first_there, later_there, none_there, first_or_later, Means-put, cut_covers}
use Rattle.std.proofs.lemmas.List.Sorted.{IsPermutation-reverse, Contains-permutation}
use Rattle.cv_history.specs.Record.{is_tag_byte}
use Rattle.cv_leases.specs.declared.lease.Lease.{Lease}
use Rattle.cv_base.specs.declared.limits.TheConstants.{LAST_REVISION}
use Rattle.cv_swap.specs.Kept.{Revision, record_object, IsRevision, Follows}
use Rattle.cv_cut.specs.Above.{cuts_above}
use Rattle.cv_cut.specs.Cut.{catalogue_object}
use Rattle.cv_objects.specs.Coming.{HasAll}
use Rattle.cv_gate.specs.State.{State}
use Rattle.cv_gate.specs.Commits.{committed, made}
use Rattle.cv_gate.specs.Passing.{Passes}
use Rattle.cv_gate.specs.Step.{is_key_id, is_tag}
use Rattle.cv_gate.specs.Sound.{IsHeld}

-- ---- texts

byte_not_nul : (b n : ℕ) → 1 ≤ n → nat_le n b ≡ true → is_target_byte b ≡ true
byte_not_nul b n some h =
    let low : n ≤ b = search (rules, h) in
    let other : (b == 0) ≡ false = ne_eqb b 0 (λ e. omega (arith, e, low, some)) in
    rw other refl

key_bytes : (key : List ℕ) → list_all (λ b. nat_le 33 b && nat_le b 126) key ≡ true → list_all is_target_byte key ≡ true
key_bytes [] h = refl
key_bytes (b ∷ key) h =
    let all : list_all (λ b. nat_le 33 b && nat_le b 126) key ≡ true = second_true (nat_le 33 b && nat_le b 126) (list_all (λ b. nat_le 33 b && nat_le b 126) key) h in
    let this : (nat_le 33 b && nat_le b 126) ≡ true = first_true (nat_le 33 b && nat_le b 126) (list_all (λ b. nat_le 33 b && nat_le b 126) key) h in
    rw (byte_not_nul b 33 (omega arith) (first_true (nat_le 33 b) (nat_le b 126) this)) (key_bytes key all)

key_ascii : (key : List ℕ) → list_all (λ b. nat_le 33 b && nat_le b 126) key ≡ true → (i : ℕ) → slice_index key i < 128
key_ascii [] h i = omega arith
key_ascii (b ∷ key) h zero =
    let this : (nat_le 33 b && nat_le b 126) ≡ true = first_true (nat_le 33 b && nat_le b 126) (list_all (λ b. nat_le 33 b && nat_le b 126) key) h in
    let test : nat_le b 126 ≡ true = second_true (nat_le 33 b) (nat_le b 126) this in
    let high : b ≤ 126 = search (rules, test) in
    omega (arith, high)
key_ascii (b ∷ key) h (suc i) = key_ascii key (second_true (nat_le 33 b && nat_le b 126) (list_all (λ b. nat_le 33 b && nat_le b 126) key) h) i

-- the id of a key is a text of a record
pub key_text : (key : List ℕ) → is_key_id key ≡ true → (is_target key ≡ true) × (length key ≤ 255)
key_text key h =
    let bytes : list_all (λ b. nat_le 33 b && nat_le b 126) key ≡ true = second_true (nat_le 1 (length key) && nat_le (length key) 255) _ h in
    let sizes : (nat_le 1 (length key) && nat_le (length key) 255) ≡ true = first_true _ (list_all (λ b. nat_le 33 b && nat_le b 126) key) h in
    let test : nat_le (length key) 255 ≡ true = second_true (nat_le 1 (length key)) (nat_le (length key) 255) sizes in
    let size : length key ≤ 255 = search (rules, test) in
    let more : length key ≤ 4095 = omega (arith, size) in
    let short : nat_le (length key) 4095 ≡ true = search (rules, more) in
    (rw (is_utf8-from_IsUtf8 key (IsUtf8-from_ascii key (key_ascii key bytes)), short) (key_bytes key bytes), size)

tag_bytes : (tag : List ℕ) → list_all (λ b. nat_le 32 b) tag ≡ true → list_all is_target_byte tag ≡ true
tag_bytes [] h = refl
tag_bytes (b ∷ tag) h =
    rw (byte_not_nul b 32 (omega arith) (first_true (nat_le 32 b) (list_all (λ b. nat_le 32 b) tag) h)) (tag_bytes tag (second_true (nat_le 32 b) (list_all (λ b. nat_le 32 b) tag) h))

-- so is a tag
pub tag_text : (tag : List ℕ) → is_tag tag ≡ true → (is_target tag ≡ true) × (length tag ≤ 255) × (list_all is_tag_byte tag ≡ true)
tag_text tag h =
    let bytes : list_all (λ b. nat_le 32 b) tag ≡ true = second_true (is_utf8 tag && nat_le (length tag) 255) _ h in
    let both : (is_utf8 tag && nat_le (length tag) 255) ≡ true = first_true _ (list_all (λ b. nat_le 32 b) tag) h in
    let utf8 : is_utf8 tag ≡ true = first_true (is_utf8 tag) (nat_le (length tag) 255) both in
    let test : nat_le (length tag) 255 ≡ true = second_true (is_utf8 tag) (nat_le (length tag) 255) both in
    let size : length tag ≤ 255 = search (rules, test) in
    let more : length tag ≤ 4095 = omega (arith, size) in
    let short : nat_le (length tag) 4095 ≡ true = search (rules, more) in
    (rw (utf8, short) (tag_bytes tag bytes), size, bytes)

-- ---- the tree

-- the newest tree, with what stands at the lease's path in the offered one
abbrev replaced : Revision → Lease → Nodes → Nodes
replaced head lease n = put head.tree lease.path (at n lease.path)

-- the new root means the new tree
committed_means : (s : Shelf) (now : ℕ) (head : Revision) (lease : Lease) (n : Nodes) (root tag : List ℕ) → Means s head.record_.root head.tree → Means s root n → has_place head.tree lease.path ≡ true
    → Fits (replaced head lease n) → HasAll (made (committed now head lease n root tag)) s → Means s (root_of (replaced head lease n)) (replaced head lease n)
committed_means s now head lease n root tag ht hn place fits has =
    let t : Nodes = replaced head lease n in
    let p : Path = lease.path in
    Means-put s head.record_.root root head.tree n p ht hn place fits (λ c cut up outside.
    let among : Contains (reverse (cuts_above t p)) c =
    Contains-permutation (cuts_above t p) (reverse (cuts_above t p)) c (IsPermutation-reverse (cuts_above t p)) (cut_covers t c p cut up outside) in
    has.each (catalogue_object t c) (later_there (record_object (committed now head lease n root tag)) _ (catalogue_object t c) (goes_to (catalogue_object t) (reverse (cuts_above t p)) c among)))

-- ---- the record

-- what is known of a lease and its record, beside what the commit says
pub record IsWritten (now : ℕ) (lease : Lease) : Type 0 where
  pub now_ : IsMoment now
  pub epoch : lease.token.epoch < 2 ^ 64
  pub number : lease.token.number < 2 ^ 64
  pub held : IsHeld lease

committed_follows : (s : Shelf) (now : ℕ) (head : Revision) (lease : Lease) (n : Nodes) (root tag : List ℕ) → IsRevision s head → head.record_.revision < LAST_REVISION → Means s root n → has_place head.tree lease.path ≡ true
    → IsWritten now lease → is_tag tag ≡ true → Fits (replaced head lease n) → HasAll (made (committed now head lease n root tag)) s → Follows s head (committed now head lease n root tag)
committed_follows s now head lease n root tag h room hn place w good fits has =
    let key = key_text lease.key w.held.key in
    let text = tag_text tag good in
    let from = h.limits.from_one in
    record {
      is = record {
        typed = record {
          previous = digest_sha1 _;
          root = digest_sha1 _;
          offered = subst IsDigest (sym hn.root) (digest_sha1 _);
          epoch = w.epoch;
          number = w.number;
          path = w.held.path;
          key = key.0;
          tag = text.0;
        };
        limits = record {
          from_one = omega arith;
          revision = omega (arith, room);
          key = key.1;
          time = omega (arith, w.now_);
          tag = text.1;
          tag_bytes = text.2;
          first = λ one. absurd (omega (arith, one, from));
        };
        there = has.each (record_object (committed now head lease n root tag)) (first_there _ _);
        tree = committed_means s now head lease n root tag h.tree hn place fits has;
      };
      revision = refl;
      previous = refl;
      offered = n;
      means = hn;
      replaces = refl;
    }

pub commit_follows : (st : State) (key : List ℕ) (token : Token) (old_root root tag : List ℕ) (new : Revision) → (p : Passes st key token old_root root tag new) → IsRevision st.shelf p.head
    → has_place p.head.tree p.lease.path ≡ true → IsWritten st.moment p.lease → is_tag tag ≡ true → HasAll (made new) st.shelf → Follows st.shelf p.head new
commit_follows st key token old_root root tag new p h place w good has =
    subst (λ (r : Revision). Follows st.shelf p.head r) (sym p.is)
    (committed_follows st.shelf st.moment p.head p.lease p.offered root tag h p.room p.means place w good
    (subst (λ (r : Revision). Fits r.tree) p.is p.fits) (subst (λ (r : Revision). HasAll (made r) st.shelf) p.is has))

-- ---- its tag

found : {X : Type 0} (p : X → Bool) (xs : List X) (x : X) → Contains xs x → p x ≡ true → (y : X) × (find p xs ≡ Some y)
found p [] x has pass = absurd (none_there x has)
found p (y ∷ xs) x has pass =
    elim (p y) as (λ b. p y ≡ b → (z : _) × (cond b (Some y) (find p xs) ≡ Some z)) [
      | true ↦ λ _. (y, refl)
      | false ↦ λ fails. elim (first_or_later y xs x has) [
        | inl same ↦ (let e = ap p same in absurd cc)
        | inr later ↦ found p xs x later pass
      ]
    ] refl

-- no revision has it, where it isn't empty
pub commit_tag : (st : State) (key : List ℕ) (token : Token) (old_root root : List ℕ) (new : Revision) → Passes st key token old_root root new.record_.tag new
    → (r : Revision) → Contains st.history r → r.record_.tag ≢ [] → r.record_.tag ≢ new.record_.tag
commit_tag st key token old_root root new p r has some same =
    let taken = found (λ x. bytes_eq x.record_.tag new.record_.tag) st.history r has (subst (λ (t : List ℕ). bytes_eq r.record_.tag t ≡ true) same (bytes_eq-own r.record_.tag)) in
    p.free taken.0 ((λ none. some (same ∙ none)), taken.1)
