-- Bytes are read as a record exactly where they spell it.
use Rattle.std.proofs.Common.{◌≡◌, ℕ, ◌≤◌, ◌==◌, Bool, true, false, cond, List, [], ◌∷◌, ◌++◌, length, codes, Result, Ok, Err, refl, sym, ap, subst, ◌∙◌, append_assoc, append-nil, arith}
use Rattle.std.specs.Prelude.{bytes_eq, IfOk, nat_le}
use Rattle.std.specs.Int.{w64, to_be_bytes}
use Rattle.std.specs.List.{concat, list_all}
use Rattle.std.proofs.lemmas.Bool.{and_parts, eqb-true, eq-eqb, leb-true, le-leb}
use Rattle.std.proofs.lemmas.List.{nil_from_length}
use Rattle.std.proofs.lemmas.Slice.Eq.{bytes_eq-Decides}
use Rattle.hex.specs.Hex.{IsBytes}
use Rattle.cv_base.specs.Digest.{IsDigest}
use Rattle.cv_base.specs.Fields.{bad, bytes_at, text_field}
use Rattle.cv_base.specs.Path.{Path, IsPath, text_of}
use Rattle.cv_base.specs.PathText.{path_named}
use Rattle.cv_base.specs.Sequence.{◌>>=◌}
use Rattle.cv_base.specs.Target.{is_target, target_of}
use Rattle.cv_base.specs.Unless.{IsUnless}
use Rattle.cv_base.specs.declared.limits.TheConstants.{KEY_ID_LIMIT, LAST_REVISION, LAST_TIME, TAG_LIMIT}
use Rattle.cv_base.specs.declared.repo_path.TheConstants.{PATH_LIMIT}
use Rattle.cv_base.specs.declared.token.Token.{Token}
use Rattle.cv_base.proofs.Laws.{guard_ended, bytes_again, path_named-own, path_named-is, bytes_itself, ok_is}
use Rattle.cv_history.specs.Record.{IsFirst, IsRecord, IsTyped, Spells, no_hash, is_tag_byte}
use Rattle.cv_history.specs.Reading.{where_first, limit_of, is_revision, revision_at, hash_at, token_at, time_at, path_at, key_at, tag_of, tag_at, record_of}
use Rattle.cv_history.specs.declared.record.Record.{Record}
use Rattle.cv_history.specs.declared.record_fault.RecordFault.{RecordFault}
use Rattle.cv_history.specs.declared.record_fault.RecordFault.TheVariants.{BadRecord, NoMemory}
use Rattle.cv_history.proofs.FieldLaws.{bind_then, revision_takes, revision_again, root_takes, hash_takes, hash_again, IsToken, token_takes, token_again, time_takes, time_again, text_takes, text_again}
use Rattle.cv_history.proofs.TextValues.{target_is, target_again, tag_is, tag_again}

-- a record as its fields may stand
record HasFields (first : Bool) (r : Record) : Type 0 where
  revision : is_revision r.revision ≡ true
  previous : IsDigest r.previous
  no_previous : where_first first (bytes_eq r.previous no_hash) ≡ true
  root : IsDigest r.root
  offered : IsDigest r.offered
  same_root : where_first first (bytes_eq r.offered r.root) ≡ true
  token : IsToken first r.token
  path : IsPath r.path
  short_path : length (text_of r.path) ≤ limit_of first PATH_LIMIT
  key : is_target r.key ≡ true
  short_key : length r.key ≤ limit_of first KEY_ID_LIMIT
  time : r.time ≤ LAST_TIME
  tag : is_target r.tag ≡ true
  short_tag : length r.tag ≤ limit_of first TAG_LIMIT
  tag_bytes : list_all is_tag_byte r.tag ≡ true

-- ---- those fields are the limits of a record

where_right : (first right : Bool) → (first ≡ true → right ≡ true) → where_first first right ≡ true
where_right true right h = h refl
where_right false right h = refl

right_where : (first right : Bool) → where_first first right ≡ true → first ≡ true → right ≡ true
right_where true right h e = h
right_where false right h e = cc

limit_right : (first : Bool) (limit n : ℕ) → (first ≡ true → n ≡ 0) → n ≤ limit → n ≤ limit_of first limit
limit_right true limit n h most = omega (arith, h refl)
limit_right false limit n h most = most

limit_left : (first : Bool) (limit n : ℕ) → n ≤ limit_of first limit → n ≤ limit
limit_left true limit n h = omega arith
limit_left false limit n h = h

limit_none : (first : Bool) (limit n : ℕ) → first ≡ true → n ≤ limit_of first limit → n ≡ 0
limit_none true limit n e h = omega arith
limit_none false limit n e h = cc

no_names : (path : Path) → length (text_of path) ≡ 0 → path ≡ []
no_names [] h = refl
no_names (name ∷ path) h = absurd (omega arith)

is_first : (r : Record) → IsRecord r → (r.revision == 1) ≡ true → IsFirst r
is_first r h e = h.first (eqb-true r.revision 1 e)

fields_of : (r : Record) → IsTyped r → IsRecord r → HasFields (r.revision == 1) r
fields_of r t h =
    let first : Bool = r.revision == 1 in
    record {
      revision = rw (le-leb 1 r.revision h.from_one, le-leb r.revision LAST_REVISION h.revision) refl;
      previous = t.previous;
      no_previous = where_right first (bytes_eq r.previous no_hash) (λ e. bytes_itself r.previous no_hash (is_first r h e).previous);
      root = t.root;
      offered = t.offered;
      same_root = where_right first (bytes_eq r.offered r.root) (λ e. bytes_itself r.offered r.root (is_first r h e).offered);
      token = record {
        epoch = t.epoch;
        number = t.number;
        no_epoch = where_right first (r.token.epoch == 0) (λ e. eq-eqb r.token.epoch 0 (is_first r h e).epoch);
        no_number = where_right first (r.token.number == 0) (λ e. eq-eqb r.token.number 0 (is_first r h e).number);
      };
      path = t.path;
      short_path = limit_right first PATH_LIMIT (length (text_of r.path)) (λ e. ap (λ (p : Path). length (text_of p)) (is_first r h e).path) t.path.size;
      key = t.key;
      short_key = limit_right first KEY_ID_LIMIT (length r.key) (λ e. ap length (is_first r h e).key) h.key;
      time = h.time;
      tag = t.tag;
      short_tag = limit_right first TAG_LIMIT (length r.tag) (λ e. ap length (is_first r h e).tag) h.tag;
      tag_bytes = h.tag_bytes;
    }

typed_of : (first : Bool) (r : Record) → HasFields first r → IsTyped r
typed_of first r f = record {
  previous = f.previous;
  root = f.root;
  offered = f.offered;
  epoch = f.token.epoch;
  number = f.token.number;
  path = f.path;
  key = f.key;
  tag = f.tag;
}

first_is : (first : Bool) (r : Record) → HasFields first r → first ≡ true → IsFirst r
first_is first r f e = record {
  previous = (bytes_eq-Decides r.previous no_hash).0 (right_where first (bytes_eq r.previous no_hash) f.no_previous e);
  offered = (bytes_eq-Decides r.offered r.root).0 (right_where first (bytes_eq r.offered r.root) f.same_root e);
  epoch = eqb-true r.token.epoch 0 (right_where first (r.token.epoch == 0) f.token.no_epoch e);
  number = eqb-true r.token.number 0 (right_where first (r.token.number == 0) f.token.no_number e);
  path = no_names r.path (limit_none first PATH_LIMIT (length (text_of r.path)) e f.short_path);
  key = nil_from_length r.key (limit_none first KEY_ID_LIMIT (length r.key) e f.short_key);
  tag = nil_from_length r.tag (limit_none first TAG_LIMIT (length r.tag) e f.short_tag);
}

limits_of : (r : Record) → HasFields (r.revision == 1) r → IsRecord r
limits_of r f =
    let first : Bool = r.revision == 1 in
    let revision = and_parts (nat_le 1 r.revision) (nat_le r.revision LAST_REVISION) f.revision in
    record {
      from_one = leb-true 1 r.revision revision.0;
      revision = leb-true r.revision LAST_REVISION revision.1;
      key = limit_left first KEY_ID_LIMIT (length r.key) f.short_key;
      time = f.time;
      tag = limit_left first TAG_LIMIT (length r.tag) f.short_tag;
      tag_bytes = f.tag_bytes;
      first = λ is. first_is first r f (eq-eqb r.revision 1 is);
    }

-- ---- what is spelled is read

pub record_again : (text : List ℕ) (r : Record) → Spells text r → record_of text ≡ Ok r
unfolding record_of
record_again text r s =
    let all = length text in
    let first : Bool = r.revision == 1 in
    let f = fields_of r s.typed s.limits in
    let path = text_of r.path in
    let tag : List ℕ = text_field r.tag ++ [] in
    let time : List ℕ = to_be_bytes w64 r.time ++ tag in
    let key : List ℕ = text_field r.key ++ time in
    let named : List ℕ = text_field path ++ key in
    let token : List ℕ = to_be_bytes w64 r.token.epoch ++ (to_be_bytes w64 r.token.number ++ named) in
    let offered : List ℕ = r.offered ++ token in
    let root : List ℕ = r.root ++ offered in
    let previous : List ℕ = r.previous ++ root in
    let whole : text ≡ codes "CVH1" ++ (to_be_bytes w64 r.revision ++ previous) = s.bytes in
    rw (
      ap (revision_at all) whole ∙ revision_again all r.revision previous (omega (arith, s.limits.revision)) f.revision,
      hash_again all first no_hash r.previous root f.previous.size f.no_previous,
      bytes_again (BadRecord all) 20 r.root offered f.root.size,
      hash_again all first r.root r.offered token f.offered.size f.same_root,
      token_again all first r.token named f.token,
      text_again all (limit_of first PATH_LIMIT) path_named path r.path key (omega (arith, f.path.size)) f.short_path (path_named-own r.path f.path),
      text_again all (limit_of first KEY_ID_LIMIT) target_of r.key r.key time (omega (arith, s.limits.key)) f.short_key (target_again r.key f.key),
      time_again all r.time tag f.time,
      text_again all (limit_of first TAG_LIMIT) tag_of r.tag r.tag [] (omega (arith, s.limits.tag)) f.short_tag (tag_again r.tag f.tag f.tag_bytes),
    ) refl

-- bytes spell one record at most
pub one_record : (text : List ℕ) (a b : Record) → Spells text a → Spells text b → a ≡ b
one_record text a b s t = ok_is a b (sym (record_again text a s) ∙ record_again text b t)

-- ---- what is read was spelled

-- reading on from each field, by what was read before
abbrev made : ℕ → List ℕ → List ℕ → List ℕ → Token → Path → List ℕ → ℕ → List ℕ → Record
made revision previous root offered token path key time tag =
    record { revision = revision; previous = previous; root = root; offered = offered; token = token; path = path; key = key; time = time; tag = tag }

abbrev from_end : ℕ → Record → List ℕ → Result Record RecordFault
from_end all r rest = cond (length rest == 0) (Ok r) (Err (bad BadRecord all rest))

abbrev from_tag : ℕ → ℕ → List ℕ → List ℕ → List ℕ → Token → Path → List ℕ → ℕ × List ℕ → Result Record RecordFault
from_tag all n previous root offered token path key time =
    tag_at all (n == 1) time.1 >>= λ tag. from_end all (made n previous root offered token path key time.0 tag.0) tag.1

abbrev from_time : ℕ → ℕ → List ℕ → List ℕ → List ℕ → Token → Path → List ℕ × List ℕ → Result Record RecordFault
from_time all n previous root offered token path key = time_at all key.1 >>= from_tag all n previous root offered token path key.0

abbrev from_key : ℕ → ℕ → List ℕ → List ℕ → List ℕ → Token → Path × List ℕ → Result Record RecordFault
from_key all n previous root offered token path = key_at all (n == 1) path.1 >>= from_time all n previous root offered token path.0

abbrev from_path : ℕ → ℕ → List ℕ → List ℕ → List ℕ → Token × List ℕ → Result Record RecordFault
from_path all n previous root offered token = path_at all (n == 1) token.1 >>= from_key all n previous root offered token.0

abbrev from_token : ℕ → ℕ → List ℕ → List ℕ → List ℕ × List ℕ → Result Record RecordFault
from_token all n previous root offered = token_at all (n == 1) offered.1 >>= from_path all n previous root offered.0

abbrev from_offered : ℕ → ℕ → List ℕ → List ℕ × List ℕ → Result Record RecordFault
from_offered all n previous root = hash_at all (n == 1) root.0 root.1 >>= from_token all n previous root.0

abbrev from_root : ℕ → ℕ → List ℕ × List ℕ → Result Record RecordFault
from_root all n previous = bytes_at (BadRecord all) 20 previous.1 >>= from_offered all n previous.0

abbrev from_previous : ℕ → ℕ × List ℕ → Result Record RecordFault
from_previous all revision = hash_at all (revision.0 == 1) no_hash revision.1 >>= from_root all revision.0

-- fields one behind another
joined : (text a b c d e f g h i j k r1 r2 r3 r4 r5 r6 r7 r8 r9 : List ℕ) → text ≡ (a ++ b) ++ r1 → r1 ≡ c ++ r2 → r2 ≡ d ++ r3 → r3 ≡ e ++ r4 → r4 ≡ (f ++ g) ++ r5 → r5 ≡ h ++ r6 → r6 ≡ i ++ r7 → r7 ≡ j ++ r8
    → r8 ≡ k ++ r9 → r9 ≡ [] → text ≡ concat (a ∷ b ∷ c ∷ d ∷ e ∷ f ∷ g ∷ h ∷ i ∷ j ∷ k ∷ [])
joined text a b c d e f g h i j k r1 r2 r3 r4 r5 r6 r7 r8 r9 h1 h2 h3 h4 h5 h6 h7 h8 h9 none =
    rw (h1, h2, h3, h4, h5, h6, h7, h8, h9, none) (simp (append_assoc, append-nil))

-- what was read of each field, and what followed it
record IsReadBy (text : List ℕ) (r : Record) : Type 0 where
  behind_revision : List ℕ
  behind_previous : List ℕ
  behind_root : List ℕ
  behind_offered : List ℕ
  behind_token : List ℕ
  behind_path : List ℕ
  behind_key : List ℕ
  behind_time : List ℕ
  behind_tag : List ℕ
  revision : revision_at (length text) text ≡ Ok (r.revision, behind_revision)
  previous : hash_at (length text) (r.revision == 1) no_hash behind_revision ≡ Ok (r.previous, behind_previous)
  root : bytes_at (BadRecord (length text)) 20 behind_previous ≡ Ok (r.root, behind_root)
  offered : hash_at (length text) (r.revision == 1) r.root behind_root ≡ Ok (r.offered, behind_offered)
  token : token_at (length text) (r.revision == 1) behind_offered ≡ Ok (r.token, behind_token)
  path : path_at (length text) (r.revision == 1) behind_token ≡ Ok (r.path, behind_path)
  key : key_at (length text) (r.revision == 1) behind_path ≡ Ok (r.key, behind_key)
  time : time_at (length text) behind_key ≡ Ok (r.time, behind_time)
  tag : tag_at (length text) (r.revision == 1) behind_time ≡ Ok (r.tag, behind_tag)
  end : behind_tag ≡ []

is_read_by : (text : List ℕ) (r : Record) → record_of text ≡ Ok r → IsReadBy text r
unfolding record_of
is_read_by text r e =
    let all = length text in
    let Found : Type 0 = IsReadBy text r in
    bind_then (revision_at all text) (from_previous all) r Found e (λ n revision e.
    bind_then (hash_at all (n.0 == 1) no_hash n.1) (from_root all n.0) r Found e (λ a previous e.
    bind_then (bytes_at (BadRecord all) 20 a.1) (from_offered all n.0 a.0) r Found e (λ b root e.
    bind_then (hash_at all (n.0 == 1) b.0 b.1) (from_token all n.0 a.0 b.0) r Found e (λ c offered e.
    bind_then (token_at all (n.0 == 1) c.1) (from_path all n.0 a.0 b.0 c.0) r Found e (λ t token e.
    bind_then (path_at all (n.0 == 1) t.1) (from_key all n.0 a.0 b.0 c.0 t.0) r Found e (λ p path e.
    bind_then (key_at all (n.0 == 1) p.1) (from_time all n.0 a.0 b.0 c.0 t.0 p.0) r Found e (λ k key e.
    bind_then (time_at all k.1) (from_tag all n.0 a.0 b.0 c.0 t.0 p.0 k.0) r Found e (λ m time e.
    bind_then (tag_at all (n.0 == 1) m.1) (λ tag. from_end all (made n.0 a.0 b.0 c.0 t.0 p.0 k.0 m.0 tag.0) tag.1) r Found e (λ g tag e.
    let found : Record = made n.0 a.0 b.0 c.0 t.0 p.0 k.0 m.0 g.0 in
    let ended = guard_ended (length g.1 == 0) (bad BadRecord all g.1) found r e in
    subst (λ (z : Record). IsReadBy text z) ended.1 (record {
      behind_revision = n.1;
      behind_previous = a.1;
      behind_root = b.1;
      behind_offered = c.1;
      behind_token = t.1;
      behind_path = p.1;
      behind_key = k.1;
      behind_time = m.1;
      behind_tag = g.1;
      revision = revision;
      previous = previous;
      root = root;
      offered = offered;
      token = token;
      path = path;
      key = key;
      time = time;
      tag = tag;
      end = nil_from_length g.1 (eqb-true (length g.1) 0 ended.0);
    }))))))))))

pub record_takes : (text : List ℕ) (r : Record) → IsBytes text → record_of text ≡ Ok r → Spells text r
record_takes text r fits e =
    let all = length text in
    let first : Bool = r.revision == 1 in
    let by = is_read_by text r e in
    let revision = revision_takes all text r.revision by.behind_revision fits by.revision in
    let previous = hash_takes all first no_hash by.behind_revision r.previous by.behind_previous revision.0.rest_fits by.previous in
    let root = root_takes all by.behind_previous r.root by.behind_root previous.0.takes.rest_fits by.root in
    let offered = hash_takes all first r.root by.behind_root r.offered by.behind_offered root.takes.rest_fits by.offered in
    let token = token_takes all first by.behind_offered r.token by.behind_token offered.0.takes.rest_fits by.token in
    let path = text_takes all (limit_of first PATH_LIMIT) path_named text_of (λ bytes x says. (path_named-is bytes x says).text_is) by.behind_token r.path by.behind_path token.0.rest_fits by.path in
    let key = text_takes all (limit_of first KEY_ID_LIMIT) target_of (λ x. x) (λ bytes x says. (target_is bytes x says).0) by.behind_path r.key by.behind_key path.takes.rest_fits by.key in
    let time = time_takes all by.behind_key r.time by.behind_time key.takes.rest_fits by.time in
    let tag = text_takes all (limit_of first TAG_LIMIT) tag_of (λ x. x) (λ bytes x says. (tag_is bytes x says).text_is) by.behind_time r.tag by.behind_tag time.0.rest_fits by.tag in
    let is_tag = tag_is r.tag r.tag tag.says in
    let has : HasFields first r = record {
      revision = revision.1;
      previous = previous.0.digest;
      no_previous = previous.1;
      root = root.digest;
      offered = offered.0.digest;
      same_root = offered.1;
      token = token.1;
      path = (path_named-is (text_of r.path) r.path path.says).is_path;
      short_path = path.short;
      key = (target_is r.key r.key key.says).1;
      short_key = key.short;
      time = time.1;
      tag = is_tag.target;
      short_tag = tag.short;
      tag_bytes = is_tag.bytes;
    } in
    record {
      typed = typed_of first r has;
      limits = limits_of r has;
      bytes = joined text (codes "CVH1") (to_be_bytes w64 r.revision) r.previous r.root r.offered (to_be_bytes w64 r.token.epoch) (to_be_bytes w64 r.token.number)
          (text_field (text_of r.path)) (text_field r.key) (to_be_bytes w64 r.time) (text_field r.tag)
          by.behind_revision by.behind_previous by.behind_root by.behind_offered by.behind_token by.behind_path by.behind_key by.behind_time by.behind_tag
          revision.0.parts previous.0.takes.parts root.takes.parts offered.0.takes.parts token.0.parts path.takes.parts key.takes.parts time.0.parts tag.takes.parts by.end;
    }

-- ---- so an answer is the record that is spelled

pub read_spells : (text : List ℕ) (answer : Result Record RecordFault) → IsBytes text → IsUnless NoMemory answer (record_of text) → IfOk answer (Spells text)
read_spells text (Ok r) fits read = record_takes text r fits (sym read)
read_spells text (Err fault) fits read = tt

pub spelled_read : (text : List ℕ) (answer : Result Record RecordFault) (r : Record) → IsUnless NoMemory answer (record_of text) → Spells text r → IsUnless NoMemory answer (Ok r)
spelled_read text answer r read s = rw (← record_again text r s) read
