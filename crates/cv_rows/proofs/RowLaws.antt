-- A row that is read is spelled so, and what is spelled so is read.
use Rattle.std.proofs.Common.{◌≡◌, ℕ, ◌^◌, ◌<◌, true, leb, ◌&&◌, List, [], ◌++◌, length, Option, Result, Ok, refl, sym, ap, subst, ◌∙◌, append_assoc, arith}
use Rattle.std.specs.Int.{w32, w64, to_be_bytes}
use Rattle.std.specs.List.{list_all}
use Rattle.std.specs.Str.{is_utf8}
use Rattle.std.proofs.lemmas.Bool.{eqb-true, eq-eqb, leb-true, le-leb}
use Rattle.std.proofs.lemmas.List.{nil_from_length}
use Rattle.hex.specs.Hex.{IsBytes}
use Rattle.cv_base.specs.Sequence.{◌>>=◌}
use Rattle.cv_base.specs.Target.{is_target, is_target_byte}
use Rattle.cv_base.specs.declared.attr.Attr.{Attr}
use Rattle.cv_base.proofs.Laws.{first_true, second_true, no_target, ok_is}
use Rattle.cv_rows.specs.declared.row.Row.{Row}
use Rattle.cv_rows.specs.declared.row_kind.RowKind.{RowKind}
use Rattle.cv_rows.specs.declared.row_kind.RowKind.TheVariants.{Directory, Transition, NestedRoot, File, Link}
use Rattle.cv_rows.specs.declared.row_fault.RowFault.{RowFault}
use Rattle.cv_rows.specs.declared.row_fault.RowFault.TheVariants.{Short}
use Rattle.cv_rows.specs.Row.{flags_of, is_row_name, IsKey, IsRow, HasContent, hash_field, row_bytes}
use Rattle.cv_base.specs.Fields.{bytes_at, text_field, Takes}
use Rattle.cv_rows.specs.Reading.{kind_at, attr_at, is_size, size_at, hash_at, name_at, target_limit, is_size_of, target_at, row_behind, row_at}
use Rattle.cv_base.proofs.Laws.{bind_ok, bytes_take, bytes_again}
use Rattle.cv_base.specs.Attr.{IsAttr}
use Rattle.cv_rows.proofs.RowFields.{kind_takes, kind_reads, attr_bytes, attr_takes, attr_reads, size_takes, size_reads, HashFits, hash_takes, hash_reads, name_takes, name_reads, TargetFits, target_takes, target_reads}

-- ---- what a row says of its content

no_bytes : (text : List ℕ) → leb (length text) 0 ≡ true → text ≡ []
no_bytes text h = nil_from_length text (omega (arith, leb-true (length text) 0 h))

content_fits : (kind : RowKind) (size : ℕ) (hash : Option (List ℕ)) (target : List ℕ) → is_size kind size ≡ true → HashFits kind hash → TargetFits kind size target → HasContent kind size hash target
content_fits Directory size hash target s h t = (eqb-true size 0 s, h, no_bytes target t.limit)
content_fits Transition size hash target s h t = (eqb-true size 0 s, h, no_bytes target t.limit)
content_fits NestedRoot size hash target s h t = (eqb-true size 0 s, h, no_bytes target t.limit)
content_fits File size hash target s h t = (leb-true size 16777216 s, h, no_bytes target t.limit)
content_fits Link size hash target s h t =
    let same : length target ≡ size = eqb-true (length target) size t.size_is in
    let some : leb 1 (length target) ≡ true = rw same (first_true (leb 1 size) (leb size 4095) s) in
    (sym same, h, rw (some, t.text) refl)

-- the parts of a content are those that are read
record Parts (kind : RowKind) (size : ℕ) (hash : Option (List ℕ)) (target : List ℕ) : Type 0 where
  size_is : is_size kind size ≡ true
  size_fits : size < 2 ^ 64
  hash_is : HashFits kind hash
  target_is : TargetFits kind size target

target_size : (target : List ℕ) → is_target target ≡ true → leb (length target) 4095 ≡ true
target_size target h = second_true (is_utf8 target) (leb (length target) 4095) (first_true (is_utf8 target && leb (length target) 4095) (list_all is_target_byte target) h)

empty_fits : (kind : RowKind) (size : ℕ) (target : List ℕ) → is_size_of kind size [] ≡ true → target ≡ [] → TargetFits kind size target
empty_fits kind size target same empty = subst (λ (x : List ℕ). TargetFits kind size x) (sym empty) (record { limit = le-leb 0 (target_limit kind) (omega arith); size_is = same; text = no_target })

parts_of_content : (kind : RowKind) (size : ℕ) (hash : Option (List ℕ)) (target : List ℕ) → HasContent kind size hash target → Parts kind size hash target
parts_of_content Directory size hash target h = record { size_is = eq-eqb size 0 h.0; size_fits = omega (arith, h.0); hash_is = h.1; target_is = empty_fits Directory size target refl h.2 }
parts_of_content Transition size hash target h = record { size_is = eq-eqb size 0 h.0; size_fits = omega (arith, h.0); hash_is = h.1; target_is = empty_fits Transition size target refl h.2 }
parts_of_content NestedRoot size hash target h = record { size_is = eq-eqb size 0 h.0; size_fits = omega (arith, h.0); hash_is = h.1; target_is = empty_fits NestedRoot size target refl h.2 }
parts_of_content File size hash target h = record { size_is = le-leb size 16777216 h.0; size_fits = omega (arith, h.0); hash_is = h.1; target_is = empty_fits File size target refl h.2 }
parts_of_content Link size hash target h =
    let text : is_target target ≡ true = second_true (leb 1 (length target)) (is_target target) h.2 in
    let some : leb 1 (length target) ≡ true = first_true (leb 1 (length target)) (is_target target) h.2 in
    let short = target_size target text in
    record {
      size_is = rw (h.0, some, short) refl;
      size_fits = omega (arith, h.0, leb-true (length target) 4095 short);
      hash_is = h.1;
      target_is = record { limit = short; size_is = eq-eqb (length target) size (sym h.0); text = text };
    }

-- ---- a row

-- the row of these fields
abbrev made : List ℕ → List ℕ → RowKind → Attr → ℕ → Option (List ℕ) → List ℕ → List ℕ → Row
made key parent kind attr size hash name target =
    record { key = record { 0 = key }; parent = record { 0 = parent }; kind = kind; attr = attr; size = size; hash = hash; name = name; target = target }

abbrev ReadRow : Type 0
ReadRow = Result (Row × List ℕ) RowFault

-- reading a row on from a field
unfoldable from_target : ℕ → List ℕ → List ℕ → RowKind → Attr → ℕ → List ℕ → Option (List ℕ) → List ℕ → List ℕ → ReadRow
from_target all key parent kind attr size sized hash name text = target_at all kind size sized text >>= λ t. Ok (made key parent kind attr size hash name t.0, t.1)

unfoldable from_name : ℕ → List ℕ → List ℕ → RowKind → Attr → ℕ → List ℕ → Option (List ℕ) → List ℕ → ReadRow
from_name all key parent kind attr size sized hash text = name_at all parent text >>= λ n. from_target all key parent kind attr size sized hash n.0 n.1

unfoldable from_hash : ℕ → List ℕ → List ℕ → RowKind → Attr → ℕ → List ℕ → List ℕ → ReadRow
from_hash all key parent kind attr size sized text = hash_at all kind text >>= λ h. from_name all key parent kind attr size sized h.0 h.1

unfoldable from_attr : ℕ → List ℕ → List ℕ → RowKind → List ℕ → ReadRow
from_attr all key parent kind text = attr_at all kind text >>= λ a. row_behind all key parent kind a.0 a.1

unfoldable from_kind : ℕ → List ℕ → List ℕ → List ℕ → ReadRow
from_kind all key parent text = kind_at all text >>= λ k. from_attr all key parent k.0 k.1

unfoldable from_parent : ℕ → List ℕ → List ℕ → ReadRow
from_parent all key text = bytes_at Short 16 text >>= λ p. from_kind all key p.0 p.1

target_next : (all : ℕ) (key : List ℕ) (parent : List ℕ) (kind : RowKind) (attr : Attr) (size : ℕ) (sized : List ℕ) (hash : Option (List ℕ)) (name : List ℕ) (text : List ℕ) → from_target all key parent kind attr size sized hash name text ≡ (target_at all kind size sized text >>= λ t. Ok (made key parent kind attr size hash name t.0, t.1))
unfolding from_target
target_next all key parent kind attr size sized hash name text = refl

name_next : (all : ℕ) (key : List ℕ) (parent : List ℕ) (kind : RowKind) (attr : Attr) (size : ℕ) (sized : List ℕ) (hash : Option (List ℕ)) (text : List ℕ) → from_name all key parent kind attr size sized hash text ≡ (name_at all parent text >>= λ n. from_target all key parent kind attr size sized hash n.0 n.1)
unfolding from_name
name_next all key parent kind attr size sized hash text = refl

hash_next : (all : ℕ) (key : List ℕ) (parent : List ℕ) (kind : RowKind) (attr : Attr) (size : ℕ) (sized : List ℕ) (text : List ℕ) → from_hash all key parent kind attr size sized text ≡ (hash_at all kind text >>= λ h. from_name all key parent kind attr size sized h.0 h.1)
unfolding from_hash
hash_next all key parent kind attr size sized text = refl

size_next : (all : ℕ) (key : List ℕ) (parent : List ℕ) (kind : RowKind) (attr : Attr) (text : List ℕ) → row_behind all key parent kind attr text ≡ (size_at all kind text >>= λ s. from_hash all key parent kind attr s.0 text s.1)
unfolding row_behind from_hash from_name from_target
size_next all key parent kind attr text = refl

attr_next : (all : ℕ) (key : List ℕ) (parent : List ℕ) (kind : RowKind) (text : List ℕ) → from_attr all key parent kind text ≡ (attr_at all kind text >>= λ a. row_behind all key parent kind a.0 a.1)
unfolding from_attr
attr_next all key parent kind text = refl

kind_next : (all : ℕ) (key : List ℕ) (parent : List ℕ) (text : List ℕ) → from_kind all key parent text ≡ (kind_at all text >>= λ k. from_attr all key parent k.0 k.1)
unfolding from_kind
kind_next all key parent text = refl

parent_next : (all : ℕ) (key : List ℕ) (text : List ℕ) → from_parent all key text ≡ (bytes_at Short 16 text >>= λ p. from_kind all key p.0 p.1)
unfolding from_parent
parent_next all key text = refl

-- the bytes of a row with its parts to the right
row_parts : (r : Row) (rest : List ℕ) → row_bytes r ++ rest
    ≡ r.key.0 ++ (r.parent.0 ++ (to_be_bytes w32 (flags_of r.kind) ++ (attr_bytes r.kind r.attr ++ (to_be_bytes w64 r.size ++ (hash_field r.hash ++ (text_field r.name ++ (text_field r.target ++ rest)))))))
row_parts r rest = simp append_assoc

row_next : (all : ℕ) (text : List ℕ) → row_at all text ≡ (bytes_at Short 16 text >>= λ k. from_parent all k.0 k.1)
unfolding row_at from_parent from_kind from_attr
row_next all text = refl

-- What is read from a field on is the fields of the row that is read, and the text begins with them.

record FromTarget (key parent : List ℕ) (kind : RowKind) (attr : Attr) (size : ℕ) (hash : Option (List ℕ)) (name text : List ℕ) (r : Row) (rest : List ℕ) : Type 0 where
  same : made key parent kind attr size hash name r.target ≡ r
  parts : text ≡ text_field r.target ++ rest
  rest_fits : IsBytes rest
  target : TargetFits kind size r.target

take_target : (all : ℕ) (key parent : List ℕ) (kind : RowKind) (attr : Attr) (size : ℕ) (sized : List ℕ) (hash : Option (List ℕ)) (name text : List ℕ) (r : Row) (rest : List ℕ) → IsBytes text
    → from_target all key parent kind attr size sized hash name text ≡ Ok (r, rest) → FromTarget key parent kind attr size hash name text r rest
take_target all key parent kind attr size sized hash name text r rest fits e =
    let x : Row × List ℕ = (r, rest) in
    let t = bind_ok (target_at all kind size sized text) (λ q. Ok (made key parent kind attr size hash name q.0, q.1)) x (sym (target_next all key parent kind attr size sized hash name text) ∙ e) in
    let took = target_takes all kind size sized text t.0.0 t.0.1 fits t.1 in
    let y : Row × List ℕ = (made key parent kind attr size hash name t.0.0, t.0.1) in
    subst (λ (z : Row × List ℕ). FromTarget key parent kind attr size hash name text z.0 z.1) (ok_is y x t.2)
    (record { same = refl; parts = took.0.parts; rest_fits = took.0.rest_fits; target = took.1 })

record FromName (key parent : List ℕ) (kind : RowKind) (attr : Attr) (size : ℕ) (hash : Option (List ℕ)) (text : List ℕ) (r : Row) (rest : List ℕ) : Type 0 where
  same : made key parent kind attr size hash r.name r.target ≡ r
  parts : text ≡ text_field r.name ++ (text_field r.target ++ rest)
  rest_fits : IsBytes rest
  name : is_row_name parent r.name ≡ true
  target : TargetFits kind size r.target

take_name : (all : ℕ) (key parent : List ℕ) (kind : RowKind) (attr : Attr) (size : ℕ) (sized : List ℕ) (hash : Option (List ℕ)) (text : List ℕ) (r : Row) (rest : List ℕ) → IsBytes text
    → from_name all key parent kind attr size sized hash text ≡ Ok (r, rest) → FromName key parent kind attr size hash text r rest
take_name all key parent kind attr size sized hash text r rest fits e =
    let x : Row × List ℕ = (r, rest) in
    let n = bind_ok (name_at all parent text) (λ q. from_target all key parent kind attr size sized hash q.0 q.1) x (sym (name_next all key parent kind attr size sized hash text) ∙ e) in
    let took = name_takes all parent text n.0.0 n.0.1 fits n.1 in
    let after = take_target all key parent kind attr size sized hash n.0.0 n.0.1 r rest took.0.rest_fits n.2 in
    let name_is : n.0.0 ≡ r.name = ap (λ (z : Row). z.name) after.same in
    record {
      same = subst (λ (m : List ℕ). made key parent kind attr size hash m r.target ≡ r) name_is after.same;
      parts = subst (λ (m : List ℕ). text ≡ text_field m ++ (text_field r.target ++ rest)) name_is (took.0.parts ∙ ap (λ (y : List ℕ). text_field n.0.0 ++ y) after.parts);
      rest_fits = after.rest_fits;
      name = subst (λ (m : List ℕ). is_row_name parent m ≡ true) name_is took.1;
      target = after.target;
    }

record FromHash (key parent : List ℕ) (kind : RowKind) (attr : Attr) (size : ℕ) (text : List ℕ) (r : Row) (rest : List ℕ) : Type 0 where
  same : made key parent kind attr size r.hash r.name r.target ≡ r
  parts : text ≡ hash_field r.hash ++ (text_field r.name ++ (text_field r.target ++ rest))
  rest_fits : IsBytes rest
  name : is_row_name parent r.name ≡ true
  target : TargetFits kind size r.target
  hash : HashFits kind r.hash

take_hash : (all : ℕ) (key parent : List ℕ) (kind : RowKind) (attr : Attr) (size : ℕ) (sized text : List ℕ) (r : Row) (rest : List ℕ) → IsBytes text
    → from_hash all key parent kind attr size sized text ≡ Ok (r, rest) → FromHash key parent kind attr size text r rest
take_hash all key parent kind attr size sized text r rest fits e =
    let x : Row × List ℕ = (r, rest) in
    let h = bind_ok (hash_at all kind text) (λ q. from_name all key parent kind attr size sized q.0 q.1) x (sym (hash_next all key parent kind attr size sized text) ∙ e) in
    let took = hash_takes all kind text h.0.0 h.0.1 fits h.1 in
    let after = take_name all key parent kind attr size sized h.0.0 h.0.1 r rest took.0.rest_fits h.2 in
    let hash_is : h.0.0 ≡ r.hash = ap (λ (z : Row). z.hash) after.same in
    record {
      same = subst (λ (m : Option (List ℕ)). made key parent kind attr size m r.name r.target ≡ r) hash_is after.same;
      parts = subst (λ (m : Option (List ℕ)). text ≡ hash_field m ++ (text_field r.name ++ (text_field r.target ++ rest))) hash_is (took.0.parts ∙ ap (λ (y : List ℕ). hash_field h.0.0 ++ y) after.parts);
      rest_fits = after.rest_fits;
      name = after.name;
      target = after.target;
      hash = subst (λ (m : Option (List ℕ)). HashFits kind m) hash_is took.1;
    }

record FromSize (key parent : List ℕ) (kind : RowKind) (attr : Attr) (text : List ℕ) (r : Row) (rest : List ℕ) : Type 0 where
  same : made key parent kind attr r.size r.hash r.name r.target ≡ r
  parts : text ≡ to_be_bytes w64 r.size ++ (hash_field r.hash ++ (text_field r.name ++ (text_field r.target ++ rest)))
  rest_fits : IsBytes rest
  name : is_row_name parent r.name ≡ true
  content : HasContent kind r.size r.hash r.target

take_size : (all : ℕ) (key parent : List ℕ) (kind : RowKind) (attr : Attr) (text : List ℕ) (r : Row) (rest : List ℕ) → IsBytes text
    → row_behind all key parent kind attr text ≡ Ok (r, rest) → FromSize key parent kind attr text r rest
take_size all key parent kind attr text r rest fits e =
    let x : Row × List ℕ = (r, rest) in
    let s = bind_ok (size_at all kind text) (λ q. from_hash all key parent kind attr q.0 text q.1) x (sym (size_next all key parent kind attr text) ∙ e) in
    let took = size_takes all kind text s.0.0 s.0.1 fits s.1 in
    let after = take_hash all key parent kind attr s.0.0 text s.0.1 r rest took.0.rest_fits s.2 in
    let size_is : s.0.0 ≡ r.size = ap (λ (z : Row). z.size) after.same in
    record {
      same = subst (λ (m : ℕ). made key parent kind attr m r.hash r.name r.target ≡ r) size_is after.same;
      parts = subst (λ (m : ℕ). text ≡ to_be_bytes w64 m ++ (hash_field r.hash ++ (text_field r.name ++ (text_field r.target ++ rest)))) size_is (took.0.parts ∙ ap (λ (y : List ℕ). to_be_bytes w64 s.0.0 ++ y) after.parts);
      rest_fits = after.rest_fits;
      name = after.name;
      content = subst (λ (m : ℕ). HasContent kind m r.hash r.target) size_is (content_fits kind s.0.0 r.hash r.target took.1 after.hash after.target);
    }

record FromAttr (key parent : List ℕ) (kind : RowKind) (text : List ℕ) (r : Row) (rest : List ℕ) : Type 0 where
  same : made key parent kind r.attr r.size r.hash r.name r.target ≡ r
  parts : text ≡ attr_bytes kind r.attr ++ (to_be_bytes w64 r.size ++ (hash_field r.hash ++ (text_field r.name ++ (text_field r.target ++ rest))))
  rest_fits : IsBytes rest
  name : is_row_name parent r.name ≡ true
  content : HasContent kind r.size r.hash r.target
  attr : IsAttr r.attr

take_attr : (all : ℕ) (key parent : List ℕ) (kind : RowKind) (text : List ℕ) (r : Row) (rest : List ℕ) → IsBytes text
    → from_attr all key parent kind text ≡ Ok (r, rest) → FromAttr key parent kind text r rest
take_attr all key parent kind text r rest fits e =
    let x : Row × List ℕ = (r, rest) in
    let a = bind_ok (attr_at all kind text) (λ q. row_behind all key parent kind q.0 q.1) x (sym (attr_next all key parent kind text) ∙ e) in
    let took = attr_takes all kind text a.0.0 a.0.1 fits a.1 in
    let after = take_size all key parent kind a.0.0 a.0.1 r rest took.0.rest_fits a.2 in
    let attr_is : a.0.0 ≡ r.attr = ap (λ (z : Row). z.attr) after.same in
    record {
      same = subst (λ (m : Attr). made key parent kind m r.size r.hash r.name r.target ≡ r) attr_is after.same;
      parts = subst (λ (m : Attr). text ≡ attr_bytes kind m ++ (to_be_bytes w64 r.size ++ (hash_field r.hash ++ (text_field r.name ++ (text_field r.target ++ rest))))) attr_is (took.0.parts ∙ ap (λ (y : List ℕ). attr_bytes kind a.0.0 ++ y) after.parts);
      rest_fits = after.rest_fits;
      name = after.name;
      content = after.content;
      attr = subst (λ (m : Attr). IsAttr m) attr_is took.1;
    }

record FromKind (key parent text : List ℕ) (r : Row) (rest : List ℕ) : Type 0 where
  same : made key parent r.kind r.attr r.size r.hash r.name r.target ≡ r
  parts : text ≡ to_be_bytes w32 (flags_of r.kind) ++ (attr_bytes r.kind r.attr ++ (to_be_bytes w64 r.size ++ (hash_field r.hash ++ (text_field r.name ++ (text_field r.target ++ rest)))))
  rest_fits : IsBytes rest
  name : is_row_name parent r.name ≡ true
  content : HasContent r.kind r.size r.hash r.target
  attr : IsAttr r.attr

take_kind : (all : ℕ) (key parent text : List ℕ) (r : Row) (rest : List ℕ) → IsBytes text → from_kind all key parent text ≡ Ok (r, rest) → FromKind key parent text r rest
take_kind all key parent text r rest fits e =
    let x : Row × List ℕ = (r, rest) in
    let k = bind_ok (kind_at all text) (λ q. from_attr all key parent q.0 q.1) x (sym (kind_next all key parent text) ∙ e) in
    let took = kind_takes all text k.0.0 k.0.1 fits k.1 in
    let after = take_attr all key parent k.0.0 k.0.1 r rest took.rest_fits k.2 in
    let kind_is : k.0.0 ≡ r.kind = ap (λ (z : Row). z.kind) after.same in
    record {
      same = subst (λ (m : RowKind). made key parent m r.attr r.size r.hash r.name r.target ≡ r) kind_is after.same;
      parts = subst (λ (m : RowKind). text ≡ to_be_bytes w32 (flags_of m) ++ (attr_bytes m r.attr ++ (to_be_bytes w64 r.size ++ (hash_field r.hash ++ (text_field r.name ++ (text_field r.target ++ rest)))))) kind_is (took.parts ∙ ap (λ (y : List ℕ). to_be_bytes w32 (flags_of k.0.0) ++ y) after.parts);
      rest_fits = after.rest_fits;
      name = after.name;
      content = subst (λ (m : RowKind). HasContent m r.size r.hash r.target) kind_is after.content;
      attr = after.attr;
    }

record FromParent (key text : List ℕ) (r : Row) (rest : List ℕ) : Type 0 where
  same : made key r.parent.0 r.kind r.attr r.size r.hash r.name r.target ≡ r
  parts : text ≡ r.parent.0 ++ (to_be_bytes w32 (flags_of r.kind) ++ (attr_bytes r.kind r.attr ++ (to_be_bytes w64 r.size ++ (hash_field r.hash ++ (text_field r.name ++ (text_field r.target ++ rest))))))
  rest_fits : IsBytes rest
  parent : IsKey r.parent.0
  name : is_row_name r.parent.0 r.name ≡ true
  content : HasContent r.kind r.size r.hash r.target
  attr : IsAttr r.attr

take_parent : (all : ℕ) (key text : List ℕ) (r : Row) (rest : List ℕ) → IsBytes text → from_parent all key text ≡ Ok (r, rest) → FromParent key text r rest
take_parent all key text r rest fits e =
    let x : Row × List ℕ = (r, rest) in
    let p = bind_ok (bytes_at Short 16 text) (λ q. from_kind all key q.0 q.1) x (sym (parent_next all key text) ∙ e) in
    let took = bytes_take Short 16 text p.0.0 p.0.1 fits p.1 in
    let after = take_kind all key p.0.0 p.0.1 r rest took.takes.rest_fits p.2 in
    let parent_is : p.0.0 ≡ r.parent.0 = ap (λ (z : Row). z.parent.0) after.same in
    record {
      same = subst (λ (m : List ℕ). made key m r.kind r.attr r.size r.hash r.name r.target ≡ r) parent_is after.same;
      parts = subst (λ (m : List ℕ). text ≡ m ++ (to_be_bytes w32 (flags_of r.kind) ++ (attr_bytes r.kind r.attr ++ (to_be_bytes w64 r.size ++ (hash_field r.hash ++ (text_field r.name ++ (text_field r.target ++ rest))))))) parent_is (took.takes.parts ∙ ap (λ (y : List ℕ). p.0.0 ++ y) after.parts);
      rest_fits = after.rest_fits;
      parent = subst (λ (m : List ℕ). IsKey m) parent_is (record { size = took.size; bytes = took.fits });
      name = subst (λ (m : List ℕ). is_row_name m r.name ≡ true) parent_is after.name;
      content = after.content;
      attr = after.attr;
    }

pub row_takes : (all : ℕ) (text : List ℕ) (r : Row) (rest : List ℕ) → IsBytes text → row_at all text ≡ Ok (r, rest) → Takes text (row_bytes r) rest × IsRow r
row_takes all text r rest fits e =
    let x : Row × List ℕ = (r, rest) in
    let k = bind_ok (bytes_at Short 16 text) (λ q. from_parent all q.0 q.1) x (sym (row_next all text) ∙ e) in
    let took = bytes_take Short 16 text k.0.0 k.0.1 fits k.1 in
    let after = take_parent all k.0.0 k.0.1 r rest took.takes.rest_fits k.2 in
    let key_is : k.0.0 ≡ r.key.0 = ap (λ (z : Row). z.key.0) after.same in
    let whole : text ≡ r.key.0 ++ (r.parent.0 ++ (to_be_bytes w32 (flags_of r.kind) ++ (attr_bytes r.kind r.attr ++ (to_be_bytes w64 r.size ++ (hash_field r.hash ++ (text_field r.name ++ (text_field r.target ++ rest))))))) =
    took.takes.parts ∙ ap (λ (y : List ℕ). k.0.0 ++ y) after.parts ∙ ap (λ (m : List ℕ). m ++ (r.parent.0 ++ (to_be_bytes w32 (flags_of r.kind) ++ (attr_bytes r.kind r.attr ++ (to_be_bytes w64 r.size ++ (hash_field r.hash ++ (text_field r.name ++ (text_field r.target ++ rest)))))))) key_is in
    let is : IsRow r = record {
      key = subst (λ (m : List ℕ). IsKey m) key_is (record { size = took.size; bytes = took.fits });
      parent = after.parent;
      attr = after.attr;
      content = after.content;
      name = after.name;
    } in
    (record { parts = whole ∙ sym (row_parts r rest); rest_fits = after.rest_fits }, is)

pub row_reads : (all : ℕ) (r : Row) (rest : List ℕ) → IsRow r → row_at all (row_bytes r ++ rest) ≡ Ok (r, rest)
row_reads all r rest is =
    let parts = parts_of_content r.kind r.size r.hash r.target is.content in
    let last : List ℕ = text_field r.target ++ rest in
    let named : List ℕ = text_field r.name ++ last in
    let hashed : List ℕ = hash_field r.hash ++ named in
    let sized : List ℕ = to_be_bytes w64 r.size ++ hashed in
    let owned : List ℕ = attr_bytes r.kind r.attr ++ sized in
    let flagged : List ℕ = to_be_bytes w32 (flags_of r.kind) ++ owned in
    let below : List ℕ = r.parent.0 ++ flagged in
    let e1 : from_target all r.key.0 r.parent.0 r.kind r.attr r.size sized r.hash r.name last ≡ Ok (r, rest) = target_next all r.key.0 r.parent.0 r.kind r.attr r.size sized r.hash r.name last ∙ rw (target_reads all r.kind r.size sized r.target rest parts.target_is) refl in
    let e2 : from_name all r.key.0 r.parent.0 r.kind r.attr r.size sized r.hash named ≡ Ok (r, rest) = name_next all r.key.0 r.parent.0 r.kind r.attr r.size sized r.hash named ∙ rw (name_reads all r.parent.0 r.name last is.name) e1 in
    let e3 : from_hash all r.key.0 r.parent.0 r.kind r.attr r.size sized hashed ≡ Ok (r, rest) = hash_next all r.key.0 r.parent.0 r.kind r.attr r.size sized hashed ∙ rw (hash_reads all r.kind r.hash named parts.hash_is) e2 in
    let e4 : row_behind all r.key.0 r.parent.0 r.kind r.attr sized ≡ Ok (r, rest) = size_next all r.key.0 r.parent.0 r.kind r.attr sized ∙ rw (size_reads all r.kind r.size hashed parts.size_fits parts.size_is) e3 in
    let e5 : from_attr all r.key.0 r.parent.0 r.kind owned ≡ Ok (r, rest) = attr_next all r.key.0 r.parent.0 r.kind owned ∙ rw (attr_reads all r.kind r.attr sized is.attr) e4 in
    let e6 : from_kind all r.key.0 r.parent.0 flagged ≡ Ok (r, rest) = kind_next all r.key.0 r.parent.0 flagged ∙ rw (kind_reads all r.kind owned) e5 in
    let e7 : from_parent all r.key.0 below ≡ Ok (r, rest) = parent_next all r.key.0 below ∙ rw (bytes_again Short 16 r.parent.0 flagged is.parent.size) e6 in
    ap (row_at all) (row_parts r rest) ∙ row_next all (r.key.0 ++ below) ∙ rw (bytes_again Short 16 r.key.0 below is.key.size) e7
