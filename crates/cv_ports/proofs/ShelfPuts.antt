-- A shelf in memory with one object more.
use Rattle.std.proofs.Common.{◌≡◌, ℕ, Bool, true, cond, ◌&&◌, List, [], ◌∷◌, ◌++◌, sym, ap, ◌∙◌, append_assoc}
use Rattle.std.specs.Prelude.{Option, Some, Result, Ok, Err, OnOk}
use Rattle.std.specs.Ordering.{is_eq}
use Rattle.std.specs.Str.{bytes_eq}
use Rattle.std.specs.BTreeMap.{BTreeMap, Updates, is_at}
use Rattle.std.specs.Map.{lookup}
use Rattle.std.proofs.lemmas.Map.Text.{is_eq-slice_cmp}
use Rattle.std.proofs.Math.Bool.{and-true}
use Rattle.cv_base.specs.BytesOrder.{bytes_cmp}
use Rattle.cv_base.specs.declared.id.Kind.{Kind}
use Rattle.cv_base.specs.declared.id.Kind.TheVariants.{Plain, Catalogue, History}
use Rattle.cv_base.specs.declared.id.ObjectId.{ObjectId}
use Rattle.cv_base.specs.declared.object.Object.{Object}
use Rattle.cv_base.proofs.Laws.{unchosen}
use Rattle.cv_ports.specs.Objects.{shelf_of, same_id, same_kind}
use Rattle.cv_ports.specs.MemoryShelf.{ShelfView, standing, of_kind}

abbrev Entries : Type 0
Entries = List (List ℕ × List ℕ)

-- the shelf with other objects of a kind
abbrev pub with_kind : ShelfView → Kind → Entries → ShelfView
with_kind s Plain es = record s { plain = es }
with_kind s Catalogue es = record s { catalogues = es }
with_kind s History es = record s { history = es }

-- the bytes under a hash
abbrev under : List ℕ → Entries → Option (List ℕ)
under hash es = lookup (is_at (bytes_cmp hash)) es

-- under the hashes of the kind of what was put
own : (es : Entries) (m n : BTreeMap (List ℕ) (List ℕ)) (hash bytes q : List ℕ) → es ≡ m.entries → Updates bytes_cmp m n hash (Some bytes)
    → under q n.entries ≡ cond (bytes_eq hash q && true) (Some bytes) (under q es)
own es m n hash bytes q was put =
    let test : is_eq (bytes_cmp hash q) ≡ (bytes_eq hash q && true) = is_eq-slice_cmp hash q ∙ sym (and-true (bytes_eq hash q)) in
    put.0 q ∙ ap (λ (b : Bool). cond b (Some bytes) (under q m.entries)) test
    ∙ ap (λ (l : Entries). cond (bytes_eq hash q && true) (Some bytes) (under q l)) (sym was)

put_kind : (s : ShelfView) (k j : Kind) (m n : BTreeMap (List ℕ) (List ℕ)) (hash bytes q : List ℕ) → of_kind s k ≡ m.entries
    → Updates bytes_cmp m n hash (Some bytes)
    → under q (of_kind (with_kind s k n.entries) j) ≡ cond (bytes_eq hash q && same_kind k j) (Some bytes) (under q (of_kind s j))
put_kind s Plain Plain m n hash bytes q was put = own s.plain m n hash bytes q was put
put_kind s Plain Catalogue m n hash bytes q was put = unchosen (bytes_eq hash q) (Some bytes) (under q s.catalogues)
put_kind s Plain History m n hash bytes q was put = unchosen (bytes_eq hash q) (Some bytes) (under q s.history)
put_kind s Catalogue Plain m n hash bytes q was put = unchosen (bytes_eq hash q) (Some bytes) (under q s.plain)
put_kind s Catalogue Catalogue m n hash bytes q was put = own s.catalogues m n hash bytes q was put
put_kind s Catalogue History m n hash bytes q was put = unchosen (bytes_eq hash q) (Some bytes) (under q s.history)
put_kind s History Plain m n hash bytes q was put = unchosen (bytes_eq hash q) (Some bytes) (under q s.plain)
put_kind s History Catalogue m n hash bytes q was put = unchosen (bytes_eq hash q) (Some bytes) (under q s.catalogues)
put_kind s History History m n hash bytes q was put = own s.history m n hash bytes q was put

-- an object was put among those of its kind
pub put_object : (s t : ShelfView) (o : Object) (k : Kind) (m n : BTreeMap (List ℕ) (List ℕ)) {E : Type 0} (r : Result Unit E) → o.id.kind ≡ k → s ≡ t
    → of_kind s k ≡ m.entries → OnOk r (Updates bytes_cmp m n o.id.hash (Some o.bytes))
    → OnOk r ((id : ObjectId) → standing (with_kind s k n.entries) id ≡ cond (same_id o.id id) (Some o.bytes) (standing t id))
put_object s t o k m n (Ok x) kind same was put = λ (id : ObjectId).
    put_kind s k id.kind m n o.id.hash o.bytes id.hash was put
    ∙ ap (λ (j : Kind). cond (bytes_eq o.id.hash id.hash && same_kind j id.kind) (Some o.bytes) (standing s id)) (sym kind)
    ∙ ap (λ (v : ShelfView). cond (same_id o.id id) (Some o.bytes) (standing v id)) same
put_object s t o k m n (Err e) kind same was put = tt

-- the shelf has the last of these objects, and the others are left
pub record IsPartOf (left all : List Object) (shelf : ShelfView) : Type 0 where
  pub put : List Object
  pub split : all ≡ left ++ put
  pub objects : (id : ObjectId) → standing shelf id ≡ shelf_of put id

-- the last that was left is put
pub one_put : {left left' all : List Object} {s s' : ShelfView} (o : Object) → IsPartOf left all s → left ≡ left' ++ o ∷ []
    → ((id : ObjectId) → standing s' id ≡ cond (same_id o.id id) (Some o.bytes) (standing s id)) → IsPartOf left' all s'
one_put {left} {left'} {all} {s} {s'} o part last put = record {
  put = o ∷ part.put;
  split = part.split ∙ ap (λ (l : List Object). l ++ part.put) last ∙ append_assoc left' (o ∷ []) part.put;
  objects = λ id. put id ∙ ap (λ (v : Option (List ℕ)). cond (same_id o.id id) (Some o.bytes) v) (part.objects id);
}

-- all are put
pub all_put : {all : List Object} {s : ShelfView} → IsPartOf [] all s → (id : ObjectId) → standing s id ≡ shelf_of all id
all_put part id = part.objects id ∙ ap (λ (l : List Object). shelf_of l id) (sym part.split)
