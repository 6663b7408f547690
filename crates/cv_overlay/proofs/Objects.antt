-- The contents of changes, with one node more.
use Rattle.std.proofs.Common.{◌≡◌, ◌≤◌, ℕ, suc, zero, true, false, cond, ◌||◌, ◌⊎◌, inl, inr, List, [], ◌∷◌, ◌++◌, length, refl, sym, ap, subst, ◌∙◌}
use Rattle.std.specs.Prelude.{Some, None, bytes_eq, slice_get}
use Rattle.std.specs.Ordering.{eq_by_cmp}
use Rattle.std.specs.Cmp.{tied_itself}
use Rattle.std.specs.FinMap.{get, insert, empty, get-insert, get-empty}
use Rattle.sha1.specs.Sha1.{sha1}
use Rattle.cv_base.specs.Path.{Path, path_cmp, last_name_of}
use Rattle.cv_base.specs.declared.attr.Attr.{Attr}
use Rattle.cv_base.specs.declared.object.Object.{Object}
use Rattle.cv_base.specs.declared.id.Kind.TheVariants.{Plain}
use Rattle.cv_base.specs.ObjectId.{object_id}
use Rattle.cv_base.proofs.Laws.{bytes_itself, bytes_are, path_total, same_path_is}
use Rattle.cv_tree.specs.declared.node.FileRef.{FileRef}
use Rattle.cv_tree.specs.declared.node.Node.{Node}
use Rattle.cv_tree.specs.declared.node.Node.TheVariants.{Dir, File, Link}
use Rattle.cv_tree.specs.Tree.{Nodes, is_file, single}
use Rattle.cv_overlay.specs.Whiteout.{is_whiteout}
use Rattle.cv_overlay.specs.Overlay.{named}
use Rattle.cv_overlay.specs.Changes.{AreContents, IsFileOf}
use Rattle.cv_overlay.specs.FoundInner.{has_hash, with_content, kept_content}

-- ---- the files of nodes
record IsNamed (c : Nodes) (p : Path) (node : Node) : Type 0 where
  plain : is_whiteout (last_name_of p) ≡ false
  there : get c p ≡ Some node

named_is : (c : Nodes) (p : Path) (node : Node) → named c p ≡ Some node → IsNamed c p node
named_is c p node h = elim (is_whiteout (last_name_of p)) as (λ b. is_whiteout (last_name_of p) ≡ b → cond b None (get c p) ≡ Some node → IsNamed c p node) [
  | true ↦ λ _ e. cc
  | false ↦ λ w e. record { plain = w; there = e }
] refl h

is_named : (c : Nodes) (p : Path) (node : Node) → is_whiteout (last_name_of p) ≡ false → get c p ≡ Some node → named c p ≡ Some node
is_named c p node w e = rw (w, e) refl

-- what was a file stays one
still_file : (c : Nodes) (q : Path) (node : Node) (h : List ℕ) → get c q ≡ None → IsFileOf c h → IsFileOf (insert c q node) h
still_file c q node h free f =
    let was = named_is c f.path _ f.is in
    record {
      path = f.path;
      attr = f.attr;
      file = f.file;
      is = is_named (insert c q node) f.path _ was.plain (get-insert path_total c q node f.path ∙ elim (eq_by_cmp path_cmp f.path q) as (λ b. eq_by_cmp path_cmp f.path q ≡ b → cond b (Some node) (get c f.path) ≡ Some (File f.attr f.file)) [
        | true ↦ λ e. let same : f.path ≡ q = same_path_is f.path q e in let wrong : None ≡ Some (File f.attr f.file) = sym free ∙ ap (get c) (sym same) ∙ was.there in cc
        | false ↦ λ _. was.there
      ] refl);
      hash = f.hash;
    }

-- the new node as a file
record IsNew (q : Path) (node : Node) (h : List ℕ) : Type 0 where
  plain : is_whiteout (last_name_of q) ≡ false
  attr : Attr
  file : FileRef
  is : node ≡ File attr file
  hash : file.hash ≡ h

-- a file was there, or is the new one
split_file : (c : Nodes) (q : Path) (node : Node) (h : List ℕ) → IsFileOf (insert c q node) h → IsFileOf c h ⊎ IsNew q node h
split_file c q node h f =
    let now = named_is (insert c q node) f.path _ f.is in
    elim (eq_by_cmp path_cmp f.path q) as (λ b. eq_by_cmp path_cmp f.path q ≡ b → cond b (Some node) (get c f.path) ≡ Some (File f.attr f.file) → IsFileOf c h ⊎ IsNew q node h) [
      | true ↦ λ e is. let same : f.path ≡ q = same_path_is f.path q e in
          inr (record { plain = ap (λ (p : Path). is_whiteout (last_name_of p)) (sym same) ∙ now.plain; attr = f.attr; file = f.file; is = let n : node ≡ File f.attr f.file = cc in n; hash = f.hash })
      | false ↦ λ _ is. inl (record { path = f.path; attr = f.attr; file = f.file; is = is_named c f.path _ now.plain is; hash = f.hash })
    ] refl (sym (get-insert path_total c q node f.path) ∙ now.there)

-- ---- a list with one object more
push_get : (os : List Object) (o x : Object) (i : ℕ) → slice_get (os ++ o ∷ []) i ≡ Some x → (slice_get os i ≡ Some x) ⊎ ((i ≡ length os) × (o ≡ x))
push_get [] o x zero h = inr (refl, let same : o ≡ x = cc in same)
push_get [] o x (suc i) h = cc
push_get (y ∷ os) o x zero h = inl h
push_get (y ∷ os) o x (suc i) h = elim (push_get os o x i h) [ inl old ↦ inl old | inr new ↦ inr (ap suc new.0, new.1) ]

push_old : (os : List Object) (o x : Object) (i : ℕ) → slice_get os i ≡ Some x → slice_get (os ++ o ∷ []) i ≡ Some x
push_old [] o x i h = cc
push_old (y ∷ os) o x zero h = h
push_old (y ∷ os) o x (suc i) h = push_old os o x i h

push_own : (os : List Object) (o : Object) → slice_get (os ++ o ∷ []) (length os) ≡ Some o
push_own [] o = refl
push_own (y ∷ os) o = push_own os o

has_from : (os : List Object) (i : ℕ) (x : Object) (h : List ℕ) → slice_get os i ≡ Some x → x.id.hash ≡ h → has_hash os h ≡ true
has_from [] i x h e k = cc
has_from (o ∷ os) zero x h e k = let same : o ≡ x = cc in rw (bytes_itself o.id.hash h (ap (λ (y : Object). y.id.hash) same ∙ k)) refl
has_from (o ∷ os) (suc i) x h e k = elim (bytes_eq o.id.hash h) as (λ b. (b || has_hash os h) ≡ true) [ true ↦ refl | false ↦ has_from os i x h e k ]

abbrev IsThere : List Object → List ℕ → Type 0
IsThere os h = (i : ℕ) × (x : Object) × (slice_get os i ≡ Some x) × (x.id.hash ≡ h)

has_to : (os : List Object) (h : List ℕ) → has_hash os h ≡ true → IsThere os h
has_to [] h e = cc
has_to (o ∷ os) h e = elim (bytes_eq o.id.hash h) as (λ b. bytes_eq o.id.hash h ≡ b → (b || has_hash os h) ≡ true → IsThere (o ∷ os) h) [
  | true ↦ λ same _. (0, o, refl, bytes_are o.id.hash h same)
  | false ↦ λ _ rest. let r = has_to os h rest in (suc r.0, r.1, r.2, r.3)
] refl e

-- ---- the contents
-- a node that is no file of the changes
plain_added : (c : Nodes) (os : List Object) (q : Path) (node : Node) → AreContents c os → get c q ≡ None → ((h : List ℕ) → IsNew q node h → ⊥) → AreContents (insert c q node) os
plain_added c os q node h free other = record {
  own = h.own;
  sizes = h.sizes;
  once = h.once;
  only = λ i o e. still_file c q node o.id.hash free (h.only i o e);
  all = λ hash f. elim (split_file c q node hash f) [ inl old ↦ h.all hash old | inr new ↦ absurd (other hash new) ];
}

not_file : (node : Node) (attr : Attr) (file : FileRef) → is_file (Some node) ≡ false → node ≡ File attr file → ⊥
not_file (Dir a) attr file h e = cc
not_file (File a f) attr file h e = cc
not_file (Link a t) attr file h e = cc

pub node_added : (c new : Nodes) (os : List Object) (q : Path) (node : Node) → AreContents c os → new ≡ insert c q node → get c q ≡ None → is_file (Some node) ≡ false → AreContents new os
node_added c new os q node h is free other = subst (λ (m : Nodes). AreContents m os) (sym is) (plain_added c os q node h free (λ hash n. not_file node n.attr n.file other n.is))

same_id : (o : Object) (hash : List ℕ) (bytes : List ℕ) → o.id ≡ object_id (sha1 bytes) Plain → o.id.hash ≡ hash → o.id ≡ object_id hash Plain
same_id o hash bytes own is = own ∙ ap (λ (h : List ℕ). object_id h Plain) (sym (ap (λ (i : _). i.hash) own) ∙ is)

new_hash : (attr a : Attr) (file f : FileRef) (h : List ℕ) → File attr file ≡ File a f → f.hash ≡ h → file.hash ≡ h
new_hash attr a file f h e k = let same : file ≡ f = cc in ap (λ (x : FileRef). x.hash) same ∙ k

-- a file of this content, whose content is there or comes
content_added : (c : Nodes) (os : List Object) (q : Path) (attr : Attr) (file : FileRef) (content : List ℕ) → AreContents c os → get c q ≡ None → is_whiteout (last_name_of q) ≡ false → file.hash ≡ sha1 content
    → length content ≤ 16777216 → AreContents (insert c q (File attr file)) (with_content os content)
content_added c os q attr file content h free plain is small =
    let new : Nodes = insert c q (File attr file) in
    let mine : IsFileOf new (sha1 content) = record { path = q; attr = attr; file = file; is = is_named new q _ plain (get-insert path_total c q (File attr file) q ∙ rw (itself q) refl); hash = is } in
    elim (has_hash os (sha1 content)) as (λ b. has_hash os (sha1 content) ≡ b → AreContents new (cond b os (os ++ record { id = object_id (sha1 content) Plain; bytes = content } ∷ []))) [
      | true ↦ λ there. record {
        own = h.own;
        sizes = h.sizes;
        once = h.once;
        only = λ i o e. still_file c q _ o.id.hash free (h.only i o e);
        all = λ hash f. elim (split_file c q _ hash f) [
          | inl old ↦ h.all hash old
          | inr n ↦ let t = has_to os (sha1 content) there in
              (t.0, t.1, t.2, same_id t.1 hash t.1.bytes (h.own t.0 t.1 t.2) (t.3 ∙ sym is ∙ new_hash attr n.attr file n.file hash n.is n.hash))
        ];
      }
      | false ↦ λ lacks.
          let o : Object = record { id = object_id (sha1 content) Plain; bytes = content } in
          record {
            own = λ i x e. elim (push_get os o x i e) [ inl old ↦ h.own i x old | inr n ↦ subst (λ (y : Object). y.id ≡ object_id (sha1 y.bytes) Plain) n.1 refl ];
            sizes = λ i x e. elim (push_get os o x i e) [ inl old ↦ h.sizes i x old | inr n ↦ subst (λ (y : Object). length y.bytes ≤ 16777216) n.1 small ];
            once = λ i j x y ei ej same. elim (push_get os o x i ei) [
              | inl oldi ↦ elim (push_get os o y j ej) [
                | inl oldj ↦ h.once i j x y oldi oldj same
                | inr nj ↦ absurd (twice os (sha1 content) i x lacks oldi (ap (λ (k : _). k.hash) same ∙ ap (λ (z : Object). z.id.hash) (sym nj.1)))
              ]
              | inr ni ↦ elim (push_get os o y j ej) [
                | inl oldj ↦ absurd (twice os (sha1 content) j y lacks oldj (ap (λ (k : _). k.hash) (sym same) ∙ ap (λ (z : Object). z.id.hash) (sym ni.1)))
                | inr nj ↦ ni.0 ∙ sym nj.0
              ]
            ];
            only = λ i x e. elim (push_get os o x i e) [ inl old ↦ still_file c q _ x.id.hash free (h.only i x old) | inr n ↦ subst (λ (y : Object). IsFileOf new y.id.hash) n.1 mine ];
            all = λ hash f. elim (split_file c q _ hash f) [
              | inl old ↦ let t = h.all hash old in (t.0, t.1, push_old os o t.1 t.0 t.2, t.3)
              | inr n ↦ (length os, o, push_own os o, ap (λ (k : List ℕ). object_id k Plain) (sym is ∙ new_hash attr n.attr file n.file hash n.is n.hash))
            ];
          }
    ] refl
  where
    itself : (p : Path) → eq_by_cmp path_cmp p p ≡ true
    itself p = rw (tied_itself path_total p) refl

    twice : (os : List Object) (hash : List ℕ) (i : ℕ) (x : Object) → has_hash os hash ≡ false → slice_get os i ≡ Some x → x.id.hash ≡ hash → ⊥
    twice os hash i x lacks e is = let wrong : true ≡ false = sym (has_from os i x hash e is) ∙ lacks in cc

pub file_added : (c new : Nodes) (os kept : List Object) (q : Path) (attr : Attr) (file : FileRef) (content : List ℕ) → AreContents c os → new ≡ insert c q (File attr file) → get c q ≡ None
    → file.hash ≡ sha1 content → kept ≡ kept_content os q content → length content ≤ 16777216 → AreContents new kept
file_added c new os kept q attr file content h is free hash keeps small =
    rw (is, keeps) (elim (is_whiteout (last_name_of q)) as (λ b. is_whiteout (last_name_of q) ≡ b → AreContents (insert c q (File attr file)) (cond b os (with_content os content))) [
      | true ↦ λ w. plain_added c os q _ h free (λ k n. let wrong : true ≡ false = sym w ∙ n.plain in cc)
      | false ↦ λ w. content_added c os q attr file content h free w hash small
    ] refl)

-- the folder itself has no content
pub nothing_added : (attr : Attr) (new : Nodes) → new ≡ single (Dir attr) → AreContents new []
nothing_added attr new is = rw is (record {
  own = λ i o e. cc;
  sizes = λ i o e. cc;
  once = λ i j o p ei ej same. cc;
  only = λ i o e. cc;
  all = λ hash f. absurd (no_file hash f);
})
  where
    no_file : (hash : List ℕ) → IsFileOf (single (Dir attr)) hash → ⊥
    no_file hash f = elim (split_file empty [] (Dir attr) hash f) [
      | inl old ↦ let n = named_is empty old.path _ old.is in let wrong : None ≡ Some (File old.attr old.file) = sym (get-empty path_cmp old.path) ∙ n.there in cc
      | inr n ↦ not_file (Dir attr) n.attr n.file refl n.is
    ]
