-- The path that a text is the own text of.
use Rattle.std.proofs.Common.{◌≡◌, ◌<◌, arith, slice_index, ℕ, zero, suc, true, List, [], ◌∷◌, inl, refl, sym, subst}
use Rattle.std.specs.Prelude.{Some, Result, Ok, Err}
use Rattle.std.specs.Str.{IsUtf8, is_utf8, bytes_eq}
use Rattle.std.specs.List.{list_all}
use Rattle.std.proofs.lemmas.Str.{IsUtf8-from_is_utf8, is_utf8-from_IsUtf8, IsUtf8-nil, IsUtf8-append, IsUtf8-from_ascii}
use Rattle.std.proofs.lemmas.Bool.{and_parts}
use Rattle.std.proofs.lemmas.Option.{same_Some}
use Rattle.std.proofs.lemmas.Slice.Eq.{bytes_eq-Decides}
use Rattle.cv_base.specs.Path.{Path, IsPath, is_path_name, text_of}
use Rattle.cv_base.specs.PathText.{path_of, only_path, path_named}
use Rattle.cv_base.specs.declared.path_fault.PathFault.{PathFault}
use Rattle.cv_base.proofs.PathGrammar.{path_of-Spells, Spells-path_of}
use Rattle.cv_base.proofs.Values.{chosen}

slash_ascii : (i : ℕ) → slice_index (47 ∷ []) i < 128
slash_ascii zero = omega arith
slash_ascii (suc i) = omega arith

utf8_names : (path : Path) → list_all is_path_name path ≡ true → IsUtf8 (text_of path)
utf8_names [] h = IsUtf8-nil
utf8_names (name ∷ path) h =
    let both = and_parts (is_path_name name) (list_all is_path_name path) h in
    let utf8 : is_utf8 name ≡ true = (and_parts (is_utf8 name) _ (and_parts _ _ (and_parts _ _ (and_parts _ _ both.0).0).0).0).0 in
    IsUtf8-append (47 ∷ name) (text_of path) (IsUtf8-append (47 ∷ []) name (IsUtf8-from_ascii (47 ∷ []) slash_ascii) (IsUtf8-from_is_utf8 name utf8)) (utf8_names path both.1)

-- the text of a path names it
pub path_named-own : (path : Path) → IsPath path → path_named (text_of path) ≡ Some path
path_named-own path h =
    let says : path_of (text_of path) ≡ Ok path = path_of-Spells (text_of path) path h (inl refl) in
    rw (is_utf8-from_IsUtf8 (text_of path) (utf8_names path h.names), says, (bytes_eq-Decides (text_of path) (text_of path)).1 refl) refl

-- the text is the path's own
pub record IsNamed (text : List ℕ) (path : Path) : Type 0 where
  pub text_is : text ≡ text_of path
  pub is_path : IsPath path

only_named : (text : List ℕ) (read : Result Path PathFault) (path : Path) → path_of text ≡ read → only_path text read ≡ Some path → IsNamed text path
only_named text (Ok q) path reads e =
    let c = chosen (bytes_eq (text_of q) text) (Some q) path e in
    let own : IsNamed text q = record { text_is = sym ((bytes_eq-Decides (text_of q) text).0 c.0); is_path = (Spells-path_of text q reads).0 } in
    subst (λ (p : Path). IsNamed text p) (same_Some q path c.1) own
only_named text (Err fault) path reads e = absurd cc

pub path_named-is : (text : List ℕ) (path : Path) → path_named text ≡ Some path → IsNamed text path
path_named-is text path e = only_named text (path_of text) path refl (chosen (is_utf8 text) (only_path text (path_of text)) path e).1
