-- Names of rows are targets.
use Rattle.std.proofs.Common.{◌≡◌, ℕ, true, false, cond, not, ◌&&◌, ◌==◌, nat_le, List, [], ◌∷◌, length, Some, None, refl, subst, ◌∙◌, arith}
use Rattle.std.specs.List.{list_all}
use Rattle.std.specs.Str.{is_utf8}
use Rattle.std.proofs.lemmas.Str.{is_utf8-from_IsUtf8, IsUtf8-nil}
use Rattle.std.proofs.lemmas.Bool.Decides.{nat_tests}
use Rattle.cv_base.specs.Path.{is_path_byte, is_path_name, is_dots}
use Rattle.cv_base.specs.Target.{is_target, is_target_byte, target_of}
use Rattle.cv_base.proofs.Laws.{first_true, second_true}
use Rattle.cv_rows.specs.Row.{is_row_name}
use Rattle.cv_rows.specs.ReadingInner.{row_name_of}

path_byte : (b : ℕ) → is_path_byte b ≡ true → is_target_byte b ≡ true
path_byte b h = second_true (not (b == 47)) (not (b == 0)) h

path_bytes : (bytes : List ℕ) → list_all is_path_byte bytes ≡ true → list_all is_target_byte bytes ≡ true
path_bytes [] h = refl
path_bytes (b ∷ bytes) h =
    let first = path_byte b (first_true _ _ h) in
    let others = path_bytes bytes (second_true (is_path_byte b) (list_all is_path_byte bytes) h) in
    rw (first, others) refl

long_enough : (bytes : List ℕ) → nat_le (length bytes) 255 ≡ true → nat_le (length bytes) 4095 ≡ true
long_enough bytes h = grind (arith, nat_tests)

-- a name in a path is a target
pub path_name-target : (name : List ℕ) → is_path_name name ≡ true → is_target name ≡ true
path_name-target name h =
    let four = first_true (is_utf8 name && nat_le 1 (length name) && nat_le (length name) 255 && list_all is_path_byte name) (not (is_dots name)) h in
    let three = first_true (is_utf8 name && nat_le 1 (length name) && nat_le (length name) 255) (list_all is_path_byte name) four in
    let two = first_true (is_utf8 name && nat_le 1 (length name)) (nat_le (length name) 255) three in
    let one = first_true (is_utf8 name) (nat_le 1 (length name)) two in
    let size = long_enough name (second_true (is_utf8 name && nat_le 1 (length name)) (nat_le (length name) 255) three) in
    let bytes = path_bytes name (second_true (is_utf8 name && nat_le 1 (length name) && nat_le (length name) 255) (list_all is_path_byte name) four) in
    rw (one, size, bytes) refl

-- the name of a row is a target
pub row_name-target : (parent name : List ℕ) → is_row_name parent name ≡ true → is_target name ≡ true
row_name-target parent [] h = rw (is_utf8-from_IsUtf8 [] IsUtf8-nil) refl
row_name-target parent (b ∷ name) h = path_name-target (b ∷ name) h

-- what is no target is no name of a row
pub no_row_name : (parent name : List ℕ) → target_of name ≡ None → row_name_of parent name ≡ None
no_row_name parent name no_target = elim (is_row_name parent name) as (λ t. is_row_name parent name ≡ t → cond t (Some name) None ≡ None) [
  | true ↦ λ is. absurd (let target : target_of name ≡ Some name = rw (row_name-target parent name is) refl in cc)
  | false ↦ λ is. refl
] refl

-- a target that is no name of a row
pub other_row_name : (parent name target text : List ℕ) → target_of name ≡ Some target → text ≡ target → is_row_name parent text ≡ false → row_name_of parent name ≡ None
other_row_name parent name target text is same other = rw (subst (λ (t : List ℕ). is_row_name parent t ≡ false) (same ∙ target_is is) other) refl
  where
    target_is : target_of name ≡ Some target → target ≡ name
    target_is h = elim (is_target name) as (λ t. cond t (Some name) None ≡ Some target → target ≡ name) [ true ↦ λ e. cc | false ↦ λ e. cc ] h
