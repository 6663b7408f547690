-- Lists of files that are read ahead, and of their directories.
use Rattle.std.proofs.Common.{◌≡◌, ◌≢◌, ◌∙◌, ℕ, zero, suc, ◌-◌, ◌<◌, List, [], ◌∷◌, ◌++◌, Bool, true, false, refl, sym, ap, arith, length, get_or, set, map, string_bytes, if◌then◌else◌}
use Rattle.std.specs.Prelude.{All}
use Rattle.std.proofs.Math.Seq.{map-set_same}
use Rattle.std.proofs.lemmas.List.{get_or-map, length-map, map-append}
use Rattle.std.proofs.lemmas.List.Elements.{All-append}
use Rattle.cv_real.specs.AheadInner.{InnermostIs, NothingHeld, folders, held}
use Rattle.cv_real.specs.declared.ahead.Directory.{Directory}
use Rattle.cv_real.specs.declared.ahead.FileAhead.{FileAhead}

-- where an element is replaced by one of the same image, the images are what they were
pub same_images : {X Y : Type 0} (f : X → Y) (xs : List X) (k : ℕ) (now next : X) → now ≡ get_or xs k now → f next ≡ f now → map f (set xs k next) ≡ map f xs
same_images f xs k now next at same = map-set_same f xs k next now (same ∙ ap f at)

-- the paths are told by what is held
folders_of_held : (directories : List Directory) → map (λ (h : List ℕ × List FileAhead). h.0) (held directories) ≡ folders directories
folders_of_held [] = refl
folders_of_held (d ∷ ds) = ap (λ (rest : List (List ℕ)). string_bytes d.folder ∷ rest) (folders_of_held ds)

pub same_folders : (new old : List Directory) → held new ≡ held old → folders new ≡ folders old
same_folders new old same =
    sym (folders_of_held new) ∙ ap (λ (hs : List (List ℕ × List FileAhead)). map (λ (h : List ℕ × List FileAhead). h.0) hs) same ∙ folders_of_held old

pub innermost : (directories : List Directory) (last : Directory) (folder : List ℕ) → last ≡ get_or directories (length directories - 1) last → 0 < length directories → string_bytes last.folder ≡ folder → InnermostIs folder (folders directories)
innermost directories last folder at some named other =
    let f : Directory → List ℕ = λ d. string_bytes d.folder in
    let within : length directories - 1 < length directories = omega arith in
    rw length-map (get_or-map f directories (length directories - 1) last other within ∙ ap f (sym at) ∙ named)

-- of a folder nothing is held where no directory is that folder
pub nothing_of_others : (folder : List ℕ) (directories : List Directory) → All (λ d. string_bytes d.folder ≢ folder) directories → NothingHeld folder (held directories)
nothing_of_others folder [] others k none within at = absurd (omega arith)
nothing_of_others folder (d ∷ ds) others k none within at =
    let f : Directory → List ℕ × List FileAhead = λ e. (string_bytes e.folder, e.ready.items) in
    let here : k < length (d ∷ ds) = rw length-map at within in
    let is : get_or (map f (d ∷ ds)) k none ≡ f (get_or (d ∷ ds) k d) = get_or-map f (d ∷ ds) k d none here in
    absurd (others k d here (ap (λ (h : List ℕ × List FileAhead). h.0) (sym is) ∙ at))

-- nor behind a directory that is begun, if it is
pub nothing_begun : (folder : List ℕ) (directories after : List Directory) (begun : Directory) (b : Bool) → All (λ d. string_bytes d.folder ≢ folder) directories → begun.ready.items ≡ [] → after ≡ (if b then directories ++ begun ∷ [] else directories) → NothingHeld folder (held after)
nothing_begun folder directories after begun false others ready is = rw is (nothing_of_others folder directories others)
nothing_begun folder directories after begun true others ready is =
    let P : List ℕ × List FileAhead → Type 0 = λ h. h.0 ≡ folder → h.1 ≡ [] in
    let one : All P (held (begun ∷ [])) = λ k none within at. nothing_ready k none within in
    rw (is, map-append) (All-append P (held directories) (held (begun ∷ [])) (nothing_of_others folder directories others) one)
  where
    nothing_ready : (k : ℕ) (none : List ℕ × List FileAhead) → k < 1 → (get_or (held (begun ∷ [])) k none).1 ≡ []
    nothing_ready zero none within = ready
    nothing_ready (suc k) none within = absurd (omega arith)
