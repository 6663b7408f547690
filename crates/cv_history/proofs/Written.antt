-- Fields written one behind another.
use Rattle.std.proofs.Common.{◌≡◌, ℕ, List, [], ◌∷◌, ◌++◌, append_assoc}
use Rattle.std.specs.List.{concat}
use Rattle.std.proofs.lemmas.List.{append-nil}

-- seven fields, each put behind those before
pub seven : (a b c d e f g s t u v w x y z : List ℕ) → s ≡ [] → t ≡ s ++ a → u ≡ t ++ b → v ≡ u ++ c → w ≡ v ++ d → x ≡ w ++ e → y ≡ x ++ f → z ≡ y ++ g
    → z ≡ concat (a ∷ b ∷ c ∷ d ∷ e ∷ f ∷ g ∷ [])
seven a b c d e f g s t u v w x y z none h1 h2 h3 h4 h5 h6 h7 =
    rw (h7, h6, h5, h4, h3, h2, h1, none) (simp (append_assoc, append-nil))

-- four more fields
pub eleven : (a b c d e f g h i j k s t u v w : List ℕ) → s ≡ concat (a ∷ b ∷ c ∷ d ∷ e ∷ f ∷ g ∷ []) → t ≡ s ++ h → u ≡ t ++ i → v ≡ u ++ j → w ≡ v ++ k
    → w ≡ concat (a ∷ b ∷ c ∷ d ∷ e ∷ f ∷ g ∷ h ∷ i ∷ j ∷ k ∷ [])
eleven a b c d e f g h i j k s t u v w front h1 h2 h3 h4 =
    rw (h4, h3, h2, h1, front) (simp (append_assoc, append-nil))
