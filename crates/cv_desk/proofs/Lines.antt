-- The lines of live leases, one after another.
use Rattle.std.proofs.Common.{◌≡◌, nat_lt, ℕ, ◌+◌, ◌<◌, List, [], ◌∷◌, ◌++◌, map, take, get_or, length, sym, ap, ◌∙◌}
use Rattle.std.proofs.lemmas.List.{map-append, take_more}
use Rattle.std.proofs.lemmas.List.Elements.{filter-append}
use Rattle.cv_leases.specs.Leases.{unexpired}
use Rattle.cv_leases.specs.declared.lease.Lease.{Lease}
use Rattle.cv_gate.specs.Lines.{line_of, lines_of}
use Rattle.cv_gate.specs.declared.lease_line.LeaseLine.{LeaseLine}

lines_cat : (moment : ℕ) (xs ys : List Lease) → lines_of moment (xs ++ ys) ≡ lines_of moment xs ++ lines_of moment ys
lines_cat moment xs ys = ap (map (line_of moment)) (filter-append (λ l. nat_lt moment l.deadline) xs ys) ∙ map-append (line_of moment) (unexpired moment xs) (unexpired moment ys)

-- the line of the lease at a place, if it is live, comes behind those before
pub line_next : {X : Type 0} (lease : X → Lease) (moment place : ℕ) (xs : List X) (x : X) (lines longer : List LeaseLine) → place < length xs → x ≡ get_or xs place x
    → longer ≡ lines ++ lines_of moment (lease x ∷ []) → lines ≡ lines_of moment (map lease (take place xs)) → longer ≡ lines_of moment (map lease (take (place + 1) xs))
line_next lease moment place xs x lines longer within is more before =
    more ∙ ap (λ l. l ++ lines_of moment (lease x ∷ [])) before ∙ sym (lines_cat moment (map lease (take place xs)) (lease x ∷ []))
    ∙ ap (lines_of moment) (sym (map-append lease (take place xs) (x ∷ [])))
    ∙ ap (λ l. lines_of moment (map lease l)) (ap (λ y. take place xs ++ y ∷ []) is ∙ sym (take_more xs place x within))
