use Rattle.std.proofs.Common.{◌∙◌, ◌++◌, List, ℕ, ap, refl, sym, inl, inr}
use Rattle.std.proofs.lemmas.Str.{IsUtf8-from_is_utf8}
use Rattle.cv_system.proofs.ways.sync_way.Goals as goal

pub returns-in_default : goal.returns-in_default
returns-in_default g c = inl (λ utf8 way. absurd (c.in_default.ensures.cases.0 (IsUtf8-from_is_utf8 c.args.bytes.now utf8)), refl, refl)

pub returns : goal.returns
returns g c =
    let name = c.in-Ok.ensures.cases.0 in
    let entry = c.as_str.ensures.path ∙ (rw c.if-not-set.false at c.set.ensures.path) ∙ ap (λ (bytes : List ℕ). c.args.folder.now ++ bytes) name in
    inr (
      (rw name at (sym c.is_way_file.ensures ∙ c.if-not-is_way_file.false), rw name at (c.set.ensures.fits.0 c.if-not-set.false)),
      rw entry at c.sync_entry.ensures,
    )
