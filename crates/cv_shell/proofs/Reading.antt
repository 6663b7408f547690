-- A line is read, piece after piece.
use Rattle.std.proofs.Common.{◌≡◌, ◌++◌, ℕ, List, sym, subst, ap, ◌∙◌, refl}
use Rattle.std.specs.Prelude.{Option, Some, None, Ok, Err}
use Rattle.cv_ports.specs.Streams.{Look}
use Rattle.cv_http.specs.Wires.{WireView, Looks, Beside, Gets}
use Rattle.cv_http.proofs.Lemmas.{looks_then}
use Rattle.cv_shell.specs.Lines.{IsLine, LineRead}
use Rattle.cv_shell.specs.LinesInner.{LineFound, IsPieceFault}
use Rattle.cv_shell.specs.declared.lines.LineFault.{LineFault}
use Rattle.cv_shell.specs.declared.lines.LineFault.TheVariants.{TooLong, ReadFault, NoMemory}

-- where no line was found, a part of one is held
pub found_none : (b held : List ℕ) (found : Option (List ℕ)) → LineFound b held (Ok found) → ((line : List ℕ) → found ≡ Some line → ⊥) → IsLine b × (held ≡ b)
found_none b held None part lacks = part
found_none b held (Some line) part lacks = absurd (lacks line refl)

-- a line that is too long or for which there was no memory
pub unfound : (left : Option (List ℕ)) (b held : List ℕ) (fault : LineFault) → LineFound b held (Err fault) → LineRead left b held (Err fault)
unfound left b held TooLong lost = lost
unfound left b held ReadFault lost = absurd lost
unfound left b held NoMemory lost = lost

-- and that isn't for a fault of the source
pub not_unread : (b held : List ℕ) (fault : LineFault) → LineFound b held (Err fault) → fault ≡ ReadFault → ⊥
not_unread b held TooLong lost is = cc
not_unread b held ReadFault lost is = lost
not_unread b held NoMemory lost is = cc

-- a piece that wasn't read behind a part of a line
pub unfilled : (left : Option (List ℕ)) (b held : List ℕ) (fault : LineFault) → IsPieceFault fault → IsLine b → held ≡ b → LineRead left b held (Err fault)
unfilled left b held TooLong is part same = absurd is
unfilled left b held ReadFault is part same = (part, same)
unfilled left b held NoMemory is part same = same

module _ {R : Type 0} (left given : R → Option (List ℕ)) (looks : R → Look → Type 0) where
  -- one more began where a part of a line is held
  pub looks_on : (w0 w w' : WireView R) (passed : Option (List ℕ)) → Looks left looks w0 w (Beside passed IsLine) → Gets left given w0 w → IsLine w.held
      → Looks left looks w w' (Beside passed (λ b. b ≡ w.held)) → Looks left looks w0 w' (Beside passed IsLine)
  looks_on w0 w w' passed first gets part next =
      looks_then left looks w0 w w' (λ b. b ≡ w.held) (Beside passed (λ b. b ≡ w.held)) (Beside passed IsLine) first
      (record { got = gets.got; told = gets.told; are = sym gets.more }) next
      (λ b more passed' is looked. (subst IsLine (sym (ap (λ (x : List ℕ). x ++ more) is ∙ looked.0)) part, looked.1))
