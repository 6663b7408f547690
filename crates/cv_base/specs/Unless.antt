-- Answers for which memory may be wanting.
use Rattle.std.specs.Prelude.{◌≡◌, ◌⊎◌, Result, Ok, Err}

-- the call's answer is this one, or the fault that stands for want of memory
abbrev pub IsUnless : {A E : Type 0} → E → Result A E → Result A E → Type 0
IsUnless lack (Ok value) answer = Ok value ≡ answer
IsUnless lack (Err fault) answer = (fault ≡ lack) ⊎ (Err fault ≡ answer)
