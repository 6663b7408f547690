-- Which faults which call may answer. What only this crate's own functions say.
use Rattle.cv_http.specs.declared.fault.HttpFault.{HttpFault}
use Rattle.cv_http.specs.declared.fault.HttpFault.TheVariants.{BadHead, HeadTooLarge, BodyTooLarge, NoLength, Coding, Short, ReadFault, NoMemory}

-- a fault that reading a piece may answer
abbrev pub IsPieceFault : HttpFault → Type 0
IsPieceFault BadHead = ⊥
IsPieceFault HeadTooLarge = ⊥
IsPieceFault BodyTooLarge = ⊥
IsPieceFault NoLength = ⊥
IsPieceFault Coding = ⊥
IsPieceFault Short = ⊥
IsPieceFault ReadFault = Unit {0}
IsPieceFault NoMemory = Unit {0}

-- a fault by which a head is refused
abbrev pub IsRefusal : HttpFault → Type 0
IsRefusal BadHead = Unit {0}
IsRefusal HeadTooLarge = Unit {0}
IsRefusal BodyTooLarge = ⊥
IsRefusal NoLength = Unit {0}
IsRefusal Coding = Unit {0}
IsRefusal Short = ⊥
IsRefusal ReadFault = ⊥
IsRefusal NoMemory = ⊥
