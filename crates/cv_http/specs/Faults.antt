-- Which faults which call may answer.
use Rattle.cv_http.specs.declared.buffer.FillFault.{FillFault}
use Rattle.cv_http.specs.declared.buffer.FillFault.TheVariants as fill_fault
use Rattle.cv_http.specs.declared.fault.HttpFault.{HttpFault}
use Rattle.cv_http.specs.declared.fault.HttpFault.TheVariants.{BadHead, HeadTooLarge, BodyTooLarge, NoLength, Coding, Short, ReadFault, NoMemory}

-- a fault that reading a head may answer
abbrev pub IsHeadFault : HttpFault → Type 0
IsHeadFault BadHead = Unit {0}
IsHeadFault HeadTooLarge = Unit {0}
IsHeadFault BodyTooLarge = ⊥
IsHeadFault NoLength = Unit {0}
IsHeadFault Coding = Unit {0}
IsHeadFault Short = Unit {0}
IsHeadFault ReadFault = Unit {0}
IsHeadFault NoMemory = Unit {0}

-- a fault that reading a body may answer
abbrev pub IsBodyFault : HttpFault → Type 0
IsBodyFault BadHead = ⊥
IsBodyFault HeadTooLarge = ⊥
IsBodyFault BodyTooLarge = ⊥
IsBodyFault NoLength = ⊥
IsBodyFault Coding = ⊥
IsBodyFault Short = Unit {0}
IsBodyFault ReadFault = Unit {0}
IsBodyFault NoMemory = Unit {0}

-- a fault that reading a reply may answer
abbrev pub IsReplyFault : HttpFault → Type 0
IsReplyFault BadHead = Unit {0}
IsReplyFault HeadTooLarge = Unit {0}
IsReplyFault BodyTooLarge = Unit {0}
IsReplyFault NoLength = ⊥
IsReplyFault Coding = Unit {0}
IsReplyFault Short = Unit {0}
IsReplyFault ReadFault = Unit {0}
IsReplyFault NoMemory = Unit {0}

-- the fault of a head, a body or a reply where no more was read
abbrev pub filling : FillFault → HttpFault
filling fill_fault.ReadFault = ReadFault
filling fill_fault.NoMemory = NoMemory
