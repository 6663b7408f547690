use Rattle.cv_rows.specs.Faults.{IsFaultOf}
use Rattle.cv_rows.specs.Reading.{entries_of}
use Rattle.cv_rows.proofs.OneFault.{one_of, said}
use Rattle.cv_rows.proofs.laws.one_first_fault.Goals as goal

pub returns : goal.returns
returns c = λ bytes at f g f_apart g_apart is was.
    one_of at (entries_of bytes) f g (said f (IsFaultOf at (entries_of bytes) f) f_apart is) (said g (IsFaultOf at (entries_of bytes) g) g_apart was)
