use Rattle.cv_desk_tests.proofs.Idle.{idle_then, idle_done}
use Rattle.cv_desk_tests.proofs.test_gates.commit_word.Goals as goal

pub returns-in-Ready : goal.returns-in-Ready
returns-in-Ready c = idle_then _ _ _ _ _ _ _ _ _ _ _ _ _ c.in-Ready.ensures.begins c.finish.ensures.ends

pub returns-in-Done : goal.returns-in-Done
returns-in-Done c = idle_done _ _ _ _ _ _ _ _ _ _ c.in-Done.ensures.begins
