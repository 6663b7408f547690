use Rattle.cv_desk.proofs.gate_state.GateState.age.Given as goal

abbrev pub ghosts-drop_due : goal.ghosts-drop_due
ghosts-drop_due g a = record { name = a.blank.name; parts = a.blank.parts }
