use Rattle.std.proofs.Common.{rules, ◌≡◌, [], ◌∷◌, reverse, ap, ◌∙◌}
use Rattle.std.proofs.lemmas.List.{reverse-append}
use Rattle.cv_ports.proofs.memory_dial.MemoryDialDial.dial.Goals as goal

pub returns-clause-gives : goal.returns-clause-gives
returns-clause-gives c =
    let first : reverse c.self.inside.waiting.items ≡ c.in-Some-pop.link ∷ reverse c.pop.new.self.items =
    ap reverse c.in-Some-pop.ensures.items ∙ reverse-append c.pop.new.self.items (c.in-Some-pop.link ∷ []) in
    (c.in-Some-pop.link, rw (← c.self.view_is) first, search rules, search rules)
