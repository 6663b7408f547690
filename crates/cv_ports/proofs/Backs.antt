-- The links that a dial in memory kept are those of which it told that they came back.
use Rattle.std.proofs.Common.{◌≡◌, List, [], ◌∷◌, ◌++◌, map, refl, sym, ap, ◌∙◌}
use Rattle.std.proofs.lemmas.List.{map-append, append-nil}
use Rattle.cv_ports.specs.CameBack.{links_of, events_of}
use Rattle.cv_ports.specs.Dial.{Came, Event, Opened, Back}
use Rattle.cv_ports.specs.MemoryDial.{came_in_memory, backs_of}
use Rattle.cv_ports.specs.declared.came_back.CameBack.{CameBack, Nothing, Opened', Back'}

backs-append : (es more : List Event) → backs_of (es ++ more) ≡ backs_of es ++ backs_of more
backs-append [] more = refl
backs-append (Opened host port ∷ es) more = backs-append es more
backs-append (Back came ∷ es) more = ap (λ (l : List Came). came ∷ l) (backs-append es more)

pub backs_tell : (c : CameBack) → map came_in_memory (links_of c) ≡ backs_of (events_of c)
backs_tell Nothing = refl
backs_tell (Opened' host port place before) = backs_tell before ∙ sym (backs-append (events_of before) (Opened host port ∷ []) ∙ append-nil (backs_of (events_of before)))
backs_tell (Back' link place before) =
    map-append came_in_memory (links_of before) (link ∷ []) ∙ ap (λ (l : List Came). l ++ came_in_memory link ∷ []) (backs_tell before)
    ∙ sym (backs-append (events_of before) (Back (came_in_memory link) ∷ []))
