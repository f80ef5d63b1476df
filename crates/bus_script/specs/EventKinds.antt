-- The kinds of events: their names, and how many words a line of each has.
use Rattle.std.specs.Prelude.{ℕ, List, [], ◌∷◌, Option, codes, find}
use Rattle.std.specs.Str.{bytes_eq}
use Rattle.bus_script.specs.declared.kinds.EventKind.{EventKind}
use Rattle.bus_script.specs.declared.kinds.EventKind.TheVariants.{Send, Deliver, Inject, Load, Key, Boot, Cut, Stop}
use Rattle.bus_script.specs.declared.kinds.EventKind.TheVariants.{Fail}

abbrev pub kind_name : EventKind → List ℕ
kind_name Send = codes "send"
kind_name Deliver = codes "deliver"
kind_name Inject = codes "inject"
kind_name Load = codes "load"
kind_name Key = codes "key"
kind_name Boot = codes "boot"
kind_name Cut = codes "cut"
kind_name Stop = codes "stop"
kind_name Fail = codes "fail"

-- how many words a line of the kind has, the event's name included
abbrev pub kind_words : EventKind → ℕ
kind_words Send = 4
kind_words Deliver = 3
kind_words Inject = 4
kind_words Load = 5
kind_words Key = 9
kind_words Boot = 3
kind_words Cut = 3
kind_words Stop = 3
kind_words Fail = 3

abbrev pub kinds : List EventKind
kinds = Send ∷ Deliver ∷ Inject ∷ Load ∷ Key ∷ Boot ∷ Cut ∷ Stop ∷ Fail ∷ []

-- the kinds of events that are a node's own: all but those by which a PDU goes from a node of the bus to another
abbrev pub own_kinds : List EventKind
own_kinds = Inject ∷ Load ∷ Key ∷ Boot ∷ Cut ∷ Stop ∷ Fail ∷ []

abbrev pub IsOwnKind : EventKind → Type 0
IsOwnKind Send = ⊥
IsOwnKind Deliver = ⊥
IsOwnKind kind = Unit {0}

-- the kind among these that a word names
unfoldable pub kind_of : List EventKind → List ℕ → Option EventKind
kind_of among word = find (λ kind. bytes_eq word (kind_name kind)) among
