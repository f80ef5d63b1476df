-- A line without words is no event.
use Rattle.std.proofs.Common.{◌≡◌, ℕ, Bool, true, false, cond, List, [], ◌∷◌, length, None, Some, Err, refl, ap, ◌∙◌, arith}
use Rattle.std.specs.Prelude.{◌==◌, find}
use Rattle.std.specs.Str.{bytes_eq}
use Rattle.bus_config.specs.declared.node_lines.NodeLine.{NodeLine}
use Rattle.text_lines.specs.declared.fault.Cause.TheVariants as cause
use Rattle.bus_script.specs.declared.kinds.EventKind.{EventKind}
use Rattle.bus_script.specs.declared.kinds.EventKind.TheVariants.{Send, Deliver, Inject, Load, Key, Boot, Cut, Stop, Fail}
use Rattle.bus_script.specs.EventKinds.{kind_name, kind_of}
use Rattle.bus_script.specs.EventForms.{event_among}

-- no kind is named by no bytes
named : (kind : EventKind) → bytes_eq [] (kind_name kind) ≡ false
named Send = refl
named Deliver = refl
named Inject = refl
named Load = refl
named Key = refl
named Boot = refl
named Cut = refl
named Stop = refl
named Fail = refl

none_named : (among : List EventKind) → kind_of among [] ≡ None
unfolding kind_of
none_named [] = refl
none_named (kind ∷ among) =
    ap (λ (b : Bool). cond b (Some kind) (find (λ k. bytes_eq [] (kind_name k)) among)) (named kind) ∙ none_named among

pub no_words : (among : List EventKind) (nodes : List NodeLine) (words : List (List ℕ)) → (length words == 0) ≡ true → event_among among nodes words ≡ Err cause.Event
unfolding event_among
no_words among nodes [] h = rw (none_named among) refl
no_words among nodes (word ∷ words) h = absurd (let empty : length (word ∷ words) ≡ 0 = grind arith in omega arith)
