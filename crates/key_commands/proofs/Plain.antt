-- Values that don't begin with `-` are taken as they are.
use Rattle.std.proofs.Common.{◌≡◌, ◌∙◌, ◌==◌, ℕ, Bool, true, false, not, List, [], ◌∷◌, Option, Some, None, ap, ap₂, sym, refl, subst, length, is_some, arith}
use Rattle.std.specs.Prelude.{fold, if◌then◌else◌, option_and_then}
use Rattle.std.specs.Option.{option_map_or}
use Rattle.std.specs.Str.{bytes_eq}
use Rattle.std.proofs.lemmas.Slice.Eq.{bytes_eq-Decides}
use Rattle.std.specs.List.{list_all}
use Rattle.std.proofs.lemmas.Bool.{and_parts}
use Rattle.clap.specs.Kinds.{Kinds, or_else}
use Rattle.clap.specs.Lexer.{long_of, long_of_rest, short_of, short_of_rest, strip_byte}
use Rattle.clap.specs.Walk.{long_or_other, short_or_plain, trailing, Held, Rule, Step, Text, Walk, after_step, finished, idle, nothing_held, settled, value, walk, walk_from, walked, word_met}
use Rattle.clap.specs.Faults.{bundle_fault, flag_word_fault, check_fault, defaults_fault, entered_fault, other_fault, settle_fault, step_fault, turn_fault, walk_fault}
use Rattle.clap.specs.Simple.{App, Shape, built, entered}
use Rattle.key_commands.specs.declared.subcommands.Subcommand.{Subcommand}
use Rattle.key_commands.specs.declared.subcommands.Subcommand.TheVariants.{Make, Read, Confirm, Bootmac, Load}
use Rattle.key_commands.specs.Subcommands.{values_of}
use Rattle.key_commands.proofs.Values.{is_false}
use Rattle.key_commands.specs.Parsing.{command_of, found, given, is_plain, refusals, values_in}

strip_plain : (word : Text) → is_plain word ≡ true → strip_byte 45 word ≡ None
strip_plain [] plain = refl
strip_plain (x ∷ xs) plain = go (x == 45) plain
  where
    go : (b : Bool) → not b ≡ true → (if b then Some xs else None) ≡ None
    go true h = cc h
    go false h = refl

no_long : (word : Text) → is_plain word ≡ true → long_of word ≡ None
no_long word plain =
    ap (λ (o : Option Text). option_and_then long_of_rest (option_and_then (strip_byte 45) o)) (strip_plain word plain)

no_short : (word : Text) → is_plain word ≡ true → short_of word ≡ None
no_short word plain = ap (option_and_then short_of_rest) (strip_plain word plain)

no_dashes : (word : Text) → is_plain word ≡ true → bytes_eq word (45 ∷ 45 ∷ []) ≡ false
no_dashes word plain =
    is_false _ _ (bytes_eq-Decides word (45 ∷ 45 ∷ []))
    (λ same.
    let bad : false ≡ true = subst (λ (w : Text). is_plain w ≡ true) same plain in
    cc bad)

-- such a word goes to a positional, and is no fault by itself
plain_met : (c : List Rule) (position : ℕ) (word : Text) (h : Held) → is_plain word ≡ true → word_met c [] false idle position word h ≡ (h, value)
plain_met c position word h plain =
    ap (λ (b : Bool). if b then (h, trailing position) else long_or_other c idle word (long_of word) h) (no_dashes word plain)
    ∙ ap (λ (o : Option (Text × Option Text)). long_or_other c idle word o h) (no_long word plain)
    ∙ ap (λ (o : Option Text). short_or_plain c idle word o h) (no_short word plain)

plain_fault : (s : Shape) (word : Text) (h : Held) → is_plain word ≡ true → other_fault s None word h ≡ []
plain_fault s word h plain =
    ap (λ (b : Bool). if b then [] else flag_word_fault s.rules s.args_override_self (long_of word) word h) (no_dashes word plain)
    ∙ ap (λ (o : Option (Text × Option Text)). flag_word_fault s.rules s.args_override_self o word h) (no_long word plain)
    ∙ ap (λ (o : Option Text). option_map_or (λ flags. bundle_fault s.rules s.args_override_self flags h) o []) (no_short word plain)

-- between two arguments nothing waits for a value
abbrev at_rest : Held → ℕ → Walk
at_rest h position = record { held = h; waiting = idle; position = position; is_trailing = false; stopped = None }

abbrev IsAtRest : Walk → Type 0
IsAtRest w = w ≡ at_rest w.held w.position

-- what such a word leaves
abbrev after_plain : List Rule → Walk → Text → Walk
after_plain c w word = after_step c word w w.held value

walked_plain : (c : List Rule) (w : Walk) (word : Text) → IsAtRest w → is_plain word ≡ true → walked c [] w word ≡ after_plain c w word
unfolding walked
walked_plain c w word rest plain =
    subst (λ (v : Walk). walked c [] v word ≡ after_plain c v word) (sym rest)
    (ap (λ (met : Held × Step). after_step c word (at_rest w.held w.position) met.0 met.1) (plain_met c w.position word w.held plain))

turn_plain : (s : Shape) (w : Walk) (word : Text) → IsAtRest w → is_plain word ≡ true → turn_fault s [] w word ≡ step_fault s w.position w.held value
turn_plain s w word rest plain =
    subst (λ (v : Walk). turn_fault s [] v word ≡ step_fault s v.position v.held value) (sym rest)
    (ap₂ (λ (f : Kinds) (met : Held × Step). or_else f (step_fault s w.position met.0 met.1)) (plain_fault s word w.held plain) (plain_met s.rules w.position word w.held plain))

-- before each of these arguments the walk is at rest, and the positional takes it
abbrev Passes : Shape → Walk → List Text → Type 0
Passes s w [] = Unit {0}
Passes s w (word ∷ words) =
    IsAtRest w × (step_fault s w.position w.held value ≡ []) × Passes s (after_plain s.rules w word) words

plain_walk : (s : Shape) (w : Walk) (words : List Text) → list_all is_plain words ≡ true → Passes s w words
    → fold (walked s.rules []) w words ≡ fold (after_plain s.rules) w words
plain_walk s w [] plain passes = refl
plain_walk s w (word ∷ words) plain passes =
    let both = and_parts (is_plain word) (list_all is_plain words) plain in
    ap (λ (v : Walk). fold (walked s.rules []) v words) (walked_plain s.rules w word passes.0 both.0)
    ∙ plain_walk s (after_plain s.rules w word) words both.1 passes.2

plain_faults : (s : Shape) (w : Walk) (words : List Text) → list_all is_plain words ≡ true → Passes s w words → walk_fault s [] w words ≡ []
unfolding walk_fault
plain_faults s w [] plain passes = refl
plain_faults s w (word ∷ words) plain passes =
    let both = and_parts (is_plain word) (list_all is_plain words) plain in
    ap₂ or_else (turn_plain s w word passes.0 both.0 ∙ passes.1)
    (ap (λ (v : Walk). walk_fault s [] v words) (walked_plain s.rules w word passes.0 both.0)
    ∙ plain_faults s (after_plain s.rules w word) words both.1 passes.2)

-- ---- the commands

abbrev ready : Subcommand → App
ready s = built (command_of s)

abbrev shape : Subcommand → Shape
shape s = (ready s).top

abbrev start : Walk
start = walk_from nothing_held

-- the walk over plain words
abbrev through : Subcommand → List Text → Walk
through s values = fold (after_plain (shape s).rules) start values

-- the kinds of error after the walk
abbrev ends : App → Walk → Kinds
ends a w =
    or_else (entered_fault a w.stopped)
    (or_else (settle_fault a.top.rules a.top.args_override_self w.held)
    (or_else (defaults_fault (settled a.top.rules w.held).rows a.top.rules)
    (check_fault a.top (finished a.top.rules w.held) (is_some (entered a w.stopped)))))

refusals_by_walk : (s : Subcommand) (name : Text) (values : List Text) (w : Walk) → walk (shape s).rules [] nothing_held values ≡ w
    → walk_fault (shape s) [] start values ≡ [] → ends (ready s) w ≡ [] → refusals s (name ∷ values) ≡ []
unfolding refusals
refusals_by_walk Make name values w walk_is none ends_is =
    ap₂ (λ (f : Kinds) (v : Walk). or_else f (ends (ready Make) v)) none walk_is ∙ ends_is
refusals_by_walk Read name values w walk_is none ends_is =
    ap₂ (λ (f : Kinds) (v : Walk). or_else f (ends (ready Read) v)) none walk_is ∙ ends_is
refusals_by_walk Confirm name values w walk_is none ends_is =
    ap₂ (λ (f : Kinds) (v : Walk). or_else f (ends (ready Confirm) v)) none walk_is ∙ ends_is
refusals_by_walk Bootmac name values w walk_is none ends_is =
    ap₂ (λ (f : Kinds) (v : Walk). or_else f (ends (ready Bootmac) v)) none walk_is ∙ ends_is
refusals_by_walk Load name values w walk_is none ends_is =
    ap₂ (λ (f : Kinds) (v : Walk). or_else f (ends (ready Load) v)) none walk_is ∙ ends_is

given_by_walk : (s : Subcommand) (name : Text) (values : List Text) (w : Walk) → walk (shape s).rules [] nothing_held values ≡ w
    → given s (name ∷ values) ≡ values_in (values_of s) (finished (shape s).rules w.held)
unfolding found
given_by_walk Make name values w walk_is = ap (λ (v : Walk). values_in (values_of Make) (finished (shape Make).rules v.held)) walk_is
given_by_walk Read name values w walk_is = ap (λ (v : Walk). values_in (values_of Read) (finished (shape Read).rules v.held)) walk_is
given_by_walk Confirm name values w walk_is = ap (λ (v : Walk). values_in (values_of Confirm) (finished (shape Confirm).rules v.held)) walk_is
given_by_walk Bootmac name values w walk_is = ap (λ (v : Walk). values_in (values_of Bootmac) (finished (shape Bootmac).rules v.held)) walk_is
given_by_walk Load name values w walk_is = ap (λ (v : Walk). values_in (values_of Load) (finished (shape Load).rules v.held)) walk_is

-- clap takes the values, and finds them as they are
abbrev Takes : Subcommand → Text → List Text → Type 0
Takes s name values = (refusals s (name ∷ values) ≡ []) × (given s (name ∷ values) ≡ values)

takes : (s : Subcommand) (name : Text) (values : List Text) → list_all is_plain values ≡ true → Passes (shape s) start values
    → ends (ready s) (through s values) ≡ [] → values_in (values_of s) (finished (shape s).rules (through s values).held) ≡ values
    → Takes s name values
takes s name values plain passes ends_is values_are =
    let walk_is = plain_walk (shape s) start values plain passes in (
      refusals_by_walk s name values (through s values) walk_is (plain_faults (shape s) start values plain passes) ends_is,
      given_by_walk s name values (through s values) walk_is ∙ values_are,
    )

make_takes : (name : Text) (values : List Text) → length values ≡ 7 → list_all is_plain values ≡ true → Takes Make name values
unfolding defaults_fault
make_takes name (a ∷ b ∷ c ∷ d ∷ e ∷ f ∷ g ∷ []) size plain =
    takes Make name (a ∷ b ∷ c ∷ d ∷ e ∷ f ∷ g ∷ []) plain
    (refl, refl, (refl, refl, (refl, refl, (refl, refl, (refl, refl, (refl, refl, (refl, refl, tt))))))) refl refl
make_takes name values size plain = absurd (omega arith)

read_takes : (name : Text) (values : List Text) → length values ≡ 4 → list_all is_plain values ≡ true → Takes Read name values
unfolding defaults_fault
read_takes name (a ∷ b ∷ c ∷ d ∷ []) size plain =
    takes Read name (a ∷ b ∷ c ∷ d ∷ []) plain (refl, refl, (refl, refl, (refl, refl, (refl, refl, tt)))) refl refl
read_takes name values size plain = absurd (omega arith)

confirm_takes : (name : Text) (values : List Text) → length values ≡ 7 → list_all is_plain values ≡ true → Takes Confirm name values
unfolding defaults_fault
confirm_takes name (a ∷ b ∷ c ∷ d ∷ e ∷ f ∷ g ∷ []) size plain =
    takes Confirm name (a ∷ b ∷ c ∷ d ∷ e ∷ f ∷ g ∷ []) plain
    (refl, refl, (refl, refl, (refl, refl, (refl, refl, (refl, refl, (refl, refl, (refl, refl, tt))))))) refl refl
confirm_takes name values size plain = absurd (omega arith)

bootmac_takes : (name : Text) (values : List Text) → length values ≡ 2 → list_all is_plain values ≡ true → Takes Bootmac name values
unfolding defaults_fault
bootmac_takes name (a ∷ b ∷ []) size plain = takes Bootmac name (a ∷ b ∷ []) plain (refl, refl, (refl, refl, tt)) refl refl
bootmac_takes name values size plain = absurd (omega arith)

load_takes : (name : Text) (values : List Text) → length values ≡ 2 → list_all is_plain values ≡ true → Takes Load name values
unfolding defaults_fault
load_takes name (a ∷ b ∷ []) size plain = takes Load name (a ∷ b ∷ []) plain (refl, refl, (refl, refl, tt)) refl refl
load_takes name values size plain = absurd (omega arith)

-- the values of a subcommand, none of which begins with `-`, are taken as they are
pub plain_values : (s : Subcommand) (name : Text) (values : List Text) → length values ≡ length (values_of s) → list_all is_plain values ≡ true
    → Takes s name values
plain_values Make = make_takes
plain_values Read = read_takes
plain_values Confirm = confirm_takes
plain_values Bootmac = bootmac_takes
plain_values Load = load_takes
