-- Of starts on a part of blanks without a put between them one alone programs anything.
use Rattle.std.proofs.Common.{◌≡◌, inl, inr, ℕ, ◌+◌, ◌≤◌, Bool, true, false, nat_lt, if◌then◌else◌, None, List, [], ◌∷◌, length, refl, sym, ap, subst, arith}
use Rattle.std.proofs.lemmas.List.{length-append}
use Rattle.seal_parts.specs.declared.PartClass.TheVariants.{Blanks}
use Rattle.seal_parts.specs.declared.DeedBody.{DeedBody}
use Rattle.seal_parts.specs.declared.DeedBody.TheVariants.{Opens, Puts, Moves, IsNew}
use Rattle.seal_parts.specs.Parts.{PartFlash, PartView, ReadsUnits}
use Rattle.seal_parts.specs.Designs.{PartWrite, DoesPartWrites}
use Rattle.seal_logs.specs.declared.starting.FoundStore.{FoundStore}
use Rattle.seal_logs.specs.declared.starting.StartEnd.TheVariants.{Found}
use Rattle.seal_logs.specs.Starts.{IsStoreFound}
use Rattle.seal_laws.specs.declared.SealSizes.{SealSizes}
use Rattle.seal_laws.specs.Writes.{reads_of, seal_line, deed_of, deed_writes, restate_writes, open_writes, start_writes}
use Rattle.seal_laws.specs.Lives.{SealMachine, SealEvent, starts, puts_cell, makes_anew, cuts_start, cuts_puts, cuts_anew, rests, StartsSeal, SealLives, FindsSeal, FormattedSeal, OnlyResets}
use Rattle.seal_laws.specs.Wear.{programs_of_starts}
use Rattle.seal_laws.proofs.Flashes.{read_leaves}
use Rattle.seal_laws.proofs.Starting.{Quiet, quiet_in, quiet_at}
use Rattle.seal_laws.proofs.StartingMoved.{start_leaves}
use Rattle.seal_laws.proofs.Resting.{nothing_written, nothing_moved}
use Rattle.seal_laws.proofs.Living.{Stands, off_rests, After, AfterAll, Only, after_event, start_still, cut_still, stands_then}

-- ---- how much a start writes

restated_units : (f : FoundStore) (c : Bool) → length (if c then [] else deed_writes Blanks f.latest.bank f.next (seal_line f.latest.generation f.latest.deed)) ≤ 3
restated_units f true = omega arith
restated_units f false = omega arith

opened_units : (f : FoundStore) (c : Bool) → length (if c then deed_writes Blanks f.home f.home_next (seal_line f.generation (deed_of None Opens)) else []) ≤ 3
opened_units f true = omega arith
opened_units f false = omega arith

open_units : (s : SealSizes) (f : FoundStore) (body : DeedBody) → length (open_writes Blanks s f body) ≤ 3
open_units s f (Moves to next) = opened_units f (nat_lt s.log.cells f.home_next)
open_units s f Opens = omega arith
open_units s f (Puts cell payload) = omega arith
open_units s f IsNew = omega arith

start_units : (s : SealSizes) (f : FoundStore) → length (start_writes Blanks s f) ≤ 6
start_units s f =
    let all = length-append (restate_writes Blanks f) (open_writes Blanks s f f.latest.deed.body) in
    let one = restated_units f f.is_clean in
    let other = open_units s f f.latest.deed.body in
    omega (arith, all, one, other)

-- ---- starts without a put between them

none_both : (m n : ℕ) → m ≡ 0 → n ≡ 0 → m + n ≡ 0
none_both m n a b = omega (arith, a, b)

module _ (P : List (List ℕ) → Type 0) (s : SealSizes) where
  quiet_nothing : (f after : PartFlash) (view : PartView) (reads : ReadsUnits Blanks f view after) (found : FoundStore) (cells : List (List ℕ)) → Quiet P s.log f → IsStoreFound s.log (reads_of Blanks view) found cells → start_writes Blanks s found ≡ []
  quiet_nothing f after view reads found cells (quiet_in b g last cur chain copy now i w) x = nothing_written P s f after view reads found cells b g last cur chain copy now i w x
  quiet_nothing f after view reads found cells (quiet_at m g last cur chain b copy i w free) x = nothing_moved P s f after view reads found cells m g last cur chain b copy i w free x

  abbrev Q : PartFlash → Type 0
  Q f = Quiet P s.log f

  nothing : (c : SealMachine) (found : FoundStore) (made : List (List ℕ)) (after : PartFlash) → Q c.flash → FindsSeal Blanks s c (Found found) made after → start_writes Blanks s found ≡ []
  nothing c found made after quiet finds = quiet_nothing c.flash after finds.view finds.reads found made quiet finds.finds

  still_none : (resets : List SealEvent) (c d : SealMachine) → OnlyResets resets → Q c.flash → (run : SealLives Blanks s resets c d) → programs_of_starts Blanks s resets c d run ≡ 0
  still_none [] c d only quiet run = refl
  still_none (starts ∷ resets) c d only quiet run =
      let same = start_still s Q nothing c run.0 quiet run.1.0 in
      let none = ap (λ (ws : List PartWrite). length ws) (nothing c run.1.0.found run.1.0.cells run.1.0.between quiet run.1.0.finds) in
      let rest = still_none resets run.0 d only (subst Q (sym same) quiet) run.1.1 in
      none_both (length (start_writes Blanks s run.1.0.found)) (programs_of_starts Blanks s resets run.0 d run.1.1) none rest
  still_none (cuts_start ∷ resets) c d only quiet run = (let same = cut_still s Q nothing c run.0 quiet run.1.0 in still_none resets run.0 d only (subst Q (sym same) quiet) run.1.1)
  still_none (rests ∷ resets) c d only quiet run = (let same = run.1.0.0 in still_none resets run.0 d only (subst Q (sym same) quiet) run.1.1)
  still_none (puts_cell i bytes ∷ resets) c d only quiet run = absurd only
  still_none (makes_anew made ∷ resets) c d only quiet run = absurd only
  still_none (cuts_puts i bytes ∷ resets) c d only quiet run = absurd only
  still_none (cuts_anew made ∷ resets) c d only quiet run = absurd only

some_alone : (m n : ℕ) → m ≤ 6 → n ≡ 0 → m + n ≤ 6
some_alone m n a b = omega (arith, a, b)

none_first : (m n : ℕ) → m ≡ 0 → n ≤ 6 → m + n ≤ 6
none_first m n a b = omega (arith, a, b)

few : (P : List (List ℕ) → Type 0) (s : SealSizes) (two : 2 ≤ s.log.banks) (limit : ℕ) → s.log.cells + 2 ≤ limit → (resets : List SealEvent) (c d : SealMachine) → OnlyResets resets → Stands P s limit c
    → (run : SealLives Blanks s resets c d) → programs_of_starts Blanks s resets c d run ≤ 6
few P s two limit least [] c d only i run = (let e : 0 ≤ 6 = omega arith in e)
few P s two limit least (starts ∷ resets) c d only i run =
    let x : StartsSeal Blanks s c run.0 = run.1.0 in
    let between : x.between ≡ c.flash = read_leaves c.flash x.between x.finds.view x.finds.reads in
    let leaves = start_leaves P s c.flash x.between x.finds.view x.finds.reads x.found x.cells limit (off_rests P s limit c i) x.finds.finds in
    let more = after_event P s two limit least c run.0 i starts x in
    elim (leaves.quiet run.0.flash (subst (λ (z : PartFlash). DoesPartWrites Blanks (start_writes Blanks s x.found) z run.0.flash) between x.writes)) [
      | inl none ↦ none_first (length (start_writes Blanks s x.found)) (programs_of_starts Blanks s resets run.0 d run.1.1) (ap (λ (ws : List PartWrite). length ws) none)
          (few (After starts P) s two more.limit more.least resets run.0 d only more.stands run.1.1)
      | inr quiet ↦ some_alone (length (start_writes Blanks s x.found)) (programs_of_starts Blanks s resets run.0 d run.1.1) (start_units s x.found) (still_none P s resets run.0 d only quiet run.1.1)
    ]
few P s two limit least (cuts_start ∷ resets) c d only i run = (let more = after_event P s two limit least c run.0 i cuts_start run.1.0 in few (After cuts_start P) s two more.limit more.least resets run.0 d only more.stands run.1.1)
few P s two limit least (rests ∷ resets) c d only i run = (let more = after_event P s two limit least c run.0 i rests run.1.0 in few (After rests P) s two more.limit more.least resets run.0 d only more.stands run.1.1)
few P s two limit least (puts_cell j bytes ∷ resets) c d only i run = absurd only
few P s two limit least (makes_anew made ∷ resets) c d only i run = absurd only
few P s two limit least (cuts_puts j bytes ∷ resets) c d only i run = absurd only
few P s two limit least (cuts_anew made ∷ resets) c d only i run = absurd only

pub resets_program_few : (s : SealSizes) (events resets : List SealEvent) (cells : List (List ℕ)) (a b c : SealMachine) → FormattedSeal Blanks s cells a → SealLives Blanks s events a b → OnlyResets resets
    → (run : SealLives Blanks s resets b c) → programs_of_starts Blanks s resets b c run ≤ 6
resets_program_few s events resets cells a b c x before only run =
    let i = stands_then s events cells a b x before in
    few (AfterAll events (Only cells)) s x.fits.two i.limit i.least resets b c only i.stands run
