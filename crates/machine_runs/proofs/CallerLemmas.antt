-- The lemmas that crates above cite.
use Rattle.std.specs.Prelude.{List, [], ◌∷◌, ◌++◌, ◌≡◌, ℕ, ◌<◌, cond, length, eqb, Some, get_or, set, map}
use Rattle.std.proofs.Common.{refl, sym, ap, subst, append_assoc, append-nil, ◌∙◌, inl, inr}
use Rattle.std.proofs.Math.ListN.{length-set}
use Rattle.std.proofs.lemmas.List.{get_or-set_same, get_or-set_other, length-map, map-set, get_or-map}
use Rattle.std.proofs.lemmas.Bool.Decides.{eqb_tells}
use Rattle.std.proofs.lemmas.Option.{get_or_from_slice_get, slice_get-get_or}
use Rattle.machine_runs.specs.Run.{Moment, Run, seen_as, made_of}
use Rattle.machine_runs.specs.Members.{MemberSteps, of_member}

-- ---- laws of runs

-- a run, and a run from where it ended, are one run
pub Run-append : {C L S : Type 0} (steps : S → C → L → S → Type 0) (start : S) (ms more : List (Moment C L S))
    (mid now : S)
    → Run steps start ms mid → Run steps mid more now → Run steps start (ms ++ more) now
Run-append steps start [] more mid now run rest = subst (λ s. Run steps s more now) run rest
Run-append steps start (m ∷ ms) more mid now run rest = (run.0, Run-append steps m.after ms more mid now run.1 rest)

-- a run and a further moment is one
pub Run-more : {C L S : Type 0} (steps : S → C → L → S → Type 0) (start : S) (ms : List (Moment C L S)) (now : S)
    (m : Moment C L S)
    → Run steps start ms now → steps now m.command m.line m.after → Run steps start (ms ++ m ∷ []) m.after
Run-more steps start ms now m run step = Run-append steps start ms (m ∷ []) now m.after run (step, refl)

-- a prefix of a run is one, and so is the rest
pub Run-split : {C L S : Type 0} (steps : S → C → L → S → Type 0) (start : S) (ms more : List (Moment C L S)) (now : S)
    → Run steps start (ms ++ more) now → (mid : S) × Run steps start ms mid × Run steps mid more now
Run-split steps start [] more now run = (start, refl, run)
Run-split steps start (m ∷ ms) more now run =
    let parts = Run-split steps m.after ms more now run.1 in
    (parts.0, (run.0, parts.1), parts.2)

-- what holds of the moments so far and the state, and is kept by each step, holds at the end
pub Run-keeps : {C L S : Type 0} (steps : S → C → L → S → Type 0) (R : List (Moment C L S) → S → Type 0)
    → ((done : List (Moment C L S)) (s : S) (m : Moment C L S) → R done s → steps s m.command m.line m.after
    → R (done ++ m ∷ []) m.after)
    → (start : S) (done ms : List (Moment C L S)) (now : S) → R done start → Run steps start ms now → R (done ++ ms) now
Run-keeps steps R keeps start done [] now holds run =
    subst (λ s. R (done ++ []) s) (sym run) (subst (λ ms. R ms start) (sym (append-nil done)) holds)
Run-keeps steps R keeps start done (m ∷ ms) now holds run =
    subst (λ xs. R xs now) (append_assoc done (m ∷ []) ms)
    (Run-keeps steps R keeps m.after (done ++ m ∷ []) ms now (keeps done start m holds run.0) run.1)

-- if each step from a state with P is, seen so, a step of another machine, and keeps P, a run is a run of the other
-- machine
pub Run-seen_as : {C L S D T : Type 0} (steps : S → C → L → S → Type 0) (others : T → D → L → T → Type 0)
    (command : C → D) (state : S → T) (P : S → Type 0)
    → ((s : S) (c : C) (l : L) (t : S) → P s → steps s c l t → others (state s) (command c) l (state t) × P t)
    → (start : S) (ms : List (Moment C L S)) (now : S) → P start → Run steps start ms now
    → Run others (state start) (seen_as command state ms) (state now)
Run-seen_as steps others command state P simulates start [] now holds run = ap state run
Run-seen_as steps others command state P simulates start (m ∷ ms) now holds run =
    let seen = simulates start m.command m.line m.after holds run.0 in
    (seen.0, Run-seen_as steps others command state P simulates m.after ms now seen.1 run.1)

-- if each step from a state with P is a run of another machine, and keeps P, a run is a run of the other machine
pub Run-made_of : {C L S D K T : Type 0} (steps : S → C → L → S → Type 0) (others : T → D → K → T → Type 0)
    (parts : S → Moment C L S → List (Moment D K T)) (state : S → T) (P : S → Type 0)
    → ((s : S) (m : Moment C L S) → P s → steps s m.command m.line m.after
    → Run others (state s) (parts s m) (state m.after) × P m.after)
    → (start : S) (ms : List (Moment C L S)) (now : S) → P start → Run steps start ms now
    → Run others (state start) (made_of parts start ms) (state now)
Run-made_of steps others parts state P each start [] now holds run = ap state run
Run-made_of steps others parts state P each start (m ∷ ms) now holds run =
    let part = each start m holds run.0 in
    Run-append others (state start) (parts start m) (made_of parts m.after ms) (state m.after) (state now) part.0
    (Run-made_of steps others parts state P each m.after ms now part.1 run.1)

-- ---- laws of machines made of members

-- a member's step leaves as many members
pub MemberSteps-length : {C L S : Type 0} {steps : S → C → L → S → Type 0} {members : List S} {place : ℕ} {command : C}
    {line : L} {later : List S}
    → MemberSteps steps members place command line later → length later ≡ length members
MemberSteps-length {members = members} {place = place} step =
    ap length step.others ∙ length-set members place step.after

-- if the place is i, the member i did the step, and else it is as before; a run of it from there is one from here
MemberSteps-run : {C L S : Type 0} (steps : S → C → L → S → Type 0) (members later : List S) (place i : ℕ) (command : C)
    (line : L) (default : S) (rest : List (Moment C L S)) (now : S)
    → i < length members → MemberSteps steps members place command line later
    → Run steps (get_or later i default) rest now
    → Run steps (get_or members i default)
    (cond (eqb place i) (record { command = command; line = line; after = get_or later i default } ∷ []) [] ++ rest) now
MemberSteps-run {C} {L} {S} steps members later place i command line default rest now fits step run =
    let m : Moment C L S = record { command = command; line = line; after = get_or later i default } in
    elim (eqb_tells place i) [
      | inl same ↦
          let old : get_or members i default ≡ step.before =
          subst (λ k. get_or members k default ≡ step.before) same.1
          (get_or_from_slice_get members place step.before default step.was) in
          let new : get_or later i default ≡ step.after =
          ap (λ s. get_or s i default) step.others
          ∙ subst (λ k. get_or (set members k step.after) i default ≡ step.after) (sym same.1)
          (get_or-set_same members i step.after default fits) in
          subst (λ b. Run steps (get_or members i default) (cond b (m ∷ []) [] ++ rest) now) (sym same.0) (
            subst (λ s. steps s command line (get_or later i default)) (sym old)
                (subst (steps step.before command line) (sym new) step.step),
            run,
          )
      | inr other ↦
          let new : get_or later i default ≡ get_or members i default =
          ap (λ s. get_or s i default) step.others
          ∙ get_or-set_other members place i step.after default (λ e. other.1 (sym e)) in
          subst (λ b. Run steps (get_or members i default) (cond b (m ∷ []) [] ++ rest) now) (sym other.0)
          (subst (λ s. Run steps s rest now) new run)
    ]

-- if each step is one of the member that its command concerns, a run is, for each member, a run of that member
pub Run-of_member : {B C L S W : Type 0} (all : W → B → L → W → Type 0) (steps : S → C → L → S → Type 0)
    (members : W → List S) (place : B → ℕ) (act : W → B → C) (default : S)
    → ((w : W) (b : B) (l : L) (v : W) → all w b l v → MemberSteps steps (members w) (place b) (act w b) l (members v))
    → (i : ℕ) (start : W) (ms : List (Moment B L W)) (now : W) → i < length (members start) → Run all start ms now
    → Run steps (get_or (members start) i default) (of_member members place act default i start ms)
    (get_or (members now) i default)
Run-of_member all steps members place act default each i start [] now fits run =
    ap (λ s. get_or (members s) i default) run
Run-of_member all steps members place act default each i start (m ∷ ms) now fits run =
    let step = each start m.command m.line m.after run.0 in
    MemberSteps-run steps (members start) (members m.after) (place m.command) i (act start m.command) m.line default
    (of_member members place act default i m.after ms) (get_or (members now) i default) fits step
    (Run-of_member all steps members place act default each i m.after ms now
    (subst (λ n. i < n) (sym (MemberSteps-length step)) fits) run.1)

-- the step of a value in a list of them, each seen as its state, is the step of a member
pub MemberSteps-set : {N C L S : Type 0} (steps : S → C → L → S → Type 0) (state : N → S) (xs : List N) (place : ℕ)
    (d y : N) (command : C) (line : L)
    → place < length xs → steps (state (get_or xs place d)) command line (state y)
    → MemberSteps steps (map state xs) place command line (map state (set xs place y))
MemberSteps-set steps state xs place d y command line fits step = record {
  before = state (get_or xs place d);
  after = state y;
  was = slice_get-get_or (map state xs) place (state d) (subst (λ n. place < n) (sym (length-map xs state)) fits)
      ∙ ap Some (get_or-map state xs place d (state d) fits);
  step = step;
  others = map-set state xs place y;
}
