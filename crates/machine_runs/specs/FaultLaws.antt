-- Laws of failed lines.
use Rattle.std.specs.Prelude.{◌≡◌, ℕ, ◌+◌, ◌≤◌, ◌⊎◌, List, [], ◌∷◌, Bool, true, false, cond, count_by}
use Rattle.std.proofs.Common.{refl, ap, subst, sym, ◌∙◌, arith, inl, inr}
use Rattle.std.proofs.lemmas.List.Sums.{sum_by-append}
use Rattle.basics.specs.FaultCount.{last_count, Rose}
use Rattle.machine_runs.specs.Run.{Moment, Run, lines_in}
use Rattle.machine_runs.specs.Faults.{Counts, FailsWithin, QuietUntilArmed}

-- a step, and then a rise of n or the last value
counted_on : (b : Bool) (before mid after n : ℕ) → before ≤ mid → (b ≡ true → Rose before mid) → mid ≤ after
    → (mid + n ≤ after) ⊎ (last_count ≤ after) → (before + (cond b 1 0 + n) ≤ after) ⊎ (last_count ≤ after)
counted_on b before mid after n later rose more (inr top) = inr top
counted_on false before mid after n later rose more (inl most) = inl (omega arith)
counted_on true before mid after n later rose more (inl most) =
    elim (rose refl) [ inl less ↦ inl (omega arith) | inr top ↦ inr (omega arith) ]

count_by-cons : {L : Type 0} (p : L → Bool) (x : L) (xs : List L) → count_by p (x ∷ xs) ≡ cond (p x) 1 0 + count_by p xs
count_by-cons p x xs = sum_by-append (λ y. cond (p y) 1 0) (x ∷ []) xs ∙ omega arith

-- if each step counts its failures, the failed lines of a run are at most the rise of the count
pub Run-fails_within : {C L S : Type 0} (steps : S → C → L → S → Type 0) (fails : L → Bool) (count : S → ℕ)
    → ((s : S) (c : C) (l : L) (t : S) → steps s c l t → Counts fails count s l t)
    → (start : S) (ms : List (Moment C L S)) (now : S) → Run steps start ms now → FailsWithin fails count start ms now
Run-fails_within steps fails count each start [] now run =
    record { later = omega (arith, ap count run); within = inl (omega (arith, ap count run)) }
Run-fails_within steps fails count each start (m ∷ ms) now run =
    let step = each start m.command m.line m.after run.0 in
    let rest = Run-fails_within steps fails count each m.after ms now run.1 in
    record {
      later = omega (arith, step.later, rest.later);
      within =
          subst (λ n. (count start + n ≤ count now) ⊎ (last_count ≤ count now))
          (sym (count_by-cons fails m.line (lines_in ms)))
          (counted_on (fails m.line) (count start) (count m.after) (count now)
          (count_by fails (lines_in ms)) step.later step.rose rest.later rest.within);
    }

-- a run from a quiet state is quiet until something is armed, if each step from a quiet state that arms nothing stays
-- quiet and doesn't fail
pub Run-quiet_until_armed : {C L S : Type 0} (steps : S → C → L → S → Type 0) (arms : C → Bool) (fails : L → Bool)
    (Quiet : S → Type 0)
    → ((s : S) (c : C) (l : L) (t : S) → Quiet s → arms c ≡ false → steps s c l t → Quiet t × (fails l ≡ false))
    → (start : S) (ms : List (Moment C L S)) (now : S) → Quiet start → Run steps start ms now
    → QuietUntilArmed arms fails ms
Run-quiet_until_armed steps arms fails Quiet each start [] now quiet run = tt
Run-quiet_until_armed steps arms fails Quiet each start (m ∷ ms) now quiet run = λ calm.
    let step = each start m.command m.line m.after quiet calm run.0 in
    (step.1, Run-quiet_until_armed steps arms fails Quiet each m.after ms now step.0 run.1)
