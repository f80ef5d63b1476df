-- The definitions at values that anyone can work out.
use Rattle.std.proofs.Common.{◌≡◌, ℕ, ◌+◌, List, [], ◌∷◌, ◌++◌, Some, None, refl, inl, inr, arith, sym, ◌∙◌, ap, length}
use Rattle.std.proofs.lemmas.Option.{same_Some}
use Rattle.bus_port.specs.Fault.{last_count, counted, Rose}
use Rattle.bus_port.specs.Source.{SourceState, Came}
use Rattle.bus_port.specs.Sink.{SinkState, Appended}

one_more : counted 3 ≡ 4
one_more = refl

stands_still : counted last_count ≡ 18446744073709551615
stands_still = refl

rose : Rose 3 4
rose = inl (omega arith)

stands_at_its_last_value : Rose last_count last_count
stands_at_its_last_value = inr (omega arith)

did_not_rise : Rose 3 3 → ⊥
did_not_rise (inl rise) = omega arith
did_not_rise (inr last) = omega arith

abbrev source : List ℕ → ℕ → SourceState
source left taken = record { told = Some left; taken = taken; faults = 0 }

two_came : Came (source (1 ∷ 2 ∷ 3 ∷ []) 0) (source (3 ∷ []) 2) (1 ∷ 2 ∷ [])
two_came = record {
  next = λ left told. (3 ∷ [], refl, sym (same_Some (1 ∷ 2 ∷ 3 ∷ []) left told));
  counted = refl;
  later = omega arith;
}

-- a source that lost a byte in between
one_is_missing : Came (source (1 ∷ 2 ∷ 3 ∷ []) 0) (source (3 ∷ []) 1) (1 ∷ []) → ⊥
one_is_missing h =
    let left = h.next (1 ∷ 2 ∷ 3 ∷ []) refl in
    let rest : List ℕ = left.0 in
    let last : 1 ≡ length rest = ap length (same_Some (3 ∷ []) rest left.1) in
    let whole : 3 ≡ 1 + length rest = ap length left.2 ∙ omega arith in
    omega arith

-- a source that stopped telling
stops_telling : Came (source (1 ∷ []) 0) (record { told = None; taken = 1; faults = 0 }) (1 ∷ []) → ⊥
stops_telling h = let left = h.next (1 ∷ []) refl in let known = left.1 in cc

abbrev sink : List ℕ → SinkState
sink held = record { told = Some held; faults = 0 }

appended : Appended (sink (1 ∷ [])) (sink (1 ∷ 2 ∷ [])) (2 ∷ [])
appended = record {
  grown = λ held told. ap (λ xs. Some (xs ++ 2 ∷ [])) (same_Some (1 ∷ []) held told);
  later = omega arith;
}

-- a sink that lost what it had
overwritten : Appended (sink (1 ∷ [])) (sink (2 ∷ [])) (2 ∷ []) → ⊥
overwritten h = let lost = ap length (same_Some _ _ (h.grown (1 ∷ []) refl)) in omega arith
