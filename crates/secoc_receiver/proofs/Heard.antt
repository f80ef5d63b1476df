-- A PDU that was secured and comes in time has one verdict, and is taken.
use Rattle.std.proofs.Common.{◌≡◌, ℕ, ◌%◌, List, length, Result, Ok, Err, IfOk, IfErr, ap, ◌∙◌, subst}
use Rattle.cell_store.specs.Cells.{CellsState}
use Rattle.freshness_manager.specs.Counters.{ReceiverCounter}
use Rattle.secured_pdu.specs.Frame.{IsWindow, Secured, Ahead}
use Rattle.secured_pdu.specs.Verdict as verdict
use Rattle.secured_pdu.proofs.CallerLemmas.{same_from_Verdict, Verdict_of_secured}
use Rattle.secoc_receiver.specs.declared.receiver.Reception.{Reception}
use Rattle.secoc_receiver.specs.declared.receiver.Reception.TheVariants.{Accepted, FreshnessFailure, VerificationFailure}
use Rattle.secoc_receiver.specs.declared.receiver.ReceiveFault.{ReceiveFault}
use Rattle.secoc_receiver.specs.declared.receiver.ReceiveFault.TheVariants.{BadLength, Key, Faulted}
use Rattle.secoc_receiver.specs.Receiving.{FaultedWith, ComesThrough}

pub in_time : (key : List ℕ) (id c w window : ℕ) (pdu frame p : List ℕ) (v : ℕ) (o : verdict.Outcome) → IsWindow w → window ≡ w → pdu ≡ frame
    → Secured key id p v pdu → Ahead c window (v % 256) v → verdict.Verdict key id c w frame o → o ≡ verdict.Accepted p v
in_time key id c w window pdu frame p v o is_window same is secured ahead said =
    same_from_Verdict key id c w frame o (verdict.Accepted p v) is_window said
    (Verdict_of_secured key id c w p v frame (subst (Secured key id p v) is secured) (subst (λ x. Ahead c x (v % 256) v) same ahead))

pub not_stale : (p : List ℕ) (v : ℕ) → verdict.FreshnessFailure ≡ verdict.Accepted p v → ⊥
not_stale p v e = cc

pub not_forged : (p : List ℕ) (v : ℕ) → verdict.VerificationFailure ≡ verdict.Accepted p v → ⊥
not_forged p v e = cc

-- what is said if a freshness above the counter is to be taken
pub taken : (p q : List ℕ) (v w len : ℕ) (rx : ReceiverCounter) (r : Result Reception ReceiveFault) (old new : CellsState)
    → IfOk r (λ said. said ≡ Accepted v len) → IfErr r (λ fault. FaultedWith fault rx v old new) → len ≡ length p
    → verdict.Accepted p v ≡ verdict.Accepted q w → ComesThrough q w r old new
taken p q v w len rx (Ok (Accepted u l)) old new said failed is e =
    let v_is : u ≡ w = cc in
    let p_is : p ≡ q = cc in
    let l_is : l ≡ len = cc in
    (v_is, l_is ∙ is ∙ ap length p_is)
taken p q v w len rx (Ok FreshnessFailure) old new said failed is e = absurd (cc)
taken p q v w len rx (Ok VerificationFailure) old new said failed is e = absurd (cc)
taken p q v w len rx (Err BadLength) old new said failed is e = failed
taken p q v w len rx (Err (Key erc)) old new said failed is e = failed
taken p q v w len rx (Err (Faulted bound)) old new said failed is e = failed.rose
