-- Calls all along which the bytes of a disk stay, and a cut before them.
use Rattle.std.proofs.Common.{◌≡◌, ℕ, List, [], ◌∷◌, ◌++◌, Some, None, sym, ap, ◌∙◌}
use Rattle.std.proofs.lemmas.List.{append-nil, append_assoc, append_cancel_left}
use Rattle.std.proofs.lemmas.List.Elements.{All-nil, All-cons, All-append, All-same}
use Rattle.std.proofs.lemmas.Option.{same_Some}
use Rattle.cut_disk.specs.declared.Torn.{Torn}
use Rattle.cut_disk.specs.declared.Mark.{Mark}
use Rattle.cut_disk.specs.State.{DiskState, Entry, Cut, past_entry}
use Rattle.cut_disk.specs.Calls.{Call, Runs}
use Rattle.cell_store.specs.Reading.{StaysTold, CutStays}

-- no call
pub stays_none : (s : DiskState) → StaysTold s s
stays_none s t earlier added told was is =
    let none : added ≡ [] = append_cancel_left earlier added [] (same_Some (earlier ++ added) earlier (sym is ∙ was) ∙ sym (append-nil earlier)) in
    All-same (λ (e : Entry). e.state ≡ t) added [] none (All-nil (λ (e : Entry). e.state ≡ t))

-- one that changes no byte
pub stays_call : {a b : DiskState} → Call None a b → b.told ≡ a.told → StaysTold a b
stays_call call same t earlier added told was is =
    let one = call.past (earlier ++ added) is in
    let before : one.earlier ≡ earlier = same_Some one.earlier earlier (sym one.was ∙ was) in
    let entry : added ≡ past_entry one.state None ∷ [] =
    append_cancel_left earlier added (past_entry one.state None ∷ []) (one.whole ∙ ap (λ (es : List Entry). es ++ past_entry one.state None ∷ []) before) in
    All-same (λ (e : Entry). e.state ≡ t) added (past_entry one.state None ∷ []) entry
    (All-cons (λ (e : Entry). e.state ≡ t) (past_entry one.state None) [] (same_Some one.state t (sym one.told ∙ same ∙ told)) (All-nil (λ (e : Entry). e.state ≡ t)))

-- some, and then more
pub stays_join : {ms ns : List Mark} {m n : ℕ} {a b c : DiskState} → Runs ms m a b → b.told ≡ a.told → StaysTold a b → Runs ns n b c → StaysTold b c → StaysTold a c
stays_join first_runs same first second_runs second t earlier added told was is =
    let two = second_runs.past (earlier ++ added) is in
    let one = first_runs.past two.earlier two.was in
    let before : one.earlier ≡ earlier = same_Some one.earlier earlier (sym one.was ∙ was) in
    let middle : two.earlier ≡ earlier ++ one.added = one.whole ∙ ap (λ (es : List Entry). es ++ one.added) before in
    let parts : added ≡ one.added ++ two.added =
    append_cancel_left earlier added (one.added ++ two.added) (two.whole ∙ ap (λ (es : List Entry). es ++ two.added) middle ∙ append_assoc earlier one.added two.added) in
    All-same (λ (e : Entry). e.state ≡ t) added (one.added ++ two.added) parts
    (All-append (λ (e : Entry). e.state ≡ t) one.added two.added
    (first t earlier one.added told was (two.was ∙ ap (λ (es : List Entry). Some es) middle))
    (second t two.earlier two.added (same ∙ told) two.was (is ∙ ap (λ (es : List Entry). Some es) two.whole)))

-- a cut before them
pub cut_stays : {torn : Torn} {ns : List Mark} {n : ℕ} {a b c : DiskState} → Call (Some (Cut torn)) a b → Runs ns n b c → c.told ≡ b.told → StaysTold b c → CutStays torn a c
cut_stays {torn} call runs same stays earlier added was is =
    let two = runs.past (earlier ++ added) is in
    let one = call.past two.earlier two.was in
    let cut : Entry = past_entry one.state (Some (Cut torn)) in
    let before : one.earlier ≡ earlier = same_Some one.earlier earlier (sym one.was ∙ was) in
    let middle : two.earlier ≡ earlier ++ cut ∷ [] = one.whole ∙ ap (λ (es : List Entry). es ++ cut ∷ []) before in
    record {
      left = one.state;
      behind = two.added;
      whole = append_cancel_left earlier added (cut ∷ two.added) (two.whole ∙ ap (λ (es : List Entry). es ++ two.added) middle ∙ append_assoc earlier (cut ∷ []) two.added);
      same = stays one.state two.earlier two.added one.told two.was (is ∙ ap (λ (es : List Entry). Some es) two.whole);
      now = same ∙ one.told;
    }
