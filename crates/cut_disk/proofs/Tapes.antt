-- What an entry does to a tape, and to the disk that it is of.
use Rattle.std.proofs.Common.{◌≡◌, ℕ, ◌+◌, Bool, true, false, List, [], ◌∷◌, ◌++◌, length, nat_lt, get_or, Option, Some, None, refl, sym, ap, ◌∙◌, arith, ⊎_elim}
use Rattle.std.specs.Prelude.{if◌then◌else◌}
use Rattle.std.proofs.lemmas.Bool.{cases_lt}
use Rattle.std.proofs.Math.ListN.{get_or-append}
use Rattle.std.proofs.Math.Seq.{get_or-append_seam}
use Rattle.std.proofs.lemmas.List.{length-append}
use Rattle.cut_disk.specs.declared.tape.PastEntry.{PastEntry}
use Rattle.cut_disk.specs.State.{Mark, Entry, past_entry}
use Rattle.cut_disk.specs.Calls.{Call, newest}
use Rattle.cut_disk.proofs.CallerLemmas.{newest-append}
use Rattle.cut_disk.specs.Memory.{Contents, told_of, disk_of}
use Rattle.cut_disk.specs.Tape.{TapeState, AllSized, with_entry}

-- one more entry of the size
pub AllSized-push : (size : ℕ) (xs : List PastEntry) (y : PastEntry) → length y.bytes.items ≡ size → length y.loose.items ≡ size → AllSized size xs
    → AllSized size (xs ++ y ∷ [])
AllSized-push size xs y bytes loose all k e below is =
    ⊎_elim
    (λ early. all k e early (is ∙ get_or-append xs (y ∷ []) e k early))
    (λ late.
    let last : k ≡ length xs = omega (arith, length-append xs (y ∷ [])) in
    let same : e ≡ y = is ∙ ap (λ (n : ℕ). get_or (xs ++ y ∷ []) n e) last ∙ get_or-append_seam xs y [] e in
    (ap (λ (x : PastEntry). length x.bytes.items) same ∙ bytes, ap (λ (x : PastEntry). length x.loose.items) same ∙ loose))
    (cases_lt k (length xs))

-- a past that is told after a call was told before it, and has one entry more
with_entry_adds : (room : ℕ) (e : Entry) (old : Option (List Entry)) (all : List Entry) → with_entry room e old ≡ Some all
    → (before : List Entry) × (old ≡ Some before) × (all ≡ before ++ e ∷ [])
with_entry_adds room e None all is = absurd (cc)
with_entry_adds room e (Some before) all is = (before, refl, case (nat_lt (length before) room) is)
  where
    case : (b : Bool) → (if b then Some (before ++ e ∷ []) else None) ≡ Some all → all ≡ before ++ e ∷ []
    case true p = cc
    case false p = cc

-- the last entry is the state now
pub newest_after : (mark : Option Mark) (m : Contents) (t u : TapeState) → u ≡ record t { past = with_entry t.room (past_entry (told_of m) mark) t.past }
    → (all : List Entry) → u.past ≡ Some all → Some (told_of m) ≡ newest (Some (told_of m)) all
newest_after mark m t u is all told =
    let adds = with_entry_adds t.room (past_entry (told_of m) mark) t.past all (sym (ap (λ (v : TapeState). v.past) is) ∙ told) in
    sym (ap (newest (Some (told_of m))) adds.2 ∙ newest-append (Some (told_of m)) adds.0 (past_entry (told_of m) mark ∷ []))

-- a call of the disk in memory, and the entry that it adds, are a call of the disk that tells its past
pub call_after : (mark : Option Mark) (a b : Contents) (t u : TapeState) → Call mark (disk_of a) (disk_of b)
    → u ≡ record t { past = with_entry t.room (past_entry (told_of b) mark) t.past }
    → Call mark (record (disk_of a) { past = t.past }) (record (disk_of b) { past = u.past })
call_after mark a b t u call is = record {
  size = call.size;
  later = call.later;
  tells = call.tells;
  quiet = λ nothing calm. let stays = call.quiet nothing (record { quiet = calm.quiet; below = calm.below }) in record { quiet = stays.quiet; faults = stays.faults };
  past = λ all told.
      let adds = with_entry_adds t.room (past_entry (told_of b) mark) t.past all (sym (ap (λ (v : TapeState). v.past) is) ∙ told) in
      record { earlier = adds.0; state = told_of b; was = adds.1; told = refl; whole = adds.2 };
}
