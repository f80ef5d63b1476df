-- What each step of a log store makes of what its fields mean.
use Rattle.std.proofs.Common.{◌≡◌, ℕ, ◌+◌, ◌*◌, ◌<◌, ◌≤◌, Bool, true, false, Some, List, [], ◌∷◌, length, set, refl, sym, ap, subst, ◌∙◌, arith}
use Rattle.std.specs.Option.{is_some}
use Rattle.std.proofs.lemmas.List.{length-set}
use Rattle.std.proofs.lemmas.Bool.{false≢true}
use Rattle.std.proofs.lemmas.Option.{same_Some}
use Rattle.cut_disk.specs.State.{DiskState, Told, Cut}
use Rattle.cut_disk.specs.Images.{firm, EachImage, CutsTo}
use Rattle.cut_disk.specs.Calls.{Grows, Call, Runs}
use Rattle.cut_disk.proofs.CallerLemmas.{runs_of_call, runs_join, runs_more, grows_of_call, grows_then, rose_after}
use Rattle.cut_disk.specs.declared.Torn.{Torn}
use Rattle.cell_store.specs.declared.kinds.Version.{Version}
use Rattle.cell_store.specs.declared.banks.Bank.{Bank}
use Rattle.cell_store.specs.declared.faults.Reread.{Reread}
use Rattle.cell_store.specs.declared.faults.Reread.TheVariants as reread
use Rattle.cell_store.specs.Layout.{log_layout}
use Rattle.cell_store.specs.Store.{FewCells, HasHeader, LogPut, Stands, PutsAs, Put, store_size}
use Rattle.cell_store.specs.Faults.{store_fault}
use Rattle.cell_store.specs.Cells.{CellsState, Settled, TellsCells, PutDone, LeavesBesides, StandsForEither, EachImageStands, RereadCause, RereadFinds, calls_to_reread}
use Rattle.cell_store.specs.Reading.{ReadOnly, Leaves, Finds}
use Rattle.cell_store.specs.ReadOrder.{log_reads, log_reads_to}
use Rattle.cell_store.specs.LogKept.{KeepsLog, PutsLog, LeavesEither, LogBesides}
use Rattle.cell_store.specs.LogStore.{log_state, IsLogStore}
use Rattle.cell_store.specs.Attaching.{Attached, NotAttached}
use Rattle.cell_store.proofs.StoreLaws.{stands-whole}
use Rattle.cell_store.proofs.WritingLaws.{told-before}
use Rattle.cell_store.proofs.LogKeptLaws.{log-stands}

put-log : (version : Version) (x : List ℕ) (i : ℕ) (c y : List ℕ) → LogPut version x i c y → Put (log_layout version) x i c y
unfolding PutsAs
put-log version x i c y p = p

module _ (version : Version) (old new : DiskState) (cells : List (List ℕ)) (reread space : ℕ) (bank after : Bank) (broken : Bool) (i : ℕ) (c : List ℕ) (s : CellsState) (view : log_state version old cells broken ≡ s) (whole : s.broken ≡ false) (store : IsLogStore version old cells reread space bank broken) (under : i < length s.cells) where
  unbroken : broken ≡ false
  unbroken = ap (λ (x : CellsState). x.broken) view ∙ whole

  pub log-under : i < length cells
  log-under = let e : length s.cells ≡ length cells = ap (λ (x : CellsState). length x.cells) (sym view) in omega arith

  pub log-keeps : (t : Told) → old.told ≡ Some t → KeepsLog version (length cells) t.bytes cells bank
  log-keeps = store.kept unbroken

  -- after a finished put
  module _ (puts : PutsLog version (length cells) i c cells after old.told new.told) where
    pub log-store : new.size ≡ old.size → is_some new.told ≡ is_some old.told → (room : ℕ) → room ≡ space → IsLogStore version new (set cells i c) reread room after broken
    log-store size tells room same = record {
      few = subst (λ n. FewCells n) (sym (length-set cells i c)) store.few;
      sized = (let z = store.sized in omega (arith, size, length-set cells i c));
      ready = (let r = store.ready in omega (arith, length-set cells i c));
      spacious = (let r = store.spacious in omega (arith, length-set cells i c));
      kept = λ _ t told.
          let before = told-before old.told new.told t tells told in
          let p = puts before.0 before.1 in
          let e : t ≡ firm p.bytes = same_Some _ _ (sym told ∙ p.told) in
          subst (λ n. KeepsLog version n t.bytes (set cells i c) after) (sym (length-set cells i c))
          (subst (λ (u : Told). KeepsLog version (length cells) u.bytes (set cells i c) after) (sym e) p.keeps);
    }

    -- the bytes before the put
    was : (tells : TellsCells s) → old.told ≡ Some tells.now
    was tells = ap (λ (x : CellsState). x.disk.told) view ∙ tells.told

    pub log-settled : TellsCells s → Settled (log_state version new (set cells i c) broken)
    log-settled tells =
        let p = puts tells.now (was tells) in
        record {
          whole = unbroken;
          bytes = p.bytes;
          told = p.told;
          stands = log-stands version (length cells) p.bytes (set cells i c) after.side after.used store.few p.keeps.holds;
        }

    pub log-done : TellsCells s → PutDone i c s (log_state version new (set cells i c) broken)
    log-done tells =
        let p = puts tells.now (was tells) in
        record {
          before = tells.now;
          after = p.bytes;
          told_before = tells.told;
          told_after = p.told;
          put = subst (λ (x : CellsState). Put x.layout tells.now.bytes i c p.bytes) view (put-log version tells.now.bytes i c p.bytes p.put);
        }

  pub log-besides : LogBesides version (length cells) old.told new.told → LeavesBesides s new.told
  log-besides besides = subst (λ (v : CellsState). LeavesBesides v new.told) view besides

  -- after a put that failed
  pub log-broken : new.size ≡ old.size → IsLogStore version new cells reread space bank true
  log-broken size = record { few = store.few; sized = (let z = store.sized in omega (arith, size)); ready = store.ready; spacious = store.spacious; kept = λ e. absurd (false≢true (sym e)) }

  pub log-images : LeavesEither version i c cells old.told new.told → Settled s → EachImage new.told (StandsForEither s i c)
  log-images leaves settled t told x image =
      let w : old.told ≡ Some (firm settled.bytes) = ap (λ (v : CellsState). v.disk.told) view ∙ settled.told in
      subst (λ (v : CellsState). StandsForEither v i c x) view (leaves settled.bytes w t told x image)

-- a store that was read
module _ (version : Version) (old new : DiskState) (cells : List (List ℕ)) (reread space n : ℕ) (bank : Bank) (few : FewCells n) (count : length cells ≡ n) (ready : reread ≡ n) (spacious : space ≡ 2241 + 32 * n) (enough : store_size (log_layout version) n ≤ old.size) (same : ReadOnly (log_reads n) old new) (keeps : (t : Told) → old.told ≡ Some t → KeepsLog version n t.bytes cells bank) where
  pub log-read-store : IsLogStore version new cells reread space bank false
  log-read-store = record {
    few = subst (λ m. FewCells m) (sym count) few;
    sized = (let s = same.runs.size in omega arith);
    ready = ready ∙ sym count;
    spacious = (omega (arith, spacious, count));
    kept = λ _ t told. subst (λ m. KeepsLog version m t.bytes cells bank) (sym count) (keeps t (sym same.told ∙ told));
  }

  pub log-read-attached : Grows old new → Attached (log_layout version) (log_reads n) n old (log_state version new cells false)
  log-read-attached grows = record {
    laid_out = refl;
    whole = refl;
    count = count;
    room = enough;
    as_before = same;
    grows = grows;
    stands = λ t told. log-stands version n t.bytes cells bank.side bank.used few (keeps t told).holds;
    settled = λ b told. record { whole = refl; bytes = b; told = same.told ∙ told; stands = log-stands version n b cells bank.side bank.used few (keeps (firm b) told).holds };
  }

pub log-refused : (version : Version) (n : ℕ) (old new : DiskState) (fault : Reread) → store_size (log_layout version) n ≤ old.size → Leaves (log_reads n) (log_reads_to n) old new fault → Finds (log_layout version) n old.told fault → NotAttached (log_layout version) (log_reads n) (log_reads_to n) n old new (store_fault fault)
log-refused version n old new reread.DiskFailed room l f = record { room = room; leaves = l; finds = f }
log-refused version n old new reread.NotFormatted room l f = record { room = room; leaves = l; finds = f }
log-refused version n old new (reread.Damaged i) room l f = record { room = room; leaves = l; finds = f }

-- a cut, and the store read anew
module _ (version : Version) (old cut new : DiskState) (cells fresh : List (List ℕ)) (ahead space : ℕ) (bank after : Bank) (broken : Bool) (torn : Torn) (s : CellsState) (view : log_state version old cells broken ≡ s) (store : IsLogStore version old cells ahead space bank broken) (call : Call (Some (Cut torn)) old cut) (left : CutsTo old.told cut.told) where
  as-many : length s.cells ≡ length cells
  as-many = ap (λ (x : CellsState). length x.cells) (sym view)

  pub log-cut-room : store_size (log_layout version) ahead ≤ cut.size
  log-cut-room = let e = call.size in let r = store.ready in let z = store.sized in omega arith

  pub log-cut-few : FewCells ahead
  log-cut-few = subst (λ m. FewCells m) (sym store.ready) store.few

  pub log-cut-runs : Runs [] (log_reads ahead) cut new → Runs (Cut torn ∷ []) (68 + length s.cells) s.disk new
  log-cut-runs runs =
      subst (λ (x : CellsState). Runs (Cut torn ∷ []) (68 + length s.cells) x.disk new) view
      (runs_more (68 + length s.cells) (let r = store.ready in omega (arith, as-many)) (runs_join (runs_of_call call) runs))

  -- so many calls came up to what was found
  first-was : (fault : Reread) → Leaves (log_reads ahead) (log_reads_to ahead) cut new fault → Runs (Cut torn ∷ []) (calls_to_reread (log_state version old cells broken) fault) old new
  first-was reread.DiskFailed l = runs_more _ (let r = store.ready in omega arith) (runs_join (runs_of_call call) l.runs)
  first-was reread.NotFormatted l = runs_more _ (omega arith) (runs_join (runs_of_call call) l.runs)
  first-was (reread.Damaged i) l = subst (λ m. Runs (Cut torn ∷ []) (1 + log_reads_to m i) old new) store.ready (runs_more _ (omega arith) (runs_join (runs_of_call call) l.runs))

  pub log-cut-first : (fault : Reread) → Leaves (log_reads ahead) (log_reads_to ahead) cut new fault → Runs (Cut torn ∷ []) (calls_to_reread s fault) s.disk new
  log-cut-first fault leaves = subst (λ (x : CellsState). Runs (Cut torn ∷ []) (calls_to_reread x fault) x.disk new) view (first-was fault leaves)

  module _ (count : length fresh ≡ ahead) (same : ReadOnly (log_reads ahead) cut new) (keeps : (t : Told) → cut.told ≡ Some t → KeepsLog version ahead t.bytes fresh after) where
    pub log-cut-store : (more : ℕ) → more ≡ length cells → IsLogStore version new fresh more space after false
    log-cut-store more is = record {
      few = subst (λ m. FewCells m) (sym count) log-cut-few;
      sized = (let e = same.runs.size in let z = log-cut-room in omega (arith, count));
      ready = (let r = store.ready in omega (arith, count, is));
      spacious = (let p = store.spacious in let r = store.ready in omega (arith, count));
      kept = λ _ t told. subst (λ m. KeepsLog version m t.bytes fresh after) (sym count) (keeps t (sym same.told ∙ told));
    }

    pub log-cut-stands : (t : Told) → new.told ≡ Some t → Stands (log_layout version) t.bytes fresh
    log-cut-stands t told = log-stands version ahead t.bytes fresh after.side after.used log-cut-few (keeps t (sym same.told ∙ told)).holds

    pub log-cut-grows : Grows s.disk new
    log-cut-grows = subst (λ (x : CellsState). Grows x.disk new) view (grows_then (grows_of_call call) same.runs)

    pub log-cut-settled : (t : Told) → s.disk.told ≡ Some t → Settled (log_state version new fresh false)
    log-cut-settled t told =
        let l = left t (ap (λ (x : CellsState). x.disk.told) view ∙ told) in
        record { whole = refl; bytes = l.left; told = same.told ∙ l.now; stands = log-cut-stands (firm l.left) (same.told ∙ l.now) }

  pub log-cut-broken : new.size ≡ cut.size → (more : ℕ) → more ≡ ahead → IsLogStore version new cells more space bank true
  log-cut-broken size more is = record { few = store.few; sized = (let z = store.sized in let e = call.size in omega (arith, size)); ready = is ∙ store.ready; spacious = store.spacious; kept = λ e. absurd (false≢true (sym e)) }

  cause-was : (fault : Reread) → Leaves (log_reads ahead) (log_reads_to ahead) cut new fault → Finds (log_layout version) ahead cut.told fault → cut.faults ≡ old.faults → RereadCause (log_state version old cells broken) (log_state version new cells true) fault
  cause-was reread.DiskFailed l f same = rose_after old.faults cut.faults new.faults call.later l.rose
  cause-was reread.NotFormatted l f same = record {
    faults = l.faults ∙ same;
    finds = λ t told. subst (λ m. RereadFinds (log_layout version) m t.bytes reread.NotFormatted) store.ready (f t (sym l.told ∙ told));
  }
  cause-was (reread.Damaged i) l f same = record {
    faults = l.faults ∙ same;
    finds = λ t told. subst (λ m. RereadFinds (log_layout version) m t.bytes (reread.Damaged i)) store.ready (f t (sym l.told ∙ told));
  }

  pub log-cut-cause : (fault : Reread) → Leaves (log_reads ahead) (log_reads_to ahead) cut new fault → Finds (log_layout version) ahead cut.told fault → cut.faults ≡ old.faults → RereadCause s (log_state version new cells true) fault
  log-cut-cause fault l f same = subst (λ (x : CellsState). RereadCause x (log_state version new cells true) fault) view (cause-was fault l f same)

  pub log-cut-never : (fault : Reread) → Finds (log_layout version) ahead cut.told fault → EachImageStands s → fault ≡ reread.DiskFailed
  log-cut-never reread.DiskFailed finds stood = refl
  log-cut-never reread.NotFormatted finds stood = absurd (
      let l = left stood.told (ap (λ (x : CellsState). x.disk.told) view ∙ stood.is) in
      let it = stood.each l.left l.image in
      let stands : Stands (log_layout version) l.left it.cells = subst (λ (x : CellsState). Stands x.layout l.left it.cells) (sym view) it.stands in
      let n : length it.cells ≡ ahead = it.count ∙ (as-many ∙ sym store.ready) in
      finds (firm l.left) l.now (subst (λ m. HasHeader (log_layout version) m l.left) n stands.head))
  log-cut-never (reread.Damaged i) finds stood = absurd (
      let l = left stood.told (ap (λ (x : CellsState). x.disk.told) view ∙ stood.is) in
      let it = stood.each l.left l.image in
      let stands : Stands (log_layout version) l.left it.cells = subst (λ (x : CellsState). Stands x.layout l.left it.cells) (sym view) it.stands in
      let n : length it.cells ≡ ahead = it.count ∙ (as-many ∙ sym store.ready) in
      stands-whole (log_layout version) l.left it.cells ahead i stands n (finds (firm l.left) l.now).1)

-- arming a disk changes neither its size nor what it tells
pub log-armed : (version : Version) (old new : DiskState) (cells : List (List ℕ)) (ahead space : ℕ) (bank : Bank) (broken : Bool) → new.size ≡ old.size → new.told ≡ old.told → IsLogStore version old cells ahead space bank broken → IsLogStore version new cells ahead space bank broken
log-armed version old new cells ahead space bank broken size same store = record {
  few = store.few;
  sized = (let z = store.sized in omega (arith, size));
  ready = store.ready;
  spacious = store.spacious;
  kept = λ b t told. store.kept b t (sym same ∙ told);
}
