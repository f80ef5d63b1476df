-- What a run of `slots` that ends in a row of the table promises
use Rattle.std.proofs.Common.{◌≡◌, ◌⊎◌, ◌∙◌, ℕ, List, [], inl, inr, refl, sym, subst, arith}
use Rattle.std.specs.Prelude.{◌≢◌, Option, Some, None, Result, Ok, Err}
use Rattle.program_edge.specs.Input.{input_limit}
use Rattle.program_edge.specs.Rows.{Row}
use Rattle.program_edge.proofs.CallerLemmas.{Offers-is, Offers-whole, SourceTells, SourceTells-unread, SourceTells-lacks, SourceTells-whole, SourceTells-fault, SourceTells-long}
use Rattle.program_edge.proofs.CallerLemmas.{EndsInRow-at, EndsInRow-front, EndsInRow-rose, EndsInRow-only, EndsInRow-may, EndsInRow-done}
use Rattle.program_edge.specs.Endings.{Ending, PrintsWhole, EndsInRow, MayEndIn}
use Rattle.slot_commands.specs.declared.tasks.ReplyAsked.{ReplyAsked}
use Rattle.slot_commands.specs.declared.tasks.SlotTask.{SlotTask}
use Rattle.slot_commands.specs.declared.tasks.SlotTask.TheVariants as task
use Rattle.slot_commands.specs.SlotTasks.{slots_asked}
use Rattle.slot_commands.specs.Stores.{ListsStore, ChecksStore}
use Rattle.slot_commands.specs.Replies.{RepliesFrom}
use Rattle.slot_commands.specs.SlotRows.{SlotInputs, AsksOver, OverFile, OffersOver, DoesSlotTask}
use Rattle.slot_commands.specs.SlotRows.{listed, not_listed, found_nothing, not_checked}
use Rattle.slot_commands.specs.SlotRows.{ComesOfSlots, no_memory, done}
use Rattle.slot_commands.specs.SlotRows as rows
use Rattle.slot_commands.specs.SlotReads.{ReadsUnitStore}
use Rattle.slot_commands.proofs.OnceLaws.{IsTaskStatus, task_status, does_once, no_store_row, unreadable_row}

-- ---- what words ask for is one thing

no_task : (asked : Option (Result SlotTask ℕ)) (it : Result SlotTask ℕ) → asked ≡ None → asked ≡ Some it → ⊥
no_task asked it none some = let clash : None ≡ Some it = sym none ∙ some in cc clash

err_is_ok : (number : ℕ) (it : SlotTask) → ◌≡◌ {A = Option (Result SlotTask ℕ)} (Some (Err number)) (Some (Ok it)) → ⊥
err_is_ok number it same = cc same

wrong_task : (asked : Option (Result SlotTask ℕ)) (number : ℕ) (it : SlotTask) → asked ≡ Some (Err number) → asked ≡ Some (Ok it) → ⊥
wrong_task asked number it wrong right = err_is_ok number it (sym wrong ∙ right)

one_task : (a b : SlotTask) → ◌≡◌ {A = Option (Result SlotTask ℕ)} (Some (Ok a)) (Some (Ok b)) → a ≡ b
one_task a b same = cc same

same_task : (asked : Option (Result SlotTask ℕ)) (a b : SlotTask) → asked ≡ Some (Ok a) → asked ≡ Some (Ok b) → a ≡ b
same_task asked a b first second = one_task a b (sym first ∙ second)

-- ---- what a task comes to, by its status

list_0 : (x : List ℕ) (asked : SlotTask) (row : Row) → DoesSlotTask x asked row → asked ≡ task.List → row.status ≡ 0 → ListsStore x row.text
list_0 x asked row (listed text lists) same is = lists
list_0 x asked row (not_listed _ not) same is = absurd (omega (arith, unreadable_row x row not, is))
list_0 x asked row (found_nothing text checks) same is = cc same
list_0 x asked row (rows.found findings text some checks) same is = cc same
list_0 x asked row (not_checked _ none) same is = cc same
list_0 x asked row (rows.replied a _ replies) same is = cc same

check_0 : (x : List ℕ) (asked : SlotTask) (row : Row) → DoesSlotTask x asked row → asked ≡ task.Check → row.status ≡ 0 → ChecksStore None None x [] row.text
check_0 x asked row (listed text lists) same is = cc same
check_0 x asked row (not_listed _ not) same is = cc same
check_0 x asked row (found_nothing text checks) same is = checks
check_0 x asked row (rows.found findings text some checks) same is = absurd (omega (arith, is))
check_0 x asked row (not_checked _ none) same is = absurd (omega (arith, no_store_row x row none, is))
check_0 x asked row (rows.replied a _ replies) same is = cc same

check_1 : (x : List ℕ) (asked : SlotTask) (row : Row) → DoesSlotTask x asked row → asked ≡ task.Check → row.status ≡ 1
    → (findings : List (List (List ℕ))) × (findings ≢ []) × ChecksStore None None x findings row.text
check_1 x asked row (listed text lists) same is = cc same
check_1 x asked row (not_listed _ not) same is = cc same
check_1 x asked row (found_nothing text checks) same is = absurd (omega (arith, is))
check_1 x asked row (rows.found findings text some checks) same is = (findings, some, checks)
check_1 x asked row (not_checked _ none) same is = absurd (omega (arith, no_store_row x row none, is))
check_1 x asked row (rows.replied a _ replies) same is = cc same

reply_done : (x : List ℕ) (asked : SlotTask) (a : ReplyAsked) (row : Row) → DoesSlotTask x asked row → asked ≡ task.Reply a → RepliesFrom x a row
reply_done x asked a row comes same = grind arith

module _ (i : SlotInputs) (e : Ending) where
  -- ---- rows by their status

  -- at 0, 1 and 9 something was done
  done_at : (n : ℕ) → IsTaskStatus n → (row : Row) → ComesOfSlots i row → row.status ≡ n
      → (asked : SlotTask) × (x : List ℕ) × AsksOver i asked x × DoesSlotTask x asked row
  done_at n of row (done asked x _ over does) is = (asked, x, over, does)
  done_at n of row comes is = absurd (grind arith)

  list_at : slots_asked i.words ≡ Some (Ok task.List) → (row : Row) → ComesOfSlots i row → row.status ≡ 0 → PrintsWhole e row.text
      → OverFile i (λ x. (text : List ℕ) × ListsStore x text × PrintsWhole e text)
  list_at asks row comes is prints =
      let (asked, x, over, does) = done_at 0 (inl refl) row comes is in
      (x, over.1, (row.text, list_0 x asked row does (same_task (slots_asked i.words) asked task.List over.0 asks) is, prints))

  check_at : slots_asked i.words ≡ Some (Ok task.Check) → (row : Row) → ComesOfSlots i row → row.status ≡ 0 → PrintsWhole e row.text
      → OverFile i (λ x. (text : List ℕ) × ChecksStore None None x [] text × PrintsWhole e text)
  check_at asks row comes is prints =
      let (asked, x, over, does) = done_at 0 (inl refl) row comes is in
      (x, over.1, (row.text, check_0 x asked row does (same_task (slots_asked i.words) asked task.Check over.0 asks) is, prints))

  find_at : slots_asked i.words ≡ Some (Ok task.Check) → (row : Row) → ComesOfSlots i row → row.status ≡ 1 → PrintsWhole e row.text
      → OverFile i (λ x. (findings : List (List (List ℕ))) × (text : List ℕ) × (findings ≢ []) × ChecksStore None None x findings text × PrintsWhole e text)
  find_at asks row comes is prints =
      let (asked, x, over, does) = done_at 1 (inr (inl refl)) row comes is in
      let (findings, some, checks) = check_1 x asked row does (same_task (slots_asked i.words) asked task.Check over.0 asks) is in
      (x, over.1, (findings, row.text, some, checks, prints))

  reply_at : (n : ℕ) → IsTaskStatus n → (a : ReplyAsked) → slots_asked i.words ≡ Some (Ok (task.Reply a)) → (row : Row) → ComesOfSlots i row → row.status ≡ n
      → PrintsWhole e row.text → OverFile i (λ x. (row : Row) × RepliesFrom x a row × (row.status ≡ n) × PrintsWhole e row.text)
  reply_at n of a asks row comes is prints =
      let (asked, x, over, does) = done_at n of row comes is in
      (x, over.1, (row, reply_done x asked a row does (same_task (slots_asked i.words) asked (task.Reply a) over.0 asks), is, prints))

  at_9 : (row : Row) → ComesOfSlots i row → row.status ≡ 9 → PrintsWhole e row.text
      → (asked : SlotTask) × (x : List ℕ) × (row : Row) × AsksOver i asked x × DoesSlotTask x asked row × (row.status ≡ 9) × PrintsWhole e row.text
  at_9 row comes is prints =
      let (asked, x, over, does) = done_at 9 (inr (inr refl)) row comes is in
      (asked, x, row, over, does, is, prints)

  -- ---- which rows come

  file_tells : (row : Row) → ComesOfSlots i row → SourceTells input_limit i.file row.status
  file_tells row comes = grind (arith, SourceTells-unread, SourceTells-lacks, SourceTells-whole)

  -- what is asked over bytes that a source tells comes to its status, or memory is out
  only_done : (x : List ℕ) (asked : SlotTask) (row : Row) → OffersOver i asked x → DoesSlotTask x asked row → (other : Row) → ComesOfSlots i other
      → (other.status ≡ row.status) ⊎ (other.status ≡ 7)
  only_done x asked row comes does other x1 = grind (arith, no_task, wrong_task, Offers-is, same_task, Offers-whole, does_once)

  may_done : EndsInRow (ComesOfSlots i) e → (n : ℕ) (x : List ℕ) (asked : SlotTask) (row : Row) → OffersOver i asked x → DoesSlotTask x asked row
      → row.status ≡ n → MayEndIn n e
  may_done ends n x asked row offers does is =
      EndsInRow-may ends n (subst (λ (k : ℕ). (other : Row) → ComesOfSlots i other → (other.status ≡ k) ⊎ (other.status ≡ 7)) is (only_done x asked row offers does))

  reply_ends : EndsInRow (ComesOfSlots i) e → (a : ReplyAsked) → slots_asked i.words ≡ Some (Ok (task.Reply a)) → (e.status ≡ 0) ⊎ (e.status ≡ 1)
      → OverFile i (λ x. (row : Row) × RepliesFrom x a row × (row.status ≡ e.status) × PrintsWhole e row.text)
  reply_ends ends a asks (inl zero_is) =
      subst (λ (n : ℕ). OverFile i (λ x. (row : Row) × RepliesFrom x a row × (row.status ≡ n) × PrintsWhole e row.text)) (sym zero_is)
      (EndsInRow-at ends 0 refl (reply_at 0 (inl refl) a asks) zero_is)
  reply_ends ends a asks (inr one_is) =
      subst (λ (n : ℕ). OverFile i (λ x. (row : Row) × RepliesFrom x a row × (row.status ≡ n) × PrintsWhole e row.text)) (sym one_is)
      (EndsInRow-at ends 1 refl (reply_at 1 (inr (inl refl)) a asks) one_is)

  pub reads_row : EndsInRow (ComesOfSlots i) e → ReadsUnitStore i e
  reads_row ends = record {
    ends = ends;
    listed = λ asks. EndsInRow-at ends 0 refl (list_at asks);
    checked = λ asks. EndsInRow-at ends 0 refl (check_at asks);
    found = λ asks. EndsInRow-at ends 1 refl (find_at asks);
    found_only = λ x text findings offers checks some. may_done ends 1 x task.Check _ offers (rows.found findings text some checks) refl;
    replied = reply_ends ends;
    usage = EndsInRow-at ends 2 refl (λ row comes is prints. grind (arith, task_status));
    usage_only = λ none. EndsInRow-only ends 2 (λ row comes. grind (arith, no_task));
    value = EndsInRow-at ends 3 refl (λ row comes is prints. grind (arith, task_status));
    value_only = λ number wrong. EndsInRow-only ends 3 (λ row comes. grind (arith, no_task, wrong_task));
    read_fault = EndsInRow-at ends 5 refl (λ row comes is prints. grind (arith, task_status));
    read_fault_only = λ counts. EndsInRow-only ends 5 (λ row comes. SourceTells-fault input_limit i.file row.status (file_tells row comes) counts);
    write_fault = EndsInRow-front ends (λ row comes is. grind (arith, task_status));
    write_fault_only = EndsInRow-rose ends;
    no_memory = EndsInRow-at ends 7 refl (λ row comes is prints. grind (arith, task_status));
    too_long = EndsInRow-at ends 8 refl (λ row comes is prints. grind (arith, task_status));
    too_long_only = λ counts. EndsInRow-only ends 8 (λ row comes. SourceTells-long input_limit i.file row.status (file_tells row comes) counts);
    no_store = EndsInRow-at ends 9 refl at_9;
    no_store_only = λ x row offers not. may_done ends 9 x task.List row offers (not_listed row not) (unreadable_row x row not);
    no_check_only = λ x row offers none. may_done ends 9 x task.Check row offers (not_checked row none) (no_store_row x row none);
    complete = λ x asked row offers does well. EndsInRow-done ends well row.status (only_done x asked row offers does);
  }
