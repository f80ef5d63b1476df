-- Words that ask for a load begin with `load`, and its identifier isn't zero
use Rattle.std.proofs.Common.{◌≡◌, ◌≢◌, ◌∙◌, ℕ, Bool, true, false, cond, List, Option, Some, None, Result, Ok, Err, replicate, refl, ap, subst}
use Rattle.std.specs.Option.{option_and_then}
use Rattle.std.specs.Str.{bytes_eq}
use Rattle.std.proofs.lemmas.Bool.{false≢true}
use Rattle.std.proofs.lemmas.Slice.Eq.{bytes_eq-Decides}
use Rattle.secoc_words.specs.KeyForms.{counter_form, engine_uid_form, flags_form, slot_form, uid_form, unless_zero}
use Rattle.secoc_words.specs.Forms.{key_form, two_form}
use Rattle.text_lines.specs.Forms.{hex_bytes_form}
use Rattle.text_lines.specs.Readings.{◌>>=◌, nth_word}
use Rattle.key_commands.specs.declared.subcommands.Subcommand.{Subcommand}
use Rattle.key_commands.specs.declared.subcommands.Subcommand.TheVariants as subcommand
use Rattle.key_commands.specs.declared.tasks.Task.{Task}
use Rattle.key_commands.specs.declared.tasks.Task.TheVariants as task
use Rattle.key_commands.specs.declared.tasks.BadValue.{BadValue}
use Rattle.key_commands.specs.Tasks.{boot_task, bootmac_of, confirm_of, load_task, make_of, read_of, task_of, value_at}
use Rattle.key_commands.specs.Subcommands.{NamesSubcommand}
use Rattle.key_commands.specs.Parsing.{given}
use Rattle.key_commands.specs.Rows.{AsksLoad}

-- if the values of a subcommand ask for a load, it is that of `load`, into an engine whose identifier isn't zero
abbrev GoodEngine : Subcommand → Result Task BadValue → Type 0
GoodEngine s (Ok (task.Load uid)) = (uid ≢ replicate 15 0) × (s ≡ subcommand.Load)
GoodEngine s _ = Unit {0}

behind : {A : Type 0} (s : Subcommand) (r : Result A BadValue) (f : A → Result Task BadValue) → ((x : A) → r ≡ Ok x → GoodEngine s (f x))
    → GoodEngine s (r >>= f)
behind s (Ok x) f each = each x refl
behind s (Err bad) f each = tt

not_zero : (uid : List ℕ) (b : Bool) (other : List ℕ) → b ≡ bytes_eq uid (replicate 15 0) → cond b None (Some uid) ≡ Some other → other ≢ replicate 15 0
not_zero uid true other is some = cc some
not_zero uid false other is some =
    let same : uid ≡ other = cc some in
    λ zero. false≢true (is ∙ (bytes_eq-Decides uid (replicate 15 0)).1 (same ∙ zero))

engine_not_zero : (word uid : List ℕ) → engine_uid_form word ≡ Some uid → uid ≢ replicate 15 0
unfolding engine_uid_form
engine_not_zero word uid is = from (uid_form word) is
  where
    from : (form : Option (List ℕ)) → option_and_then unless_zero form ≡ Some uid → uid ≢ replicate 15 0
    from (Some other) some = not_zero other (bytes_eq other (replicate 15 0)) uid refl some
    from None none = cc none

value_is : {A : Type 0} (n : ℕ) (value : Option A) (x : A) → value_at n value ≡ Ok x → value ≡ Some x
value_is n (Some y) x is =
    let same : y ≡ x = cc is in
    ap Some same
value_is n None x is = cc is

good_engine : (s : Subcommand) (values : List (List ℕ)) → GoodEngine s (task_of s values)
unfolding make_of read_of confirm_of bootmac_of boot_task load_task
good_engine subcommand.Make values =
    behind subcommand.Make (value_at 1 (uid_form (nth_word values 1))) _ (λ uid _. behind subcommand.Make (value_at 2 (slot_form (nth_word values 2))) _ (λ id _. behind subcommand.Make (value_at 3 (slot_form (nth_word values 3))) _ (λ auth _. behind subcommand.Make (value_at 4 (counter_form (nth_word values 4))) _ (λ counter _. behind subcommand.Make (value_at 5 (flags_form (nth_word values 5))) _ (λ flags _. behind subcommand.Make (value_at 6 (key_form (nth_word values 6))) _ (λ key _. behind subcommand.Make (value_at 7 (key_form (nth_word values 7))) _ (λ authkey _. tt)))))))
good_engine subcommand.Read values =
    behind subcommand.Read (value_at 1 (key_form (nth_word values 1))) _ (λ authkey _. behind subcommand.Read (value_at 2 (key_form (nth_word values 2))) _ (λ m1 _. behind subcommand.Read (value_at 3 (two_form (nth_word values 3))) _ (λ m2 _. behind subcommand.Read (value_at 4 (key_form (nth_word values 4))) _ (λ m3 _. tt))))
good_engine subcommand.Confirm values =
    behind subcommand.Confirm (value_at 1 (engine_uid_form (nth_word values 1))) _ (λ uid _. behind subcommand.Confirm (value_at 2 (slot_form (nth_word values 2))) _ (λ id _. behind subcommand.Confirm (value_at 3 (slot_form (nth_word values 3))) _ (λ auth _. behind subcommand.Confirm (value_at 4 (counter_form (nth_word values 4))) _ (λ counter _. behind subcommand.Confirm (value_at 5 (key_form (nth_word values 5))) _ (λ key _. behind subcommand.Confirm (value_at 6 (two_form (nth_word values 6))) _ (λ m4 _. behind subcommand.Confirm (value_at 7 (key_form (nth_word values 7))) _ (λ m5 _. tt)))))))
good_engine subcommand.Bootmac values =
    behind subcommand.Bootmac (value_at 1 (key_form (nth_word values 1))) _ (λ key _. behind subcommand.Bootmac (value_at 2 (hex_bytes_form 1 65536 (nth_word values 2))) _ (λ image _. tt))
good_engine subcommand.Load values =
    behind subcommand.Load (value_at 2 (engine_uid_form (nth_word values 2))) (λ uid. Ok (task.Load uid))
    (λ uid is. (engine_not_zero (nth_word values 2) uid (value_is 2 (engine_uid_form (nth_word values 2)) uid is), refl))

good_asked : (words : List (List ℕ)) (uid : List ℕ) (asks : AsksLoad words uid) → GoodEngine asks.0 (Ok (task.Load uid))
good_asked words uid asks = subst (GoodEngine asks.0) asks.3 (good_engine asks.0 (given asks.0 words))

pub engine_asked : (words : List (List ℕ)) (uid : List ℕ) → AsksLoad words uid → uid ≢ replicate 15 0
engine_asked words uid asks = (good_asked words uid asks).0

-- words that ask for a load begin with `load`
pub load_named : (words : List (List ℕ)) (uid : List ℕ) → AsksLoad words uid → NamesSubcommand words subcommand.Load
load_named words uid asks = subst (NamesSubcommand words) (good_asked words uid asks).1 asks.1
