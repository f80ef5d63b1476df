-- Values of another subcommand than `load` ask for no load
use Rattle.std.proofs.Common.{◌≡◌, ◌≢◌, ℕ, List, Result, Ok, Err, refl, subst}
use Rattle.secoc_words.specs.KeyForms.{counter_form, engine_uid_form, flags_form, slot_form, uid_form}
use Rattle.secoc_words.specs.Forms.{key_form, two_form}
use Rattle.text_lines.specs.Forms.{hex_bytes_form}
use Rattle.text_lines.specs.Readings.{◌>>=◌, nth_word}
use Rattle.key_commands.specs.declared.subcommands.Subcommand.{Subcommand}
use Rattle.key_commands.specs.declared.subcommands.Subcommand.TheVariants as subcommand
use Rattle.key_commands.specs.declared.tasks.Task.{Task}
use Rattle.key_commands.specs.declared.tasks.Task.TheVariants as task
use Rattle.key_commands.specs.declared.tasks.BadValue.{BadValue}
use Rattle.key_commands.specs.Tasks.{boot_task, bootmac_of, confirm_of, make_of, read_of, task_of, value_at}

abbrev AsksOther : Result Task BadValue → Type 0
AsksOther (Ok (task.Load uid)) = ⊥
AsksOther _ = Unit {0}

next : {A : Type 0} (r : Result A BadValue) (f : A → Result Task BadValue) → ((x : A) → AsksOther (f x)) → AsksOther (r >>= f)
next (Ok x) f each = each x
next (Err bad) f each = tt

asks_other : (s : Subcommand) (values : List (List ℕ)) → s ≢ subcommand.Load → AsksOther (task_of s values)
unfolding make_of read_of confirm_of bootmac_of boot_task
asks_other subcommand.Make values other =
    next (value_at 1 (uid_form (nth_word values 1))) _ (λ uid. next (value_at 2 (slot_form (nth_word values 2))) _ (λ id. next (value_at 3 (slot_form (nth_word values 3))) _ (λ auth. next (value_at 4 (counter_form (nth_word values 4))) _ (λ counter. next (value_at 5 (flags_form (nth_word values 5))) _ (λ flags. next (value_at 6 (key_form (nth_word values 6))) _ (λ key. next (value_at 7 (key_form (nth_word values 7))) _ (λ authkey. tt)))))))
asks_other subcommand.Read values other =
    next (value_at 1 (key_form (nth_word values 1))) _ (λ authkey. next (value_at 2 (key_form (nth_word values 2))) _ (λ m1. next (value_at 3 (two_form (nth_word values 3))) _ (λ m2. next (value_at 4 (key_form (nth_word values 4))) _ (λ m3. tt))))
asks_other subcommand.Confirm values other =
    next (value_at 1 (engine_uid_form (nth_word values 1))) _ (λ uid. next (value_at 2 (slot_form (nth_word values 2))) _ (λ id. next (value_at 3 (slot_form (nth_word values 3))) _ (λ auth. next (value_at 4 (counter_form (nth_word values 4))) _ (λ counter. next (value_at 5 (key_form (nth_word values 5))) _ (λ key. next (value_at 6 (two_form (nth_word values 6))) _ (λ m4. next (value_at 7 (key_form (nth_word values 7))) _ (λ m5. tt)))))))
asks_other subcommand.Bootmac values other =
    next (value_at 1 (key_form (nth_word values 1))) _ (λ key. next (value_at 2 (hex_bytes_form 1 65536 (nth_word values 2))) _ (λ image. tt))
asks_other subcommand.Load values other = absurd (other refl)

pub no_load : (s : Subcommand) (values : List (List ℕ)) (uid : List ℕ) → s ≢ subcommand.Load → task_of s values ≡ Ok (task.Load uid) → ⊥
no_load s values uid other is = subst AsksOther is (asks_other s values other)
