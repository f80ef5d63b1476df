-- How an update is shown for debugging
use Rattle.std.specs.Prelude.{ℕ, List, ◌++◌, codes}
use Rattle.std.specs.Fmt.{decimal}
use Rattle.key_slots.specs.Flags.{flags_number}
use Rattle.memory_update.specs.declared.messages.Update.{Update}

-- nothing of its key
abbrev pub shown_update : Update → List ℕ
shown_update u =
    codes "Update { id: "
    ++ (decimal u.id
    ++ (codes ", auth: "
    ++ (decimal u.auth
    ++ (codes ", counter: "
    ++ (decimal u.counter ++ (codes ", flags: " ++ (decimal (flags_number u.flags) ++ codes ", .. }")))))))
