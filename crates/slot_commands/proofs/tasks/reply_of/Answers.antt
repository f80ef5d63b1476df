use Rattle.std.proofs.Common.{inr, ◌∙◌, sym, ap}
use Rattle.std.specs.Fmt.{digits}
use Rattle.secoc_words.specs.KeyForms.{engine_uid_form, slot_form}
use Rattle.slot_commands.proofs.TaskWords.{no_uid, no_id, no_auth}
use Rattle.slot_commands.proofs.tasks.reply_of.Goals as goal

pub returns-in_default : goal.returns-in_default
unfolding digits
returns-in_default c =
    inr (2, no_uid _ _ _ _ (c.engine_uid.ensures ∙ ap engine_uid_form c.as_bytes.ensures.value) c.in_default.not-Some, c.fixed.ensures)

pub returns-in_default-slot : goal.returns-in_default-slot
unfolding digits
returns-in_default-slot c =
    let uid = sym (c.engine_uid.ensures ∙ ap engine_uid_form c.as_bytes.ensures.value) ∙ c.in-Some.is in
    inr (3, no_id _ _ _ _ _ uid (c.slot.ensures ∙ ap slot_form c.as_bytes-2.ensures.value) c.in_default-slot.not-Some, c.fixed-in_default-slot.ensures)

pub returns-in_default-slot-2 : goal.returns-in_default-slot-2
unfolding digits
returns-in_default-slot-2 c =
    let uid = sym (c.engine_uid.ensures ∙ ap engine_uid_form c.as_bytes.ensures.value) ∙ c.in-Some.is in
    let id = sym (c.slot.ensures ∙ ap slot_form c.as_bytes-2.ensures.value) ∙ c.in-Some-slot.is in
    inr (4, no_auth _ _ _ _ _ _ uid id (c.slot-2.ensures ∙ ap slot_form c.as_bytes-3.ensures.value) c.in_default-slot-2.not-Some, c.fixed-in_default-slot-2.ensures)
