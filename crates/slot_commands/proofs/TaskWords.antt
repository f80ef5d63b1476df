-- Words of a number that no task has, and values that aren't of their form
use Rattle.std.proofs.Common.{◌≡◌, ℕ, ◌<◌, ◌≤◌, List, [], ◌∷◌, length, arith, map, String, Global, refl, sym, ◌∙◌}
use Rattle.std.specs.Prelude.{Option, Some, None, Err, string_bytes}
use Rattle.secoc_words.specs.KeyForms.{engine_uid_form, slot_form}
use Rattle.slot_commands.specs.SlotTasks.{slots_asked, reply_asked}

-- words of another number ask for nothing
pub few_ask_nothing : (words : List (String Global)) → length words < 2 → slots_asked (map string_bytes words) ≡ None
few_ask_nothing [] few = refl
few_ask_nothing (a ∷ []) few = refl
few_ask_nothing (a ∷ b ∷ words) few = absurd (let no_such : ⊥ = omega (arith, few) in no_such)

pub some_ask_nothing : (words : List (String Global)) → 3 ≤ length words → length words < 5 → slots_asked (map string_bytes words) ≡ None
some_ask_nothing (a ∷ b ∷ c ∷ []) more few = refl
some_ask_nothing (a ∷ b ∷ c ∷ d ∷ []) more few = refl
some_ask_nothing words more few = absurd (omega arith)

pub many_ask_nothing : (words : List (String Global)) → 6 ≤ length words → slots_asked (map string_bytes words) ≡ None
many_ask_nothing (a ∷ b ∷ c ∷ d ∷ e ∷ f ∷ words) more = refl
many_ask_nothing words more = absurd (omega arith)

-- ---- values

is_none : {A : Type 0} (o : Option A) → ((x : A) → ¬ (o ≡ Some x)) → o ≡ None
is_none o other = grind arith

pub no_uid : (o : Option (List ℕ)) (uid id auth : List ℕ) → o ≡ engine_uid_form uid → ((x : List ℕ) → ¬ (o ≡ Some x))
    → Some (reply_asked uid id auth) ≡ Some (Err 2)
no_uid o uid id auth is none = let e : engine_uid_form uid ≡ None = sym is ∙ is_none o none in rw e refl

pub no_id : (u : List ℕ) (o : Option ℕ) (uid id auth : List ℕ) → engine_uid_form uid ≡ Some u → o ≡ slot_form id → ((x : ℕ) → ¬ (o ≡ Some x))
    → Some (reply_asked uid id auth) ≡ Some (Err 3)
no_id u o uid id auth first is none = let e : slot_form id ≡ None = sym is ∙ is_none o none in rw (first, e) refl

pub no_auth : (u : List ℕ) (n : ℕ) (o : Option ℕ) (uid id auth : List ℕ) → engine_uid_form uid ≡ Some u → slot_form id ≡ Some n → o ≡ slot_form auth
    → ((x : ℕ) → ¬ (o ≡ Some x)) → Some (reply_asked uid id auth) ≡ Some (Err 4)
no_auth u n o uid id auth first second is none = let e : slot_form auth ≡ None = sym is ∙ is_none o none in rw (first, second, e) refl
