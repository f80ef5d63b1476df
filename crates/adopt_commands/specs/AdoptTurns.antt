-- What comes of entries that a ledger is to take over, one after another: a line each (own)
use Rattle.std.specs.Prelude.{◌≡◌, ◌≢◌, ℕ, Bool, true, false, ◌||◌, List, [], ◌∷◌, codes, Result, Ok, Err, IfErr}
use Rattle.std.specs.Fmt.{decimal}
use Rattle.hex.specs.Hex.{encode_lower}
use Rattle.text_lines.specs.Written.{written}
use Rattle.key_campaign.specs.declared.adoption.Adoption.{Adoption}
use Rattle.key_campaign.specs.declared.adoption.Adoption.TheVariants as adoption
use Rattle.key_campaign.specs.declared.entries.LedgerEntry.{LedgerEntry}
use Rattle.key_campaign.specs.declared.faults.LedgerFault.{LedgerFault}
use Rattle.key_campaign.specs.declared.faults.LedgerFault.TheVariants as fault
use Rattle.key_campaign.specs.Adopting.{AdoptStep}
use Rattle.key_campaign.specs.State.{LedgerState, ServedLedger}
use Rattle.ledger_commands.specs.EntryTexts.{entry_words}
use Rattle.adopt_commands.specs.declared.lines.AdoptLine.{AdoptLine}
use Rattle.adopt_commands.specs.declared.lines.AdoptLine.TheVariants as line

-- the words of a line: `adopted`, `held` and an entry; `ahead UID SLOT COUNTER` with the ledger's higher counter;
-- `refused Full UID SLOT`; `refused MEMORY_FAILURE`
abbrev pub adopt_words : AdoptLine → List (List ℕ)
adopt_words (line.Adopted entry) = codes "adopted" ∷ entry_words entry
adopt_words (line.Held entry) = codes "held" ∷ entry_words entry
adopt_words (line.Ahead entry counter) =
    codes "ahead" ∷ encode_lower entry.uid ∷ decimal entry.id ∷ decimal counter ∷ []
adopt_words (line.Full entry) = codes "refused" ∷ codes "Full" ∷ encode_lower entry.uid ∷ decimal entry.id ∷ []
adopt_words line.Failed = codes "refused" ∷ codes "MEMORY_FAILURE" ∷ []

abbrev pub adopt_text : ℕ → AdoptLine → List ℕ
adopt_text number told = written (adopt_words told)

-- no entry is taken over after this line
abbrev pub is_last_adoption : AdoptLine → Bool
is_last_adoption line.Failed = true
is_last_adoption told = false

-- the line that tells an answer
abbrev pub adopt_line : LedgerEntry → Result Adoption LedgerFault → AdoptLine
adopt_line entry (Ok adoption.Raised) = line.Adopted entry
adopt_line entry (Ok adoption.Held) = line.Held entry
adopt_line entry (Ok (adoption.Behind counter)) = line.Ahead entry counter
adopt_line entry (Err fault.Full) = line.Full entry
adopt_line entry (Err why) = line.Failed

-- the line says that an entry isn't there, or, if behind is refused, too, that the ledger is ahead
abbrev pub is_refused : Bool → AdoptLine → Bool
is_refused strict (line.Ahead entry counter) = strict
is_refused strict (line.Full entry) = true
is_refused strict told = false

-- a ledger that takes over entries: whether one that is behind is refused, and whether any was
pub record KeeperState : Type 0 where
  pub ledger : LedgerState
  pub strict : Bool
  pub refused : Bool

-- one entry: the answer of the ledger, and its line
pub record AdoptTurn (old : KeeperState) (entry : LedgerEntry) (told : AdoptLine) (new : KeeperState) : Type 0 where
  pub result : Result Adoption LedgerFault
  pub step : AdoptStep old.ledger.campaign entry result new.ledger.campaign
  pub line_is : told ≡ adopt_line entry result
  pub serves : ServedLedger old.ledger new.ledger result
  pub untouched : IfErr result (λ why. why ≢ fault.Faulted → new.ledger ≡ old.ledger)
  pub strict_is : new.strict ≡ old.strict
  pub refused_is : new.refused ≡ (old.refused || is_refused old.strict told)
