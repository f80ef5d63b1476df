-- The one disk of a campaign, as it is looked at
use Rattle.std.specs.Prelude.{◌≡◌, ℕ, ◌≤◌, List, [], ◌∷◌, ◌++◌, Some, Option, None, length, get_or, drop, map, Result, Ok, Err, OnOk, IfErr}
use Rattle.std.proofs.Common.{refl, sym, ap, ◌∙◌, subst, arith, inl, inr}
use Rattle.cut_disk.specs.State.{DiskState, Told}
use Rattle.cut_disk.specs.Calls.{AsBefore}
use Rattle.cell_store.specs.declared.kinds.Kind.TheVariants.{Twin}
use Rattle.cell_store.specs.declared.kinds.Version.TheVariants.{One}
use Rattle.disk_looks.specs.declared.looks.Seen.{Seen}
use Rattle.disk_looks.specs.declared.looks.Seen.TheVariants as see
use Rattle.disk_looks.specs.Looks.{LooksAs, CanKeep, seen_unused, seen_standing, seen_older}
use Rattle.std.proofs.lemmas.List.{append-nil, length-map}
use Rattle.file_disk.specs.NamedDisks.{DisksAreNamed, with_opened}
use Rattle.program_edge.specs.NamedSources.{second_of_two}
use Rattle.campaign_commands.specs.Rows.{AreTwo}
use Rattle.kept_campaigns.specs.declared.looking.UnkeptLedger.{UnkeptLedger}
use Rattle.kept_campaigns.specs.declared.looking.UnkeptLedger.TheVariants as unkept
use Rattle.kept_campaigns.specs.KeptCampaigns.{KeepsCampaign}
use Rattle.kept_campaigns.specs.LedgerLooks.{ledger_room, ledger_cell_count, KeepsLedgerTold, FailsToKeepLedger, LedgerLooked, LedgerUnkept}

-- ---- what is seen

abbrev pub LedgerSeen : DiskState → Seen → Type 0
LedgerSeen disk seen = (t : Told) → disk.told ≡ Some t → LooksAs Twin One ledger_cell_count t.bytes seen

pub unused_kept : (x : List ℕ) → LooksAs Twin One ledger_cell_count x see.Unused → CanKeep Twin One ledger_cell_count x
unused_kept x (seen_unused zeros) = inl zeros

pub standing_kept : (x : List ℕ) → LooksAs Twin One ledger_cell_count x see.Standing → CanKeep Twin One ledger_cell_count x
standing_kept x (seen_standing stands) = inr (_, stands, inl refl)

none_older : (x : List ℕ) → LooksAs Twin One ledger_cell_count x see.Older → ⊥
none_older x (seen_older two stands) = let no : ⊥ = cc in no

module _ (disk after : DiskState) (look : AsBefore 3 disk after) (room : ledger_room ≤ disk.size) where
  pub neither_unkept : LedgerSeen disk see.Neither → FailsToKeepLedger disk after unkept.NotFormatted
  neither_unkept sees = record { room = room; runs = look.runs; told = look.told; cause = (look.faults, sees) }

  pub older_unkept : LedgerSeen disk see.Older → FailsToKeepLedger disk after unkept.NotFormatted
  older_unkept sees = record { room = room; runs = look.runs; told = look.told; cause = (look.faults, λ t tells. absurd (none_older t.bytes (sees t tells))) }

-- ---- the one disk, taken out and put back

split_one : {D : Type 0} (state : D → DiskState) (items : List D) (x : D) (later : List D) → length items ≡ 1 → x ≡ get_or items 0 x → later ≡ drop 1 items
    → (map state items ≡ state x ∷ []) × (later ≡ [])
split_one state [] x later one at rest = absurd (let no : ⊥ = omega (arith, one) in no)
split_one state (y ∷ []) x later one at rest = (ap (λ (z : _). state z ∷ []) (sym at), rest)
split_one state (y ∷ z ∷ zs) x later one at rest = absurd (let no : ⊥ = omega (arith, one) in no)

module _ {D : Type 0} (state : D → DiskState) (items later new : List D) (x y : D) (one : length items ≡ 1) (at : x ≡ get_or items 0 x)
    (rest : later ≡ drop 1 items) (put : new ≡ y ∷ later) where
  was_one : map state items ≡ state x ∷ []
  was_one = (split_one state items x later one at rest).0

  is_one : map state new ≡ state y ∷ []
  is_one = ap (map state) put ∙ ap (λ (zs : List D). state y ∷ map state zs) (split_one state items x later one at rest).1

  pub one_looked : (r : Result (Unit {0}) UnkeptLedger) → OnOk r (AsBefore 3 (state x) (state y))
      → OnOk r (ledger_room ≤ (state x).size → KeepsLedgerTold (state x)) → OnOk r (LedgerLooked (map state items) (map state new))
  one_looked (Ok u) look keeps = record { disk = state x; seen = state y; before_is = was_one; after_is = is_one; look = look; keeps = keeps }
  one_looked (Err fault) look keeps = tt

  pub one_unkept : (r : Result (Unit {0}) UnkeptLedger) → IfErr r (FailsToKeepLedger (state x) (state y)) → IfErr r (LedgerUnkept (map state items) (map state new))
  one_unkept (Ok u) fails = tt
  one_unkept (Err fault) fails = record { disk = state x; seen = state y; before_is = was_one; after_is = is_one; fails = fails }

-- ---- the disk that an argument opens

-- it makes its file
pub makes_opened : (opens : List ℕ → DiskState → Type 0) (before after made_before made_after : List (List ℕ)) (word : Option (List ℕ)) (disks : List DiskState)
    → DisksAreNamed opens before after word disks → made_after ≡ with_opened word made_before
    → (words : List (List ℕ)) × (after ≡ before ++ words) × (made_after ≡ made_before ++ words)
makes_opened opens before after made_before made_after None disks named made = ([], named.opened_once ∙ sym (append-nil before), made ∙ sym (append-nil made_before))
makes_opened opens before after made_before made_after (Some word) disks named made = (word ∷ [], named.opened_once, made)

-- the second of two arguments opens one
pub one_opened : {D : Type 0} (state : D → DiskState) (opens : List ℕ → DiskState → Type 0) (before after : List (List ℕ)) (word : Option (List ℕ))
    (words : List (List ℕ)) (items : List D) → AreTwo words → word ≡ second_of_two words → DisksAreNamed opens before after word (map state items) → length items ≡ 1
one_opened state opens before after word [] items two is named = absurd (let no : ⊥ = omega (arith, two) in no)
one_opened state opens before after word (a ∷ []) items two is named = absurd (let no : ⊥ = omega (arith, two) in no)
one_opened state opens before after word (a ∷ b ∷ []) items two is named =
    sym (length-map items state) ∙ ap (λ (ds : List DiskState). length ds) (named.one b is).one
one_opened state opens before after word (a ∷ b ∷ c ∷ words) items two is named = absurd (let no : ⊥ = omega (arith, two) in no)

-- the two arguments after `--keep` are told by all three
pub same_two : (words a b : List (List ℕ)) → KeepsCampaign words a → KeepsCampaign words b → a ≡ b
same_two words a b one other = ap (λ (l : List (List ℕ)). drop 1 l) (sym one.0 ∙ other.0)
