-- A boot whose stored MAC is another one, computed
use Rattle.std.specs.Prelude.{◌≡◌, ℕ, ◌*◌, false, List, [], ◌∷◌, ◌++◌, length, replicate, get_or}
use Rattle.std.proofs.Common.{refl, sym, ◌∙◌, ap, arith}
use Rattle.basics.specs.Numbers.{bytes_of, number_of}
use Rattle.basics.proofs.CallerLemmas.{IsBytes-bytes_of}
use Rattle.key_slots.specs.declared.refusals.Erc.TheVariants.{KeyNotAvailable}
use Rattle.key_slots.specs.Authority.{is_pair}
use Rattle.key_slots.specs.Usage.{usable}
use Rattle.she_aes.specs.Field.{product, cancelled, remainder, mul}
use Rattle.she_aes.specs.Cipher.{xor_blocks, add_round_key, shift_rows, circulant, mix_columns, xor_words, rot_word, power_of_x, rcon, words_up_to, round_key, IsBlock}
use Rattle.she_aes.proofs.CallerLemmas.{tabled_byte, tabled_word, tabled_added, tabled_next, tabled_words, tabled_bytes, tabled_rounds, tabled_cipher, enc_by_table}
use Rattle.she_cmac.specs.Cmac.{dbl, before_last, block_at, front_blocks, last_piece}
use Rattle.she_cmac.proofs.CallerLemmas.{tabled_zero, tabled_last, tabled_chain, cmac_by_table, cmac_by_table_is}
use Rattle.secure_boot.specs.Booting.{bootmac}
use Rattle.memory_update.specs.declared.messages.Update.{Update}
use Rattle.memory_update.specs.Loading.{slot_of}
use Rattle.bus_machine.specs.declared.lines.Line.TheVariants as line
use Rattle.bus_machine.specs.declared.lines.Line.TheVariants.{Keyed, Refused}
use Rattle.bus_machine.specs.declared.lines.Refusal.TheVariants as refusal
use Rattle.bus_machine.specs.Node.{Node, with_slot, booted}
use Rattle.bus_machine.specs.Steps.{sends, keys, boots, NodeStep}
use Rattle.bus_rows.specs.Buses.{numbered_uid, bus_a, all_ones, bus_key, clear_flags, for_macs_after_boot, update_of, bus_payload}
use Rattle.bus_rows.specs.Rows.{HasRun}
use Rattle.bus_rows.specs.ShortRows.{wrong_mac, booted_wrong}
use Rattle.bus_rows.proofs.Building.{keyed}
use Rattle.bus_rows.proofs.Walks.{walked}
use Rattle.bus_rows.proofs.WorkedRuns.{IsBlock-all_ones, IsBlock-bus_key, IsUid-left, is_update, left0}

abbrev image : List ℕ
image = 0 ∷ []

-- the boot MAC of one zero byte
abbrev right_mac : List ℕ
right_mac = 0x93 ∷ 0x38 ∷ 0xc4 ∷ 0xe0 ∷ 0x62 ∷ 0xa7 ∷ 0x14 ∷ 0xac ∷ 0xe2 ∷ 0x84 ∷ 0x9c ∷ 0x32 ∷ 0x77 ∷ 0x2d ∷ 0xe6 ∷ 0xc6 ∷ []

right_mac_is : right_mac ≡ bootmac bus_key image
unfolding bytes_of number_of product cancelled remainder mul xor_blocks add_round_key shift_rows circulant mix_columns xor_words rot_word power_of_x rcon words_up_to round_key tabled_byte tabled_word tabled_added tabled_next tabled_words tabled_bytes tabled_rounds tabled_cipher enc_by_table dbl before_last block_at front_blocks last_piece tabled_zero tabled_last tabled_chain cmac_by_table bootmac
right_mac_is = cmac_by_table_is bus_key (replicate 12 0 ++ bytes_of 4 (8 * length image) ++ image)

mac_differs : wrong_mac ≡ right_mac → ⊥
mac_differs e = let h : 0xc7 ≡ 0xc6 = ap (λ xs. get_or xs 15 0) e in absurd (omega (arith, h))

IsBlock-wrong_mac : IsBlock wrong_mac
unfolding bytes_of
IsBlock-wrong_mac = IsBytes-bytes_of 16 0x9338c4e062a714ace2849c32772de6c7

abbrev guarded_update : Update
guarded_update = update_of (numbered_uid 1) 4 4 1 for_macs_after_boot bus_key

abbrev boot_key_update : Update
boot_key_update = update_of (numbered_uid 1) 2 2 1 clear_flags bus_key

abbrev boot_mac_update : Update
boot_mac_update = update_of (numbered_uid 1) 3 2 1 clear_flags wrong_mac

abbrev b1 : Node
b1 = with_slot 4 (slot_of guarded_update) left0

abbrev b2 : Node
b2 = with_slot 2 (slot_of boot_key_update) b1

abbrev b3 : Node
b3 = with_slot 3 (slot_of boot_mac_update) b2

abbrev b4 : Node
b4 = booted false b3

keys_guarded : NodeStep left0 (keys guarded_update all_ones) (Keyed 4) b1
unfolding is_pair
keys_guarded =
    keyed left0 guarded_update all_ones refl (record { is_key = IsBlock-all_ones; is_update = is_update _ 4 4 1 for_macs_after_boot bus_key IsUid-left (omega arith) (omega arith) (omega arith) IsBlock-bus_key; held = refl }) refl

keys_boot_key : NodeStep b1 (keys boot_key_update all_ones) (Keyed 2) b2
unfolding is_pair
keys_boot_key =
    keyed b1 boot_key_update all_ones refl (record { is_key = IsBlock-all_ones; is_update = is_update _ 2 2 1 clear_flags bus_key IsUid-left (omega arith) (omega arith) (omega arith) IsBlock-bus_key; held = refl }) refl

keys_boot_mac : NodeStep b2 (keys boot_mac_update bus_key) (Keyed 3) b3
unfolding is_pair
keys_boot_mac =
    keyed b2 boot_mac_update bus_key refl (record { is_key = IsBlock-bus_key; is_update = is_update _ 3 2 1 clear_flags wrong_mac IsUid-left (omega arith) (omega arith) (omega arith) IsBlock-wrong_mac; held = refl }) refl

boots_badly : NodeStep b3 (boots image) (line.Boot false) b4
boots_badly = record {
  is_up = refl;
  undecided = refl;
  decided = (λ yes. cc yes, λ same. absurd (mac_differs (same ∙ sym right_mac_is)));
  after_is = refl;
}

sends_unbooted : NodeStep b4 (sends 0x6bc1 bus_payload) (Refused (refusal.Key KeyNotAvailable)) b4
unfolding usable
sends_unbooted = (refl, refl)

pub booted_wrong_run : HasRun bus_a booted_wrong
booted_wrong_run = walked bus_a booted_wrong (
  left0,
  b1,
  refl,
  keys_guarded,
  tt,
  (
    b1,
    b2,
    refl,
    keys_boot_key,
    tt,
    (
      b2,
      b3,
      refl,
      keys_boot_mac,
      tt,
      (
        b3,
        b4,
        refl,
        boots_badly,
        tt,
        (
          b4,
          b4,
          refl,
          sends_unbooted,
          tt,
          tt,
        ),
      ),
    ),
  ),
)
