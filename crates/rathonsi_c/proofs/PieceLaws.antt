-- A MAC that comes in pieces, and the boot MAC of a program so.
use Rattle.std.proofs.Common.{◌≡◌, ◌≢◌, ℕ, ◌*◌, List, [], ◌++◌, length, drop, replicate, length-take, sym, ap, subst, ◌∙◌, arith}
use Rattle.std.proofs.lemmas.List.{append_assoc, append-nil}
use Rattle.basics.specs.Numbers.{bytes_of}
use Rattle.she_cmac.specs.Cmac.{before_last, block_at, last_piece, cmac}
use Rattle.secure_boot.specs.Booting.{bootmac}
use Rattle.rathonsi_c.specs.declared.macs.RathonsiMac.{RathonsiMac}
use Rattle.rathonsi_c.specs.Pieces.{IsBegun, TookPieces}
use Rattle.rathonsi_c.specs.Booting.{SaysBooted}

-- what took a message was begun
pub begun_of : (key message : List ℕ) (mac : RathonsiMac) → TookPieces key message mac → IsBegun mac
unfolding last_piece block_at
begun_of key message mac t = record {
  begun = t.begun;
  filled = omega (arith, t.took.filled_is, length-take 16 (drop (16 * before_last message) message));
}

-- the bytes before a program of this size
abbrev pub program_head : ℕ → List ℕ
program_head size = replicate 12 0 ++ bytes_of 4 (8 * size)

-- the boot MAC of a whole program
pub boot_tag : (key program tag : List ℕ) (size : ℕ) → length program ≡ size → tag ≡ cmac key (replicate 12 0 ++ bytes_of 4 (8 * size) ++ program) → tag ≡ bootmac key program
unfolding bootmac
boot_tag key program tag size whole is = is ∙ ap (λ n. cmac key (replicate 12 0 ++ bytes_of 4 (8 * n) ++ program)) (sym whole)

pub says_booted : (key program tag mac : List ℕ) (booted : ℕ) → tag ≡ bootmac key program → (mac ≡ tag → booted ≡ 1) → (mac ≢ tag → booted ≡ 0) → SaysBooted key program mac booted
says_booted key program tag mac booted is agrees differs = record { yes = λ e. agrees (e ∙ sym is); no = λ other. differs (λ e. other (e ∙ is)) }

-- no byte of it came yet
pub took_none : (key : List ℕ) (size : ℕ) (mac : RathonsiMac) → TookPieces key (program_head size) mac → TookPieces key (program_head size ++ []) mac
took_none key size mac t = subst (λ (m : List ℕ). TookPieces key m mac) (sym (append-nil (program_head size))) t

-- and more bytes of it
pub took_next : (key before bytes : List ℕ) (size : ℕ) (mac : RathonsiMac) → TookPieces key ((program_head size ++ before) ++ bytes) mac → TookPieces key (program_head size ++ (before ++ bytes)) mac
took_next key before bytes size mac t = subst (λ (m : List ℕ). TookPieces key m mac) (append_assoc (program_head size) before bytes) t
